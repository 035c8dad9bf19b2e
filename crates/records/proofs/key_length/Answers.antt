-- `shared_arena_hashmap::key_length` meets its contract. The number read is that of the length bytes. Assumes nothing.
use Rattle.records.specs.Record.{key_length}
use Rattle.records.proofs.key_length.Goals as goal

pub returns : goal.returns
unfolding key_length
returns c = c.get_u16.ensures
