-- `shared_arena_hashmap::grow::set_bucket` meets its contract. Two stores are the write of a bucket. Assumes nothing.
use Rattle.shared_arena_hashmap.proofs.Laws.{stored-bucket}
use Rattle.shared_arena_hashmap.proofs.grow.set_bucket.Goals as goal

pub returns : goal.returns
returns c = stored-bucket c.args.b c.args.address c.args.hash c.args.table.now
