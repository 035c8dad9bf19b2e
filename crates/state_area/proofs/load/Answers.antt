-- Each number from its place. Assumes nothing.
use lib.Dec.{eqb}
use Rattle.state_area.specs.Area.{state_at}
use Rattle.state_area.proofs.load.Goals as goal

pub returns : goal.returns
unfolding state_at
returns c =
    λ i. record {
      seed = c.get_u32-seed.ensures i;
      words = c.get_u32-words.ensures i;
      key_bytes =
          c.get_u32-key_bytes.ensures i;
      list_bytes = c.get_u32-list_bytes.ensures i;
      buckets = c.get_u32-buckets.ensures
          i;
      back = eqb (c.get_u32-end.ensures i) 1;
      keys = c.get_u32-keys.ensures i;
      key_arena =
          c.arena_at-key_arena.ensures i;
      list_arena = c.arena_at-list_arena.ensures i;
    }
