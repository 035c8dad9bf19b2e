-- The mask is the remainder. Assumes nothing.
use Prim.Native.Nat.{◌+◌}
use native.Mathlib.Nat.{mod-lt}
use Rattle.shared_arena_hashmap.proofs.Laws.{power_facts, masked}
use Rattle.shared_arena_hashmap.proofs.start_bucket.Goals as goal

pub overflow_sub-result : goal.overflow_sub-result
overflow_sub-result c = (power_facts c.args.l c.requires).some

pub returns : goal.returns
returns c =
    let a = c.args in (
      masked a.l (a.hash + 1) c.requires,
      rw (masked a.l (a.hash + 1) c.requires) (mod-lt (a.hash
          + 1) (power_facts a.l c.requires).some),
    )
