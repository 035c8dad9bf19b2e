-- The mask tells the bucket that the lookup met, which is the first empty one of the probe. Assumes nothing.
use Prim.Native.Nat.{◌+◌, ◌-◌, ◌<◌}
use mathlib.Core.Path.{◌≡◌, sym, ◌∙◌}
use mathlib.Core.Logic.{◌≢◌}
use native.Mathlib.Nat.{mod-lt}
use native.Mathlib.Omega.{arith}
use lib.Bits.{bit_and}
use borrow.Author.Tests.{ne_eqb}
use Rattle.shared_arena_hashmap.specs.Grow.{free_of, entered}
use Rattle.shared_arena_hashmap.proofs.Laws.{power_facts, masked}
use Rattle.shared_arena_hashmap.proofs.grow.enter_met.Goals as goal
use Rattle.shared_arena_hashmap.proofs.grow.enter_met.Goals.{Start}

-- the bucket met
met : (s : Start) → bit_and (s.args.hash + s.args.k) (s.args.l - 1) ≡ free_of s.args.table.now s.args.first s.args.l
    s.args.hash
met s = masked s.args.l (s.args.hash + s.args.k) s.requires.l_value.0 ∙ sym s.requires.k_le_l.1

below : (s : Start) → bit_and (s.args.hash + s.args.k) (s.args.l - 1) < s.args.l
below s =
    rw (masked s.args.l (s.args.hash + s.args.k) s.requires.l_value.0) (mod-lt (s.args.hash + s.args.k) (power_facts
    s.args.l s.requires.l_value.0).some)

pub overflow_sub-i : goal.overflow_sub-i
overflow_sub-i c = (power_facts c.args.l c.requires.l_value.0).some

pub set_bucket-requires : goal.set_bucket-requires
set_bucket-requires c = omega (arith, below (goal.at.set_bucket-requires c).Start, c.requires.l_value.1)

pub returns : goal.returns
unfolding entered
returns c =
    let n : free_of c.args.table.now c.args.first c.args.l c.args.hash ≢ c.args.l = λ e. omega (
      arith,
      below
          (goal.at.returns c).Start,
      met (goal.at.returns c).Start,
    ) in rw (
      ne_eqb (free_of c.args.table.now c.args.first
          c.args.l c.args.hash) c.args.l n,
      ← met (goal.at.returns c).Start,
    ) c.set_bucket.ensures
