-- `shared_arena_hashmap::grow::reenter_all` meets its contract. The invariant: all re-entered is the buckets from `at`
-- on re-entered. Assumes nothing.
use Prim.Native.Nat.{◌+◌, ◌-◌}
use mathlib.Core.Path.{◌≡◌}
use Rattle.shared_arena_hashmap.specs.Grow.{all_reentered}
use Rattle.shared_arena_hashmap.proofs.grow.reenter_all.Given as goal

abbrev pub invariant-loop-at : goal.invariant-loop-at
invariant-loop-at l =
    all_reentered l.n l.b l.first l.l l.initial.table ≡ all_reentered (l.b + l.n - l.at) l.at l.first l.l l.table
