-- `shared_arena_hashmap::grow::clear` meets its contract. The invariant: the whole clearing is that of the buckets from
-- `at` on. Assumes nothing.
use Prim.Native.Nat.{◌+◌, ◌-◌}
use mathlib.Core.Path.{◌≡◌}
use Rattle.shared_arena_hashmap.specs.Buckets.{cleared}
use Rattle.shared_arena_hashmap.proofs.grow.clear.Given as goal

abbrev pub invariant-loop-at : goal.invariant-loop-at
invariant-loop-at l = cleared l.b l.n l.initial.table ≡ cleared l.at (l.b + l.n - l.at) l.table
