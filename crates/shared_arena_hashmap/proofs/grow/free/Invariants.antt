-- `shared_arena_hashmap::grow::free` meets its contract. The invariant: the first empty bucket of the probe is the
-- first from `i` on, with `before` buckets behind it. Assumes nothing.
use Prim.Native.Nat.{◌-◌, ◌<◌}
use mathlib.Core.Path.{◌≡◌}
use Rattle.shared_arena_hashmap.specs.Grow.{free_from, free_of}
use Rattle.shared_arena_hashmap.proofs.grow.free.Given as goal

abbrev pub invariant-loop-before : goal.invariant-loop-before
invariant-loop-before l =
    (l.i < l.l) × (free_of l.table l.first l.l l.hash ≡ free_from l.table l.first l.l (l.l - l._before) l.i)
