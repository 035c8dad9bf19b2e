-- `shared_arena_hashmap::find` meets its contract. The invariant: the whole lookup is the rest of the walk from `i`,
-- with `before` buckets behind it. Assumes nothing.
use Prim.Native.Nat.{◌-◌, ◌<◌}
use mathlib.Core.Path.{◌≡◌}
use Rattle.shared_arena_hashmap.specs.Probe.{probe, lookup}
use Rattle.shared_arena_hashmap.proofs.find.Given as goal

abbrev pub invariant-loop-before : goal.invariant-loop-before
invariant-loop-before l = (l.i < l.l)
    × (lookup l.table l.keys l.arena l.first l.l l.hash l.name ≡ probe l.table l.keys l.arena l.first l.l l.hash l.name
    (l.l - l.before) l.i l.before)
