-- `shared_arena_hashmap::next_occupied` meets its contract. The invariant: the answer is that of the buckets from
-- `bucket` on. Assumes nothing.
use Prim.Native.Nat.{◌+◌, ◌-◌}
use mathlib.Core.Path.{◌≡◌}
use Rattle.shared_arena_hashmap.specs.Probe.{occupied_from}
use Rattle.shared_arena_hashmap.proofs.next_occupied.Given as goal

abbrev pub invariant-loop-bucket : goal.invariant-loop-bucket
invariant-loop-bucket l =
    occupied_from l.table l.first l.left l.i ≡ occupied_from l.table l.first (l.i + l.left - l.bucket) l.bucket
