-- `join::join_lanes` meets its contract. The invariant, `Joining`: what is left to join makes of the stores as they are
-- now what all of it makes of them as they were. Assumes nothing.
use Prim.Native.Nat.{◌-◌}
use Rattle.store_look.specs.Look.{lent}
use Rattle.join.specs.Join.{store}
use Rattle.join.proofs.Laws.{Joining}
use Rattle.join.proofs.join_lanes.Given as goal

abbrev pub invariant-loop : goal.invariant-loop
invariant-loop l =
    Joining (store l.st2 (lent l.table2 l.keys2 l.lists2)) (store l.initial.state (lent l.initial.table
    l.initial.keys l.initial.lists))
    l.initial.scratch (l.st2.buckets - l.counter) l.index (store l.state (lent l.table l.keys l.lists)) l.lanes l.scratch
