-- `report_lanes::measure` meets its contract. The invariant, `Measuring`: what is told of all lanes is the sums so far
-- and what is told of the rest. Assumes nothing.
use Prim.Native.Nat.{◌-◌}
use Rattle.store_look.specs.Look.{lent}
use Rattle.report_lanes.proofs.Measuring.{Measuring}
use Rattle.report_lanes.proofs.measure.Given as goal

abbrev pub invariant-loop : goal.invariant-loop
invariant-loop l =
    Measuring l.st (lent l.table l.keys l.lists) (l.st.buckets - l.counter) l.index l.sums.lanes l.sums.bytes l.sums.text
