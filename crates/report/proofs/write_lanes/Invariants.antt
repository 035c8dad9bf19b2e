-- `report::write_lanes` meets its contract. The invariant, `Lanes`: some lanes are written, and the rest is still to be
-- met. Assumes nothing.
use Prim.Native.Nat.{◌-◌}
use Rattle.store_look.specs.Look.{lent}
use Rattle.report.proofs.Written.{Lanes}
use Rattle.report.proofs.write_lanes.Given as goal

abbrev pub invariant-loop : goal.invariant-loop
invariant-loop l =
    Lanes l.st (lent l.table l.keys l.lists) l.from l.initial.output (l.st.buckets - l.counter) l.index l.p l.output
