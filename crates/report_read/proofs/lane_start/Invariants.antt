-- `report_read::lane_start` meets its contract. The invariant: the lane is as many lanes on from here as are
-- left. Assumes nothing.
use Prim.Native.Nat.{◌≤◌, ◌-◌}
use mathlib.Core.Path.{◌≡◌}
use lib.ListN.{length}
use Rattle.report_read.specs.Lines.{lanes_on, first_lane}
use Rattle.report_read.proofs.lane_start.Given as goal

abbrev pub invariant-loop : goal.invariant-loop
invariant-loop l =
    (l.at ≤ length l.text) × (lanes_on l.index l.text (first_lane l.text) ≡ lanes_on (l.index - l.counter) l.text l.at)
