-- `report_read::check::is_seen` meets its contract. The invariant: the line begins one of the lanes if it begins one of
-- those left from here on. Assumes nothing.
use Prim.Native.Nat.{◌≤◌, ◌-◌}
use mathlib.Core.Path.{◌≡◌}
use lib.ListN.{length}
use Rattle.report_read.specs.Lines.{first_lane}
use Rattle.report_read.specs.Counted.{seen_among}
use Rattle.report_read.proofs.check.is_seen.Given as goal

abbrev pub invariant-loop : goal.invariant-loop
invariant-loop l =
    (l.at ≤ length l.text) × (seen_among l.lanes l.line l.text (first_lane l.text)
    ≡ seen_among (l.lanes - l.counter) l.line l.text l.at)
