-- `report_read::check::check_noting` meets its contract. The invariant, `Noting`: what the whole text reads as is what
-- the rest reads as behind the progress, and every name so far is noted.
-- Assumes nothing.
use Prim.Native.Nat.{◌-◌}
use lib.ListN.{length}
use Rattle.report_read.proofs.Checking.{Noting}
use Rattle.report_read.proofs.check.check_noting.Given as goal

abbrev pub invariant-loop-p : goal.invariant-loop-p
invariant-loop-p l = Noting l.text l.p l.at l.lines l.notes

abbrev pub decreases-loop-p : goal.decreases-loop-p
decreases-loop-p l = length l.text - l.at
