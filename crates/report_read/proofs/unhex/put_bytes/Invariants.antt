-- `report_read::unhex::put_bytes` meets its contract. Assumes nothing.
use Rattle.report_read.proofs.Unhexing.{Unhexing}
use Rattle.report_read.proofs.unhex.put_bytes.Given as goal

abbrev pub invariant-loop-i : goal.invariant-loop-i
invariant-loop-i l = Unhexing l.text l.initial.output l.output l.i
