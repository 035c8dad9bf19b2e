-- `report_put::put_hex` meets its contract. Assumes nothing.
use Rattle.report_put.proofs.Laws.{Putting}
use Rattle.report_put.proofs.put_hex.Given as goal

abbrev pub invariant-loop-i : goal.invariant-loop-i
invariant-loop-i l = Putting l.at l.src l.initial.output l.output l.i
