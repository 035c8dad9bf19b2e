-- `report_put::put_decimal` meets its contract. Assumes nothing.
use Rattle.report_put.proofs.Laws.{Writing}
use Rattle.report_put.proofs.put_decimal.Given as goal

abbrev pub invariant-loop-p : goal.invariant-loop-p
invariant-loop-p l = Writing l.n l.at l.initial.output l.output l.rest l.p
