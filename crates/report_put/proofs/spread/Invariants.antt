-- `report_put::spread` meets its contract. Assumes nothing.
use lib.ListN.{drop}
use Rattle.report_put.proofs.Laws.{Putting}
use Rattle.report_put.proofs.spread.Given as goal

abbrev pub invariant-loop-i : goal.invariant-loop-i
invariant-loop-i l = Putting 0 (drop l.n l.initial.part) l.initial.part l.part l.i
