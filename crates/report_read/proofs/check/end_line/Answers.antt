-- `report_read::check::end_line` meets its contract. Assumes nothing.
use borrow.Author.Tests.{eq-eqb, ne_eqb}
use Rattle.report_read.specs.Counted.{end_counted}
use Rattle.report_read.proofs.check.end_line.Goals as goal
use Rattle.report_read.proofs.check.end_line.Goals.{then-p-via-then-p, then-p-via-else-p+then-p-2}

pub returns-then-p : goal.returns-then-p
unfolding end_counted
returns-then-p c =
    elim c.then-p.branch [
      | then-p-via-then-p w ↦ rw (ne_eqb _ _ w.if-p.true)
      | then-p-via-else-p+then-p-2 w ↦ rw (eq-eqb _ _ w.if-p.false, ne_eqb _ _ w.if-p-2.true)
    ]

pub returns : goal.returns
unfolding end_counted
returns c = rw (eq-eqb _ _ c.if-p.false, eq-eqb _ _ c.if-p-2.false)
