-- `report_read::check::total_line` meets its contract. Assumes nothing.
use mathlib.Core.Path.{sym, ◌∙◌}
use Rattle.report_read.specs.Counted.{total_counted}
use Rattle.report_read.proofs.check.total_line.Goals as goal

pub returns-in_err-total : goal.returns-in_err-total
unfolding total_counted
returns-in_err-total c = c.from_residual.ensures ∙ rw (sym c.in_err-total.ensures)

pub returns : goal.returns
unfolding total_counted
returns c = rw (sym c.in_ok-total.ensures)
