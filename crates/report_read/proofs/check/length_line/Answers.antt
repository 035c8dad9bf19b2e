-- `report_read::check::length_line` meets its contract. Assumes nothing.
use mathlib.Core.Path.{sym, ◌∙◌}
use Rattle.report_read.specs.Counted.{length_counted}
use Rattle.report_read.proofs.check.length_line.Goals as goal

pub returns-in_err-length : goal.returns-in_err-length
unfolding length_counted
returns-in_err-length c = c.from_residual.ensures ∙ rw (sym c.in_err-length.ensures)

pub returns : goal.returns
unfolding length_counted
returns c = rw (sym c.in_ok-length.ensures)
