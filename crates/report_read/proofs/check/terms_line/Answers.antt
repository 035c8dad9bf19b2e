-- `report_read::check::terms_line` meets its contract. Assumes nothing.
use mathlib.Core.Path.{sym, ◌∙◌}
use Rattle.report_read.specs.Counted.{terms_counted}
use Rattle.report_read.proofs.check.terms_line.Goals as goal

pub returns-in_err-terms : goal.returns-in_err-terms
unfolding terms_counted
returns-in_err-terms c = c.from_residual.ensures ∙ rw (sym c.in_err-terms.ensures)

pub returns : goal.returns
unfolding terms_counted
returns c = rw (sym c.in_ok-terms.ensures)
