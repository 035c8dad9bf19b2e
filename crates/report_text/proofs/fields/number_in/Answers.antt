-- `report_text::fields::number_in` meets its contract. Assumes nothing.
use mathlib.Core.Path.{◌∙◌}
use Rattle.report_text.proofs.Words.{number_in_is, number_in_not}
use Rattle.report_text.proofs.fields.number_in.Goals as goal

pub returns-in_err-strip_prefix : goal.returns-in_err-strip_prefix
returns-in_err-strip_prefix c = c.from_residual.ensures ∙ number_in_not _ _ c.in_err-strip_prefix.ensures.cases

pub returns : goal.returns
returns c = let h = c.in_ok-strip_prefix.ensures.cases in c.number.ensures ∙ number_in_is _ _ _ h.0 h.1
