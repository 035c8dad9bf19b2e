-- `report_text::fields::number` meets its contract. Assumes nothing.
use native.Mathlib.Omega.{arith}
use mathlib.Core.Path.{sym, ◌∙◌}
use Rattle.report_text.proofs.Laws.{number_none, number_long, number_one, number_zero, number_fair}
use Rattle.report_text.proofs.fields.number.Goals as goal
use Rattle.report_text.proofs.fields.number.Goals.{else-n-ne1-via-then-n-ne1+else-text-eq48, else-n-ne1-via-else-n-ne1}
use Rattle.report_text.proofs.fields.number.Goals.{then-n-eq0-via-then-n-eq0, then-n-eq0-via-else-n-eq0+then-n-gt-DIGIT_LIMIT}

pub returns-then-n-eq0 : goal.returns-then-n-eq0
returns-then-n-eq0 c =
    elim c.then-n-eq0.branch [
      | then-n-eq0-via-then-n-eq0 w ↦ number_none _ (omega arith)
      | then-n-eq0-via-else-n-eq0+then-n-gt-DIGIT_LIMIT w ↦ number_long _ (omega arith)
    ]

pub returns-then-text-eq48 : goal.returns-then-text-eq48
returns-then-text-eq48 c = number_zero _ (omega arith) c.if-text-eq48.true

pub returns : goal.returns
returns c =
    c.digits.ensures ∙ sym (elim c.else-n-ne1.branch [
      | else-n-ne1-via-then-n-ne1+else-text-eq48 w ↦ number_fair _ (omega arith) (omega arith) w.if-text-eq48.false
      | else-n-ne1-via-else-n-ne1 w ↦ number_one _ (omega arith)
    ])
