-- `report_text::fields::digits` meets its contract. The invariant, `Counting`: the number of the whole is that of the
-- rest behind the number so far. Assumes nothing.
use Rattle.report_text.proofs.Laws.{Counting}
use Rattle.report_text.proofs.fields.digits.Given as goal

abbrev pub invariant-loop-b : goal.invariant-loop-b
invariant-loop-b l = Counting l.text l.v l.b-index
