-- `report_text::fields::digits` meets its contract. Assumes nothing.
use mathlib.Core.Path.{sym, ◌∙◌}
use native.Mathlib.Numerals.{add-one}
use native.Mathlib.Omega.{arith}
use Rattle.report_text.proofs.Laws.{counting-room, counting-on, counting_off, counting-ends}
use Rattle.report_text.proofs.fields.digits.Goals as goal

pub returns-then-not-is_ascii_digit : goal.returns-then-not-is_ascii_digit
returns-then-not-is_ascii_digit c =
    sym (counting_off c.loop-b.invariant (omega arith) (sym c.is_ascii_digit.ensures.value ∙
    c.if-not-is_ascii_digit.true))

pub more-v-requires : goal.more-v-requires
more-v-requires c = (
  sym c.is_ascii_digit.ensures.value ∙ c.if-not-is_ascii_digit.false,
  counting-room c.loop-b.invariant (omega arith) (omega arith),
)

pub loop-b-preserved : goal.loop-b-preserved
loop-b-preserved c =
    rw (c.more-v.ensures, add-one) (counting-on c.loop-b.invariant (omega arith) (sym
    c.is_ascii_digit.ensures.value ∙ c.if-not-is_ascii_digit.false))

pub returns : goal.returns
returns c = sym (counting-ends c.loop-b.invariant (omega arith))
