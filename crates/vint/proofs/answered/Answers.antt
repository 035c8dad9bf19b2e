-- `vint::answered` meets its contract: the group given is the last group of the whole sum, and a number whose form
-- isn't another's is below 2^32. Assumes nothing.
use Prim.Native.Nat.{ℕ}
use mathlib.Core.Path.{sym, ap, ◌∙◌}
use native.Mathlib.Omega.{arith}
use Rattle.vint.specs.Vint.{number}
use Rattle.vint.proofs.Forms.{unit_most, answers_another, answers_number, answer_fits}
use Rattle.vint.proofs.answered.Goals as goal

pub returns-then-is_another_form : goal.returns-then-is_another_form
returns-then-is_another_form c =
    let a = c.args in answers_another a.sum a.unit a.group a.taken c.requires (sym c.is_another_form.ensures ∙
    c.if-is_another_form.true)

pub plus-number-requires : goal.plus-number-requires
plus-number-requires c = let a = c.args in (unit_most a.sum a.unit a.group a.taken c.requires, c.requires.1.1.1.0)

pub overflow_cast-number : goal.overflow_cast-number
overflow_cast-number c =
    let own = sym c.is_another_form.ensures ∙ c.if-is_another_form.false in omega (
      arith,
      c.plus-number.ensures,
      answer_fits c.args.sum c.args.unit c.args.group c.args.taken c.requires own,
    )

pub returns : goal.returns
returns c =
    let own = sym c.is_another_form.ensures ∙ c.if-is_another_form.false in ap (λ (v : ℕ). number v c.args.taken)
    c.plus-number.ensures ∙ answers_number c.args.sum c.args.unit c.args.group c.args.taken c.requires own
