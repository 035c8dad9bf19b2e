-- `vint::serialize_vint_u32` meets its contract. The loop's invariant, `Writing`: what is written, then the vint of the
-- rest, is the number's vint; the rest fits the bytes left, which are zeros. The measure is the rest. Assumes nothing.
use mathlib.Core.Path.{◌∙◌}
use native.Mathlib.Numerals.{add-one}
use Rattle.vint.proofs.Laws.{writing-on, written, written_length, same_vint}
use Rattle.vint.proofs.serialize_vint_u32.Goals as goal

pub loop-rest-preserved : goal.loop-rest-preserved
loop-rest-preserved c = rw (c.low.ensures, add-one) (writing-on c.loop-rest.invariant c.loop-rest-test.true)

pub returns : goal.returns
returns c =
    same_vint _ _ (rw c.last.ensures (written c.loop-rest.invariant c.loop-rest-test.false))
    (add-one c.loop-rest.at ∙ written_length c.loop-rest.invariant c.loop-rest-test.false)
