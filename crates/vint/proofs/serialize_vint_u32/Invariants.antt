-- `vint::serialize_vint_u32` meets its contract. The loop's invariant, `Writing`: what is written, then the vint of the
-- rest, is the number's vint; the rest fits the bytes left, which are zeros. The measure is the rest. Assumes nothing.
use Rattle.limits.specs.Limits.{vint_limit}
use Rattle.vint.proofs.Laws.{Writing}
use Rattle.vint.proofs.serialize_vint_u32.Given as goal

abbrev pub invariant-loop-rest : goal.invariant-loop-rest
invariant-loop-rest l = Writing vint_limit l.n l.bytes l.rest l.at

abbrev pub decreases-loop-rest : goal.decreases-loop-rest
decreases-loop-rest l = l.rest
