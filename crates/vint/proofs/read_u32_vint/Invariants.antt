-- `vint::read_u32_vint` meets its contract. The loop's invariant, `Reading`: what is taken in all is the sum so far
-- with the unit times what is taken from here, and the unit is 128 to the bytes so far. Assumes nothing.
use Rattle.limits.specs.Limits.{vint_limit}
use Rattle.vint.proofs.Laws.{Reading}
use Rattle.vint.proofs.read_u32_vint.Given as goal

abbrev pub invariant-loop-at : goal.invariant-loop-at
invariant-loop-at l = Reading vint_limit l.fn.bytes l.sum l.unit l.at
