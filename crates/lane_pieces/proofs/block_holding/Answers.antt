-- Behind the twelfth block by a quotient; before it the loop's invariant: the byte isn't before block i, and `held` is
-- what the blocks up to it hold. Its measure is how far that is from the byte. Assumes nothing.
use native.Mathlib.Omega.{arith}
use Rattle.lane_pieces.proofs.Places.{seeking-begun, seeking-few, seeking-next}
use Rattle.lane_pieces.proofs.Places.{seeking-end, holding_high}
use Rattle.lane_pieces.proofs.block_holding.Goals as goal

pub returns-then-g-ge32760 : goal.returns-then-g-ge32760
returns-then-g-ge32760 c = holding_high c.args.g c.if-g-ge32760.true

pub loop-held-init : goal.loop-held-init
loop-held-init c = seeking-begun c.args.g c.if-g-ge32760.false

pub overflow_add-i : goal.overflow_add-i
overflow_add-i c = omega (arith, seeking-few _ _ _ c.loop-held.invariant c.loop-held-test.true)

pub loop-held-preserved : goal.loop-held-preserved
loop-held-preserved c = seeking-next _ _ _ c.loop-held.invariant c.loop-held-test.true

pub returns : goal.returns
returns c = seeking-end _ _ _ c.loop-held.invariant c.loop-held-test.false
