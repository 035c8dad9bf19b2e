-- Behind the twelfth block by a quotient; before it the loop's invariant: the byte isn't before block i, and `held` is
-- what the blocks up to it hold. Its measure is how far that is from the byte. Assumes nothing.
use Prim.Native.Nat.{suc, ◌-◌}
use Rattle.lane_pieces.proofs.Places.{Seeking}
use Rattle.lane_pieces.proofs.block_holding.Given as goal

abbrev pub invariant-loop-held : goal.invariant-loop-held
invariant-loop-held l = Seeking l.g l.i l.held

abbrev pub decreases-loop-held : goal.decreases-loop-held
decreases-loop-held l = suc l.g - l.held
