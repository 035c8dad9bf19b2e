-- `expull_append::blocks_fit` meets its contract. The loop's invariant: the plan of the whole is the plan of the bytes
-- that still wait; its measure is their number. Assumes nothing.
use Rattle.expull_append.proofs.Loops.{Planning}
use Rattle.expull_append.proofs.blocks_fit.Given as goal

abbrev pub invariant-loop-left : goal.invariant-loop-left
invariant-loop-left l = Planning l.len l.initial.left l.initial.number l.initial.state l.left l.number l.state

abbrev pub decreases-loop-left : goal.decreases-loop-left
decreases-loop-left l = l.left
