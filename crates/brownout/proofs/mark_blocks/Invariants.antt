-- The whole marking is that of the blocks left. Assumes nothing.
use Rattle.brownout.proofs.Turns.{Marking}
use Rattle.brownout.proofs.mark_blocks.Given as goal

abbrev pub invariant-loop-k : goal.invariant-loop-k
invariant-loop-k l = Marking l.initial.marks l.base l.lists.bytes.now l.head l.count l.marks l.place l.k
