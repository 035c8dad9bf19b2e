-- `expull_walk::Lists::read_to_end` meets its contract. The loop's invariant: the first i blocks, full, stand at the front of
-- the output. Assumes nothing.
use Rattle.expull_walk.proofs.Loops.{Reading}
use Rattle.expull_walk.proofs.Lists.read_to_end.Given as goal

abbrev pub invariant-loop-i : goal.invariant-loop-i
invariant-loop-i l = Reading l.self.bytes.now l.h l.initial.output l.output l.place l.at l.i
