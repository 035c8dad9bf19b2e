-- `expull_walk::Lists::walk` meets its contract. The loop's invariant: the place is block i's, and the blocks before it are
-- good. Assumes nothing.
use Rattle.expull_walk.proofs.Loops.{Walking}
use Rattle.expull_walk.proofs.Lists.walk.Given as goal

abbrev pub invariant-loop-i : goal.invariant-loop-i
invariant-loop-i l = Walking l.self.arena l.self.bytes.now l.head l.n l.place l.i
