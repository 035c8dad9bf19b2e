-- The loop's invariant: the blocks before block i are good, so the rest decides.
-- Assumes nothing.
use Rattle.lane_pieces.proofs.Loops.{Testing}
use Rattle.lane_pieces.proofs.are_good_on.Given as goal

abbrev pub invariant-loop-i : goal.invariant-loop-i
invariant-loop-i l = Testing l.lists.arena l.lists.bytes.now l.first l.end l.place l.b l.i
