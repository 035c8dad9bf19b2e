-- The loop's invariant: what is copied and what lies in the blocks from block i on make up the whole. Assumes nothing.
use Rattle.lane_pieces.proofs.Loops.{Copying}
use Rattle.lane_pieces.proofs.copy_on.Given as goal

abbrev pub invariant-loop-i : goal.invariant-loop-i
invariant-loop-i l =
    Copying l.lists l.first l.end l.place l.skip l.n l.initial.output l.output l.b l.last l.i l.from l.at
