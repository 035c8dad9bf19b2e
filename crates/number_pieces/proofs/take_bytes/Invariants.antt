-- `number_pieces::take_bytes` meets its contract. The loop's invariant, `Taking`: what the whole piece comes to is what
-- the rest comes to from here. Assumes nothing.
use Rattle.number_pieces.proofs.Turns.{Taking}
use Rattle.number_pieces.proofs.take_bytes.Given as goal

abbrev pub invariant-loop-b : goal.invariant-loop-b
invariant-loop-b l = Taking l.initial.s l.piece l.initial.output l.s l.output l.b-index
