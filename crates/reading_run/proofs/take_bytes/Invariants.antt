-- `reading_run::take_bytes` meets its contract: byte by byte, the rest of them still to come. Assumes nothing.
use Rattle.reading_run.proofs.Turns.{Taking}
use Rattle.reading_run.proofs.take_bytes.Given as goal

abbrev pub invariant-loop-b : goal.invariant-loop-b
invariant-loop-b l = Taking l.initial.t l.bytes l.initial.output l.t l.output l.b-index
