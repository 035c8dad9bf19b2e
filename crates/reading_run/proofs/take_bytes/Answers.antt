-- `reading_run::take_bytes` meets its contract: byte by byte, the rest of them still to come. Assumes nothing.
use native.Mathlib.Numerals.{add-one}
use Rattle.reading_run.proofs.Turns.{taking-on, taking-end}
use Rattle.reading_run.proofs.take_bytes.Goals as goal

pub loop-b-preserved : goal.loop-b-preserved
loop-b-preserved c =
    rw add-one (taking-on c.loop-b.invariant c.loop-b-test.true c.turn-t.result c.turn-t.new.output c.turn-t.ensures)

pub returns : goal.returns
returns c = taking-end c.loop-b.invariant c.loop-b-test.false
