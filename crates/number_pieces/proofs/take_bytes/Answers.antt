-- `number_pieces::take_bytes` meets its contract. The loop's invariant, `Taking`: what the whole piece comes to is what
-- the rest comes to from here. Assumes nothing.
use mathlib.Core.Path.{sym, ◌∙◌}
use native.Mathlib.Numerals.{add-one}
use Rattle.number_pieces.proofs.Turns.{faultless, is_fault, taking-on, taking_off, taking-ends}
use Rattle.number_pieces.proofs.take_bytes.Goals as goal

pub returns-then-is_some : goal.returns-then-is_some
returns-then-is_some c =
    taking_off c.loop-b.invariant c.loop-b-test.true c.turn-s.result c.turn-s.new.output c.turn-s.ensures
    (is_fault _ (sym c.is_some.ensures ∙ c.if-is_some.true))

pub loop-b-preserved : goal.loop-b-preserved
loop-b-preserved c =
    rw add-one (taking-on c.loop-b.invariant c.loop-b-test.true c.turn-s.result c.turn-s.new.output c.turn-s.ensures
    (faultless _ (sym c.is_some.ensures ∙ c.if-is_some.false)))

pub returns : goal.returns
returns c = taking-ends c.loop-b.invariant c.loop-b-test.false
