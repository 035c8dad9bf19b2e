-- `number_pieces::does_take` meets its contract. Assumes nothing.
use mathlib.Core.Path.{sym, ◌∙◌}
use native.Mathlib.Omega.{arith}
use Rattle.number_pieces.proofs.Turns.{takes_many, takes_top, takes-room}
use Rattle.number_pieces.proofs.does_take.Goals as goal

pub returns-then-st-gt-HELD_LIMIT : goal.returns-then-st-gt-HELD_LIMIT
returns-then-st-gt-HELD_LIMIT c = sym (takes_many c.args.st c.args.n c.if-st-gt-HELD_LIMIT.true)

pub returns-then-not-is_low : goal.returns-then-not-is_low
returns-then-not-is_low c =
    sym (takes_top c.args.st c.args.n c.if-st-gt-HELD_LIMIT.false (sym c.is_low.ensures ∙ c.if-not-is_low.true))

pub returns : goal.returns
returns c =
    takes-room c.args.st c.args.n c.if-st-gt-HELD_LIMIT.false (sym c.is_low.ensures ∙ c.if-not-is_low.false)
    (omega arith)
