-- A whole byte, or one place. Assumes nothing.
use native.Mathlib.Omega.{arith}
use Rattle.marks.proofs.Laws.{stride_byte, span_stop, span_on}
use Rattle.marks.proofs.mark_some.Goals as goal

pub returns-then-left-at : goal.returns-then-left-at
returns-then-left-at c =
    stride_byte c.args.marks.now c.args.at c.args.left c.requires.1 c.requires.0 c.if-left-at.true

pub returns-then-mark : goal.returns-then-mark
returns-then-mark c =
    span_stop c.args.marks.now c.args.at c.args.left c.mark.new.marks c.requires.0
    (rw c.if-mark.true at c.mark.ensures)

pub returns : goal.returns
returns c =
    let it = span_on c.args.marks.now c.args.at c.args.left c.mark.new.marks c.requires.0
    (rw c.if-mark.false at c.mark.ensures) in
    (it, omega arith, omega arith)
