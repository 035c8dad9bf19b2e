-- The whole marking is that of the places left. Assumes nothing.
use mathlib.Core.Path.{sym, ◌∙◌}
use native.Mathlib.Omega.{arith}
use Rattle.marks.proofs.Laws.{span_end}
use Rattle.marks.proofs.mark_span.Goals as goal

pub returns : goal.returns
returns c = span_end c.loop-left.marks c.loop-left.at c.loop-left.left (omega arith) ∙ sym c.loop-left.invariant.1.1
