-- `report_read::next_line` meets its contract. Assumes nothing.
use native.Mathlib.Omega.{arith}
use Rattle.report_read.proofs.Lines.{next_least}
use Rattle.report_read.proofs.next_line.Goals as goal

pub returns : goal.returns
returns c = (
  next_least c.args.text.now c.args.from _ _ c.line_end.ensures.0 c.line_end.ensures.1 c.min.ensures,
  omega arith,
)
