-- `report_put::put_decimal` meets its contract. Assumes nothing.
use native.Mathlib.Omega.{arith}
use Rattle.report_put.proofs.Laws.{writing_starts, writing-on, writing-ends}
use Rattle.report_put.proofs.put_decimal.Goals as goal

pub loop-p-init : goal.loop-p-init
loop-p-init c = rw c.digit_count.ensures (writing_starts c.args.n c.args.at c.args.output.now c.requires.0)

pub loop-p-preserved : goal.loop-p-preserved
loop-p-preserved c = writing-on c.loop-p.invariant (omega arith)

pub returns : goal.returns
returns c = writing-ends c.loop-p.invariant (omega arith)
