-- `report_read::unhex::put_bytes` meets its contract. Assumes nothing.
use native.Mathlib.Omega.{arith}
use Rattle.report_read.proofs.Unhexing.{unhexing_starts, unhexing-on, unhexing-ends}
use Rattle.report_read.proofs.unhex.put_bytes.Goals as goal

pub loop-i-init : goal.loop-i-init
loop-i-init c = unhexing_starts c.args.text.now c.args.output.now

pub loop-i-preserved : goal.loop-i-preserved
loop-i-preserved c = unhexing-on c.loop-i.invariant c.requires.0 (omega arith) _ c.byte_at.ensures

pub returns : goal.returns
returns c = unhexing-ends c.loop-i.invariant c.requires.0 (omega arith)
