-- `report_put::put_hex` meets its contract. Assumes nothing.
use mathlib.Core.Path.{refl}
use native.Mathlib.Omega.{arith}
use Rattle.report_put.proofs.Laws.{putting_starts, putting-on, putting-ends}
use Rattle.report_put.proofs.put_hex.Goals as goal

pub loop-i-init : goal.loop-i-init
loop-i-init c = putting_starts c.args.at c.args.src.now c.args.output.now

pub loop-i-preserved : goal.loop-i-preserved
loop-i-preserved c =
    rw (c.hex_digit.ensures, c.hex_digit-in-loop-i.ensures) (putting-on c.loop-i.invariant (omega arith) _ _ refl refl)

pub returns : goal.returns
returns c = putting-ends c.loop-i.invariant (omega arith)
