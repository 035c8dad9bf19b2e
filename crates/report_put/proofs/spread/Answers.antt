-- `report_put::spread` meets its contract. Assumes nothing.
use native.Mathlib.Omega.{arith}
use lib.ListN.{drop, length-drop}
use Rattle.report_put.proofs.Laws.{putting_starts, putting-on, spread-read, spread-ends}
use Rattle.report_put.proofs.spread.Goals as goal

pub loop-i-init : goal.loop-i-init
loop-i-init c = putting_starts 0 (drop c.args.n c.args.part.now) c.args.part.now

pub loop-i-preserved : goal.loop-i-preserved
loop-i-preserved c =
    rw (c.hex_digit.ensures, c.hex_digit-in-loop-i.ensures) (putting-on c.loop-i.invariant (omega (
      arith,
      c.requires,
      length-drop c.args.n c.args.part.now,
    )) _ _ (omega arith) (spread-read c.loop-i.invariant c.requires (omega arith)))

pub returns : goal.returns
returns c = spread-ends c.loop-i.invariant c.requires (omega arith)
