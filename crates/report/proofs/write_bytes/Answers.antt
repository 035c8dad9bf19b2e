-- `report::write_bytes` meets its contract. Assumes nothing.
use native.Mathlib.Omega.{arith}
use lib.ListN.{length-take, length-drop}
use Rattle.store_look.specs.Look.{lent}
use Rattle.report.proofs.Written.{spread_back, standing-lane, standing-read}
use Rattle.report.proofs.write_bytes.Goals as goal

pub returns : goal.returns
returns c =
    let m = lent c.args.table.now c.args.keys.now c.args.lists.now in spread_back c.args.output.now c.args.p
    c.args.n _ _ _ (standing-lane c.args.st m c.args.at c.args.n c.requires.0) c.requires.1 (standing-read c.args.st
    m c.args.at c.args.n c.requires.0 _ _ _ c.read_at.ensures (simp (length-take, length-drop) (omega (
      arith,
      c.requires.1,
    )))) c.spread.ensures
