-- `report_put::put_number_line` meets its contract. Assumes nothing.
use mathlib.Core.Path.{refl}
use native.Mathlib.Omega.{arith}
use Rattle.report_text.specs.Text.{decimal}
use Rattle.report_put.proofs.Laws.{line-long, line-put}
use Rattle.report_put.proofs.put_number_line.Goals as goal

pub returns : goal.returns
returns c = (
  line-put c.args.at _ _ c.args.word.now (decimal c.args.n) c.args.output.now _ _ c.copy_in.ensures refl
      c.put_decimal.ensures (omega (arith, c.digit_count-k.ensures)),
  omega (arith, line-long c.args.word.now (decimal c.args.n), c.digit_count-k.ensures),
)
