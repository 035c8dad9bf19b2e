-- `report_put::put_hex_line` meets its contract. Assumes nothing.
use mathlib.Core.Path.{refl}
use native.Mathlib.Omega.{arith}
use Rattle.report_text.specs.Text.{hex}
use Rattle.report_text.proofs.Values.{hex-length}
use Rattle.report_put.proofs.Laws.{line-long, line-put}
use Rattle.report_put.proofs.put_hex_line.Goals as goal

pub put_hex-requires : goal.put_hex-requires
put_hex-requires c = omega (arith, line-long c.args.word.now (hex c.args.src.now), hex-length c.args.src.now)

pub overflow_add-end : goal.overflow_add-end
overflow_add-end c = omega (arith, line-long c.args.word.now (hex c.args.src.now), hex-length c.args.src.now)

pub bounds-output-end : goal.bounds-output-end
bounds-output-end c = omega (arith, line-long c.args.word.now (hex c.args.src.now), hex-length c.args.src.now)

pub overflow_add-result : goal.overflow_add-result
overflow_add-result c = omega (arith, line-long c.args.word.now (hex c.args.src.now), hex-length c.args.src.now)

pub returns : goal.returns
returns c = (
  line-put c.args.at _ _ c.args.word.now (hex c.args.src.now) c.args.output.now _ _ c.copy_in.ensures refl
      c.put_hex.ensures (omega (arith, hex-length c.args.src.now)),
  omega (arith, line-long c.args.word.now (hex c.args.src.now), hex-length c.args.src.now),
)
