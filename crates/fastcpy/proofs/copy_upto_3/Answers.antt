-- `fastcpy::copy_upto_3` meets its contract: three stores, which may fall together. Assumes nothing.
use native.Mathlib.Omega.{arith}
use Rattle.fastcpy.proofs.Laws.{three-bytes}
use Rattle.fastcpy.proofs.copy_upto_3.Goals as goal

pub returns : goal.returns
returns c = three-bytes c.args.src.now c.args.dst.now (omega arith) (omega arith) (omega arith)
