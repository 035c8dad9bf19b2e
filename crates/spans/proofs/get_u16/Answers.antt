-- The number that the library makes of the span. Assumes nothing.
use native.Mathlib.Omega.{arith}
use Rattle.std.specs.Int.{w16}
use Rattle.spans.proofs.Laws.{number_at}
use Rattle.spans.proofs.get_u16.Goals as goal

pub returns : goal.returns
returns c =
    (number_at w16 c.args.at c.args.mem.now (omega arith) c.bytes_at.ensures c.from_le_bytes.ensures, omega arith)
