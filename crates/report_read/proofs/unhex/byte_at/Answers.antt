-- `report_read::unhex::byte_at` meets its contract. Assumes nothing.
use Prim.Native.Nat.{◌+◌, ◌*◌}
use native.Mathlib.Omega.{arith}
use Rattle.report_read.proofs.Unhexing.{hex-at}
use Rattle.report_read.proofs.unhex.byte_at.Goals as goal

pub hex_value-requires : goal.hex_value-requires
hex_value-requires c = hex-at c.args.text.now (2 * c.args.i) c.requires.0 (omega arith)

pub hex_value-requires-2 : goal.hex_value-requires-2
hex_value-requires-2 c = hex-at c.args.text.now (2 * c.args.i + 1) c.requires.0 (omega arith)
