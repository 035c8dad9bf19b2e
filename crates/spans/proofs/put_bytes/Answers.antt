-- The part that was lent comes back as the bytes. Assumes nothing.
use Prim.Native.Nat.{◌+◌}
use native.Mathlib.Omega.{arith}
use Rattle.spans.proofs.Laws.{part_back}
use Rattle.spans.proofs.put_bytes.Goals as goal

pub returns : goal.returns
returns g c =
    rw c.copy_from_slice.ensures.after (part_back c.args.mem.now c.args.at (c.args.at + g.row.N) c.args.bytes (omega arith)
    (omega arith) (omega arith))
