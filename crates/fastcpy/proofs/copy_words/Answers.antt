-- `fastcpy::copy_words` meets its contract: the words cover the whole. Assumes nothing.
use Prim.Native.Nat.{◌-◌, ◌*◌, ◌/◌}
use mathlib.Core.Path.{refl}
use native.Mathlib.Omega.{arith}
use lib.ListN.{length}
use Rattle.fastcpy.proofs.Laws.{four_words}
use Rattle.fastcpy.proofs.copy_words.Goals as goal

pub returns : goal.returns
returns c =
    let n = length c.args.src.now in rw (
      c.put_u32-4.ensures,
      c.put_u32-3.ensures,
      c.put_u32-2.ensures,
      c.put_u32.ensures,
    ) (four_words c.args.src.now c.args.dst.now n ((n - 1) / 8 * 4) c.get_u32-a.result
    c.get_u32-b.result c.get_u32-c.result c.get_u32-d.result (λ k. (c.type_inv.src k).fits) refl
    (omega arith) (omega arith) (omega arith) refl c.get_u32-a.ensures c.get_u32-b.ensures c.get_u32-c.ensures
    c.get_u32-d.ensures)
