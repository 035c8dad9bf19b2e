-- `expull_header::get_block_size` meets its contract. The shift by the smaller of the block number and 15 is the
-- block's size. Assumes nothing.
use Prim.Native.Nat.{ℕ, ◌<◌, ◌≤◌}
use mathlib.Core.Path.{sym, subst}
use Rattle.expull_header.proofs.Laws.{size_shift, size_pos, size_most}
use Rattle.expull_header.proofs.get_block_size.Goals as goal

pub returns : goal.returns
returns c =
    let a = c.args in
    let e = size_shift a.number c.min-exp.result c.min-exp.ensures in (
      e,
      (
        subst (λ (n : ℕ). 0 < n) (sym e)
            (size_pos a.number),
        subst (λ (n : ℕ). n ≤ 32768) (sym e) (size_most a.number),
      ),
    )
