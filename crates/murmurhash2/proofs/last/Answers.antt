-- One case for each count of bytes left. Assumes nothing.
use mathlib.Core.Path.{refl, sym}
use native.Mathlib.Omega.{arith}
use Rattle.murmurhash2.proofs.Laws.{taken_none, taken_1, taken_2, taken_3, taken_four}
use Rattle.murmurhash2.proofs.last.Goals as goal
use Rattle.murmurhash2.proofs.last.Goals.{in-len1, in-len2, in-len3-up}

pub returns-in-empty : goal.returns-in-empty
returns-in-empty c = sym (taken_none c.args.h c.args.s.now (omega arith))

pub returns : goal.returns
returns c =
    let h = c.args.h in
    let s = c.args.s.now in
    elim c.if-s-lt2.branch [
      | in-len1 w ↦ taken_four h s _ c.wrapping_mul.ensures c.from_le_bytes.ensures w.four-is refl (taken_1 h s (omega arith))
      | in-len2 w ↦ taken_four h s _ c.wrapping_mul.ensures c.from_le_bytes.ensures w.four-is refl (taken_2 h s (omega arith))
      | in-len3-up w ↦ taken_four h s _ c.wrapping_mul.ensures c.from_le_bytes.ensures w.four-is refl (taken_3 h s (omega arith))
    ]
