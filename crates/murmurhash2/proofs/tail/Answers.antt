-- None left: h stays. One to three: the last of the four bytes. Assumes nothing.
use Prim.Native.Nat.{ℕ, ◌-◌, ◌*◌, ◌/◌, ◌^◌}
use mathlib.Core.Path.{sym, ap, ◌∙◌}
use native.Mathlib.Omega.{arith}
use lib.Bits.{bit_xor}
use lib.ListN.{length, drop, length-drop}
use Rattle.murmurhash2.proofs.Laws.{taken_none, taken_tail}
use Rattle.murmurhash2.specs.Murmur.{m}
use Rattle.numbers.specs.Wrap.{wrap_mul}
use Rattle.murmurhash2.proofs.tail.Goals as goal

pub returns-then-left-eq0 : goal.returns-then-left-eq0
returns-then-left-eq0 c =
    sym (taken_none c.args.h (drop (length c.args.key.now - c.args.left) c.args.key.now) (simp length-drop (omega
    arith)))

pub returns : goal.returns
returns c =
    c.wrapping_mul-mixed.ensures ∙ ap (λ (k : ℕ). wrap_mul (bit_xor c.args.h k) m) (c.shifted-k.ensures ∙ ap (λ (x :
    ℕ). x / 2 ^ (32 - 8 * c.args.left)) c.get_u32-four.ensures) ∙ taken_tail c.args.h c.args.key.now c.args.left (λ
    i. (c.type_inv.key i).fits) (omega arith) (omega arith) (omega arith)
