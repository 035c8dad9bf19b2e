-- Laws of the search for a name seen before. Assumes nothing.
use Prim.Native.Nat.{ℕ, suc, ◌-◌, ◌<◌}
use mathlib.Core.Path.{◌≡◌, sym, ap, ◌∙◌}
use mathlib.Core.Bool.{Bool, true, false, cond}
use mathlib.Core.List.{List}
use native.Mathlib.Omega.{arith}
use lib.ListN.{take, drop}
use Rattle.fastcmp.specs.Equal.{equal_bytes}
use Rattle.report_read.specs.Lines.{line_end, line_at, next_lane}
use Rattle.report_read.specs.Counted.{seen_among}
use Rattle.report_read.proofs.Lines.{line_part}

pub seen_none : (x t : List ℕ) (at k : ℕ) → k ≡ 0 → seen_among k x t at ≡ false
unfolding seen_among
seen_none x t at k e = rw e

module _ (x t : List ℕ) (k at e : ℕ) (p : e ≡ line_end t at) (some_left : 0 < k) where
  -- one lane is looked at
  looked : (b : Bool) → equal_bytes (take (e - at) (drop at t)) x ≡ b
      → seen_among k x t at ≡ cond b true (seen_among (k - 1) x t (next_lane t at))
  unfolding seen_among
  looked b q =
      let n : k ≡ suc (k - 1) = omega arith in
      let r : equal_bytes (line_at t at) x ≡ b = ap (λ (l : List ℕ). equal_bytes l x) (sym (line_part t at e p)) ∙ q in
      ap (λ (j : ℕ). seen_among j x t at) n ∙ rw r

  pub seen_here : equal_bytes (take (e - at) (drop at t)) x ≡ true → seen_among k x t at ≡ true
  seen_here q = looked true q

  pub seen-on : equal_bytes (take (e - at) (drop at t)) x ≡ false → (n : ℕ) → n ≡ next_lane t at
      → seen_among k x t at ≡ seen_among (k - 1) x t n
  seen-on q n r = looked false q ∙ ap (seen_among (k - 1) x t) (sym r)
