-- Signed numbers of the machine, step by step. Assumes nothing.
use Prim.Native.Nat.{ℕ, zero, suc, ◌^◌, ◌<◌}
use mathlib.Core.Path.{◌≡◌, refl, sym, ap, ◌∙◌, subst}
use mathlib.Core.Bool.{true, false, true≢false}
use native.Mathlib.Omega.{arith}
use borrow.Author.Tests.{ltb-true, lt-ltb, le-leb}
use lib.IntN.{ℤ, pos, negsuc, ◌+ℤ◌, ◌-ℤ◌, neg_ℤ}
use lib.Signed.{lt_z, mag}
use mir.Syntax.{w32}
use mir.Val.{SFits, to_z, of_z}
use mir.Facts.{to_z-of_z}

-- ---- by the sign of a signed argument

-- below 0, it lies some way below -1
pub record Below (z : ℤ) : Type 0 where
  pub n : ℕ
  pub is : z ≡ negsuc n
  pub small : n < 2 ^ 31

-- else it is that number, also as the machine has it
pub record NotBelow (z : ℤ) : Type 0 where
  pub n : ℕ
  pub is : z ≡ pos n
  pub read : to_z w32 (of_z w32 z) ≡ pos n
  pub small : n < 2 ^ 31

small_of : (z : ℤ) (n : ℕ) → SFits w32 z → mag z ≡ n → n < 2 ^ 31
small_of z n f e = subst (λ (k : ℕ). k < 2 ^ 31) e f.sfits

pub below_zero : (z : ℤ) → SFits w32 z → lt_z z (pos 0) ≡ true → Below z
below_zero (pos n) f e = absurd (let h : n < 0 = ltb-true n 0 e in omega arith)
below_zero (negsuc n) f e = record { n = n; is = refl; small = small_of (negsuc n) n f refl }

pub not_below : (z : ℤ) → SFits w32 z → lt_z (to_z w32 (of_z w32 z)) (pos 0) ≡ false → NotBelow z
not_below (pos n) f e = record { n = n; is = refl; read = to_z-of_z f; small = small_of (pos n) n f refl }
not_below (negsuc n) f e = absurd (true≢false (sym (ap (λ (z : ℤ). lt_z z (pos 0)) (to_z-of_z f)) ∙ e))

-- what the function `below` tells of an argument
pub below-told : (z : ℤ) (n : ℕ) → SFits w32 z → to_z w32 (of_z w32 z) ≡ negsuc n → (z ≡ negsuc n) × (n < 2 ^ 31)
below-told z n f e = let i : z ≡ negsuc n = sym (to_z-of_z f) ∙ e in (i, small_of z n f (ap mag i))

-- ---- -(z + 1), of a negative number

fit_neg : (n : ℕ) → n < 2 ^ 31 → SFits w32 (neg_ℤ (pos n))
fit_neg zero h = record { sfits = omega arith }
fit_neg (suc n) h = record { sfits = omega arith }

plus_one : (n : ℕ) → negsuc n +ℤ pos 1 ≡ neg_ℤ (pos n)
plus_one zero = refl
plus_one (suc n) = rw (le-leb 2 (suc (suc n)) (omega arith)) (ap negsuc (omega arith))

back : (n : ℕ) → pos 0 -ℤ neg_ℤ (pos n) ≡ pos n
back zero = refl
back (suc n) = ap pos (omega arith)

module _ (z : ℤ) (f : SFits w32 z) (B : Below z) where
  one_more : to_z w32 (of_z w32 z) +ℤ pos 1 ≡ neg_ℤ (pos B.n)
  one_more = ap (λ (x : ℤ). x +ℤ pos 1) (to_z-of_z f ∙ B.is) ∙ plus_one B.n

  pub fits-one-more : SFits w32 (to_z w32 (of_z w32 z) +ℤ pos 1)
  fits-one-more = subst (SFits w32) (sym one_more) (fit_neg B.n B.small)

  turned : pos 0 -ℤ to_z w32 (of_z w32 (to_z w32 (of_z w32 z) +ℤ pos 1)) ≡ pos B.n
  turned = ap (λ (x : ℤ). pos 0 -ℤ x) (to_z-of_z fits-one-more ∙ one_more) ∙ back B.n

  pub fits-turned : SFits w32 (pos 0 -ℤ to_z w32 (of_z w32 (to_z w32 (of_z w32 z) +ℤ pos 1)))
  fits-turned = subst (SFits w32) (sym turned) (record { sfits = B.small })

  pub is_turned : to_z w32 (of_z w32 (pos 0 -ℤ to_z w32 (of_z w32 (to_z w32 (of_z w32 z) +ℤ pos 1)))) ≡ pos B.n
  is_turned = to_z-of_z fits-turned ∙ turned

-- ---- -n - 1, of a number below 2^31

pub low : (n : ℕ) → n < 2 ^ 31 → to_z w32 n ≡ pos n
low n h = rw (lt-ltb n (2 ^ 31) h)

minus_is : (p : ℕ) → pos 0 -ℤ pos (suc p) ≡ negsuc p
minus_is p = rw (lt-ltb 0 (suc p) (omega arith)) (ap negsuc (omega arith))

minus_fits : (p : ℕ) → p < 2 ^ 31 → SFits w32 (pos 0 -ℤ pos p)
minus_fits zero h = record { sfits = omega arith }
minus_fits (suc p) h = subst (SFits w32) (sym (minus_is p)) (record { sfits = omega arith })

minus_one : (p : ℕ) → (pos 0 -ℤ pos p) -ℤ pos 1 ≡ negsuc p
minus_one zero = refl
minus_one (suc p) = ap (λ (z : ℤ). z -ℤ pos 1) (minus_is p) ∙ ap negsuc (omega arith)

module _ (n : ℕ) (h : n < 2 ^ 31) where
  pub fits_minus : SFits w32 (pos 0 -ℤ to_z w32 n)
  fits_minus = rw (low n h) (minus_fits n h)

  last_is : to_z w32 (of_z w32 (pos 0 -ℤ to_z w32 n)) -ℤ pos 1 ≡ negsuc n
  last_is = ap (λ (z : ℤ). z -ℤ pos 1) (to_z-of_z fits_minus ∙ ap (λ (z : ℤ). pos 0 -ℤ z) (low n h)) ∙ minus_one n

  pub fits_last : SFits w32 (to_z w32 (of_z w32 (pos 0 -ℤ to_z w32 n)) -ℤ pos 1)
  fits_last = subst (SFits w32) (sym last_is) (record { sfits = h })

  pub is_last : to_z w32 (of_z w32 (to_z w32 (of_z w32 (pos 0 -ℤ to_z w32 n)) -ℤ pos 1)) ≡ negsuc n
  is_last = to_z-of_z fits_last ∙ last_is

-- ---- a signed result read back

pub result_is : (z x : ℤ) → z ≡ x → mag x < 2 ^ 31 → to_z w32 (of_z w32 z) ≡ x
result_is z x e h = rw e (to_z-of_z {w = w32} (record { sfits = h }))
