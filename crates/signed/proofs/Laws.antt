-- Differences come back, and so do readings. Assumes nothing.
use Prim.Native.Nat.{ℕ, zero, suc, ◌+◌, ◌-◌, ◌*◌, ◌/◌, ◌%◌, ◌^◌, ◌≤◌, ◌<◌}
use mathlib.Core.Path.{◌≡◌, refl, sym, ap, ◌∙◌}
use mathlib.Core.Bool.{Bool, true, false, cond}
use native.Mathlib.Omega.{arith}
use lib.Dec.{ltb, eqb}
use borrow.Author.Tests.{ltb-true, ltb-false, lt-ltb, le-ltb, eq-eqb, ne_eqb}
use lib.IntN.{ℤ, pos, negsuc, ◌+ℤ◌, ◌-ℤ◌, sub_ℕ}
use Rattle.signed.specs.Signed.{Signed32, modulo, as_signed, difference, following, stored, unstored}

-- ---- as stored, and back

pub stored-fits : (d : ℤ) → Signed32 d → stored d < 2 ^ 32
stored-fits (pos n) h = omega arith
stored-fits (negsuc n) h = omega arith

-- DECODED AS ENCODED: every difference comes back
pub unstored-stored : (d : ℤ) → unstored (stored d) ≡ d
unstored-stored (pos n) = rw (eq-eqb (2 * n % 2) 0 (omega arith)) (ap pos (omega arith))
unstored-stored (negsuc n) = rw (ne_eqb ((2 * n + 1) % 2) 0 (omega arith)) (ap negsuc (omega arith))

-- and no two numbers stand for one difference
pub stored-unstored : (u : ℕ) → stored (unstored u) ≡ u
stored-unstored u = go (u % 2) refl
  where
    go : (r : ℕ) → u % 2 ≡ r → stored (unstored u) ≡ u
    go zero e = rw (eq-eqb (u % 2) 0 e) (omega arith)
    go (suc r) e = rw (ne_eqb (u % 2) 0 (λ z. omega arith)) (omega arith)

pub unstored-fits : (u : ℕ) → u < 2 ^ 32 → Signed32 (unstored u)
unstored-fits u h = go (eqb (u % 2) 0)
  where
    go : (b : Bool) → Signed32 (cond b (pos (u / 2)) (negsuc (u / 2)))
    go true = omega arith
    go false = omega arith

-- ---- modulo 2^32, and taken as signed

pub modulo-fits : (z : ℤ) → modulo z < 2 ^ 32
modulo-fits (pos n) = omega arith
modulo-fits (negsuc n) = omega arith

pub signed_fits : (n : ℕ) → n < 2 ^ 32 → Signed32 (as_signed n)
signed_fits n h = go (ltb n (2 ^ 31)) refl
  where
    go : (b : Bool) → ltb n (2 ^ 31) ≡ b → Signed32 (cond b (pos n) (negsuc (4294967295 - n)))
    go true e = ltb-true n (2 ^ 31) e
    go false e = omega (arith, ltb-false n (2 ^ 31) e)

-- a number below 2^32 is what its signed form is modulo 2^32
pub modulo_signed : (n : ℕ) → n < 2 ^ 32 → modulo (as_signed n) ≡ n
modulo_signed n h = go (ltb n (2 ^ 31))
  where
    go : (b : Bool) → modulo (cond b (pos n) (negsuc (4294967295 - n))) ≡ n
    go true = omega arith
    go false = omega arith

-- and a signed number is its own
pub signed_modulo : (z : ℤ) → Signed32 z → as_signed (modulo z) ≡ z
signed_modulo (pos n) h =
    let e : n % 2 ^ 32 ≡ n = omega arith in
    rw (e, lt-ltb n (2 ^ 31) h)
signed_modulo (negsuc n) h =
    let e : n % 2 ^ 32 ≡ n = omega arith in
    rw (e, le-ltb (4294967295 - n) (2 ^ 31) (omega arith)) (ap negsuc (omega arith))

modulo-sub : (a b : ℕ) → b ≤ 2 ^ 32 → modulo (sub_ℕ a b) ≡ (a + (2 ^ 32 - b)) % 2 ^ 32
modulo-sub a b h = go (ltb a b) refl
  where
    go : (t : Bool) → ltb a b ≡ t → modulo (cond t (negsuc (b - suc a)) (pos (a - b))) ≡ (a + (2 ^ 32 - b)) % 2 ^ 32
    go true e = let k = ltb-true a b e in omega arith
    go false e = let k = ltb-false a b e in omega arith

pub small : (n : ℕ) → n < 2 ^ 32 → n % 2 ^ 32 ≡ n
small n h = omega arith

-- a sum modulo 2^32 is that of the numbers modulo 2^32
pub modulo_plus : (y z : ℤ) → Signed32 y → Signed32 z → modulo (y +ℤ z) ≡ (modulo y + modulo z) % 2 ^ 32
modulo_plus (pos a) (pos b) h k = rw (small a (omega arith), small b (omega arith))
modulo_plus (pos a) (negsuc b) h k =
    rw (small a (omega arith), small b (omega arith))
    (modulo-sub a (suc b) (omega arith) ∙ ap (λ (m : ℕ). (a + m) % 2 ^ 32) (omega arith))
modulo_plus (negsuc a) (pos b) h k =
    rw (small a (omega arith), small b (omega arith))
    (modulo-sub b (suc a) (omega arith) ∙ ap (λ (m : ℕ). m % 2 ^ 32) (omega arith))
modulo_plus (negsuc a) (negsuc b) h k =
    rw (small a (omega arith), small b (omega arith), small (suc (a + b)) (omega arith)) (omega arith)

back : (a : ℕ) → (4294967295 - a + 2 ^ 32) % 2 ^ 32 ≡ (4294967295 - a) % 2 ^ 32
back a = omega arith

-- and so is a difference
pub modulo_minus : (y z : ℤ) → Signed32 y → Signed32 z → modulo (y -ℤ z) ≡ (modulo y + (2 ^ 32 - modulo z)) % 2 ^ 32
modulo_minus (pos a) (pos zero) h k = rw (small a (omega arith)) (omega arith)
modulo_minus (negsuc a) (pos zero) h k =
    rw (small a (omega arith))
    (modulo-sub 0 (suc a) (omega arith) ∙ ap (λ (m : ℕ). m % 2 ^ 32) (omega arith) ∙ sym (back a))
modulo_minus (pos a) (pos (suc b)) h k =
    rw (small a (omega arith), small (suc b) (omega arith)) (modulo-sub a (suc b) (omega arith))
modulo_minus (negsuc a) (pos (suc b)) h k =
    rw (small a (omega arith), small (suc b) (omega arith), small (suc (a + b)) (omega arith)) (omega arith)
modulo_minus (pos a) (negsuc b) h k =
    rw (small a (omega arith), small b (omega arith)) (ap (λ (m : ℕ). m % 2 ^ 32) (omega arith))
modulo_minus (negsuc a) (negsuc b) h k =
    rw (small a (omega arith), small b (omega arith))
    (modulo-sub (suc b) (suc a) (omega arith) ∙ ap (λ (m : ℕ). m % 2 ^ 32) (omega arith))

pub difference-fits : (last new : ℤ) → Signed32 (difference last new)
difference-fits last new = signed_fits (modulo (new -ℤ last)) (modulo-fits (new -ℤ last))

pub following-fits : (last d : ℤ) → Signed32 (following last d)
following-fits last d = signed_fits (modulo (last +ℤ d)) (modulo-fits (last +ℤ d))

around : (l n : ℕ) → l < 2 ^ 32 → n < 2 ^ 32 → (l + (n + (2 ^ 32 - l)) % 2 ^ 32) % 2 ^ 32 ≡ n
around l n h k = omega arith

-- SUMS COME BACK: a reading is the one before it and their difference
pub following-difference : (last new : ℤ) → Signed32 last → Signed32 new → following last (difference last new) ≡ new
following-difference last new h k =
    ap as_signed
    (modulo_plus last (difference last new) h (difference-fits last new)
    ∙ ap (λ (m : ℕ). (modulo last + m) % 2 ^ 32)
    (modulo_signed (modulo (new -ℤ last)) (modulo-fits (new -ℤ last)) ∙ modulo_minus new last k h)
    ∙ around (modulo last) (modulo new) (modulo-fits last) (modulo-fits new))
    ∙ signed_modulo new k

-- with what is stored in between
pub following-stored : (last new : ℤ) → Signed32 last → Signed32 new
    → following last (unstored (stored (difference last new))) ≡ new
following-stored last new h k =
    ap (following last) (unstored-stored (difference last new)) ∙ following-difference last new h k

-- ---- what the code comes to

-- the difference modulo 2^32 by two sums
pub minus_by_sums : (last new : ℤ) → Signed32 last → Signed32 new
    → (modulo new + (4294967295 - modulo last + 1) % 2 ^ 32) % 2 ^ 32 ≡ modulo (new -ℤ last)
minus_by_sums last new h k = by_sums (modulo last) (modulo new) (modulo-fits last) ∙ sym (modulo_minus new last k h)
  where
    by_sums : (l n : ℕ) → l < 2 ^ 32 → (n + (4294967295 - l + 1) % 2 ^ 32) % 2 ^ 32 ≡ (n + (2 ^ 32 - l)) % 2 ^ 32
    by_sums l n h = omega arith

pub signed_low : (n : ℕ) → n < 2 ^ 31 → as_signed n ≡ pos n
signed_low n h = rw (lt-ltb n (2 ^ 31) h)

pub signed_high : (n : ℕ) → 2 ^ 31 ≤ n → as_signed n ≡ negsuc (4294967295 - n)
signed_high n h = rw (le-ltb n (2 ^ 31) h)

pub unstored_even : (u : ℕ) → u % 2 ≡ 0 → unstored u ≡ pos (u / 2)
unstored_even u e = rw (eq-eqb (u % 2) 0 e)

pub unstored_odd : (u : ℕ) → (u % 2 ≡ 0 → ⊥) → unstored u ≡ negsuc (u / 2)
unstored_odd u e = rw (ne_eqb (u % 2) 0 e)
