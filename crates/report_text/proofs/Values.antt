-- Decimals and hex: what is written reads back, and has no newline. Assumes nothing.
use Prim.Native.Nat.{ℕ, zero, suc, ◌+◌, ◌-◌, ◌*◌, ◌/◌, ◌%◌, ◌^◌, ◌≤◌, ◌<◌}
use mathlib.Core.Path.{◌≡◌, refl, ap, ◌∙◌}
use mathlib.Core.Logic.{◌⊎◌, inl, inr, ⊎_elim}
use mathlib.Core.Bool.{Bool, true, false, cond}
use Rattle.std.specs.Prelude.{None, Some}
use mathlib.Core.List.{List, [], ◌∷◌, ◌++◌}
use native.Mathlib.Nat.{pow-suc}
use native.Mathlib.Omega.{arith}
use lib.Dec.{ltb}
use lib.ListN.{length, length-append}
use borrow.Author.Tests.{ltb-true, ltb-false, lt-ltb, le-ltb, le-leb, lt-leb, ne_eqb}
use Rattle.limits.specs.Limits.{digit_limit}
use Rattle.numbers.specs.LittleEndian.{Bytes}
use Rattle.report_text.specs.Text.{digits, decimal, hex_digit, hex, newline}
use Rattle.report_text.specs.Reader.{is_digit, number_from, no_leading_zero, number_of, is_hex, hex_value}
use Rattle.report_text.specs.Reader.{bytes_of}

-- a number is below another or not
pub below_or : (n k : ℕ) → (n < k) ⊎ (k ≤ n)
below_or n k = go (ltb n k) refl
  where
    go : (t : Bool) → ltb n k ≡ t → (n < k) ⊎ (k ≤ n)
    go true e = inl (ltb-true n k e)
    go false e = inr (ltb-false n k e)

-- no newline in it: every byte is above that
abbrev pub Plain : List ℕ → Type 0
Plain [] = Unit {0}
Plain (c ∷ l) = (newline < c) × Plain l

pub plain-append : (a b : List ℕ) → Plain a → Plain b → Plain (a ++ b)
plain-append [] b p q = q
plain-append (c ∷ a) b p q = (p.0, plain-append a b p.1 q)

-- ---- decimals

pub digits_last : (w n : ℕ) → n < 10 → digits (suc w) n ≡ (48 + n) ∷ []
unfolding digits
digits_last w n h = rw (lt-ltb n 10 h)

pub digits-on : (w n : ℕ) → 10 ≤ n → digits (suc w) n ≡ digits w (n / 10) ++ ((48 + n % 10) ∷ [])
unfolding digits
digits-on w n h = rw (le-ltb n 10 h)

pub reach : (w n : ℕ) → n < 10 ^ suc w → n / 10 < 10 ^ w
reach w n h = let k : n < 10 ^ w * 10 = rw pow-suc at h in omega arith

digit_is : (d : ℕ) → d < 10 → is_digit (48 + d) ≡ true
digit_is d h = rw (le-leb 48 (48 + d) (omega arith), le-leb (48 + d) 57 (omega arith))

-- one more digit
more : (v : ℕ) (cs : List ℕ) (u d : ℕ) → d < 10 → number_from v cs ≡ Some u → number_from v (cs ++ ((48 + d) ∷ []))
    ≡ Some (10 * u + d)
unfolding number_from
more v [] u d h e = rw (digit_is d h) (let z : v ≡ u = cc in ap (λ (x : ℕ). Some x) (omega arith))
more v (c ∷ cs) u d h e = go (is_digit c) (more (10 * v + (c - 48)) cs u d h) e
  where
    go : (t : Bool)
        → (number_from (10 * v + (c - 48)) cs ≡ Some u → number_from (10 * v + (c - 48)) (cs ++ ((48 + d) ∷ []))
        ≡ Some (10 * u + d))
        → cond t (number_from (10 * v + (c - 48)) cs) None ≡ Some u
        → cond t (number_from (10 * v + (c - 48)) (cs ++ ((48 + d) ∷ []))) None ≡ Some (10 * u + d)
    go true f e = f e
    go false f e = let z : ◌≡◌ {A = ℕ} 0 1 = cc in absurd (omega arith)

from_last : (n : ℕ) → n < 10 → number_from 0 ((48 + n) ∷ []) ≡ Some n
unfolding number_from
from_last n h = rw (digit_is n h) (ap (λ (x : ℕ). Some x) (omega arith))

from_digits : (w n : ℕ) → n < 10 ^ suc w → number_from 0 (digits (suc w) n) ≡ Some n
from_digits zero n h = rw (digits_last zero n (omega arith)) (from_last n (omega arith))
from_digits (suc w) n h =
    ⊎_elim
    (λ (k : n < 10). rw (digits_last (suc w) n k) (from_last n k))
    (λ (k : 10 ≤ n). rw (digits-on (suc w) n k)
    (more 0 (digits (suc w) (n / 10)) (n / 10) (n % 10) (omega arith) (from_digits w (n / 10) (reach (suc w) n h))
    ∙ ap (λ (x : ℕ). Some x) (omega arith)))
    (below_or n 10)

digits_most : (w n : ℕ) → length (digits w n) ≤ w
unfolding digits
digits_most zero n = omega arith
digits_most (suc w) n = go (ltb n 10) (digits_most w (n / 10))
  where
    go : (t : Bool) → length (digits w (n / 10)) ≤ w
        → length (cond t ((48 + n) ∷ []) (digits w (n / 10) ++ ((48 + n % 10) ∷ []))) ≤ suc w
    go true h = omega arith
    go false h = simp length-append (omega arith)

-- the first digit of a number that isn't 0
abbrev FirstUp : List ℕ → Type 0
FirstUp [] = ⊥
FirstUp (c ∷ cs) = 48 < c

first-append : (a b : List ℕ) → FirstUp a → FirstUp (a ++ b)
first-append [] b p = absurd p
first-append (c ∷ a) b p = p

first_digit : (w n : ℕ) → 1 ≤ n → n < 10 ^ suc w → FirstUp (digits (suc w) n)
first_digit zero n k h = rw (digits_last zero n (omega arith)) (omega arith)
first_digit (suc w) n k h =
    ⊎_elim
    (λ (l : n < 10). rw (digits_last (suc w) n l) (omega arith))
    (λ (l : 10 ≤ n). rw (digits-on (suc w) n l)
    (first-append (digits (suc w) (n / 10)) ((48 + n % 10) ∷ [])
    (first_digit w (n / 10) (omega arith) (reach (suc w) n h))))
    (below_or n 10)

fair-append : (a : List ℕ) (d : ℕ) → FirstUp a → no_leading_zero (a ++ (d ∷ [])) ≡ true
fair-append [] d p = absurd p
fair-append (c ∷ []) d p = rw (ne_eqb c 48 (λ e. omega arith))
fair-append (c ∷ e ∷ a) d p = rw (ne_eqb c 48 (λ e. omega arith))

fair : (w n : ℕ) → n < 10 ^ suc w → no_leading_zero (digits (suc w) n) ≡ true
fair zero n h = rw (digits_last zero n (omega arith))
fair (suc w) n h =
    ⊎_elim
    (λ (l : n < 10). rw (digits_last (suc w) n l))
    (λ (l : 10 ≤ n). rw (digits-on (suc w) n l)
    (fair-append (digits (suc w) (n / 10)) (48 + n % 10) (first_digit w (n / 10) (omega arith) (reach (suc w) n h))))
    (below_or n 10)

-- a number below 10^18 reads back
pub decimal_back : (n : ℕ) → n < 10 ^ digit_limit → number_of (decimal n) ≡ Some n
unfolding number_of
decimal_back n h =
    rw (le-leb (length (decimal n)) digit_limit (digits_most digit_limit n), fair 17 n h) (from_digits 17 n h)

pub digits-plain : (w n : ℕ) → Plain (digits w n)
unfolding digits
digits-plain zero n = tt
digits-plain (suc w) n = go (ltb n 10) (digits-plain w (n / 10))
  where
    go : (t : Bool) → Plain (digits w (n / 10))
        → Plain (cond t ((48 + n) ∷ []) (digits w (n / 10) ++ ((48 + n % 10) ∷ [])))
    go true h = (omega arith, tt)
    go false h = plain-append (digits w (n / 10)) ((48 + n % 10) ∷ []) h (omega arith, tt)

-- ---- hex

hex_low : (n : ℕ) → n < 10 → (is_hex (48 + n) ≡ true) × (hex_value (48 + n) ≡ n)
hex_low n h = (
  rw (le-leb 48 (48 + n) (omega arith), le-leb (48 + n) 57 (omega arith)),
  rw (le-leb (48 + n) 57 (omega arith)) (omega arith),
)

hex_high : (n : ℕ) → 10 ≤ n → n < 16 → (is_hex (87 + n) ≡ true) × (hex_value (87 + n) ≡ n)
hex_high n h k = (
  rw (
    le-leb 48 (87 + n) (omega arith),
    lt-leb (87 + n) 57 (omega arith),
    le-leb 97 (87 + n) (omega arith),
    le-leb
        (87 + n) 102 (omega arith),
  ),
  rw (lt-leb (87 + n) 57 (omega arith)) (omega arith),
)

-- a digit below 16 is a hex digit of that value, and no newline
pub hex_digit_lem : (n : ℕ) → n < 16 → (is_hex (hex_digit n) ≡ true) × (hex_value (hex_digit n) ≡ n) × (newline < hex_digit n)
hex_digit_lem n h =
    ⊎_elim
    (λ (l : n < 10). rw (lt-ltb n 10 l) ((hex_low n l).0, (hex_low n l).1, omega arith))
    (λ (l : 10 ≤ n). rw (le-ltb n 10 l) ((hex_high n l h).0, (hex_high n l h).1, omega arith))
    (below_or n 10)

-- bytes read back
pub hex_back : (bs : List ℕ) → Bytes bs → bytes_of (hex bs) ≡ Some bs
unfolding hex bytes_of
hex_back [] h = refl
hex_back (b ∷ bs) h =
    let x = hex_digit_lem (b / 16) (omega (arith, h.0)) in
    let y = hex_digit_lem (b % 16) (omega arith) in
    rw (x.0, y.0, x.1, y.1, hex_back bs h.1) (ap (λ (v : ℕ). Some (v ∷ bs)) (omega arith))

pub hex-plain : (bs : List ℕ) → Bytes bs → Plain (hex bs)
unfolding hex
hex-plain [] h = tt
hex-plain (b ∷ bs) h = (
  (hex_digit_lem (b / 16) (omega (arith, h.0))).2,
  ((hex_digit_lem (b % 16) (omega arith)).2, hex-plain bs h.1),
)

pub hex-length : (bs : List ℕ) → length (hex bs) ≡ 2 * length bs
unfolding hex
hex-length [] = refl
hex-length (b ∷ bs) = omega (arith, hex-length bs)
