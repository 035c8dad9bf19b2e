-- Laws of the reader's definitions, for the loops of the code. Assumes nothing.
use Prim.Native.Nat.{ℕ, zero, suc, ◌+◌, ◌-◌, ◌*◌, ◌%◌, ◌^◌, ◌≤◌, ◌<◌}
use mathlib.Core.Path.{◌≡◌, refl, ◌∙◌}
use mathlib.Core.Bool.{Bool, true, false, cond, ◌&&◌, false≢true}
use Rattle.std.specs.Prelude.{None, Some}
use Rattle.std.proofs.Common.{IsTrue, ◌↔◌, EachIndex}
use mathlib.Core.List.{List, [], ◌∷◌}
use native.Mathlib.Nat.{pow-suc, pow-le-pow_right}
use native.Mathlib.Omega.{arith}
use lib.Dec.{leb, eqb}
use lib.ListN.{length, drop, get_or, drop_of_length-le}
use lib.Seq.{drop-cons}
use borrow.Author.Tests.{le-leb, lt-leb, leb-true, eq-eqb, ne_eqb}
use Rattle.limits.specs.Limits.{digit_limit}
use Rattle.numbers.proofs.Tests.{both, same_test}
use Rattle.report_text.specs.Reader.{is_digit, number_from, number_of, is_hex}
use Rattle.report_text.specs.Values.{all_hex, hex_text}

-- ---- decimals

pub number_turn : (t : List ℕ) (v i : ℕ) → i < length t
    → number_from v (drop i t) ≡ cond (is_digit (get_or t i 0))
    (number_from (10 * v + (get_or t i 0 - 48)) (drop (suc i) t)) None
unfolding number_from
number_turn t v i h = rw (drop-cons t i 0 h)

pub number_end : (t : List ℕ) (v i : ℕ) → length t ≤ i → number_from v (drop i t) ≡ Some v
unfolding number_from
number_end t v i h = rw (drop_of_length-le t h)

-- digits so far, and the number they make
pub record Counting (t : List ℕ) (v i : ℕ) : Type 0 where
  pub within : i ≤ length t
  pub small : v < 10 ^ i
  pub whole : number_from 0 t ≡ number_from v (drop i t)

pub counting_starts : (t : List ℕ) → Counting t 0 0
counting_starts t = record { within = omega arith; small = omega arith; whole = refl }

pub digit_facts : (b : ℕ) → is_digit b ≡ true → (48 ≤ b) × (b ≤ 57)
digit_facts b e = let p = both (leb 48 b) (leb b 57) e in (leb-true 48 b p.0, leb-true b 57 p.1)

module _ {t : List ℕ} {v i : ℕ} (h : Counting t v i) (l : i < length t) where
  -- with at most 18 digits there is room for one more
  pub counting-room : length t ≤ 18 → v < 10 ^ 17
  counting-room k = let p : 10 ^ i ≤ 10 ^ 17 = pow-le-pow_right {n = 10} (omega arith) {i = i} {j = 17} (omega arith) in
      omega (arith, h.small)

  pub counting-on : is_digit (get_or t i 0) ≡ true → Counting t (10 * v + (get_or t i 0 - 48)) (suc i)
  counting-on e = record {
    within = l;
    small = rw pow-suc (omega (arith, h.small, digit_facts (get_or t i 0) e));
    whole = h.whole ∙ number_turn t v i l ∙ rw e;
  }

  pub counting_off : is_digit (get_or t i 0) ≡ false → number_from 0 t ≡ None
  counting_off e = h.whole ∙ number_turn t v i l ∙ rw e

pub counting-ends : {t : List ℕ} {v i : ℕ} → Counting t v i → length t ≤ i → number_from 0 t ≡ Some v
counting-ends {t} {v} {i} h l = h.whole ∙ number_end t v i l

-- ---- which decimals there are

pub number_none : (t : List ℕ) → length t ≡ 0 → None ≡ number_of t
unfolding number_of
number_none [] h = refl
number_none (c ∷ t) h = absurd (omega arith)

pub number_long : (t : List ℕ) → 18 < length t → None ≡ number_of t
unfolding number_of
number_long t h = rw (lt-leb (length t) digit_limit h)

pub number_zero : (t : List ℕ) → 1 < length t → get_or t 0 0 ≡ 48 → None ≡ number_of t
unfolding number_of
number_zero [] h e = absurd (omega arith)
number_zero (c ∷ []) h e = absurd (omega arith)
number_zero (c ∷ d ∷ t) h e = rw (eq-eqb c 48 e) (go (leb (length (c ∷ d ∷ t)) digit_limit))
  where
    go : (b : Bool) → None ≡ cond (b && false) (number_from 0 (c ∷ d ∷ t)) None
    go true = refl
    go false = refl

pub number_fair : (t : List ℕ) → length t ≤ 18 → 1 < length t → (get_or t 0 0 ≡ 48 → ⊥) → number_of t ≡ number_from 0 t
unfolding number_of
number_fair [] k h e = absurd (omega arith)
number_fair (c ∷ []) k h e = absurd (omega arith)
number_fair (c ∷ d ∷ t) k h e = rw (le-leb (length (c ∷ d ∷ t)) digit_limit k, ne_eqb c 48 e)

pub number_one : (t : List ℕ) → length t ≡ 1 → number_of t ≡ number_from 0 t
unfolding number_of
number_one [] h = absurd (omega arith)
number_one (c ∷ []) h = refl
number_one (c ∷ d ∷ t) h = absurd (omega arith)

-- ---- hex

-- from place i on
pub hex-turn : (t : List ℕ) (i : ℕ) → i < length t → all_hex (drop i t)
    ≡ cond (is_hex (get_or t i 0)) (all_hex (drop (suc i) t)) false
unfolding all_hex
hex-turn t i h = rw (drop-cons t i 0 h)

pub hex-end : (t : List ℕ) (i : ℕ) → length t ≤ i → all_hex (drop i t) ≡ true
unfolding all_hex
hex-end t i h = rw (drop_of_length-le t h)

pub hex_even : (t : List ℕ) → length t % 2 ≡ 0 → all_hex t ≡ hex_text t
unfolding hex_text
hex_even t e = rw e

pub hex_odd : (t : List ℕ) → (length t % 2 ≡ 0 → ⊥) → eqb (length t % 2) 0 ≡ hex_text t
unfolding hex_text
hex_odd t e = rw (ne_eqb (length t % 2) 0 e)

every_hex : (t : List ℕ) → EachIndex t (λ k. is_hex (get_or t k 0) ≡ true) → all_hex t ≡ true
unfolding all_hex
every_hex [] f = refl
every_hex (c ∷ t) f = rw (f 0 (omega arith)) (every_hex t (λ k l. f (suc k) (omega arith)))

each_hex : (t : List ℕ) → all_hex t ≡ true → EachIndex t (λ k. is_hex (get_or t k 0) ≡ true)
unfolding all_hex
each_hex [] e k l = absurd (omega arith)
each_hex (c ∷ t) e k l = go (is_hex c) refl e k (each_hex t) l
  where
    go : (b : Bool) → is_hex c ≡ b → cond b (all_hex t) false ≡ true → (k : ℕ)
        → (all_hex t ≡ true → EachIndex t (λ k. is_hex (get_or t k 0) ≡ true)) → k < length (c ∷ t)
        → is_hex (get_or (c ∷ t) k 0) ≡ true
    go true p e zero f l = p
    go true p e (suc k) f l = f e k (omega arith)
    go false p e k f l = absurd (false≢true e)

pub hex_each : (t : List ℕ) (r : Bool) → (IsTrue r ↔ EachIndex t (λ k. is_hex (get_or t k 0) ≡ true)) → r ≡ all_hex t
hex_each t r h = same_test r (all_hex t) (λ e. every_hex t (h.0 e)) (λ e. h.1 (each_hex t e))
