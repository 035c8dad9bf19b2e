-- The form of what was read: a word and its value, hex of bytes, a decimal. Assumes nothing.
use Prim.Native.Nat.{ℕ, zero, suc, ◌+◌, ◌-◌, ◌*◌, ◌/◌, ◌%◌, ◌^◌, ◌≤◌, ◌<◌}
use mathlib.Core.Path.{◌≡◌, refl, sym, ap, ◌∙◌, subst}
use mathlib.Core.Bool.{Bool, true, false, cond, ◌&&◌, ◌||◌, false≢true}
use Rattle.std.specs.Prelude.{Option, None, Some}
use mathlib.Core.List.{List, [], ◌∷◌, ◌++◌, append_assoc, append-nil}
use native.Mathlib.Nat.{pow-suc}
use native.Mathlib.Omega.{arith}
use lib.Dec.{leb, eqb}
use lib.ListN.{length}
use borrow.Author.Tests.{le-leb, lt-leb, leb-true, lt-ltb, le-ltb, eqb-true, eqb-false, not-true}
use Rattle.limits.specs.Limits.{digit_limit}
use Rattle.numbers.specs.LittleEndian.{Bytes}
use Rattle.numbers.proofs.Tests.{both}
use Rattle.report_text.specs.Text.{digits, decimal, hex_digit, hex}
use Rattle.report_text.specs.Reader.{and_then, value_after, is_digit, number_from, no_leading_zero, is_hex, hex_value}
use Rattle.report_text.specs.Reader.{byte_before, bytes_of, number_of, number_in, bytes_in}
use Rattle.report_text.proofs.Values.{digits_last, digits-on}

-- ---- a line's form, from what was read of it

pub value_form : (w l v : List ℕ) → value_after w l ≡ Some v → l ≡ w ++ v
unfolding value_after
value_form [] l v e = cc
value_form (x ∷ w) [] v e = let z : ◌≡◌ {A = ℕ} 0 1 = cc in absurd (omega arith)
value_form (x ∷ w) (y ∷ l) v e = go (eqb x y) refl (value_form w l v) e
  where
    go : (t : Bool) → eqb x y ≡ t → (value_after w l ≡ Some v → l ≡ w ++ v) → cond t (value_after w l) None ≡ Some v
        → y ∷ l ≡ x ∷ (w ++ v)
    go true p f e = λ i. sym (eqb-true x y p) i ∷ f e i
    go false p f e = let z : ◌≡◌ {A = ℕ} 0 1 = cc in absurd (omega arith)

hex_char : (c : ℕ) → is_hex c ≡ true → (hex_digit (hex_value c) ≡ c) × (hex_value c < 16)
hex_char c e = go (is_digit c) refl e
  where
    low : (48 ≤ c) × (c ≤ 57) → (hex_digit (hex_value c) ≡ c) × (hex_value c < 16)
    low h = rw (le-leb c 57 h.1, lt-ltb (c - 48) 10 (omega arith)) (omega arith, omega arith)

    high : (97 ≤ c) × (c ≤ 102) → (hex_digit (hex_value c) ≡ c) × (hex_value c < 16)
    high h = rw (lt-leb c 57 (omega arith), le-ltb (c - 87) 10 (omega arith)) (omega arith, omega arith)

    go : (t : Bool) → is_digit c ≡ t → (t || (leb 97 c && leb c 102)) ≡ true → (hex_digit (hex_value c) ≡ c)
        × (hex_value c < 16)
    go true p e = let q = both (leb 48 c) (leb c 57) p in low (leb-true 48 c q.0, leb-true c 57 q.1)
    go false p e = let q = both (leb 97 c) (leb c 102) e in high (leb-true 97 c q.0, leb-true c 102 q.1)

-- only lower-case hex of bytes reads as those bytes
pub hex_form : (cs bs : List ℕ) → bytes_of cs ≡ Some bs → (cs ≡ hex bs) × Bytes bs
unfolding bytes_of hex
hex_form [] bs e = let z : bs ≡ [] = cc in rw z (refl, tt)
hex_form (c ∷ []) bs e = let z : ◌≡◌ {A = ℕ} 0 1 = cc in absurd (omega arith)
hex_form (c ∷ d ∷ cs) bs e = go (is_hex c && is_hex d) refl (bytes_of cs) (hex_form cs) e
  where
    made : (ds : List ℕ) → (is_hex c && is_hex d) ≡ true → (cs ≡ hex ds) × Bytes ds → bs
        ≡ (16 * hex_value c + hex_value d) ∷ ds
        → (c ∷ d ∷ cs ≡ hex bs) × Bytes bs
    made ds t r z =
        let q = both (is_hex c) (is_hex d) t in
        let x = hex_char c q.0 in
        let y = hex_char d q.1 in
        let a : hex_value c ≡ (16 * hex_value c + hex_value d) / 16 = omega (arith, y.1) in
        let b : hex_value d ≡ (16 * hex_value c + hex_value d) % 16 = omega (arith, y.1) in
        rw z (
          (λ i. (sym x.0 ∙ ap hex_digit a) i ∷ (sym y.0 ∙ ap hex_digit b) i ∷ r.0 i),
          (omega (arith, x.1, y.1), r.1),
        )

    go : (t : Bool) → (is_hex c && is_hex d) ≡ t → (o : Option (List ℕ))
        → ((ds : List ℕ) → o ≡ Some ds → (cs ≡ hex ds) × Bytes ds)
        → cond t (byte_before (16 * hex_value c + hex_value d) o) None ≡ Some bs → (c ∷ d ∷ cs ≡ hex bs) × Bytes bs
    go true t None f e = let z : ◌≡◌ {A = ℕ} 0 1 = cc in absurd (omega arith)
    go true t (Some ds) f e = made ds t (f ds refl) (cc)
    go false t o f e = let z : ◌≡◌ {A = ℕ} 0 1 = cc in absurd (omega arith)

pub bytes_form : (w l bs : List ℕ) → bytes_in w l ≡ Some bs → (l ≡ w ++ hex bs) × Bytes bs
unfolding bytes_in
bytes_form w l bs e = go (value_after w l) refl e
  where
    go : (o : Option (List ℕ)) → value_after w l ≡ o → and_then o bytes_of ≡ Some bs → (l ≡ w ++ hex bs) × Bytes bs
    go None p e = let z : ◌≡◌ {A = ℕ} 0 1 = cc in absurd (omega arith)
    go (Some v) p e = let q = hex_form v bs e in (value_form w l v p ∙ ap (λ (x : List ℕ). w ++ x) q.0, q.1)

-- ---- only one decimal reads as a number

-- digits behind a number v that isn't 0: the digits of v stand before them
digits-behind : (w v n : ℕ) (cs : List ℕ) → 0 < v → number_from v cs ≡ Some n → digits (w + length cs) n
    ≡ digits w v ++ cs
unfolding number_from
digits-behind w v n [] z e =
    let q : v ≡ n = cc in
    let k : w + 0 ≡ w = omega arith in
    rw (k, sym q) (sym (append-nil (digits w v)))
digits-behind w v n (c ∷ cs) z e =
    go (is_digit c) refl (λ f. digits-behind (suc w) (10 * v + (c - 48)) n cs (omega arith) f) e
  where
    on : is_digit c ≡ true → digits (suc w) (10 * v + (c - 48)) ≡ digits w v ++ (c ∷ [])
    on t =
        let q = both (leb 48 c) (leb c 57) t in
        let l = leb-true 48 c q.0 in
        let h = leb-true c 57 q.1 in
        let a : (10 * v + (c - 48)) / 10 ≡ v = omega arith in
        let b : 48 + (10 * v + (c - 48)) % 10 ≡ c = omega arith in
        digits-on w (10 * v + (c - 48)) (omega arith)
        ∙ (λ i. digits w (a i) ++ (b i ∷ []))

    go : (t : Bool) → is_digit c ≡ t
        → (number_from (10 * v + (c - 48)) cs ≡ Some n → digits (suc w + length cs) n
        ≡ digits (suc w) (10 * v + (c - 48)) ++ cs)
        → cond t (number_from (10 * v + (c - 48)) cs) None ≡ Some n
        → digits (w + suc (length cs)) n ≡ digits w v ++ (c ∷ cs)
    go true t f e =
        let k : w + suc (length cs) ≡ suc w + length cs = omega arith in
        ap (λ (x : ℕ). digits x n) k ∙ f e ∙ ap (λ (x : List ℕ). x ++ cs) (on t) ∙ append_assoc (digits w v) (c ∷ []) cs
    go false t f e = let z : ◌≡◌ {A = ℕ} 0 1 = cc in absurd (omega arith)

tens : (w v : ℕ) → v < 10 → v < 10 ^ suc w
tens zero v h = h
tens (suc w) v h = let k = tens w v h in rw pow-suc (omega arith)

-- and below what so many digits can say
number_below : (w v n : ℕ) (cs : List ℕ) → v < 10 ^ w → number_from v cs ≡ Some n → n < 10 ^ (w + length cs)
unfolding number_from
number_below w v n [] h e =
    let q : v ≡ n = cc in
    let k : w + 0 ≡ w = omega arith in
    rw (k, sym q) h
number_below w v n (c ∷ cs) h e = go (is_digit c) refl (λ u f. number_below (suc w) (10 * v + (c - 48)) n cs u f) e
  where
    wider : is_digit c ≡ true → 10 * v + (c - 48) < 10 ^ suc w
    wider t =
        let q = both (leb 48 c) (leb c 57) t in
        let l = leb-true c 57 q.1 in
        rw pow-suc (omega arith)

    go : (t : Bool) → is_digit c ≡ t
        → (10 * v + (c - 48) < 10 ^ suc w → number_from (10 * v + (c - 48)) cs ≡ Some n → n < 10 ^ (suc w + length cs))
        → cond t (number_from (10 * v + (c - 48)) cs) None ≡ Some n → n < 10 ^ (w + suc (length cs))
    go true t f e =
        let k : w + suc (length cs) ≡ suc w + length cs = omega arith in
        rw k (f (wider t) e)
    go false t f e = let z : ◌≡◌ {A = ℕ} 0 1 = cc in absurd (omega arith)

-- the first digit and those behind it, at most 18
first_form : (c n : ℕ) (cs : List ℕ) → suc (length cs) ≤ digit_limit → no_leading_zero (c ∷ cs) ≡ true
    → number_from 0 (c ∷ cs) ≡ Some n
    → (c ∷ cs ≡ decimal n) × (n < 10 ^ digit_limit)
unfolding number_from
first_form c n cs h z e = go (is_digit c) refl e
  where
    behind : is_digit c ≡ true → (ds : List ℕ) → suc (length ds) ≤ digit_limit → no_leading_zero (c ∷ ds) ≡ true
        → number_from (c - 48) ds ≡ Some n
        → c ∷ ds ≡ decimal n
    behind t [] h z e =
        let q = both (leb 48 c) (leb c 57) t in
        let l = leb-true 48 c q.0 in
        let u = leb-true c 57 q.1 in
        let m : c - 48 ≡ n = cc in
        let b : 48 + n ≡ c = omega arith in
        sym (digits_last (digit_limit - 1) n (omega arith) ∙ (λ i. b i ∷ []))
    behind t (d ∷ ds) h z e =
        let q = both (leb 48 c) (leb c 57) t in
        let l = leb-true 48 c q.0 in
        let u = leb-true c 57 q.1 in
        let o : ¬ (c ≡ 48) = eqb-false c 48 (not-true (eqb c 48) z) in
        let w = digit_limit - 2 - length ds in
        let k : suc w + length (d ∷ ds) ≡ digit_limit = omega arith in
        let b : 48 + (c - 48) ≡ c = omega arith in
        let p : 0 < c - 48 = omega (arith, o) in
        sym (
        ap (λ (x : ℕ). digits x n) (sym k) ∙ digits-behind (suc w) (c - 48) n (d ∷ ds) p e
        ∙ ap (λ (x : List ℕ). x ++ (d ∷ ds)) (digits_last w (c - 48) (omega arith) ∙ (λ i. b i ∷ []))
        )

    go : (t : Bool) → is_digit c ≡ t → cond t (number_from (10 * 0 + (c - 48)) cs) None ≡ Some n
        → (c ∷ cs ≡ decimal n) × (n < 10 ^ digit_limit)
    go true t e =
        let q = both (leb 48 c) (leb c 57) t in
        let u = leb-true c 57 q.1 in
        let o : 10 * 0 + (c - 48) ≡ c - 48 = omega arith in
        let w = digit_limit - 1 - length cs in
        let k : suc w + length cs ≡ digit_limit = omega arith in
        let e : number_from (c - 48) cs ≡ Some n = rw o at e in (
          behind t cs h z e,
          subst (λ (x : ℕ). n < 10 ^ x) k (number_below (suc w) (c - 48) n cs (tens w (c - 48) (omega arith)) e),
        )
    go false t e = let z : ◌≡◌ {A = ℕ} 0 1 = cc in absurd (omega arith)

-- only its decimal reads as a number
pub decimal_form : (cs : List ℕ) (n : ℕ) → number_of cs ≡ Some n → (cs ≡ decimal n) × (n < 10 ^ digit_limit)
unfolding number_of
decimal_form cs n e = go cs (leb (length cs) digit_limit && no_leading_zero cs) refl e
  where
    go : (cs : List ℕ) (t : Bool) → (leb (length cs) digit_limit && no_leading_zero cs) ≡ t
        → cond t (number_from 0 cs) None ≡ Some n
        → (cs ≡ decimal n) × (n < 10 ^ digit_limit)
    go cs false t e = let z : ◌≡◌ {A = ℕ} 0 1 = cc in absurd (omega arith)
    go [] true t e = absurd (false≢true (both (leb 0 digit_limit) false t).1)
    go (c ∷ cs) true t e =
        let q = both (leb (suc (length cs)) digit_limit) (no_leading_zero (c ∷ cs)) t in
        first_form c n cs (leb-true (suc (length cs)) digit_limit q.0) q.1 e

pub number_form : (w l : List ℕ) (n : ℕ) → number_in w l ≡ Some n → (l ≡ w ++ decimal n) × (n < 10 ^ digit_limit)
unfolding number_in
number_form w l n e = go (value_after w l) refl e
  where
    go : (o : Option (List ℕ)) → value_after w l ≡ o → and_then o number_of ≡ Some n → (l ≡ w ++ decimal n)
        × (n < 10 ^ digit_limit)
    go None p e = let z : ◌≡◌ {A = ℕ} 0 1 = cc in absurd (omega arith)
    go (Some v) p e = let q = decimal_form v n e in (value_form w l v p ∙ ap (λ (x : List ℕ). w ++ x) q.0, q.1)
