-- Laws of bits, of marks, and of spans of marks. Assumes nothing.
use Prim.Native.Nat.{ℕ, zero, suc, ◌+◌, ◌-◌, ◌*◌, ◌/◌, ◌%◌, ◌^◌, ◌≤◌, ◌<◌}
use mathlib.Core.Path.{◌≡◌, refl, sym, ap, ◌∙◌}
use mathlib.Core.Logic.{◌⊎◌, inl, inr, ⊎_elim}
use mathlib.Core.Bool.{Bool, true, false, cond, ◌&&◌}
use mathlib.Core.List.{List}
use Rattle.std.specs.Prelude.{Some}
use native.Mathlib.Nat.{one-mul, pow-succ', div-div-eq-div-mul}
use native.Mathlib.Omega.{arith}
use native.Mathlib.Decide.{ℕ_discrete}
use lib.Dec.{leb, eqb, lit<}
use lib.ListN.{length, get_or, set, length-set, replicate, get_or-replicate}
use lib.Pow.{shl_exact}
use lib.Seq.{set-set, set-get_or, get_or-set_same, get_or-set_other}
use borrow.Author.Tests.{eqb-false, eq-eqb, ne_eqb, leb-true, eqb-true}
use Rattle.numbers.proofs.Tests.{both, not_both}
use Rattle.marks.specs.Bits.{bit_of, marked, with_mark, Out, out, mark_one, mark_span, Strode}

-- ---- bits

-- bit r by a shift
pub bit_shift : (r x : ℕ) → bit_of r x ≡ eqb (x / 2 ^ r % 2) 1
unfolding bit_of
bit_shift zero x = let e : x / 2 ^ 0 ≡ x = omega arith in rw e
bit_shift (suc r) x =
    let e : x / 2 ^ suc r ≡ x / 2 / 2 ^ r = div-more x r in
    bit_shift r (x / 2) ∙ rw (← e)
  where
    div-more : (x r : ℕ) → x / 2 ^ suc r ≡ x / 2 / 2 ^ r
    div-more x r = rw (pow-succ' 2 r) (sym (div-div-eq-div-mul x 2 (2 ^ r)))

-- a bit that wasn't set: setting it is adding its weight
set_bit : (r s x : ℕ) → bit_of r x ≡ false → bit_of s (x + 2 ^ r) ≡ cond (eqb s r) true (bit_of s x)
unfolding bit_of
set_bit zero zero x e =
    let n : x % 2 ≡ 1 → ⊥ = eqb-false (x % 2) 1 e in
    let z : (x + 1) % 2 ≡ 1 = omega arith in
    eq-eqb ((x + 1) % 2) 1 z
set_bit zero (suc s) x e =
    let n : x % 2 ≡ 1 → ⊥ = eqb-false (x % 2) 1 e in
    let z : (x + 1) / 2 ≡ x / 2 = omega arith in
    rw (ne_eqb (suc s) 0 (λ q. omega arith)) (ap (bit_of s) z)
set_bit (suc r) zero x e =
    let z : (x + 2 ^ suc r) % 2 ≡ x % 2 = omega arith in
    rw (ne_eqb 0 (suc r) (λ q. omega arith), z)
set_bit (suc r) (suc s) x e =
    let z : (x + 2 ^ suc r) / 2 ≡ x / 2 + 2 ^ r = omega arith in
    let q : eqb (suc s) (suc r) ≡ eqb s r = same (ℕ_discrete s r) in
    rw (z, q) (set_bit r s (x / 2) e)
  where
    same : Dec (s ≡ r) → eqb (suc s) (suc r) ≡ eqb s r
    same (yes p) = eq-eqb (suc s) (suc r) (ap suc p) ∙ sym (eq-eqb s r p)
    same (no p) = ne_eqb (suc s) (suc r) (λ k. p (omega arith)) ∙ sym (ne_eqb s r p)

-- and stays within as many bits
pub bit_fits : (r n x : ℕ) → r < n → x < 2 ^ n → bit_of r x ≡ false → x + 2 ^ r < 2 ^ n
unfolding bit_of
bit_fits r zero x h k e = absurd (omega arith)
bit_fits zero (suc n) x h k e =
    let z : x % 2 ≡ 1 → ⊥ = eqb-false (x % 2) 1 e in
    omega arith
bit_fits (suc r) (suc n) x h k e =
    let i : x / 2 + 2 ^ r < 2 ^ n = bit_fits r n (x / 2) (omega arith) (omega arith) e in
    omega arith

-- ---- a mark

pub length_mark : (m : List ℕ) (k : ℕ) → length (with_mark m k) ≡ length m
unfolding with_mark
length_mark m k = simp length-set

-- marking place k marks that place and no other
mark_set : (m : List ℕ) (k j : ℕ) → k < 8 * length m → marked m k ≡ false
    → marked (with_mark m k) j ≡ cond (eqb j k) true (marked m j)
unfolding marked with_mark
mark_set m k j h e = go (ℕ_discrete (j / 8) (k / 8))
  where
    x : ℕ
    x = get_or m (k / 8) 0

    go : Dec (j / 8 ≡ k / 8)
        → bit_of (j % 8) (get_or (set m (k / 8) (get_or m (k / 8) 0 + 2 ^ (k % 8))) (j / 8) 0)
        ≡ cond (eqb j k) true (bit_of (j % 8) (get_or m (j / 8) 0))
    go (yes p) =
        let q : eqb (j % 8) (k % 8) ≡ eqb j k = same (ℕ_discrete j k) in
        rw (p, get_or-set_same m (k / 8) (get_or m (k / 8) 0 + 2 ^ (k % 8)) 0 (omega arith), ← q)
        (set_bit (k % 8) (j % 8) (get_or m (k / 8) 0) e)
      where
        same : Dec (j ≡ k) → eqb (j % 8) (k % 8) ≡ eqb j k
        same (yes r) = eq-eqb (j % 8) (k % 8) (ap (λ (n : ℕ). n % 8) r) ∙ sym (eq-eqb j k r)
        same (no r) = ne_eqb (j % 8) (k % 8) (λ z. r (omega arith)) ∙ sym (ne_eqb j k r)
    go (no p) =
        rw (ne_eqb j k (λ z. p (ap (λ (n : ℕ). n / 8) z)))
        (ap (bit_of (j % 8)) (get_or-set_other m (k / 8) (j / 8) (get_or m (k / 8) 0 + 2 ^ (k % 8)) 0 p))

pub mark_here : (m : List ℕ) (k : ℕ) → k < 8 * length m → marked m k ≡ false → marked (with_mark m k) k ≡ true
mark_here m k h e = mark_set m k k h e ∙ rw (eq-eqb k k refl)

pub mark_other : (m : List ℕ) (k j : ℕ) → k < 8 * length m → marked m k ≡ false → (j ≡ k → ⊥)
    → marked (with_mark m k) j ≡ marked m j
mark_other m k j h e n = mark_set m k j h e ∙ rw (ne_eqb j k n)

-- ---- a span

pub span_length : (n : ℕ) (m : List ℕ) (k : ℕ) → length (mark_span m k n).marks ≡ length m
unfolding mark_span
span_length zero m k = refl
span_length (suc n) m k = go (marked m k) (span_length n (with_mark m k) (k + 1))
  where
    go : (b : Bool) → length (mark_span (with_mark m k) (k + 1) n).marks ≡ length (with_mark m k)
        → length (cond b (out true m) (mark_span (with_mark m k) (k + 1) n)).marks ≡ length m
    go true f = refl
    go false f = f ∙ length_mark m k

-- what a span of which no place was marked does
pub record Spread (m : List ℕ) (k n : ℕ) (m' : List ℕ) : Type 0 where
  pub free : (j : ℕ) → k ≤ j → j < k + n → marked m j ≡ false
  pub inside : (j : ℕ) → k ≤ j → j < k + n → marked m' j ≡ true
  pub outside : (j : ℕ) → (j < k) ⊎ (k + n ≤ j) → marked m' j ≡ marked m j

pub span_spreads : (n : ℕ) (m : List ℕ) (k : ℕ) → k + n ≤ 8 * length m → (mark_span m k n).met ≡ false
    → Spread m k n (mark_span m k n).marks
unfolding mark_span
span_spreads zero m k h e = record {
  free = λ j a b. absurd (omega arith);
  inside = λ j a b.
      absurd (omega arith);
  outside = λ j a. refl;
}
span_spreads (suc n) m k h e = go (marked m k) refl e (span_spreads n (with_mark m k) (k + 1)
    (omega (arith, length_mark m k)))
  where
    go : (b : Bool) → marked m k ≡ b → (cond b (out true m) (mark_span (with_mark m k) (k + 1) n)).met ≡ false
        → ((mark_span (with_mark m k) (k + 1) n).met ≡ false
        → Spread (with_mark m k) (k + 1) n (mark_span (with_mark m k) (k + 1) n).marks)
        → Spread m k (suc n) (cond b (out true m) (mark_span (with_mark m k) (k + 1) n)).marks
    go true q f ih = not_both true refl f
    go false q f ih = record {
      free = λ j a b. free j a b (ℕ_discrete j k);
      inside = λ j a b. inside j a b (ℕ_discrete j k);
      outside = λ j a. S.outside j (⊎_elim (λ p. inl (omega arith)) (λ p. inr (omega arith)) a)
          ∙ mark_other m k j l q (λ z. ⊎_elim (λ p. omega arith) (λ p. omega arith) a);
    }
      where
        S : Spread (with_mark m k) (k + 1) n (mark_span (with_mark m k) (k + 1) n).marks
        S = ih f

        l : k < 8 * length m
        l = omega arith

        free : (j : ℕ) → k ≤ j → j < k + suc n → Dec (j ≡ k) → marked m j ≡ false
        free j a b (yes p) = rw p q
        free j a b (no p) = sym (mark_other m k j l q p) ∙ S.free j (omega arith) (omega arith)

        inside : (j : ℕ) → k ≤ j → j < k + suc n → Dec (j ≡ k)
            → marked (mark_span (with_mark m k) (k + 1) n).marks j ≡ true
        inside j a b (yes p) = S.outside j (inl (omega arith)) ∙ rw p (mark_here m k l q)
        inside j a b (no p) = S.inside j (omega arith) (omega arith)

-- a span of which a place was marked
pub span_met : (n : ℕ) (m : List ℕ) (k : ℕ) → k + n ≤ 8 * length m → (mark_span m k n).met ≡ true
    → (j : ℕ) × (k ≤ j) × (j < k + n) × (marked m j ≡ true)
unfolding mark_span
span_met zero m k h e = not_both false e refl
span_met (suc n) m k h e = go (marked m k) refl e (span_met n (with_mark m k) (k + 1) (omega (arith, length_mark m k)))
  where
    go : (b : Bool) → marked m k ≡ b → (cond b (out true m) (mark_span (with_mark m k) (k + 1) n)).met ≡ true
        → ((mark_span (with_mark m k) (k + 1) n).met ≡ true
        → (j : ℕ) × (k + 1 ≤ j) × (j < k + 1 + n) × (marked (with_mark m k) j ≡ true))
        → (j : ℕ) × (k ≤ j) × (j < k + suc n) × (marked m j ≡ true)
    go true q f ih = (k, omega arith, omega arith, q)
    go false q f ih =
        let r = ih f in (
          r.0,
          omega (arith, r.1),
          omega (arith, r.2),
          sym
              (mark_other m k r.0 (omega arith) q (λ z. omega (arith, r.1))) ∙ r.3,
        )

-- ---- the turns of the code

pub one-marked : (m : List ℕ) (k : ℕ) → marked m k ≡ true → out true m ≡ mark_one m k
unfolding mark_one
one-marked m k e = rw e

pub one-fresh : (m : List ℕ) (k : ℕ) → marked m k ≡ false → out false (with_mark m k) ≡ mark_one m k
unfolding mark_one
one-fresh m k e = rw e

pub span_end : (m : List ℕ) (k n : ℕ) → n ≡ 0 → out false m ≡ mark_span m k n
unfolding mark_span
span_end m k n e = rw e

pub span_stop : (m : List ℕ) (k n : ℕ) (m' : List ℕ) → 0 < n → out true m' ≡ mark_one m k → out true m' ≡ mark_span m k n
unfolding mark_one mark_span
span_stop m k zero m' h e = absurd (omega arith)
span_stop m k (suc n) m' h e = go (marked m k) e
  where
    go : (b : Bool) → out true m' ≡ cond b (out true m) (out false (with_mark m k))
        → out true m' ≡ cond b (out true m) (mark_span (with_mark m k) (k + 1) n)
    go true f = f
    go false f = not_both _ refl (ap (λ (o : Out). o.met) f)

pub span_on : (m : List ℕ) (k n : ℕ) (m' : List ℕ) → 0 < n → out false m' ≡ mark_one m k
    → mark_span m k n ≡ mark_span m' (k + 1) (n - 1)
unfolding mark_one mark_span
span_on m k zero m' h e = absurd (omega arith)
span_on m k (suc n) m' h e = go (marked m k) e
  where
    go : (b : Bool) → out false m' ≡ cond b (out true m) (out false (with_mark m k))
        → cond b (out true m) (mark_span (with_mark m k) (k + 1) n) ≡ mark_span m' (k + 1) (suc n - 1)
    go true f = not_both _ refl (ap (λ (o : Out). o.met) (sym f))
    go false f =
        let q : suc n - 1 ≡ n = omega arith in
        let p : m' ≡ with_mark m k = ap (λ (o : Out). o.marks) f in
        rw (q, p)

-- nothing is marked in a clear area
bit_zero : (r : ℕ) → bit_of r 0 ≡ false
unfolding bit_of
bit_zero zero = refl
bit_zero (suc r) = bit_zero r

pub clear_unmarked : (n k : ℕ) → k < 8 * n → marked (replicate n 0) k ≡ false
unfolding marked
clear_unmarked n k h = rw (get_or-replicate {A = ℕ} n (k / 8) 0 0 (omega arith)) (bit_zero (k % 8))

-- the code's shifts
pub shift_one : (k : ℕ) → 1 * 2 ^ (k % 8) % 256 ≡ 2 ^ (k % 8)
shift_one k = shl_exact {a = 1} 1 (k % 8) 8 (lit< tt) (omega arith) ∙ one-mul (2 ^ (k % 8))

pub code_marked : (m : List ℕ) (k : ℕ) (b : Bool) → eqb (get_or m (k / 8) 0 / 2 ^ (k % 8) % 2) 1 ≡ b → marked m k ≡ b
unfolding marked
code_marked m k b f = bit_shift (k % 8) (get_or m (k / 8) 0) ∙ f

pub code_fits : (m : List ℕ) (k : ℕ) → get_or m (k / 8) 0 < 256 → marked m k ≡ false
    → get_or m (k / 8) 0 + 1 * 2 ^ (k % 8) % 256 < 256
unfolding marked
code_fits m k h f = rw (shift_one k) (bit_fits (k % 8) 8 (get_or m (k / 8) 0) (omega arith) h f)

pub code_set : (m : List ℕ) (k : ℕ) → set m (k / 8) (get_or m (k / 8) 0 + 1 * 2 ^ (k % 8) % 256) ≡ with_mark m k
unfolding with_mark
code_set m k = rw (shift_one k)

-- ---- a whole byte at a time

marked-at : (m : List ℕ) (k j q : ℕ) → k % 8 ≡ j → k / 8 ≡ q → marked m k ≡ bit_of j (get_or m q 0)
unfolding marked
marked-at m k j q r d = rw (r, d)

with_at : (m : List ℕ) (k j q : ℕ) → k % 8 ≡ j → k / 8 ≡ q → with_mark m k ≡ set m q (get_or m q 0 + 2 ^ j)
unfolding with_mark
with_at m k j q r d = rw (r, d)

module _ (m : List ℕ) (q : ℕ) (h : q < length m) where
  -- one turn on byte q, whose number is v
  bit_turn : (j n v : ℕ) → j < 8 → bit_of j v ≡ false → mark_span (set m q v) (8 * q + j) (suc n)
      ≡ mark_span (set m q (v + 2 ^ j)) (8 * q + (j + 1)) n
  bit_turn j n v k e =
      let r : (8 * q + j) % 8 ≡ j = omega arith in
      let d : (8 * q + j) / 8 ≡ q = omega arith in
      let s : 8 * q + j + 1 ≡ 8 * q + (j + 1) = omega arith in
      span_on (set m q v) (8 * q + j) (suc n) (set m q (v + 2 ^ j)) (omega arith)
      (ap (out false) (sym (written r d)) ∙ one-fresh (set m q v) (8 * q + j) (free r d))
      ∙ rw s (ap (mark_span (set m q (v + 2 ^ j)) (8 * q + (j + 1))) (omega arith))
    where
      free : (8 * q + j) % 8 ≡ j → (8 * q + j) / 8 ≡ q → marked (set m q v) (8 * q + j) ≡ false
      free r d = marked-at (set m q v) (8 * q + j) j q r d ∙ rw (get_or-set_same m q v 0 h) e

      written : (8 * q + j) % 8 ≡ j → (8 * q + j) / 8 ≡ q → with_mark (set m q v) (8 * q + j) ≡ set m q (v + 2 ^ j)
      written r d = with_at (set m q v) (8 * q + j) j q r d ∙ rw (get_or-set_same m q v 0 h) (set-set m q v (v + 2 ^ j))

  byte_turn : (n : ℕ) → get_or m q 0 ≡ 0 → mark_span m (8 * q + 0) (suc (suc (suc (suc (suc (suc (suc (suc n))))))))
      ≡ mark_span (set m q 255) (8 * q + 8) n
  unfolding bit_of
  byte_turn n e =
      let z : set m q 0 ≡ m = rw e at (set-get_or m q 0) in
      ap (λ (x : List ℕ). mark_span x (8 * q + 0) (suc (suc (suc (suc (suc (suc (suc (suc n))))))))) (sym z)
      ∙ bit_turn 0 _ 0 (omega arith) refl
      ∙ bit_turn 1 _ 1 (omega arith) refl
      ∙ bit_turn 2 _ 3 (omega arith) refl
      ∙ bit_turn 3 _ 7 (omega arith) refl
      ∙ bit_turn 4 _ 15 (omega arith) refl
      ∙ bit_turn 5 _ 31 (omega arith) refl
      ∙ bit_turn 6 _ 63 (omega arith) refl
      ∙ bit_turn 7 n 127 (omega arith) refl

pub span_byte : (m : List ℕ) (k n : ℕ) → k / 8 < length m → k % 8 ≡ 0 → 8 ≤ n → get_or m (k / 8) 0 ≡ 0
    → mark_span m k n ≡ mark_span (set m (k / 8) 255) (k + 8) (n - 8)
span_byte m k n h e l z =
    let a : 8 * (k / 8) + 0 ≡ k = omega arith in
    let b : 8 * (k / 8) + 8 ≡ k + 8 = omega arith in
    let c : suc (suc (suc (suc (suc (suc (suc (suc (n - 8)))))))) ≡ n = omega arith in
    let t = byte_turn m (k / 8) h (n - 8) z in
    ap (λ (x : ℕ). mark_span m x n) (sym a) ∙ ap (mark_span m (8 * (k / 8) + 0)) (sym c) ∙ t
    ∙ ap (λ (x : ℕ). mark_span (set m (k / 8) 255) x (n - 8)) b

-- ---- strides

pub stride_byte : (m : List ℕ) (k n : ℕ) → k + n ≤ 8 * length m → 0 < n
    → (leb 8 n && eqb (k % 8) 0 && eqb (get_or m (k / 8) 0) 0) ≡ true → Strode m k n (Some 8) (set m (k / 8) 255)
stride_byte m k n h s t =
    let x = get_or m (k / 8) 0 in
    let p = both (leb 8 n && eqb (k % 8) 0) (eqb x 0) t in
    let q = both (leb 8 n) (eqb (k % 8) 0) p.0 in
    let l : 8 ≤ n = leb-true 8 n q.0 in
    (span_byte m k n (omega arith) (eqb-true (k % 8) 0 q.1) l (eqb-true x 0 p.1), omega arith, l)
