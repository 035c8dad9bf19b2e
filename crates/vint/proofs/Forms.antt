-- Each number has exactly one accepted form, the written one (document 02, Five). Assumes nothing.
use Prim.Native.Nat.{ℕ, zero, suc, ◌+◌, ◌-◌, ◌*◌, ◌/◌, ◌%◌, ◌^◌, ◌≤◌, ◌<◌}
use mathlib.Core.Path.{◌≡◌, refl, sym, ap, ◌∙◌}
use mathlib.Core.Logic.{⊎_elim}
use mathlib.Core.Bool.{Bool, true, false, cond, ◌&&◌, ◌||◌, false≢true}
use mathlib.Core.List.{List, [], ◌∷◌, ◌++◌, append-nil}
use native.Mathlib.Nat.{pow-suc, pow-succ', pow-le-pow_right, mul-le-mul_left, div-eq_of_lt, add-mul-div_left}
use native.Mathlib.Nat.{lt-mul-div-succ}
use native.Mathlib.Omega.{arith}
use lib.Dec.{leb, ltb, eqb}
use lib.ListN.{length, take}
use lib.Seq.{take_all}
use borrow.Author.Tests.{ltb-false, le-ltb, le-leb, lt-leb, eq-eqb, ne_eqb}
use Rattle.numbers.specs.LittleEndian.{Bytes}
use Rattle.numbers.proofs.Tests.{not_both}
use Rattle.limits.specs.Limits.{vint_limit, fifth_limit}
use Rattle.std.specs.Prelude.{Err}
use Rattle.limits.specs.declared.Refusal.TheVariants.{AnotherForm}
use Rattle.vint.specs.Vint.{Unvint, number, vint_bytes, write_vint, Taken, ended, unended, take_vint, last_group, is_another_form}
use Rattle.vint.specs.Vint.{length_most, answer_of, read_vint, AcceptedFor}
use Rattle.vint.proofs.Laws.{below_or, write_last, write_on, reach, take_back, same_number}
use Rattle.vint.proofs.Laws.{Took, took_last, took-on, took, taken-within, LastByte}

-- ---- powers and last groups

pow_pos : (k : ℕ) → 1 ≤ 128 ^ k
pow_pos zero = omega arith
pow_pos (suc k) = rw pow-suc (omega (arith, pow_pos k))

pow_step : (k : ℕ) → 1 ≤ k → 128 ^ k ≡ 128 * 128 ^ (k - 1)
pow_step zero h = absurd (omega arith)
pow_step (suc k) h = let e : suc k - 1 ≡ k = omega arith in rw (e, pow-succ')

-- the last group is 0 below its unit only
group_some : (v k : ℕ) → (last_group v k ≡ 0 → ⊥) → 128 ^ (k - 1) ≤ v
group_some v k f =
    ⊎_elim (λ (h : v < 128 ^ (k - 1)). absurd (f (div-eq_of_lt h))) (λ h. h) (below_or v (128 ^ (k - 1)))

group_none : (v k : ℕ) → 128 ^ (k - 1) ≤ v → last_group v k ≡ 0 → ⊥
group_none v k h e =
    let p : v < 128 ^ (k - 1) * 1 = rw e at (lt-mul-div-succ v {b = 128 ^ (k - 1)} (pow_pos (k - 1))) in
    omega arith

-- ---- what isn't another form

-- two tests that both fail
neither : (a b : Bool) → (a || b) ≡ false → (a ≡ false) × (b ≡ false)
neither true b e = absurd (false≢true (sym e))
neither false b e = (refl, e)

-- of two or more bytes the last group is some
last_some : (k g : ℕ) → is_another_form k g ≡ false → 2 ≤ k → g ≡ 0 → ⊥
last_some k g e l z =
    not_both (leb 2 k && eqb g 0) (rw (le-leb 2 k l, eq-eqb g 0 z))
    (neither (eqb k vint_limit && ltb fifth_limit g) (leb 2 k && eqb g 0) e).1

-- of five bytes it is at most 15
fifth_within : (g : ℕ) → is_another_form 5 g ≡ false → g ≤ fifth_limit
fifth_within g e = ltb-false fifth_limit g (neither (ltb fifth_limit g) (eqb g 0) e).0

-- some groups and a last one that is the number's own are below 2^32
number_fits : (k v : ℕ) → k ≤ 5 → v < 128 ^ k → is_another_form k (last_group v k) ≡ false → v < 2 ^ 32
number_fits zero v l h e = omega arith
number_fits (suc zero) v l h e = omega arith
number_fits (suc (suc zero)) v l h e = omega arith
number_fits (suc (suc (suc zero))) v l h e = omega arith
number_fits (suc (suc (suc (suc zero)))) v l h e = omega arith
number_fits (suc (suc (suc (suc (suc zero))))) v l h e = omega (arith, fifth_within (last_group v 5) e)
number_fits (suc (suc (suc (suc (suc (suc k)))))) v l h e = absurd (omega arith)

-- ---- an accepted form is the written one

form : {w : ℕ} {bs : List ℕ} {v k : ℕ} → Bytes bs → Took w bs v k → (2 ≤ k → 128 ^ (k - 1) ≤ v)
    → take k bs ≡ vint_bytes w v
form h (took_last {w} {b} {bs} p) f =
    let e : b ≡ b - 128 + 128 = omega arith in
    ap (λ (x : ℕ). x ∷ []) e ∙ sym (write_last w (b - 128) (omega (arith, h.0)))
form h (took-on {w} {b} {v} {k} {bs} p t) f =
    let r = taken-within t in
    let s : suc k - 1 ≡ k = omega arith in
    let g : 128 ^ k ≤ b + 128 * v = rw s at (f (omega arith)) in
    let q : 128 ^ k ≡ 128 * 128 ^ (k - 1) = pow_step k (omega arith) in
    let x : b ≡ (b + 128 * v) % 128 = omega arith in
    let y : v ≡ (b + 128 * v) / 128 = omega arith in
    ap (λ (l : List ℕ). b ∷ l) (form h.1 t (λ l. omega arith))
    ∙ (λ i. x i ∷ vint_bytes w (y i))
    ∙ sym (write_on w (b + 128 * v) (omega (arith, pow_pos (k - 1))))

small : {w : ℕ} {bs : List ℕ} {v k : ℕ} → Bytes bs → Took w bs v k → v < 128 ^ k
small h (took_last p) = omega (arith, h.0)
small h (took-on {w} {b} {v} {k} p t) = rw pow-suc (omega (arith, small h.1 t))

-- what is accepted for a number is what is written for it, and the number has 32 bits
pub one_form : (bs : List ℕ) (n k : ℕ) → Bytes bs → read_vint bs ≡ number n k
    → (take k bs ≡ write_vint n) × (n < 2 ^ 32)
unfolding answer_of
one_form bs n k h e = go (take_vint vint_limit bs) refl e
  where
    held : (v j : ℕ) → take_vint vint_limit bs ≡ ended v j → (t : Bool) → is_another_form j (last_group v j) ≡ t
        → ◌≡◌ {A = Unvint} (cond t (Err AnotherForm) (number v j)) (number n k) → (take k bs ≡ write_vint n) × (n < 2 ^ 32)
    held v j f true p e = cc
    held v j f false p e =
        let (x, y) = same_number v j n k e in
        let T = took vint_limit bs v j f in
        rw (← x, ← y) (
          form h T (λ l. group_some v j (last_some j (last_group v j) p l)),
          number_fits j v (taken-within T).1.0 (small h T) p,
        )

    go : (t : Taken) → take_vint vint_limit bs ≡ t → answer_of t ≡ number n k
        → (take k bs ≡ write_vint n) × (n < 2 ^ 32)
    go (ended v j) f e = held v j f (is_another_form j (last_group v j)) refl e
    go unended f e = cc

-- ---- and the written form is accepted

written_some : (w n : ℕ) → n < 128 ^ suc w → 2 ≤ length (vint_bytes (suc w) n)
    → 128 ^ (length (vint_bytes (suc w) n) - 1) ≤ n
written_some zero n h l = let e = ap length (write_last zero n (omega arith)) in absurd (omega arith)
written_some (suc w) n h l =
    ⊎_elim
    (λ (k : n < 128). let e = ap length (write_last (suc w) n k) in absurd (omega arith))
    (λ (k : 128 ≤ n).
    let m = length (vint_bytes (suc w) (n / 128)) in
    let e : length (vint_bytes (suc (suc w)) n) - 1 ≡ m =
    ap (λ (x : List ℕ). length x - 1) (write_on (suc w) n k) ∙ omega arith in
    rw e (least m (some_bytes w (n / 128)) k (written_some w (n / 128) (reach (suc w) n h))))
    (below_or n 128)
  where
    some_bytes : (w n : ℕ) → 1 ≤ length (vint_bytes (suc w) n)
    some_bytes w n =
        ⊎_elim
        (λ (h : n < 128). rw (write_last w n h) (omega arith))
        (λ (h : 128 ≤ n). rw (write_on w n h) (omega arith))
        (below_or n 128)

    least : (m : ℕ) → 1 ≤ m → 128 ≤ n → (2 ≤ m → 128 ^ (m - 1) ≤ n / 128) → 128 ^ m ≤ n
    least m a k ih =
        ⊎_elim
        (λ (c : m < 2). let z : m ≡ 1 = omega arith in rw z k)
        (λ (c : 2 ≤ m). omega (arith, pow_step m a, ih c))
        (below_or m 2)

-- a number of 32 bits whose last group is some is accepted
own_form : (v k : ℕ) → k ≤ 5 → v < 2 ^ 32 → (2 ≤ k → 128 ^ (k - 1) ≤ v) → answer_of (ended v k) ≡ number v k
unfolding answer_of
own_form v k l h f = rw (high, empty)
  where
    high : (eqb k vint_limit && ltb fifth_limit (last_group v k)) ≡ false
    high =
        ⊎_elim
        (λ (c : k < 5). rw (ne_eqb k 5 (λ z. omega arith)))
        (λ (c : 5 ≤ k). let z : k ≡ 5 = omega arith in rw (z, le-ltb 15 (v / 268435456) (omega arith)))
        (below_or k 5)

    empty : (leb 2 k && eqb (last_group v k) 0) ≡ false
    empty =
        ⊎_elim
        (λ (c : k < 2). rw (lt-leb 2 k c))
        (λ (c : 2 ≤ k). rw (le-leb 2 k c, ne_eqb (last_group v k) 0 (group_none v k (f c))))
        (below_or k 2)

-- a number written as a vint reads back as itself, whatever follows, and takes the bytes written
pub read_back : (n : ℕ) (rest : List ℕ) → n < 2 ^ 32
    → read_vint (write_vint n ++ rest) ≡ number n (length (write_vint n))
read_back n rest h =
    ap answer_of (take_back 4 n rest (omega arith))
    ∙ own_form n (length (write_vint n)) (length_most 5 n) h (written_some 4 n (omega arith))

-- ---- exactly one

-- at least one form of each number is accepted
pub accepted : (n : ℕ) → n < 2 ^ 32 → AcceptedFor n (write_vint n)
accepted n h = ap read_vint (sym (append-nil (write_vint n))) ∙ read_back n [] h

-- and at most one
pub exactly_one : (n : ℕ) (a b : List ℕ) → Bytes a → Bytes b → AcceptedFor n a → AcceptedFor n b → a ≡ b
exactly_one n a b p q e f =
    sym (take_all (length a) a (omega arith))
    ∙ (one_form a n (length a) p e).0
    ∙ sym (one_form b n (length b) q f).0
    ∙ take_all (length b) b (omega arith)

-- ---- the reader's last byte

module _ (sum unit group taken : ℕ) (h : LastByte sum unit group taken) where
  -- the group is the last one of the whole sum
  group_is : last_group (sum + unit * group) taken ≡ group
  group_is =
      let p : sum < unit = h.1.1.1.0 in
      rw (← h.1.1.0, add-mul-div_left sum group {y = unit} (omega arith), div-eq_of_lt p) (omega arith)

  pub unit_most : unit ≤ 128 ^ 4
  unit_most =
      rw h.1.1.0 (pow-le-pow_right {n = 128} (omega arith) {i = taken - 1} {j = 4} (omega (arith, h.1.0)))

  pub answers_another : is_another_form taken group ≡ true → ◌≡◌ {A = Unvint} (Err AnotherForm) (answer_of (ended (sum + unit * group) taken))
  unfolding answer_of
  answers_another e = rw (group_is, e)

  pub answers_number : is_another_form taken group ≡ false
      → number (sum + unit * group) taken ≡ answer_of (ended (sum + unit * group) taken)
  unfolding answer_of
  answers_number e = rw (group_is, e)

  pub answer_fits : is_another_form taken group ≡ false → sum + unit * group < 2 ^ 32
  answer_fits e =
      let p : unit * group ≤ unit * 127 = mul-le-mul_left unit (omega (arith, h.1.1.1.1)) in
      let q : sum + unit * group < 128 ^ taken = omega (arith, pow_step taken h.0, h.1.1.0, h.1.1.1.0) in
      number_fits taken (sum + unit * group) h.1.0 q (ap (is_another_form taken) group_is ∙ e)
