-- Laws of writing hex and decimals. Assumes nothing.
use Prim.Native.Nat.{ℕ, zero, suc, ◌+◌, ◌-◌, ◌*◌, ◌/◌, ◌%◌, ◌^◌, ◌≤◌, ◌<◌}
use mathlib.Core.Path.{◌≡◌, refl, sym, ap, ◌∙◌}
use mathlib.Core.Logic.{◌⊎◌, inl, inr, ⊎_elim}
use mathlib.Core.Bool.{Bool, true, false}
use mathlib.Core.List.{List, [], ◌∷◌, ◌++◌, append_assoc, append-nil}
use native.Mathlib.Numerals.{add-one}
use native.Mathlib.Nat.{pow-suc, pow-le-pow_right}
use native.Mathlib.Omega.{arith}
use Rattle.std.specs.Prelude.{max}
use lib.Dec.{ltb}
use lib.ListN.{length, take, drop, get_or, set, length-append, length-drop}
use lib.Seq.{take-suc, take_all, get_or-drop}
use Rattle.spans.specs.Span.{overwrite}
use Rattle.spans.proofs.Laws.{length-overwrite, read-after, span_at, store-one, store-next, overwrite-append}
use Rattle.spans.proofs.Laws.{overwrite_swap, overwrite_none, overwrite-all}
use Rattle.report_text.specs.Text.{newline, hex_digit, hex, digits, decimal, line}
use Rattle.report_text.proofs.Values.{digits_last, digits-on, reach, hex-length}

-- ---- hex

hex-append : (a b : List ℕ) → hex (a ++ b) ≡ hex a ++ hex b
unfolding hex
hex-append [] b = refl
hex-append (x ∷ a) b = ap (λ (l : List ℕ). hex_digit (x / 16) ∷ hex_digit (x % 16) ∷ l) (hex-append a b)

hex-one : (x : ℕ) → hex (x ∷ []) ≡ hex_digit (x / 16) ∷ hex_digit (x % 16) ∷ []
unfolding hex
hex-one x = refl

hex_none : hex [] ≡ []
unfolding hex
hex_none = refl

-- two digits more behind those of i bytes
two_more : (at p i x : ℕ) (s m : List ℕ) → i < length s → p ≡ at + 2 * i → x ≡ get_or s i 0
    → set (set (overwrite at (hex (take i s)) m) p (hex_digit (x / 16))) (p + 1) (hex_digit (x % 16))
    ≡ overwrite at (hex (take (i + 1) s)) m
two_more at p i x s m h e f =
    let l : length (hex (take i s)) ≡ 2 * i =
    hex-length (take i s) ∙ ap (λ (n : ℕ). 2 * n) (lib.Seq.length-take-le i s (omega arith)) in
    let k : length (hex (take i s) ++ (hex_digit (x / 16) ∷ [])) ≡ 2 * i + 1 =
    length-append (hex (take i s)) (hex_digit (x / 16) ∷ []) ∙ ap (λ (n : ℕ). n + 1) l in
    ap (λ (o : List ℕ). set o (p + 1) (hex_digit (x % 16)))
    (store-next at (hex (take i s)) m (hex_digit (x / 16)) p (omega arith))
    ∙ store-next at (hex (take i s) ++ (hex_digit (x / 16) ∷ [])) m (hex_digit (x % 16)) (p + 1) (omega arith)
    ∙ ap (λ (o : List ℕ). overwrite at o m)
    (append_assoc (hex (take i s)) (hex_digit (x / 16) ∷ []) (hex_digit (x % 16) ∷ [])
    ∙ ap (λ (o : List ℕ). hex (take i s) ++ o) (sym (hex-one x))
    ∙ sym (hex-append (take i s) (x ∷ []))
    ∙ ap hex (ap (λ (y : ℕ). take i s ++ (y ∷ [])) f ∙ sym (take-suc s i 0 h)
    ∙ ap (λ (n : ℕ). take n s) (sym (add-one i))))

-- the output while i bytes of a source are written from a place
pub record Putting (at : ℕ) (s m o : List ℕ) (i : ℕ) : Type 0 where
  pub within : i ≤ length s
  pub output : o ≡ overwrite at (hex (take i s)) m

pub putting_starts : (at : ℕ) (s m : List ℕ) → Putting at s m m 0
putting_starts at s m = record {
  within = omega arith;
  output = sym (ap (λ (b : List ℕ). overwrite at b m) hex_none ∙ overwrite_none at m);
}

module _ {at : ℕ} {s m o : List ℕ} {i : ℕ} (P : Putting at s m o i) where
  pub putting-length : length o ≡ length m
  putting-length = ap length P.output ∙ length-overwrite at (hex (take i s)) m

  pub putting-on : i < length s → (p x : ℕ) → p ≡ at + 2 * i → x ≡ get_or s i 0
      → Putting at s m (set (set o p (hex_digit (x / 16))) (p + 1) (hex_digit (x % 16))) (i + 1)
  putting-on h p x e f = record {
    within = omega arith;
    output = ap (λ (o : List ℕ). set (set o p (hex_digit (x / 16))) (p + 1) (hex_digit (x % 16))) P.output
        ∙ two_more at p i x s m h e f;
  }

  pub putting-ends : length s ≤ i → o ≡ overwrite at (hex s) m
  putting-ends h = P.output ∙ ap (λ (b : List ℕ). overwrite at (hex b) m) (take_all i s h)

-- what is still to be read of a part that is written over from its front
overwrite-at : (q : ℕ) (bs m : List ℕ) → length bs ≤ q → get_or (overwrite 0 bs m) q 0 ≡ get_or m q 0
overwrite-at q bs m h =
    let z : q + 0 ≡ q = omega arith in
    ap (λ (n : ℕ). get_or (overwrite 0 bs m) n 0) (sym z) ∙ sym (span_at q 1 0 (overwrite 0 bs m) (omega arith))
    ∙ ap (λ (l : List ℕ). get_or l 0 0) (read-after q 1 0 bs m (omega arith)) ∙ span_at q 1 0 m (omega arith)
    ∙ ap (λ (n : ℕ). get_or m n 0) z

pub spread-read : {n : ℕ} {m o : List ℕ} {i : ℕ} → Putting 0 (drop n m) m o i → length m ≡ 2 * n → i < n
    → get_or o (n + i) 0 ≡ get_or (drop n m) i 0
spread-read {n} {m} {o} {i} P e h =
    let l : length (hex (take i (drop n m))) ≡ 2 * i =
    hex-length (take i (drop n m)) ∙ ap (λ (k : ℕ). 2 * k)
    (lib.Seq.length-take-le i (drop n m) (omega (arith, length-drop n m))) in
    ap (λ (o : List ℕ). get_or o (n + i) 0) P.output ∙ overwrite-at (n + i) (hex (take i (drop n m))) m (omega arith)
    ∙ sym (get_or-drop n m i 0)

pub spread-ends : {n : ℕ} {m o : List ℕ} {i : ℕ} → Putting 0 (drop n m) m o i → length m ≡ 2 * n → n ≤ i → o
    ≡ hex (drop n m)
spread-ends {n} {m} {o} {i} P e h =
    putting-ends P (omega (arith, length-drop n m))
    ∙ overwrite-all (hex (drop n m)) m (hex-length (drop n m) ∙ omega (arith, length-drop n m))

-- ---- decimals

below_10 : (n : ℕ) → (n < 10) ⊎ (10 ≤ n)
below_10 n = go (ltb n 10) refl
  where
    go : (t : Bool) → ltb n 10 ≡ t → (n < 10) ⊎ (10 ≤ n)
    go true e = inl (borrow.Author.Tests.ltb-true n 10 e)
    go false e = inr (borrow.Author.Tests.ltb-false n 10 e)

some_digit : (w n : ℕ) → 1 ≤ length (digits (suc w) n)
some_digit w n =
    ⊎_elim
    (λ (h : n < 10). rw (digits_last w n h) (omega arith))
    (λ (h : 10 ≤ n). rw (digits-on w n h) (simp length-append (omega arith)))
    (below_10 n)

-- there is one
pub decimal_some : (n : ℕ) → n < 10 ^ 18 → 1 ≤ length (decimal n)
decimal_some n h = some_digit 17 n

-- how many there are, by the powers of ten around the number
digits_many : (k w n : ℕ) → 10 ^ k ≤ n → n < 10 * 10 ^ k → k ≤ w → length (digits (suc w) n) ≡ k + 1
digits_many zero w n p q h = rw (digits_last w n (omega arith)) (omega arith)
digits_many (suc k) zero n p q h = absurd (omega arith)
digits_many (suc k) (suc w) n p q h =
    let u : 10 ^ suc k ≡ 10 ^ k * 10 = pow-suc 10 k in
    let one : 1 ≤ 10 ^ k = pow-le-pow_right {n = 10} (omega arith) {i = 0} {j = k} (omega arith) in
    let e = digits-on (suc w) n (omega arith) in
    omega (
      arith,
      ap length e ∙ length-append (digits (suc w) (n / 10)) ((48 + n % 10) ∷ []),
      digits_many k w (n / 10) (omega arith) (omega arith) (omega arith),
    )

pub decimal_many : (n m k : ℕ) → n < 10 ^ 18 → m ≡ max n 1 → 10 ^ k ≤ m → m < 10 * 10 ^ k
    → k + 1 ≡ length (decimal n)
decimal_many n m k h e p q = ⊎_elim (λ (l : n < 10). few l k p) (λ (l : 10 ≤ n). many l) (below_10 n)
  where
    few : n < 10 → (k : ℕ) → 10 ^ k ≤ m → k + 1 ≡ length (decimal n)
    few l zero p = rw (digits_last 17 n l)
    few l (suc k) p =
        let u : 10 ^ suc k ≡ 10 ^ k * 10 = pow-suc 10 k in
        let one : 1 ≤ 10 ^ k = pow-le-pow_right {n = 10} (omega arith) {i = 0} {j = k} (omega arith) in
        absurd (omega arith)

    within : (t : Bool) → ltb 17 k ≡ t → 10 ≤ n → k ≤ 17
    within true g l =
        let b : 17 < k = borrow.Author.Tests.ltb-true 17 k g in
        let r : 10 ^ 18 ≤ 10 ^ k = pow-le-pow_right {n = 10} (omega arith) {i = 18} {j = k} (omega arith) in
        absurd (omega arith)
    within false g l = borrow.Author.Tests.ltb-false 17 k g

    many : 10 ≤ n → k + 1 ≡ length (decimal n)
    many l = sym (digits_many k 17 n (omega arith) (omega arith) (within (ltb 17 k) refl l))

-- one more in front
in-front : (p d : ℕ) (behind m : List ℕ) → set (overwrite (p + 1) behind m) p d ≡ overwrite p (d ∷ behind) m
in-front p d behind m =
    store-one p d (overwrite (p + 1) behind m)
    ∙ overwrite_swap p (p + 1) (d ∷ []) behind m (omega arith)
    ∙ sym (overwrite-append p (d ∷ []) behind m)

-- writing them from the last: those in front are the digits of the rest, those behind stand in the output from p on
data Front : ℕ → List ℕ → Type 0 where
  written : (rest : ℕ) → Front rest []
  left : (w rest : ℕ) → rest < 10 ^ suc w → Front rest (digits (suc w) rest)

pub record Writing (n at : ℕ) (m o : List ℕ) (rest p : ℕ) : Type 0 where
  front : List ℕ
  behind : List ℕ
  front_is : Front rest front
  whole : decimal n ≡ front ++ behind
  place : p ≡ at + length front
  output : o ≡ overwrite p behind m

pub writing_starts : (n at : ℕ) (m : List ℕ) → n < 10 ^ 18 → Writing n at m m n (at + length (decimal n))
writing_starts n at m h = record {
  front = decimal n;
  behind = [];
  front_is = left 17 n h;
  whole = sym (append-nil (decimal n));
  place = refl;
  output = sym (overwrite_none (at + length (decimal n)) m);
}

module _ {n at : ℕ} {m o : List ℕ} {rest p : ℕ} (W : Writing n at m o rest p) where
  pub writing-length : length o ≡ length m
  writing-length = ap length W.output ∙ length-overwrite p W.behind m

  -- the digits stand between the two ends
  pub writing-room : p ≤ at + length (decimal n)
  writing-room = omega (arith, W.place, ap length W.whole ∙ length-append W.front W.behind)

  -- while two digits are left there is room before the next
  pub writing_more : at < p → 10 ≤ rest → 2 ≤ p
  writing_more h l = go W.front W.front_is W.place
    where
      more : (w r : ℕ) → r < 10 ^ suc w → 10 ≤ r → 2 ≤ length (digits (suc w) r)
      more zero r s k = absurd (omega arith)
      more (suc w) r s k =
          omega (
            arith,
            ap length (digits-on (suc w) r k) ∙ length-append (digits (suc w) (r / 10)) ((48 + r % 10) ∷ []),
            some_digit w (r / 10),
          )

      go : (f : List ℕ) → Front rest f → p ≡ at + length f → 2 ≤ p
      go _ (written r) q = absurd (omega arith)
      go _ (left w r s) q = omega (arith, more w r s l)

  pub writing-on : at < p → Writing n at m (set o (p - 1) (48 + rest % 10)) (rest / 10) (p - 1)
  writing-on h = go W.front W.front_is W.whole W.place
    where
      put : set o (p - 1) (48 + rest % 10) ≡ overwrite (p - 1) ((48 + rest % 10) ∷ W.behind) m
      put =
          let z : p ≡ p - 1 + 1 = omega arith in
          ap (λ (o : List ℕ). set o (p - 1) (48 + rest % 10)) (W.output ∙ ap (λ (q : ℕ). overwrite q W.behind m) z)
          ∙ in-front (p - 1) (48 + rest % 10) W.behind m

      last : (w : ℕ) → rest < 10 → decimal n ≡ digits (suc w) rest ++ W.behind → p ≡ at + length (digits (suc w) rest)
          → Writing n at m (set o (p - 1) (48 + rest % 10)) (rest / 10) (p - 1)
      last w l e q =
          let z : rest ≡ rest % 10 = omega arith in
          let d : digits (suc w) rest ≡ (48 + rest % 10) ∷ [] = digits_last w rest l ∙ ap (λ (x : ℕ). (48 + x) ∷ []) z in
          record {
            front = [];
            behind = (48 + rest % 10) ∷ W.behind;
            front_is = written (rest / 10);
            whole = e ∙ ap (λ (l : List ℕ). l ++ W.behind) d;
            place = omega (arith, ap length d);
            output = put;
          }

      more : (w : ℕ) → rest < 10 ^ suc w → 10 ≤ rest → decimal n ≡ digits (suc w) rest ++ W.behind
          → p ≡ at + length (digits (suc w) rest)
          → Writing n at m (set o (p - 1) (48 + rest % 10)) (rest / 10) (p - 1)
      more zero s l e q = absurd (omega arith)
      more (suc w) s l e q =
          let d = digits-on (suc w) rest l in
          record {
            front = digits (suc w) (rest / 10);
            behind = (48 + rest % 10) ∷ W.behind;
            front_is = left w (rest / 10) (reach (suc w) rest s);
            whole = e ∙ ap (λ (l : List ℕ). l ++ W.behind) d
                ∙ append_assoc (digits (suc w) (rest / 10)) ((48 + rest % 10) ∷ []) W.behind;
            place = omega
                (arith, ap length d ∙ length-append (digits (suc w) (rest / 10)) ((48 + rest % 10) ∷ []));
            output = put;
          }

      go : (f : List ℕ) → Front rest f → decimal n ≡ f ++ W.behind → p ≡ at + length f
          → Writing n at m (set o (p - 1) (48 + rest % 10)) (rest / 10) (p - 1)
      go _ (written r) e q = absurd (omega arith)
      go _ (left w r s) e q = ⊎_elim (λ (l : r < 10). last w l e q) (λ (l : 10 ≤ r). more w s l e q) (below_10 r)

  pub writing-ends : p ≤ at → o ≡ overwrite at (decimal n) m
  writing-ends h = go W.front W.whole W.place
    where
      go : (f : List ℕ) → decimal n ≡ f ++ W.behind → p ≡ at + length f → o ≡ overwrite at (decimal n) m
      go [] e q = let z : p ≡ at = omega arith in W.output ∙ (λ i. overwrite (z i) (sym e i) m)
      go (c ∷ f) e q = absurd (omega arith)

-- ---- whole lines

pub line-long : (w v : List ℕ) → length (line w v) ≡ length w + length v + 1
line-long w v = omega (arith, length-append w (v ++ (newline ∷ [])), length-append v (newline ∷ []))

-- a word, a value behind it, a newline behind that
pub line-put : (at d e : ℕ) (w v m o1 o2 : List ℕ) → o1 ≡ overwrite at w m → d ≡ at + length w → o2 ≡ overwrite d v o1
    → e ≡ d + length v → set o2 e newline ≡ overwrite at (line w v) m
line-put at d e w v m o1 o2 p q r s =
    let x : o2 ≡ overwrite at (w ++ v) m =
    r ∙ (λ i. overwrite (q i) v (p i)) ∙ sym (overwrite-append at w v m) in
    ap (λ (o : List ℕ). set o e newline) x
    ∙ store-next at (w ++ v) m newline e (omega (arith, length-append w v))
    ∙ ap (λ (b : List ℕ). overwrite at b m) (append_assoc w v (newline ∷ []))
