-- Laws of hex turned back into bytes. Assumes nothing.
use Prim.Native.Nat.{ℕ, zero, suc, ◌+◌, ◌-◌, ◌*◌, ◌/◌, ◌%◌, ◌≤◌, ◌<◌}
use mathlib.Core.Path.{◌≡◌, refl, sym, ap, ◌∙◌}
use mathlib.Core.Bool.{Bool, true, false, cond, ◌&&◌, ◌||◌}
use Rattle.std.specs.Prelude.{Option, None, Some, Result, Ok, Err, option_map}
use mathlib.Core.List.{List, [], ◌∷◌}
use native.Mathlib.Numerals.{add-one}
use native.Mathlib.Omega.{arith}
use lib.Dec.{leb, eqb}
use lib.ListN.{length, take, get_or, set}
use lib.Seq.{take_all}
use borrow.Author.Tests.{le-leb, lt-leb, leb-true}
use Rattle.limits.specs.Refusals.{unhexing, permitted}
use Rattle.numbers.proofs.Tests.{both}
use Rattle.spans.specs.Span.{overwrite}
use Rattle.spans.proofs.Laws.{length-overwrite, overwrite_none, copy_turn}
use Rattle.report_text.specs.Reader.{is_digit, is_hex, hex_value, byte_before, bytes_of}
use Rattle.report_text.specs.Values.{all_hex, hex_text}
use Rattle.report_text.proofs.Words.{hexed_is}
use Rattle.report_read.specs.declared.unhex.TooShort.{TooShort}
use Rattle.report_read.specs.Said.{said_unhexed}
use Rattle.report_read.specs.Unhex.{byte_in, or_none, Out, out, too_short, on_hex, unhex_of}

-- ---- digits

-- a hex digit is one of two runs
pub hex_runs : (b : ℕ) → is_hex b ≡ true → (b ≤ 57 → 48 ≤ b) × (57 < b → (97 ≤ b) × (b ≤ 102))
hex_runs b e = go (is_digit b) refl e
  where
    go : (t : Bool) → is_digit b ≡ t → (t || (leb 97 b && leb b 102)) ≡ true
        → (b ≤ 57 → 48 ≤ b) × (57 < b → (97 ≤ b) × (b ≤ 102))
    go true p e =
        let q = both (leb 48 b) (leb b 57) p in
        let l = leb-true 48 b q.0 in
        let h = leb-true b 57 q.1 in
        ((λ z. l), λ z. absurd (omega arith))
    go false p e =
        let q = both (leb 97 b) (leb b 102) e in
        let l = leb-true 97 b q.0 in
        let h = leb-true b 102 q.1 in
        ((λ z. absurd (omega arith)), λ z. (l, h))

pub value_low : (b : ℕ) → b ≤ 57 → b - 48 ≡ hex_value b
value_low b h = rw (le-leb b 57 h)

pub value_high : (b : ℕ) → 57 < b → b - 87 ≡ hex_value b
value_high b h = rw (lt-leb b 57 h)

all-at : (cs : List ℕ) (i : ℕ) → all_hex cs ≡ true → i < length cs → is_hex (get_or cs i 0) ≡ true
unfolding all_hex
all-at [] i e h = absurd (omega arith)
all-at (c ∷ cs) zero e h = go (is_hex c) e
  where
    go : (t : Bool) → cond t (all_hex cs) false ≡ true → t ≡ true
    go true e = refl
    go false e = e
all-at (c ∷ cs) (suc i) e h = all-at cs i (go (is_hex c) e) (omega arith)
  where
    go : (t : Bool) → cond t (all_hex cs) false ≡ true → all_hex cs ≡ true
    go true e = e
    go false e = let z : ◌≡◌ {A = ℕ} 0 1 = cc in absurd (omega arith)

pub hex-at : (cs : List ℕ) (i : ℕ) → hex_text cs ≡ true → i < length cs → is_hex (get_or cs i 0) ≡ true
unfolding hex_text
hex-at cs i e h = all-at cs i (go (eqb (length cs % 2) 0) e) h
  where
    go : (t : Bool) → cond t (all_hex cs) false ≡ true → all_hex cs ≡ true
    go true e = e
    go false e = let z : ◌≡◌ {A = ℕ} 0 1 = cc in absurd (omega arith)

-- ---- bytes

-- what hex stands for, and how much it is
pub stands : (cs : List ℕ) → hex_text cs ≡ true → (bytes_of cs ≡ Some (or_none (bytes_of cs)))
    × (length (or_none (bytes_of cs)) ≡ length cs / 2)
stands cs e = go (bytes_of cs) (hexed_is cs ∙ rw e)
  where
    go : (o : Option (List ℕ)) → option_map length o ≡ Some (length cs / 2) → (o ≡ Some (or_none o))
        × (length (or_none o) ≡ length cs / 2)
    go None f = let z : ◌≡◌ {A = ℕ} 0 1 = cc in absurd (omega arith)
    go (Some bs) f = (refl, cc)

pub stands_not : (cs : List ℕ) → hex_text cs ≡ false → bytes_of cs ≡ None
stands_not cs e = go (bytes_of cs) (hexed_is cs ∙ rw e)
  where
    go : (o : Option (List ℕ)) → option_map length o ≡ None → o ≡ None
    go None f = refl
    go (Some bs) f = let z : ◌≡◌ {A = ℕ} 0 1 = cc in absurd (omega arith)

byte_is : (cs bs : List ℕ) (i : ℕ) → bytes_of cs ≡ Some bs → i < length bs → get_or bs i 0 ≡ byte_in cs i
unfolding bytes_of
byte_is [] bs i e h = let z : bs ≡ [] = cc in let k : length bs ≡ 0 = ap length z in absurd (omega arith)
byte_is (c ∷ []) bs i e h = let z : ◌≡◌ {A = ℕ} 0 1 = cc in absurd (omega arith)
byte_is (c ∷ d ∷ cs) bs i e h = go (is_hex c && is_hex d) (bytes_of cs) (byte_is cs) e
  where
    at : (ds : List ℕ) (j : ℕ) → ((k : ℕ) → k < length ds → get_or ds k 0 ≡ byte_in cs k) → j < suc (length ds)
        → get_or ((16 * hex_value c + hex_value d) ∷ ds) j 0 ≡ byte_in (c ∷ d ∷ cs) j
    at ds zero f h = refl
    at ds (suc k) f h =
        let p : 2 * suc k ≡ suc (suc (2 * k)) = omega arith in
        let q : 2 * suc k + 1 ≡ suc (suc (2 * k + 1)) = omega arith in
        f k (omega arith)
        ∙ (λ i. 16 * hex_value (get_or (c ∷ d ∷ cs) (sym p i) 0) + hex_value (get_or (c ∷ d ∷ cs) (sym q i) 0))

    go : (t : Bool) (o : Option (List ℕ))
        → ((ds : List ℕ) (k : ℕ) → o ≡ Some ds → k < length ds → get_or ds k 0 ≡ byte_in cs k)
        → cond t (byte_before (16 * hex_value c + hex_value d) o) None ≡ Some bs → get_or bs i 0 ≡ byte_in (c ∷ d ∷ cs) i
    go true None f e = let z : ◌≡◌ {A = ℕ} 0 1 = cc in absurd (omega arith)
    go true (Some ds) f e =
        let z : bs ≡ (16 * hex_value c + hex_value d) ∷ ds = cc in
        ap (λ (l : List ℕ). get_or l i 0) z ∙ at ds i (λ k. f ds k refl) (omega (arith, ap length z))
    go false o f e = let z : ◌≡◌ {A = ℕ} 0 1 = cc in absurd (omega arith)

-- ---- the loop

pub record Unhexing (cs m o : List ℕ) (i : ℕ) : Type 0 where
  pub within : i ≤ length cs / 2
  pub output : o ≡ overwrite 0 (take i (or_none (bytes_of cs))) m

pub unhexing_starts : (cs m : List ℕ) → Unhexing cs m m 0
unhexing_starts cs m = record { within = omega arith; output = sym (overwrite_none 0 m) }

pub unhexing-length : {cs m o : List ℕ} {i : ℕ} → Unhexing cs m o i → length o ≡ length m
unhexing-length {cs} {m} {o} {i} U = ap length U.output ∙ length-overwrite 0 (take i (or_none (bytes_of cs))) m

pub unhexing-on : {cs m o : List ℕ} {i : ℕ} → Unhexing cs m o i → hex_text cs ≡ true → i < length cs / 2 → (b : ℕ) → b
    ≡ byte_in cs i
    → Unhexing cs m (set o i b) (i + 1)
unhexing-on {cs} {m} {o} {i} U e h b f =
    let bs = or_none (bytes_of cs) in
    let s = stands cs e in
    let g : b ≡ get_or bs i 0 = f ∙ sym (byte_is cs bs i s.0 (omega (arith, s.1))) in
    record {
      within = omega arith;
      output =
          (λ j. set (U.output j) i (g j)) ∙ copy_turn 0 bs m i i (omega (arith, s.1)) (omega arith)
          ∙ ap (λ (n : ℕ). overwrite 0 (take n bs) m) (sym (add-one i));
    }

pub unhexing-ends : {cs m o : List ℕ} {i : ℕ} → Unhexing cs m o i → hex_text cs ≡ true → length cs / 2 ≤ i
    → o ≡ overwrite 0 (or_none (bytes_of cs)) m
unhexing-ends {cs} {m} {o} {i} U e h =
    let s = stands cs e in
    U.output ∙ ap (λ (bs : List ℕ). overwrite 0 bs m) (take_all i (or_none (bytes_of cs)) (omega (arith, s.1)))

-- ---- the call

fair : (o : Option (List ℕ)) (m : List ℕ) → permitted unhexing (said_unhexed (on_hex o m).answer) ≡ true
fair None m = refl
fair (Some bs) m = go (leb (length bs) (length m))
  where
    go : (b : Bool)
        → permitted unhexing (said_unhexed
        (cond b (out (Ok (Some (length bs))) (overwrite 0 bs m)) (out (Err (too_short (length bs))) m)).answer) ≡ true
    go true = refl
    go false = refl

-- its number is one that is listed for it
pub told : (cs m : List ℕ) (r : Result (Option ℕ) TooShort) (o : List ℕ) → out r o ≡ unhex_of cs m
    → (out r o ≡ unhex_of cs m) × (permitted unhexing (said_unhexed r) ≡ true)
unfolding unhex_of
told cs m r o e = (e, ap (λ (x : Out). permitted unhexing (said_unhexed x.answer)) e ∙ fair (bytes_of cs) m)

pub unhex_none : (cs m : List ℕ) → hex_text cs ≡ false → out (Ok None) m ≡ unhex_of cs m
unfolding unhex_of
unhex_none cs m e = sym (ap (λ (o : Option (List ℕ)). on_hex o m) (stands_not cs e))

module _ (cs m : List ℕ) (n : ℕ) (e : hex_text cs ≡ true) (k : n ≡ length cs / 2) where
  abbrev bs : List ℕ
  bs = or_none (bytes_of cs)

  long : length bs ≡ n
  long = (stands cs e).1 ∙ sym k

  pub unhex_short : length m < n → out (Err (too_short n)) m ≡ unhex_of cs m
  unfolding unhex_of
  unhex_short h =
      ap (λ (x : ℕ). out (Err (too_short x)) m) (sym long)
      ∙ sym (ap (λ (o : Option (List ℕ)). on_hex o m) (stands cs e).0
      ∙ rw (lt-leb (length bs) (length m) (omega (arith, long))))

  pub unhex_done : n ≤ length m → (o : List ℕ) → o ≡ overwrite 0 bs m → out (Ok (Some n)) o ≡ unhex_of cs m
  unfolding unhex_of
  unhex_done h o f =
      (λ i. out (Ok (Some (sym long i))) (f i))
      ∙ sym (ap (λ (o : Option (List ℕ)). on_hex o m) (stands cs e).0
      ∙ rw (le-leb (length bs) (length m) (omega (arith, long))))
