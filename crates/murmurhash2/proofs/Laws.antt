-- Laws of specs/Murmur.antt: what one to three bytes give, and a turn of four bytes. Assumes nothing.
use Prim.Native.Nat.{ℕ, zero, suc, ◌+◌, ◌-◌, ◌*◌, ◌/◌, ◌^◌, ◌≤◌, ◌<◌}
use mathlib.Core.Path.{◌≡◌, refl, sym, ap, ◌∙◌}
use mathlib.Core.List.{List, [], ◌∷◌, ◌++◌}
use native.Mathlib.Nat.{add-zero, add_assoc}
use native.Mathlib.Omega.{arith}
use lib.ListN.{length, take, drop, get_or, length-drop, take-append-drop}
use lib.Seq.{drop-drop, get_or-drop}
use lib.Bits.{bit_xor}
use Rattle.std.specs.Int.{w32, from_le_bytes}
use Rattle.std.specs.Simd.{first_chunks}
use Rattle.numbers.specs.Wrap.{wrap_mul}
use Rattle.numbers.specs.LittleEndian.{le_number}
use Rattle.numbers.proofs.Laws.{from_le}
use Rattle.spans.specs.Span.{read_span}
use Rattle.spans.proofs.Laws.{span_4, length_span}
use Rattle.murmurhash2.specs.Murmur.{m, left, turned, taken}

-- zero bytes behind a number don't change it
pub padded : (bs : List ℕ) → le_number (bs ++ (0 ∷ [])) ≡ le_number bs
unfolding le_number
padded [] = refl
padded (b ∷ bs) = rw (padded bs)

-- what is left, from the bytes as code has them: one to three, the missing ones 0
pub taken_none : (h : ℕ) (s : List ℕ) → length s ≡ 0 → taken h s ≡ h
unfolding taken
taken_none h [] e = refl
taken_none h (x ∷ s) e = absurd (omega arith)

pub taken_1 : (h : ℕ) (s : List ℕ) → length s ≡ 1 → taken h s ≡ left h (get_or s 0 0 ∷ 0 ∷ 0 ∷ 0 ∷ [])
unfolding taken
taken_1 h [] e = absurd (omega arith)
taken_1 h (x ∷ []) e =
    ap (λ (k : ℕ). wrap_mul (bit_xor h k) m) (sym (padded (x ∷ 0 ∷ 0 ∷ []) ∙ padded (x ∷ 0 ∷ []) ∙ padded (x ∷ [])))
taken_1 h (x ∷ y ∷ s) e = absurd (omega arith)

pub taken_2 : (h : ℕ) (s : List ℕ) → length s ≡ 2 → taken h s ≡ left h (get_or s 0 0 ∷ get_or s 1 0 ∷ 0 ∷ 0 ∷ [])
unfolding taken
taken_2 h [] e = absurd (omega arith)
taken_2 h (x ∷ []) e = absurd (omega arith)
taken_2 h (x ∷ y ∷ []) e =
    ap (λ (k : ℕ). wrap_mul (bit_xor h k) m) (sym (padded (x ∷ y ∷ 0 ∷ []) ∙ padded (x ∷ y ∷ [])))
taken_2 h (x ∷ y ∷ z ∷ s) e = absurd (omega arith)

pub taken_3 : (h : ℕ) (s : List ℕ) → length s ≡ 3
    → taken h s ≡ left h (get_or s 0 0 ∷ get_or s 1 0 ∷ get_or s 2 0 ∷ 0 ∷ [])
unfolding taken
taken_3 h [] e = absurd (omega arith)
taken_3 h (x ∷ []) e = absurd (omega arith)
taken_3 h (x ∷ y ∷ []) e = absurd (omega arith)
taken_3 h (x ∷ y ∷ z ∷ []) e = ap (λ (k : ℕ). wrap_mul (bit_xor h k) m) (sym (padded (x ∷ y ∷ z ∷ [])))
taken_3 h (x ∷ y ∷ z ∷ w ∷ s) e = absurd (omega arith)

-- the same where the library makes the number
pub taken_four : (h : ℕ) (s bs : List ℕ) {four : List ℕ} {x r : ℕ} → r ≡ wrap_mul (bit_xor h x) m → x ≡ from_le_bytes w32 four
    → four ≡ bs → length bs ≡ 4 → taken h s ≡ left h bs → r ≡ taken h s
taken_four h s bs q e f l t =
    q ∙ ap (λ (k : ℕ). wrap_mul (bit_xor h k) m) (e ∙ ap (from_le_bytes w32) f ∙ from_le w32 bs l) ∙ sym t

from_span : (s : List ℕ) (i n : ℕ) → drop i s ≡ read_span i n s ++ drop (i + n) s
unfolding read_span
from_span s i n = sym (rw (← drop-drop n i s) (take-append-drop n (drop i s)))

-- a turn: four bytes
pub taken-turn : (h : ℕ) (s : List ℕ) (i : ℕ) → i + 4 ≤ length s
    → taken h (drop i s) ≡ taken (turned h (le_number (read_span i 4 s))) (drop (i + 4) s)
unfolding taken
taken-turn h s i k = rw (from_span s i 4, span_4 i s k)

-- the four bytes of a turn, as the library cuts them
chunk_at : (n i : ℕ) (s d : List ℕ) → i < n → get_or (first_chunks 4 n s) i d ≡ read_span (4 * i) 4 s
unfolding read_span
chunk_at zero i s d h = absurd (omega arith)
chunk_at (suc n) zero s d h = refl
chunk_at (suc n) (suc i) s d h = chunk_at n i (drop 4 s) d (omega arith) ∙ rw drop-drop (ap (λ (k : ℕ). take 4 (drop k s)) (omega arith))

pub turn_on : (h : ℕ) (s : List ℕ) (i : ℕ) (d : List ℕ) {fours : List (List ℕ)} {x k : ℕ}
    → fours ≡ first_chunks 4 (length s / 4) s → i < length s / 4 → x ≡ from_le_bytes w32 (get_or fours i d)
    → k ≡ turned h x → taken h (drop (4 * i) s) ≡ taken k (drop (4 * (i + 1)) s)
turn_on h s i d e l q r =
    let room : 4 * i + 4 ≤ length s = omega arith in
    let next : 4 * i + 4 ≡ 4 * (i + 1) = omega arith in
    let n = q ∙ ap (λ (f : List (List ℕ)). from_le_bytes w32 (get_or f i d)) e ∙ ap (from_le_bytes w32)
    (chunk_at (length s / 4) i s d l) ∙ from_le w32 (read_span (4 * i) 4 s) (length_span (4 * i) 4 s room) in
    let t = ap (turned h) (sym n) ∙ sym r in
    taken-turn h s (4 * i) room ∙ (λ j. taken (t j) (drop (next j) s))

-- ---- the last one to three of four bytes, from the number of all four

shift_1 : (a b c d : ℕ) → a < 256 → b < 256 → c < 256 → le_number (a ∷ b ∷ c ∷ d ∷ []) / 16777216 ≡ le_number
    (d ∷ 0 ∷ 0 ∷ 0 ∷ [])
unfolding le_number
shift_1 a b c d f g h = omega arith

shift_2 : (a b c d : ℕ) → a < 256 → b < 256 → c < 256 → le_number (a ∷ b ∷ c ∷ d ∷ []) / 65536 ≡ le_number
    (c ∷ d ∷ 0 ∷ 0 ∷ [])
unfolding le_number
shift_2 a b c d f g h = omega arith

shift_3 : (a b c d : ℕ) → a < 256 → le_number (a ∷ b ∷ c ∷ d ∷ []) / 256 ≡ le_number (b ∷ c ∷ d ∷ 0 ∷ [])
unfolding le_number
shift_3 a b c d f = omega arith

-- what is behind the last whole four, from the last four of the key
pub taken_tail : (h : ℕ) (s : List ℕ) (k : ℕ) → ((i : ℕ) → get_or s i 0 < 256) → 4 ≤ length s → 0 < k → k < 4
    → wrap_mul (bit_xor h (le_number (read_span (length s - 4) 4 s) / 2 ^ (32 - 8 * k))) m ≡ taken h (drop (length s - k) s)
taken_tail h s zero f l z u = absurd (omega arith)
taken_tail h s (suc zero) f l z u =
    let p = length s - 4 in
    let e : le_number (read_span p 4 s) / 16777216 ≡ le_number (get_or s (p + 3) 0 ∷ 0 ∷ 0 ∷ 0 ∷ []) =
    rw (span_4 p s (omega arith)) (shift_1 _ _ _ _ (f p) (f (p + 1)) (f (p + 2))) in
    let q : length s - 1 ≡ p + 3 = omega arith in
    rw (q, e) (sym (taken_1 h (drop (p + 3) s) (simp length-drop (omega arith)) ∙ simp (get_or-drop, add-zero)))
taken_tail h s (suc (suc zero)) f l z u =
    let p = length s - 4 in
    let e : le_number (read_span p 4 s) / 65536 ≡ le_number (get_or s (p + 2) 0 ∷ get_or s (p + 3) 0 ∷ 0 ∷ 0 ∷ []) =
    rw (span_4 p s (omega arith)) (shift_2 _ _ _ _ (f p) (f (p + 1)) (f (p + 2))) in
    let q : length s - 2 ≡ p + 2 = omega arith in
    rw (q, e) (sym (taken_2 h (drop (p + 2) s) (simp length-drop (omega arith)) ∙ simp
    (get_or-drop, add-zero, add_assoc)))
taken_tail h s (suc (suc (suc zero))) f l z u =
    let p = length s - 4 in
    let e : le_number (read_span p 4 s) / 256 ≡ le_number (get_or s (p + 1) 0 ∷ get_or s (p + 2) 0 ∷ get_or s (p + 3) 0 ∷ 0 ∷ []) =
    rw (span_4 p s (omega arith)) (shift_3 _ _ _ _ (f p)) in
    let q : length s - 3 ≡ p + 1 = omega arith in
    rw (q, e) (sym (taken_3 h (drop (p + 1) s) (simp length-drop (omega arith)) ∙ simp
    (get_or-drop, add-zero, add_assoc)))
taken_tail h s (suc (suc (suc (suc k)))) f l z u = absurd (omega arith)
