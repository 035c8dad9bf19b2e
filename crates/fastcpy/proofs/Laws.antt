-- Laws of copies: by parts, and by words, that cover the whole. Assumes nothing.
use Prim.Native.Nat.{ℕ, ◌+◌, ◌-◌, ◌*◌, ◌/◌, ◌≤◌, ◌<◌}
use mathlib.Core.Path.{◌≡◌, refl, sym, ap, ◌∙◌}
use mathlib.Core.List.{List, [], ◌∷◌, ◌++◌, append-nil}
use native.Mathlib.Omega.{arith}
use lib.ListN.{length, take, drop, get_or, set, length-drop, drop_of_length-le, take-append-drop}
use lib.Seq.{take-take, take_all, take-add}
use borrow.Rule.Slice.PartMut.{put_mid}
use Rattle.spans.specs.Span.{read_span, overwrite}
use Rattle.numbers.specs.LittleEndian.{le_number, le_bytes}
use Rattle.numbers.proofs.Laws.{le_back}
use Rattle.spans.proofs.Laws.{length-overwrite, length_span, span_bytes, read_written, read_before, overwrite-parts}
use Rattle.spans.proofs.Laws.{part_back}

-- ---- parts that cover the whole

-- the rest of a list, written over one as long that has its first elements already
pub overwrite-rest : (s m : List ℕ) (f : ℕ) → f ≤ length s → length s ≡ length m → take f m ≡ take f s
    → overwrite f (drop f s) m ≡ s
overwrite-rest s m f h l e =
    let n : f + length (drop f s) ≡ length m = simp length-drop (omega arith) in
    overwrite-parts f (drop f s) m (omega arith)
    ∙ rw (e, drop_of_length-le m {i = f + length (drop f s)} (omega arith), append-nil) (take-append-drop f s)

-- k elements of the source written at p, where the first p are the source's already: then the first p + k are
pub part_on : (s m : List ℕ) (p k : ℕ) → p + k ≤ length s → length s ≡ length m → take p m ≡ take p s
    → take (p + k) (overwrite p (read_span p k s) m) ≡ take (p + k) s
unfolding read_span
part_on s m p k h l e =
    let n : length (read_span p k s) ≡ k = length_span p k s h in
    let t : read_span p k (overwrite p (read_span p k s) m) ≡ read_span p k s =
    rw n at (read_written p (read_span p k s) m (omega (arith, n))) in
    let u : take p (overwrite p (read_span p k s) m) ≡ take p s =
    read_before 0 p p (read_span p k s) m (omega arith) ∙ e in
    take-add p k (overwrite p (read_span p k s) m) ∙ (λ j. u j ++ t j) ∙ sym (take-add p k s)

-- the same of a part that was lent, from p to e, and has come back as the source's
pub part_on_back : (s m ys : List ℕ) (p e : ℕ) → p ≤ e → e ≤ length s → length s ≡ length m → take p m ≡ take p s
    → ys ≡ take (e - p) (drop p s) → (length s ≡ length (put_mid p (e - p) m ys)) × (take e (put_mid p (e - p) m ys)
    ≡ take e s)
unfolding read_span
part_on_back s m ys p e h k l t q =
    let n : length (read_span p (e - p) s) ≡ e - p = length_span p (e - p) s (omega arith) in
    let z : p + (e - p) ≡ e = omega arith in
    rw (q, part_back m p e (read_span p (e - p) s) h (omega arith) n) (
      l ∙ sym (length-overwrite p (read_span p (e - p) s) m),
      rw z at (part_on s m p (e - p) (omega arith) l t),
    )

-- ---- words that cover the whole

-- a word of the source written at p, where the first p elements are the source's already: then the first p + 4 are
pub word_on : (s m : List ℕ) (i p x : ℕ) → ((k : ℕ) → get_or s k 0 < 256) → p ≤ i → p + 4 ≤ length s → length s
    ≡ length m → take i m ≡ take i s
    → x ≡ le_number (read_span p 4 s) → take (p + 4) (overwrite p (le_bytes 4 x) m) ≡ take (p + 4) s
word_on s m i p x f h k l e q =
    let n : length (read_span p 4 s) ≡ 4 = length_span p 4 s k in
    let w : le_bytes 4 x ≡ read_span p 4 s = ap (le_bytes 4) q ∙ ap (λ (w : ℕ). le_bytes w (le_number (read_span p 4 s)))
    (sym n) ∙ le_back (read_span p 4 s) (span_bytes s p 4 f) in
    rw w (part_on s m p 4 k l (sym (take-take p i m h) ∙ ap (take p) e ∙ take-take p i s h))

-- the four words of a copy
pub four_words : (s m : List ℕ) (n k a b c d : ℕ) → ((k : ℕ) → get_or s k 0 < 256) → n ≡ length s → length s
    ≡ length m → 4 ≤ n → n ≤ 16 → k ≡ (n - 1) / 8 * 4
    → a ≡ le_number (read_span 0 4 s) → b ≡ le_number (read_span k 4 s) → c ≡ le_number (read_span (n - 4 - k) 4 s) → d
    ≡ le_number (read_span (n - 4) 4 s)
    → overwrite (n - 4) (le_bytes 4 d) (overwrite (n - 4 - k) (le_bytes 4 c) (overwrite k (le_bytes 4 b) (overwrite 0
    (le_bytes 4 a) m))) ≡ s
four_words s m n k a b c d f e l h g q ea eb ec ed =
    let m1 = overwrite 0 (le_bytes 4 a) m in
    let m2 = overwrite k (le_bytes 4 b) m1 in
    let m3 = overwrite (n - 4 - k) (le_bytes 4 c) m2 in
    let m4 = overwrite (n - 4) (le_bytes 4 d) m3 in
    let l1 : length m1 ≡ length m = length-overwrite 0 (le_bytes 4 a) m in
    let l2 : length m2 ≡ length m1 = length-overwrite k (le_bytes 4 b) m1 in
    let l3 : length m3 ≡ length m2 = length-overwrite (n - 4 - k) (le_bytes 4 c) m2 in
    let l4 : length m4 ≡ length m3 = length-overwrite (n - 4) (le_bytes 4 d) m3 in
    let t1 : take (0 + 4) m1 ≡ take (0 + 4) s = word_on s m 0 0 a f (omega arith) (omega arith) (omega arith) refl ea in
    let t2 : take (k + 4) m2 ≡ take (k + 4) s = word_on s m1 4 k b f (omega arith) (omega arith) (omega arith) t1 eb in
    let t3 : take (n - 4 - k + 4) m3 ≡ take (n - 4 - k + 4) s = word_on s m2 (k + 4) (n - 4 - k) c f (omega arith)
    (omega arith) (omega arith) t2 ec in
    let t4 : take (n - 4 + 4) m4 ≡ take (n - 4 + 4) s = word_on s m3 (n - 4 - k + 4) (n - 4) d f (omega arith)
    (omega arith) (omega arith) t3 ed in
    sym (take_all (n - 4 + 4) m4 (omega arith)) ∙ t4 ∙ take_all (n - 4 + 4) s (omega arith)

-- one to three elements: the first, the middle one, the last
pub three-bytes : (s m : List ℕ) → 0 < length s → length s < 4 → length s ≡ length m
    → set (set (set m 0 (get_or s 0 0)) (length s / 2) (get_or s (length s / 2) 0)) (length s - 1) (get_or s
    (length s - 1) 0) ≡ s
three-bytes [] m z h l = absurd (omega arith)
three-bytes (x ∷ []) [] z h l = absurd (omega arith)
three-bytes (x ∷ []) (u ∷ []) z h l = refl
three-bytes (x ∷ []) (u ∷ v ∷ m) z h l = absurd (omega arith)
three-bytes (x ∷ y ∷ []) [] z h l = absurd (omega arith)
three-bytes (x ∷ y ∷ []) (u ∷ []) z h l = absurd (omega arith)
three-bytes (x ∷ y ∷ []) (u ∷ v ∷ []) z h l = refl
three-bytes (x ∷ y ∷ []) (u ∷ v ∷ w ∷ m) z h l = absurd (omega arith)
three-bytes (x ∷ y ∷ t ∷ []) [] z h l = absurd (omega arith)
three-bytes (x ∷ y ∷ t ∷ []) (u ∷ []) z h l = absurd (omega arith)
three-bytes (x ∷ y ∷ t ∷ []) (u ∷ v ∷ []) z h l = absurd (omega arith)
three-bytes (x ∷ y ∷ t ∷ []) (u ∷ v ∷ w ∷ []) z h l = refl
three-bytes (x ∷ y ∷ t ∷ []) (u ∷ v ∷ w ∷ o ∷ m) z h l = absurd (omega arith)
three-bytes (x ∷ y ∷ t ∷ r ∷ s) m z h l = absurd (omega arith)

-- none at all
pub no_bytes : (s m : List ℕ) → length s ≡ 0 → length s ≡ length m → m ≡ s
no_bytes [] [] z l = refl
no_bytes [] (y ∷ m) z l = absurd (omega arith)
no_bytes (x ∷ s) m z l = absurd (omega arith)
