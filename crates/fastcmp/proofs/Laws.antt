-- Laws of the test of equality: what it says, byte by byte, and eight bytes at a time that cover the whole. Assumes
-- nothing.
use Prim.Native.Nat.{ℕ, ◌+◌, ◌≤◌, ◌<◌}
use mathlib.Core.Path.{◌≡◌, refl, sym, ap, ◌∙◌}
use mathlib.Core.Bool.{Bool, true, false, ◌&&◌, false≢true}
use mathlib.Core.List.{List, ◌++◌}
use native.Mathlib.Numerals.{add-one}
use native.Mathlib.Omega.{arith}
use lib.Dec.{eqb}
use lib.ListN.{length, take, drop, get_or, drop_of_length-le}
use lib.Seq.{drop-cons, take_all, take-take, take-add}
use borrow.Author.Tests.{eqb-true, eqb-false}
use Rattle.std.specs.Bool.{Decides}
use Rattle.std.specs.Cmp.Lexicographic.{pointwise}
use Rattle.std.proofs.Common.{rules}
use Rattle.std.proofs.lemmas.Bool.Decides.{same_from_decides, not_from_Decides, Decides-like}
use Rattle.std.proofs.lemmas.Slice.Eq.{compares_Decides, bytes_eq-Decides}
use Rattle.numbers.specs.LittleEndian.{le_number}
use Rattle.numbers.proofs.Laws.{le_same}
use Rattle.spans.specs.Span.{read_span}
use Rattle.spans.proofs.Laws.{length_span, span_bytes}
use Rattle.fastcmp.specs.Equal.{equal_bytes}

-- ---- what the test says

pub equal_decides : (a b : List ℕ) → Decides (equal_bytes a b) (a ≡ b)
unfolding equal_bytes
equal_decides a b = compares_Decides equal_bytes (search rules) a b

pub equal_true : (a b : List ℕ) → equal_bytes a b ≡ true → a ≡ b
equal_true a b = (equal_decides a b).0

pub equal_same : (a b : List ℕ) → a ≡ b → equal_bytes a b ≡ true
equal_same a b = (equal_decides a b).1

pub equal_refl : (a : List ℕ) → equal_bytes a a ≡ true
equal_refl a = equal_same a a refl

pub equal_false : (a b : List ℕ) → equal_bytes a b ≡ false → a ≡ b → ⊥
equal_false a b = not_from_Decides (equal_bytes a b) (equal_decides a b)

pub equal_not : (a b : List ℕ) → (a ≡ b → ⊥) → equal_bytes a b ≡ false
equal_not a b h =
    same_from_decides (equal_bytes a b) false (equal_decides a b) (λ e. absurd (false≢true e), λ p. absurd (h p))

-- lists of unequal lengths are not equal
pub equal_long : (a b : List ℕ) → (length a ≡ length b → ⊥) → equal_bytes a b ≡ false
equal_long a b h = equal_not a b (λ e. h (ap length e))

-- what is made of both in the same way differs: so do they
pub equal_under : (f : List ℕ → List ℕ) (a b : List ℕ) → equal_bytes (f a) (f b) ≡ false → equal_bytes a b ≡ false
equal_under f a b e = equal_not a b (λ p. equal_false (f a) (f b) e (ap f p))

-- two tests agree where the equalities that they test follow from each other
pub equal_both : (x y a b : List ℕ) → (x ≡ y → a ≡ b) → (a ≡ b → x ≡ y) → equal_bytes x y ≡ equal_bytes a b
equal_both x y a b f g =
    same_from_decides (equal_bytes x y) (equal_bytes a b) (equal_decides x y)
    (Decides-like (equal_bytes a b) g f (equal_decides a b))

-- the library's comparison is the same test
pub pointwise_same : (a b : List ℕ) → pointwise eqb a b ≡ equal_bytes a b
pointwise_same a b = same_from_decides (pointwise eqb a b) (equal_bytes a b) (bytes_eq-Decides a b) (equal_decides a b)

-- ---- byte by byte: the test from i on

pub equal_turn : (a b : List ℕ) (i : ℕ) → i < length a → i < length b
    → equal_bytes (drop i a) (drop i b) ≡ (eqb (get_or a i 0) (get_or b i 0) && equal_bytes (drop (i + 1) a) (drop (i + 1) b))
unfolding equal_bytes
equal_turn a b i h k = rw (add-one i, drop-cons a i 0 h, drop-cons b i 0 k)

pub equal_end : (a b : List ℕ) (i : ℕ) → length a ≤ i → length b ≤ i → equal_bytes (drop i a) (drop i b) ≡ true
unfolding equal_bytes
equal_end a b i h k = rw (drop_of_length-le a h, drop_of_length-le b k)

-- ---- eight bytes as one number

-- the span of eight from i in two lists of bytes, by its number
pub span_same : (a b : List ℕ) (i : ℕ) → ((k : ℕ) → get_or a k 0 < 256) → ((k : ℕ) → get_or b k 0 < 256)
    → i + 8 ≤ length a → i + 8 ≤ length b
    → le_number (read_span i 8 a) ≡ le_number (read_span i 8 b) → read_span i 8 a ≡ read_span i 8 b
span_same a b i f g h k e =
    le_same (read_span i 8 a) (read_span i 8 b) (span_bytes a i 8 f) (span_bytes b i 8 g)
    (length_span i 8 a h ∙ sym (length_span i 8 b k)) e

-- equal as far as i, and in the eight from j, which is i or before it: equal as far as those go
pub eight-on : (a b : List ℕ) (i j : ℕ) → j ≤ i → take i a ≡ take i b → read_span j 8 a ≡ read_span j 8 b
    → take (j + 8) a ≡ take (j + 8) b
unfolding read_span
eight-on a b i j h p q =
    let s : take j a ≡ take j b = sym (take-take j i a h) ∙ ap (take j) p ∙ take-take j i b h in
    take-add j 8 a ∙ (λ k. s k ++ q k) ∙ sym (take-add j 8 b)

-- the same by the numbers of the eight
pub eight_on : (a b : List ℕ) (i j : ℕ) → ((k : ℕ) → get_or a k 0 < 256) → ((k : ℕ) → get_or b k 0 < 256) → j ≤ i
    → j + 8 ≤ length a → length a ≡ length b → take i a ≡ take i b → {x y : ℕ} → x ≡ le_number (read_span j 8 a)
    → y ≡ le_number (read_span j 8 b) → x ≡ y → take (j + 8) a ≡ take (j + 8) b
eight_on a b i j f g h k l p q r e = eight-on a b i j h p (span_same a b j f g k (omega arith) (sym q ∙ e ∙ r))

-- the numbers differ: so do the lists
pub eight_not : (a b : List ℕ) (i : ℕ) {x y : ℕ} → x ≡ le_number (read_span i 8 a) → y ≡ le_number (read_span i 8 b)
    → (x ≡ y → ⊥) → equal_bytes a b ≡ false
eight_not a b i q r h = equal_not a b (λ e. h (q ∙ ap (λ (l : List ℕ). le_number (read_span i 8 l)) e ∙ sym r))

-- equal as far as i, and the last eight, which start there or before, have one number or not: that decides
pub eight_last : (a b : List ℕ) (i j : ℕ) → ((k : ℕ) → get_or a k 0 < 256) → ((k : ℕ) → get_or b k 0 < 256) → j ≤ i
    → j + 8 ≡ length a → length a ≡ length b → take i a ≡ take i b → {x y : ℕ} → x ≡ le_number (read_span j 8 a)
    → y ≡ le_number (read_span j 8 b) → eqb x y ≡ equal_bytes a b
eight_last a b i j f g h l n p {x} {y} q r = go (eqb x y) refl
  where
    go : (t : Bool) → eqb x y ≡ t → eqb x y ≡ equal_bytes a b
    go true e =
        let s : take (j + 8) a ≡ take (j + 8) b = eight_on a b i j f g h (omega arith) n p q r (eqb-true x y e) in
        e ∙ sym (equal_same a b (sym (take_all (j + 8) a (omega arith)) ∙ s ∙ take_all (j + 8) b (omega arith)))
    go false e = e ∙ sym (eight_not a b j q r (eqb-false x y e))
