-- Words of a table, one by one. Assumes nothing.
use Prim.Native.Nat.{ℕ, zero, suc, ◌+◌, ◌*◌, ◌≤◌, ◌<◌}
use mathlib.Core.Path.{◌≡◌, refl, sym, ap, ◌∙◌}
use mathlib.Core.Logic.{◌⊎◌, inl, inr, ◌≢◌}
use mathlib.Core.List.{List, [], ◌∷◌}
use native.Mathlib.Nat.{add-zero}
use native.Mathlib.Decide.{dec_le}
use native.Mathlib.Omega.{arith}
use lib.ListN.{length, get_or}
use Rattle.spans.specs.Span.{read_span, overwrite, Apart}
use Rattle.spans.proofs.Laws.{read_written, read-apart, span_at}
use Rattle.shared_arena_hashmap.specs.Buckets.{address_at, hash_at, with_bucket, empty_buckets, cleared}
use Rattle.limits.specs.Limits.{null_address}

-- a word of what was written, and a word apart from it
pub word_written : (p i : ℕ) (bs m : List ℕ) → i < length bs → p + length bs ≤ length m
    → get_or (overwrite p bs m) (p + i) 0 ≡ get_or bs i 0
word_written p i bs m h k =
    sym (span_at p (length bs) i (overwrite p bs m) h) ∙ ap (λ (l : List ℕ). get_or l i 0) (read_written p bs m k)

pub word-apart : (p q : ℕ) (bs m : List ℕ) → (q < p) ⊎ (p + length bs ≤ q) → get_or (overwrite p bs m) q 0 ≡ get_or m q 0
word-apart p q bs m d =
    one (overwrite p bs m) ∙ ap (λ (l : List ℕ). get_or l 0 0) (read-apart q 1 p bs m (apart d)) ∙ sym (one m)
  where
    one : (m : List ℕ) → get_or m q 0 ≡ get_or (read_span q 1 m) 0 0
    one m = rw (span_at q 1 0 m (omega arith), add-zero)

    apart : (q < p) ⊎ (p + length bs ≤ q) → Apart p (length bs) q 1
    apart (inl h) = inr (omega arith)
    apart (inr h) = inl h

-- ---- a bucket written

module _ (b address hash : ℕ) (t : List ℕ) where
  pub bucket-word : (q : ℕ) → (q < 2 * b) ⊎ (2 * b + 2 ≤ q) → get_or (with_bucket b address hash t) q 0 ≡ get_or t q 0
  unfolding with_bucket
  bucket-word q d = word-apart (2 * b) q (address ∷ hash ∷ []) t d

  pub bucket_address : 2 * b + 2 ≤ length t → address_at (with_bucket b address hash t) b ≡ address
  unfolding with_bucket
  bucket_address h = rw add-zero at (word_written (2 * b) 0 (address ∷ hash ∷ []) t (omega arith) h)

  pub bucket_hash : 2 * b + 2 ≤ length t → hash_at (with_bucket b address hash t) b ≡ hash
  unfolding with_bucket
  bucket_hash h = word_written (2 * b) 1 (address ∷ hash ∷ []) t (omega arith) h

  -- every other bucket is as it was
  pub bucket_other : (c : ℕ) → c ≢ b
      → (address_at (with_bucket b address hash t) c ≡ address_at t c)
      × (hash_at (with_bucket b address hash t) c ≡ hash_at t c)
  bucket_other c n = go (dec_le c b)
    where
      go : Dec (c ≤ b)
          → (address_at (with_bucket b address hash t) c ≡ address_at t c)
          × (hash_at (with_bucket b address hash t) c ≡ hash_at t c)
      go (yes h) = (bucket-word (2 * c) (inl (omega arith)), bucket-word (2 * c + 1) (inl (omega arith)))
      go (no h) = (bucket-word (2 * c) (inr (omega arith)), bucket-word (2 * c + 1) (inr (omega arith)))

-- ---- empty buckets written

pub length_empty : (n : ℕ) → length (empty_buckets n) ≡ 2 * n
unfolding empty_buckets
length_empty zero = refl
length_empty (suc n) = omega (arith, length_empty n)

empty_address : (n i : ℕ) → i < n → get_or (empty_buckets n) (2 * i) 0 ≡ null_address
unfolding empty_buckets
empty_address zero i h = absurd (omega arith)
empty_address (suc n) zero h = refl
empty_address (suc n) (suc i) h =
    let s : 2 * suc i ≡ suc (suc (2 * i)) = omega arith in
    rw s (empty_address n i (omega arith))

pub clear_address : (b l : ℕ) (t : List ℕ) (i : ℕ) → i < l → 2 * (b + l) ≤ length t
    → address_at (cleared b l t) (b + i) ≡ null_address
unfolding cleared
clear_address b l t i h k =
    let s : 2 * (b + i) ≡ 2 * b + 2 * i = omega arith in
    rw s
    (word_written (2 * b) (2 * i) (empty_buckets l) t (omega (arith, length_empty l)) (omega (arith, length_empty l))
    ∙ empty_address l i h)
