-- RULES M. Document 01, "Buckets": bucket b is words 2b and 2b + 1 of the lent table, record address and hash; the
-- standing table has L buckets from bucket `first` on, at the front or at the back of the T lent ones.
use Rattle.std.specs.Prelude.{ℕ, zero, suc, ◌+◌, ◌-◌, ◌*◌, Bool, cond, List, [], ◌∷◌, leb, eqb, get_or}
use Rattle.limits.specs.Limits.{null_address}
use Rattle.spans.specs.Span.{overwrite}

-- RULES M1. A bucket's record address.
abbrev pub address_at : List ℕ → ℕ → ℕ
address_at t b = get_or t (2 * b) 0

-- RULES M1. And its hash.
abbrev pub hash_at : List ℕ → ℕ → ℕ
hash_at t b = get_or t (2 * b + 1) 0

-- RULES M2. Empty exactly when its address is null.
abbrev pub empty_at : List ℕ → ℕ → Bool
empty_at t b = eqb (address_at t b) null_address

-- RULES M1. Bucket b written.
unfoldable pub with_bucket : ℕ → ℕ → ℕ → List ℕ → List ℕ
unfolding overwrite
with_bucket b address hash t = overwrite (2 * b) (address ∷ hash ∷ []) t

-- RULES M2. The words of n empty buckets, each (null, 0).
unfoldable pub empty_buckets : ℕ → List ℕ
empty_buckets zero = []
empty_buckets (suc n) = null_address ∷ 0 ∷ empty_buckets n

-- RULES M2, C3. n empty buckets written from bucket b on.
unfoldable pub cleared : ℕ → ℕ → List ℕ → List ℕ
unfolding empty_buckets overwrite
cleared b n t = overwrite (2 * b) (empty_buckets n) t

-- RULES M3. The first bucket of a table of l buckets at the back, or at the front, of t lent ones.
abbrev pub first_bucket : Bool → ℕ → ℕ → ℕ
first_bucket back t l = cond back (t - l) 0

-- RULES M6. "The table is saturated when L ≤ 2 × keys."
abbrev pub saturated : ℕ → ℕ → Bool
saturated l keys = leb l (2 * keys)
