-- RULES Q. Document 01, "Buckets": entering a record in the first empty bucket of its probe, and growth: the new
-- table at the other end, all empty, and the old buckets re-entered in bucket order by their stored hashes.
use Rattle.std.specs.Prelude.{ℕ, zero, suc, ◌+◌, cond, List, eqb}
use Rattle.shared_arena_hashmap.specs.Buckets.{address_at, hash_at, empty_at, with_bucket, cleared}
use Rattle.shared_arena_hashmap.specs.Probe.{start_of, next_bucket}

-- RULES Q1. The first empty bucket among n from i; l where there is none.
unfoldable pub free_from : List ℕ → ℕ → ℕ → ℕ → ℕ → ℕ
free_from t first l zero i = l
free_from t first l (suc n) i = cond (empty_at t (first + i)) i (free_from t first l n (next_bucket l i))

-- RULES Q1. The first empty bucket of a hash's probe.
unfoldable pub free_of : List ℕ → ℕ → ℕ → ℕ → ℕ
unfolding free_from
free_of t first l hash = free_from t first l l (start_of l hash)

-- RULES Q1. A record entered; the table as it is where no bucket is empty.
unfoldable pub entered : ℕ → ℕ → ℕ → ℕ → List ℕ → List ℕ
unfolding free_of with_bucket
entered first l address hash t =
    cond (eqb (free_of t first l hash) l) t (with_bucket (first + free_of t first l hash) address hash t)

-- RULES Q4. Old bucket b re-entered.
unfoldable pub reentered : ℕ → ℕ → ℕ → List ℕ → List ℕ
unfolding entered
reentered b first l t = cond (empty_at t b) t (entered first l (address_at t b) (hash_at t b) t)

-- RULES Q4. n old buckets from b on, in bucket order.
unfoldable pub all_reentered : ℕ → ℕ → ℕ → ℕ → List ℕ → List ℕ
unfolding reentered
all_reentered zero b first l t = t
all_reentered (suc n) b first l t = all_reentered n (b + 1) first l (reentered b first l t)

-- RULES Q4. The table of n buckets from `old` on grown to l buckets from `first` on.
unfoldable pub grown : ℕ → ℕ → ℕ → ℕ → List ℕ → List ℕ
unfolding cleared all_reentered
grown n old first l t = all_reentered n old first l (cleared first l t)
