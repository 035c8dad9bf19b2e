-- RULES C1, Q2. Document 01, "Buckets": "Creation rounds the capacity down to a power of two."
use Rattle.std.specs.Prelude.{ℕ, zero, suc, ◌*◌, max, Bool, cond, leb, eqb}

-- RULES C1. p doubled while twice it is at most c, up to n times.
unfoldable pub doubled : ℕ → ℕ → ℕ → ℕ
doubled zero c p = p
doubled (suc n) c p = cond (leb (2 * p) c) (doubled n c (2 * p)) p

-- RULES C1. The largest power of two that is at most c, for c from 1; a capacity has 64 bits.
unfoldable pub rounded_down : ℕ → ℕ
unfolding doubled
rounded_down c = doubled 64 c 1

-- RULES C1, B5. "L is a power of two": rounding leaves it as it is.
unfoldable pub power_of_two : ℕ → Bool
unfolding rounded_down
power_of_two l = eqb (rounded_down l) l

-- RULES Q2. "The new length is max(2L, 8)."
abbrev pub grown_length : ℕ → ℕ
grown_length l = max (2 * l) 8
