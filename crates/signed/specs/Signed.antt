-- RULES AB1 to AB3. Document 02, Four: signed 32-bit readings, the difference of one from the one before it, and the
-- unsigned number that it is stored as. pos n is n, and negsuc n is -n - 1.
use Rattle.std.specs.Prelude.{ℕ, ◌-◌, ◌+◌, ◌*◌, ◌/◌, ◌%◌, ◌^◌, ◌<◌, cond, ltb, eqb, ℤ, pos, negsuc, ◌+ℤ◌, ◌-ℤ◌}
use Rattle.std.specs.Int.Signed.{mag}

-- RULES AB1. A signed 32-bit number: -2^31 (negsuc (2^31 - 1)) to 2^31 - 1.
abbrev pub Signed32 : ℤ → Type 0
Signed32 z = mag z < 2 ^ 31

-- RULES AB2. "modulo 2^32": 0 to 2^32 - 1.
abbrev pub modulo : ℤ → ℕ
modulo (pos n) = n % 2 ^ 32
modulo (negsuc n) = 2 ^ 32 - 1 - n % 2 ^ 32

-- RULES AB2. "and taken as signed".
abbrev pub as_signed : ℕ → ℤ
as_signed n = cond (ltb n (2 ^ 31)) (pos n) (negsuc (2 ^ 32 - 1 - n))

-- RULES AB2. "each next as the difference from the one before it, modulo 2^32 and taken as signed".
abbrev pub difference : ℤ → ℤ → ℤ
difference last new = as_signed (modulo (new -ℤ last))

-- RULES AB2. The reading that has this difference from the one before it.
abbrev pub following : ℤ → ℤ → ℤ
following last d = as_signed (modulo (last +ℤ d))

-- RULES AB3. "negative differences d become -2d - 1 and the others 2d": -2 (-n - 1) - 1 is 2n + 1.
abbrev pub stored : ℤ → ℕ
stored (pos n) = 2 * n
stored (negsuc n) = 2 * n + 1

-- RULES AB3. The difference that a number stands for.
abbrev pub unstored : ℕ → ℤ
unstored u = cond (eqb (u % 2) 0) (pos (u / 2)) (negsuc (u / 2))
