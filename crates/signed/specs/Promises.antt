-- What is promised of readings' differences beyond each function's own equation. One record, a field a sentence;
-- proofs/Promises.antt has its one value.
use Rattle.std.specs.Prelude.{ℕ, ◌^◌, ◌<◌, ◌≡◌, ℤ}
use Rattle.signed.specs.Signed.{Signed32, difference, following, stored, unstored}

-- RULES AB2, AB3.
pub record Promises : Type 0 where
  -- decoding what was encoded gives the difference, of all of them; it is stored below 2^32, in a vint's reach
  pub unstored-stored : (d : ℤ) → unstored (stored d) ≡ d
  pub stored-fits : (d : ℤ) → Signed32 d → stored d < 2 ^ 32
  -- and no two numbers stand for one difference
  pub stored-unstored : (u : ℕ) → stored (unstored u) ≡ u
  pub unstored-fits : (u : ℕ) → u < 2 ^ 32 → Signed32 (unstored u)
  -- sums come back modulo 2^32: a reading is the one before it and their difference, for all pairs of readings
  pub following-difference : (last new : ℤ) → Signed32 last → Signed32 new
      → following last (difference last new) ≡ new
  pub difference-fits : (last new : ℤ) → Signed32 (difference last new)
