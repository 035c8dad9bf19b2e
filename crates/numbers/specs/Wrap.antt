-- RULES E5. Sums and products modulo 2^32 (document 01, "The shape of some places").
use Rattle.std.specs.Prelude.{ℕ, ◌+◌, ◌*◌, ◌%◌, ◌^◌}

-- RULES E5, F3. The sum.
abbrev pub wrap_add : ℕ → ℕ → ℕ
wrap_add a b = (a + b) % 2 ^ 32

-- RULES E5. The product.
abbrev pub wrap_mul : ℕ → ℕ → ℕ
wrap_mul a b = a * b % 2 ^ 32
