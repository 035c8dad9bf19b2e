-- RULES J. MurmurHash2, 32 bits, from the public algorithm as document 01 gives it ("Hash and vint"), line by line.
use Rattle.std.specs.Prelude.{ℕ, ◌/◌, ◌%◌, ◌^◌, List, [], ◌∷◌, length}
use Rattle.std.specs.Int.Bits.{bit_xor}
use Rattle.numbers.specs.Wrap.{wrap_mul}
use Rattle.numbers.specs.LittleEndian.{le_number}

-- RULES J1. m = 0x5BD1E995.
abbrev pub m : ℕ
m = 0x5BD1E995

-- RULES J1. A number XORed with itself shifted right by s.
abbrev pub shift_xor : ℕ → ℕ → ℕ
shift_xor s h = bit_xor h (h / 2 ^ s)

-- RULES J3. k is multiplied modulo 2^32 by m, XORed with itself shifted right 24, multiplied by m.
unfoldable pub mixed : ℕ → ℕ
mixed k = wrap_mul (shift_xor 24 (wrap_mul k m)) m

-- RULES J3. h is multiplied by m, then XORed with k.
unfoldable pub turned : ℕ → ℕ → ℕ
unfolding mixed
turned h k = bit_xor (wrap_mul h m) (mixed k)

-- RULES J4. 1 to 3 bytes left: XORed into h as a little-endian number, and h is multiplied by m.
abbrev pub left : ℕ → List ℕ → ℕ
left h bs = wrap_mul (bit_xor h (le_number bs)) m

-- RULES J3, J4. Each whole 4 bytes, then what is left.
unfoldable pub taken : ℕ → List ℕ → ℕ
unfolding turned
taken h [] = h
taken h (a ∷ []) = left h (a ∷ [])
taken h (a ∷ b ∷ []) = left h (a ∷ b ∷ [])
taken h (a ∷ b ∷ c ∷ []) = left h (a ∷ b ∷ c ∷ [])
taken h (a ∷ b ∷ c ∷ d ∷ rest) = taken (turned h (le_number (a ∷ b ∷ c ∷ d ∷ []))) rest

-- RULES J5. Then h ^= h >> 13, h times m, h ^= h >> 15.
unfoldable pub ended : ℕ → ℕ
ended h = shift_xor 15 (wrap_mul (shift_xor 13 h) m)

-- RULES J2, J5. h = seed XOR length (modulo 2^32), then all of the above.
unfoldable pub murmur_hash2 : ℕ → List ℕ → ℕ
unfolding ended taken
murmur_hash2 seed key = ended (taken (bit_xor seed (length key % 2 ^ 32)) key)
