-- What is promised of vints beyond each call's own equation. One record, a field a sentence; proofs/Promises.antt has
-- its one value.
use Rattle.std.specs.Prelude.{ℕ, ◌%◌, ◌^◌, ◌≤◌, ◌<◌, ◌≡◌, List, ◌++◌, length, take}
use Rattle.limits.specs.Limits.{vint_limit}
use Rattle.numbers.specs.LittleEndian.{Bytes}
use Rattle.vint.specs.Vint.{number, write_vint, TopOnLast, ended, take_vint, read_vint, AcceptedFor}

-- RULES K5, K6. With it what K1 and K2 say of the writer.
pub record Promises : Type 0 where
  -- RULES K5. "A number written as a vint reads back as itself", whatever follows, and takes the bytes written.
  pub read_back : (n : ℕ) (rest : List ℕ) → n < 2 ^ 32 → read_vint (write_vint n ++ rest)
      ≡ number n (length (write_vint n))
  -- RULES K6. And what was read is written as the bytes that were taken: the two are inverse both ways.
  pub one_form : (bs : List ℕ) (n k : ℕ) → Bytes bs → read_vint bs ≡ number n k
      → (take k bs ≡ write_vint n) × (n < 2 ^ 32)
  -- RULES K6. "Each number has exactly one accepted form": at least this one, and no two.
  pub accepted : (n : ℕ) → n < 2 ^ 32 → AcceptedFor n (write_vint n)
  pub exactly_one : (n : ℕ) (a b : List ℕ) → Bytes a → Bytes b → AcceptedFor n a → AcceptedFor n b → a ≡ b
  -- RULES K2. "The writer answers the fewest bytes, 1 to 5": no vint is shorter whose groups make the number, accepted
  -- or not, nor one whose groups make it modulo 2^32.
  pub vint_length : (n : ℕ) → (1 ≤ length (write_vint n)) × (length (write_vint n) ≤ vint_limit)
  pub fewest : (bs : List ℕ) (v k : ℕ) → Bytes bs → take_vint vint_limit bs ≡ ended v k
      → length (write_vint (v % 2 ^ 32)) ≤ k
  -- RULES K1. "Top bit set on the last byte only."
  pub vint_bytes_lem : (n : ℕ) → n < 2 ^ 32 → Bytes (write_vint n) × TopOnLast (write_vint n)
