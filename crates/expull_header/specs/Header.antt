-- RULES R. Document 01, "Lists": the header of a list, its 16 bytes, block sizes, which headers are damage, and a
-- lane's length from its header alone.
use Rattle.std.specs.Prelude.{ℕ, zero, suc, ◌+◌, ◌-◌, ◌*◌, ◌^◌, min, Bool, cond, ◌&&◌, not, List, ◌++◌, leb, eqb}
use Rattle.limits.specs.Limits.{null_address, fresh_number, number_limit, size_top, link_size}
use Rattle.numbers.specs.LittleEndian.{le_number, le_bytes}
use Rattle.spans.specs.Span.{read_span}
use Rattle.expull_header.specs.declared.Header.{Header}

-- RULES R3. "Block b, from 3 up, holds 2^min(b,15) bytes".
unfoldable pub block_size : ℕ → ℕ
block_size b = 2 ^ min b size_top

-- RULES R2. "Fresh: 2, null, null, 0."
abbrev pub fresh : Header
fresh = record { number = fresh_number; head = null_address; tail = null_address; remaining = 0 }

-- RULES R1. "16 bytes little-endian: block number 4, head 4, tail 4, remaining 2, two zero bytes".
unfoldable pub header_bytes : Header → List ℕ
unfolding le_bytes
header_bytes h =
    le_bytes 4 h.number ++ (le_bytes 4 h.head ++ (le_bytes 4 h.tail ++ (le_bytes 2 h.remaining ++ le_bytes 2 0)))

-- RULES R1. The header at a place.
unfoldable pub header_at : ℕ → List ℕ → Header
unfolding le_number read_span
header_at p m = record {
  number = le_number (read_span p 4 m);
  head = le_number (read_span (p + 4) 4 m);
  tail = le_number (read_span (p + 8) 4 m);
  remaining = le_number (read_span (p + 12) 2 m);
}

-- RULES R1. And the number that its two end bytes make.
unfoldable pub end_bytes_at : ℕ → List ℕ → ℕ
unfolding le_number read_span
end_bytes_at p m = le_number (read_span (p + 14) 2 m)

-- RULES R8, W3. A header that isn't damage: block number 2 to 140,000; with 2 null head, null tail and remaining 0,
-- else a head that isn't null and remaining at most the last block's size; zero end bytes.
unfoldable pub sound_header : Header → ℕ → Bool
unfolding block_size
sound_header h ends =
    leb fresh_number h.number
    && leb h.number number_limit
    && cond (eqb h.number fresh_number)
    (eqb h.head null_address && eqb h.tail null_address && eqb h.remaining 0)
    (not (eqb h.head null_address) && leb h.remaining (block_size h.number))
    && eqb ends 0

-- RULES R4. How many blocks a list has: its block number counts them from 2.
abbrev pub block_count : Header → ℕ
block_count h = h.number - fresh_number

-- RULES R6. What the first k blocks hold.
unfoldable pub full_bytes : ℕ → ℕ
unfolding block_size
full_bytes zero = 0
full_bytes (suc k) = full_bytes k + block_size (k + 3)

-- RULES R6, Y9. What the first k blocks take of the list pages, each with its link, page tails not counted.
abbrev pub taken_bytes : ℕ → ℕ
taken_bytes k = full_bytes k + link_size * k

-- RULES R7. "A lane's length is the sum of the full blocks before the last, plus last size minus remaining."
unfoldable pub lane_length : Header → ℕ
unfolding full_bytes
lane_length h =
    cond (eqb h.number fresh_number) 0 (full_bytes (block_count h - 1) + (block_size h.number - h.remaining))
