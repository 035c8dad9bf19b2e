-- RULES U, R5. Document 01, "Lists": walking a list's blocks from its head, its reading, and finding a block. Block
-- i, from 0, has block number i + 3.
use Rattle.std.specs.Prelude.{ℕ, zero, suc, ◌+◌, ◌-◌, Bool, true, cond, ◌&&◌, List, [], ◌++◌, Option, Some, None, Result, Ok, Err, leb, eqb}
use Rattle.limits.specs.Limits.{fresh_number, link_size}
use Rattle.limits.specs.declared.Refusal.{Refusal}
use Rattle.limits.specs.declared.Refusal.TheVariants.{Damage}
use Rattle.numbers.specs.LittleEndian.{le_number}
use Rattle.spans.specs.Span.{read_span}
use Rattle.memory_arena.specs.declared.Arena.{Arena}
use Rattle.memory_arena.specs.Pages.{good_span}
use Rattle.expull_header.specs.declared.Header.{Header}
use Rattle.expull_walk.specs.declared.Block.{Block}
use Rattle.expull_header.specs.Header.{block_size, block_count}

-- RULES R5. Block i's address: the head, then each block's link.
unfoldable pub block_place : List ℕ → ℕ → ℕ → ℕ
unfolding le_number read_span block_size
block_place m head zero = head
block_place m head (suc i) = le_number (read_span (block_place m head i + block_size (i + 3)) link_size m)

-- RULES U1, W5. The first k blocks, bytes and link, are good spans.
unfoldable pub good_blocks : Arena → List ℕ → ℕ → ℕ → Bool
unfolding block_place good_span
good_blocks a m head zero = true
good_blocks a m head (suc k) = good_blocks a m head k && good_span a (block_place m head k) (block_size (k + 3) + link_size)

-- RULES U2. The bytes of the first k blocks, full.
unfoldable pub full_blocks : List ℕ → ℕ → ℕ → List ℕ
unfolding block_place
full_blocks m head zero = []
full_blocks m head (suc k) = full_blocks m head k ++ read_span (block_place m head k) (block_size (k + 3)) m

-- RULES U2. A lane's bytes: the full blocks before the last, and the last as far as it is written.
unfoldable pub lane_bytes : List ℕ → Header → List ℕ
unfolding full_blocks
lane_bytes m h =
    cond (eqb h.number fresh_number) []
    (full_blocks m h.head (block_count h - 1) ++ read_span (block_place m h.head (block_count h - 1))
    (block_size h.number - h.remaining) m)

-- RULES U3. Block i's bytes: the last one's only as far as it is written.
unfoldable pub block_length : Header → ℕ → ℕ
unfolding block_size
block_length h i = cond (eqb (i + 1) (block_count h)) (block_size h.number - h.remaining) (block_size (i + 3))

-- RULES U3. Block i, as it is told.
abbrev pub block_told : List ℕ → Header → ℕ → Block
block_told m h i = record { at = block_place m h.head i; length = block_length h i }

-- RULES U4, W5. Finding block i: past the last no block is met; else those up to it are.
unfoldable pub block_of : Arena → List ℕ → Header → ℕ → Result (Option Block) Refusal
unfolding good_blocks block_length
block_of a m h i =
    cond (leb (block_count h) i) (Ok None)
    (cond (good_blocks a m h.head (i + 1)) (Ok (Some (block_told m h i))) (Err Damage))

-- RULES U1. Walking along n blocks: where the next one is, or that one on the way isn't a good span.
unfoldable pub walk_of : Arena → List ℕ → ℕ → ℕ → Option ℕ
unfolding good_blocks
walk_of a m head n = cond (good_blocks a m head n) (Some (block_place m head n)) None

-- RULES U1, W5. Block i's address, where it and those before it are good spans.
unfoldable pub place_of : Arena → List ℕ → ℕ → ℕ → Option ℕ
unfolding good_blocks
place_of a m head i = cond (good_blocks a m head (i + 1)) (Some (block_place m head i)) None
