-- RULES AD6. Blocks on from one in the middle of a lane, as the code goes along them: each by its number's index and
-- its place, the next by its link.
use Rattle.std.specs.Prelude.{ℕ, zero, suc, ◌+◌, ◌-◌, ◌≤◌, ◌<◌, ◌≡◌, Bool, true, cond, ◌&&◌, List, [], ◌++◌, length}
use Rattle.limits.specs.Limits.{number_limit, link_size}
use Rattle.numbers.specs.LittleEndian.{le_number}
use Rattle.spans.specs.Span.{read_span, overwrite}
use Rattle.memory_arena.specs.declared.Arena.{Arena}
use Rattle.memory_arena.specs.Pages.{good_span}
use Rattle.std.specs.Prelude.{Option, Some, None}
use Rattle.expull_header.specs.declared.Header.{Header}
use Rattle.expull_header.specs.Header.{block_size, full_bytes, sound_header, lane_length}
use Rattle.expull_walk.specs.Blocks.{good_blocks, lane_bytes}
use Rattle.lane_pieces.specs.Piece.{blocks_met}

-- RULES AD6. Where the block behind block i is, which lies at a place.
unfoldable pub next_place : List ℕ → ℕ → ℕ → ℕ
unfolding le_number read_span block_size
next_place m i place = le_number (read_span (place + block_size (i + 3)) link_size m)

-- RULES AD6. K blocks, block i at a place the first of them, are good spans with their links.
unfoldable pub good_on : Arena → List ℕ → ℕ → ℕ → ℕ → Bool
unfolding good_span next_place
good_on a m i place zero = true
good_on a m i place (suc k) =
    good_span a place (block_size (i + 3) + link_size) && good_on a m (suc i) (next_place m i place) k

-- RULES AD6. Their bytes, full.
unfoldable pub bytes_on : List ℕ → ℕ → ℕ → ℕ → List ℕ
unfolding next_place
bytes_on m i place zero = []
bytes_on m i place (suc k) = read_span place (block_size (i + 3)) m ++ bytes_on m (suc i) (next_place m i place) k

-- RULES AD6. How many those are.
unfoldable pub held_on : ℕ → ℕ → ℕ
unfolding block_size
held_on i zero = 0
held_on i (suc k) = block_size (i + 3) + held_on (suc i) k

-- RULES AD6. Where the last of them lies; where there is none, the place met before.
unfoldable pub last_on : List ℕ → ℕ → ℕ → ℕ → ℕ → ℕ
unfolding next_place
last_on m i place before zero = before
last_on m i place before (suc k) = last_on m (suc i) (next_place m i place) place k

-- RULES AD6. They lie in the memory, with their links.
abbrev pub LieOn : List ℕ → ℕ → ℕ → ℕ → Type 0
LieOn m i place zero = Unit {0}
LieOn m i place (suc k) =
    (place + (block_size (i + 3) + link_size) ≤ length m) × LieOn m (suc i) (next_place m i place) k

-- RULES AD6. N bytes behind `skip` of block `first`, which lies at a place, can be copied: they end before block `end`.
pub record Copyable (m : List ℕ) (first end place skip n room : ℕ) : Type 0 where
  pub few : end ≤ number_limit
  pub from : first ≤ end
  pub lie : LieOn m first place (end - first)
  pub within : skip ≤ block_size (first + 3)
  pub held : skip + n ≤ held_on first (end - first)
  pub space : n ≤ room

-- ---- n bytes behind those given so far, from a block on

-- RULES AD6. Where it came to, and the output as it leaves it.
pub record Went : Type 0 where
  pub walked : Option ℕ
  pub output : List ℕ

abbrev pub went : Option ℕ → List ℕ → Went
went w o = record { walked = w; output = o }

-- RULES AD6. The blocks from `first` on, which lies at a place, up to the last that it gives bytes of are met; then the
-- bytes stand at the front of the output.
unfoldable pub gone_on : Arena → List ℕ → ℕ → ℕ → ℕ → ℕ → List ℕ → Went
unfolding good_on bytes_on last_on read_span overwrite full_bytes blocks_met
gone_on a m first place given n output =
    cond (good_on a m first place (blocks_met given n - first))
    (went (Some (last_on m first place place (blocks_met given n - first)))
    (overwrite 0 (read_span (given - full_bytes first) n (bytes_on m first place (blocks_met given n - first))) output))
    (went None output)

-- RULES AD6. What is asked of it: block `first` is the one behind whose bytes those given end.
pub record Going (first given n room : ℕ) : Type 0 where
  pub after : full_bytes first ≤ given
  pub before : given ≤ full_bytes (suc first)
  pub some_bytes : 0 < n
  pub short : given + n ≤ 4587094008
  pub space : n ≤ room

-- ---- and from a lane's head on

-- RULES AD6. What is asked: n bytes of the lane behind those given, and room for them.
pub record Within (h : Header) (given n room : ℕ) : Type 0 where
  pub sound : sound_header h 0 ≡ true
  pub some_bytes : 0 < n
  pub in_lane : given + n ≤ lane_length h
  pub space : n ≤ room

-- RULES AD6. What is answered: whether the blocks up to the last of these bytes are good; then they stand at the front
-- of the output, else it is as it was.
pub record Put (a : Arena) (m : List ℕ) (h : Header) (given n : ℕ) (output : List ℕ) (r : Bool) (output' : List ℕ)
    : Type 0 where
  pub told : r ≡ good_blocks a m h.head (blocks_met given n)
  pub left : output' ≡ cond (good_blocks a m h.head (blocks_met given n))
      (overwrite 0 (read_span given n (lane_bytes m h)) output) output
