-- RULES AD. Document 02, Six: "a reading that goes on where it stopped, with any output of at least 1 byte (else 8),
-- told by the count given out so far; a count above the lane's length is refusal 2. It meets the blocks up to the last
-- it gives bytes of."
use Rattle.std.specs.Prelude.{ℕ, zero, suc, ◌+◌, ◌-◌, min, cond, List, leb, ltb, eqb, length}
use Rattle.spans.specs.Span.{read_span, overwrite}
use Rattle.memory_arena.specs.declared.Arena.{Arena}
use Rattle.expull_header.specs.declared.Header.{Header}
use Rattle.expull_header.specs.Header.{full_bytes, lane_length}
use Rattle.expull_walk.specs.Blocks.{good_blocks, lane_bytes}
use Rattle.store_state.specs.declared.State.{State}
use Rattle.store_look.specs.declared.Lookup.{Lookup}
use Rattle.store_look.specs.declared.Lookup.TheVariants.{At, Missing, Failed}
use Rattle.records.specs.Record.{header_of, header_sound}
use Rattle.store_look.specs.Look.{Lent, lookup_of}
use Rattle.lane_pieces.specs.declared.Pieced.{Pieced}
use Rattle.lane_pieces.specs.declared.Pieced.TheVariants.{Absent, Given, Refused}

-- ---- which blocks a piece meets

-- RULES AD2. The block in which byte g of a lane lies, both counted from 0: block i or one of the f behind it
unfoldable pub block_from : ℕ → ℕ → ℕ → ℕ
unfolding full_bytes
block_from zero i g = i
block_from (suc f) i g = cond (ltb g (full_bytes (suc i))) i (block_from f (suc i) g)

-- RULES AD2. Each block holds a byte at least, so it is block g at the latest.
abbrev pub block_holding : ℕ → ℕ
block_holding g = block_from g 0 g

-- RULES AD2. "It meets the blocks up to the last it gives bytes of": how many, for n bytes behind those given; none
-- where it gives none.
unfoldable pub blocks_met : ℕ → ℕ → ℕ
unfolding block_from
blocks_met given n = cond (eqb n 0) 0 (suc (block_holding (given + n - 1)))

-- ---- a piece

-- RULES AD1. How many bytes it gives: as many as the output has places, or as are left.
abbrev pub piece_length : Header → ℕ → ℕ → ℕ
piece_length h given places = min places (lane_length h - given)

-- RULES AD1. The answer, and the lent output as the call leaves it.
pub record Out : Type 0 where
  pub answer : Pieced
  pub output : List ℕ

-- RULES AD1. Both put together.
abbrev pub out : Pieced → List ℕ → Out
out r o = record { answer = r; output = o }

-- RULES AD1. N bytes of the lane behind those given so far, at the front of the output, and no byte after them.
abbrev pub gives : List ℕ → Header → ℕ → ℕ → List ℕ → Out
gives lists h given n output = out (Given n) (overwrite 0 (read_span given n (lane_bytes lists h)) output)

-- RULES AD3. Of a standing lane: header (4), count (2), the blocks that it meets (4), a place at least (8).
unfoldable pub piece_at : Arena → List ℕ → List ℕ → ℕ → ℕ → List ℕ → Out
unfolding header_sound lane_length good_blocks lane_bytes read_span overwrite blocks_met
piece_at a keys lists given at output =
    cond (header_sound keys at)
    (cond (leb given (lane_length (header_of keys at)))
    (cond (good_blocks a lists (header_of keys at).head
    (blocks_met given (piece_length (header_of keys at) given (length output))))
    (cond (leb 1 (length output))
    (gives lists (header_of keys at) given (piece_length (header_of keys at) given (length output)) output)
    (out (Refused 8 (lane_length (header_of keys at))) output))
    (out (Refused 4 0) output))
    (out (Refused 2 0) output))
    (out (Refused 4 0) output)

-- RULES AD3. The answer to a lookup that found no record.
abbrev pub not_found : Lookup → Pieced
not_found (At at) = Absent
not_found Missing = Absent
not_found (Failed n) = Refused n 0

-- RULES AD3. An absent lane, whatever the output; a refused lookup; else what the lane of the record at a place gives.
abbrev pub on_lookup : Lookup → (ℕ → Out) → List ℕ → Out
on_lookup (At at) k output = k at
on_lookup Missing k output = out Absent output
on_lookup (Failed n) k output = out (Refused n 0) output

-- RULES AD1. The call.
unfoldable pub piece_of : State → Lent → List ℕ → ℕ → List ℕ → Out
unfolding lookup_of piece_at
piece_of st m name given output =
    on_lookup (lookup_of st m name) (λ at. piece_at st.list_arena m.keys m.lists given at output) output
