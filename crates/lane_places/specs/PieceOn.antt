-- RULES AD9. A piece from a place that the last one handed back: its definition on any memory.
use Rattle.std.specs.Prelude.{ℕ, suc, ◌+◌, ◌-◌, Bool, cond, ◌&&◌, List, leb, eqb, length}
use Rattle.spans.specs.Span.{read_span, overwrite}
use Rattle.memory_arena.specs.declared.Arena.{Arena}
use Rattle.expull_header.specs.declared.Header.{Header}
use Rattle.expull_header.specs.Header.{full_bytes, lane_length}
use Rattle.store_state.specs.declared.State.{State}
use Rattle.store_look.specs.declared.Lookup.{Lookup}
use Rattle.store_look.specs.declared.Lookup.TheVariants.{At, Missing, Failed}
use Rattle.records.specs.Record.{header_of, header_sound}
use Rattle.store_look.specs.Look.{Lent, lookup_of}
use Rattle.lane_pieces.specs.declared.Pieced.{Pieced}
use Rattle.lane_pieces.specs.declared.Pieced.TheVariants.{Absent, Given, Refused}
use Rattle.lane_pieces.specs.Piece.{blocks_met, piece_length}
use Rattle.lane_pieces.specs.Onward.{good_on, bytes_on, last_on}
use Rattle.lane_places.specs.declared.Place.{Place}
use Rattle.lane_places.specs.declared.Onward.{Onward}

-- RULES AD9. The place before a lane's first byte.
abbrev pub beginning : Place
beginning = record { index = 0; block = 0; given = 0 }

-- RULES AD9. The bytes given so far can end in the block of that index.
unfoldable pub ends_there : Place → Bool
unfolding full_bytes
ends_there p = leb (full_bytes p.index) p.given && leb p.given (full_bytes (suc p.index))

-- RULES AD9. And their count isn't above the lane's length.
abbrev pub fits_length : Place → ℕ → Bool
fits_length p n = leb p.given n && ends_there p

-- RULES AD9. Where its block lies: the first one where the header says, any other where the place says.
abbrev pub block_at : Header → Place → ℕ
block_at h p = cond (eqb p.index 0) h.head p.block

-- RULES AD9. How many blocks are met from there on, for n bytes.
abbrev pub met_on : Place → ℕ → ℕ
met_on p n = blocks_met p.given n - p.index

-- RULES AD9. The answer, the place to go on from, and the lent output as the call leaves it.
pub record Out : Type 0 where
  pub answer : Pieced
  pub place : Place
  pub output : List ℕ

-- RULES AD9. All three put together.
abbrev pub out : Pieced → Place → List ℕ → Out
out r p o = record { answer = r; place = p; output = o }

-- RULES AD9. Of the answer that the call gives.
abbrev pub out_of : Onward → List ℕ → Out
out_of r o = out r.answer r.place o

-- RULES AD9. N bytes given: then they end in the block of the last of them.
abbrev pub place_after : List ℕ → Header → Place → ℕ → Place
place_after lists h p n = cond (eqb n 0) p (record {
  index = blocks_met p.given n - 1;
  block = last_on lists p.index (block_at h p) (block_at h p) (met_on p n);
  given = p.given + n;
})

-- RULES AD9. The bytes behind those given so far, of the blocks from the place on.
abbrev pub bytes_after : List ℕ → Header → Place → ℕ → List ℕ
bytes_after lists h p n =
    read_span (p.given - full_bytes p.index) n (bytes_on lists p.index (block_at h p) (met_on p n))

-- RULES AD9. N bytes from a place on: the blocks from there up to the last of them are met (4), then they are given.
unfoldable pub gone_from : Arena → List ℕ → Header → Place → ℕ → List ℕ → Out
unfolding good_on bytes_on last_on read_span overwrite blocks_met full_bytes
gone_from a lists h p n output =
    cond (good_on a lists p.index (block_at h p) (met_on p n))
    (out (Given n) (place_after lists h p n) (overwrite 0 (bytes_after lists h p n) output)) (out (Refused 4 0) p output)

-- RULES AD9. Of a standing lane: header (4), count and place (2), an output of at least 1 byte (8), then the blocks
-- from the place on (4).
unfoldable pub piece_on_at : Arena → List ℕ → List ℕ → Place → ℕ → List ℕ → Out
unfolding header_sound lane_length ends_there gone_from
piece_on_at a keys lists p at output =
    cond (header_sound keys at)
    (cond (fits_length p (lane_length (header_of keys at)))
    (cond (leb 1 (length output))
    (gone_from a lists (header_of keys at) p (piece_length (header_of keys at) p.given (length output)) output)
    (out (Refused 8 (lane_length (header_of keys at))) p output))
    (out (Refused 2 0) p output))
    (out (Refused 4 0) p output)

-- RULES AD9. An absent lane, a refused lookup, else what the lane of the record at a place gives.
abbrev pub on_lookup : Lookup → Place → (ℕ → Out) → List ℕ → Out
on_lookup (At at) p k output = k at
on_lookup Missing p k output = out Absent p output
on_lookup (Failed n) p k output = out (Refused n 0) p output

-- RULES AD9. The call.
unfoldable pub piece_on_of : State → Lent → List ℕ → Place → List ℕ → Out
unfolding lookup_of piece_on_at
piece_on_of st m name p output =
    on_lookup (lookup_of st m name) p (λ at. piece_on_at st.list_arena m.keys m.lists p at output) output
