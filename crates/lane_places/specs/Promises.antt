-- RULES AD10, X8. What a piece from a place on promises on any memory beyond its own equation. One record, a field a
-- sentence; proofs/Promises.antt has its value.
use Rattle.std.specs.Prelude.{ℕ, ◌<◌, ◌≡◌, true, List}
use Rattle.memory_arena.specs.declared.Arena.{Arena}
use Rattle.expull_header.specs.declared.Header.{Header}
use Rattle.expull_header.specs.Header.{full_bytes}
use Rattle.expull_walk.specs.Blocks.{block_place, good_blocks}
use Rattle.store_state.specs.declared.State.{State}
use Rattle.store_look.specs.declared.Lookup.TheVariants.{At}
use Rattle.records.specs.Record.{header_of}
use Rattle.store_look.specs.Look.{Lent, lookup_of}
use Rattle.lane_pieces.specs.declared.Pieced.TheVariants.{Refused}
use Rattle.lane_pieces.specs.Piece.{piece_of}
use Rattle.lane_places.specs.declared.Place.{Place}
use Rattle.lane_places.specs.PieceOn.{ends_there, block_at, Out, out, piece_on_of}

-- RULES AD10. A place is the lane's own: the lane's block of that index lies there, those before it are good spans, the
-- bytes given so far end in it, and at least one of them lies in it, but for the first block
pub record Own (a : Arena) (lists : List ℕ) (h : Header) (p : Place) : Type 0 where
  pub there : block_at h p ≡ block_place lists h.head p.index
  pub good : good_blocks a lists h.head p.index ≡ true
  pub ends : ends_there p ≡ true
  pub begun : (p.index ≡ 0 → ⊥) → full_bytes p.index < p.given

-- RULES AD10, X8.
pub record Promises : Type 0 where
  -- a refusal leaves the output and the place as they were
  pub on_refused : (st : State) (m : Lent) (name : List ℕ) (p : Place) (output : List ℕ) (n told : ℕ)
      → (piece_on_of st m name p output).answer ≡ Refused n told
      → piece_on_of st m name p output ≡ out (Refused n told) p output
  -- from a place of the lane's own it gives what a piece by its count gives, or refuses alike
  pub same_answer : (st : State) (m : Lent) (name : List ℕ) (p : Place) (output : List ℕ) (at : ℕ)
      → lookup_of st m name ≡ At at → Own st.list_arena m.lists (header_of m.keys at) p
      → (piece_on_of st m name p output).answer ≡ (piece_of st m name p.given output).answer
  pub same_output : (st : State) (m : Lent) (name : List ℕ) (p : Place) (output : List ℕ) (at : ℕ)
      → lookup_of st m name ≡ At at → Own st.list_arena m.lists (header_of m.keys at) p
      → (piece_on_of st m name p output).output ≡ (piece_of st m name p.given output).output
  -- and hands back a place of the lane's own
  pub own_again : (st : State) (m : Lent) (name : List ℕ) (p : Place) (output : List ℕ) (at : ℕ)
      → lookup_of st m name ≡ At at → Own st.list_arena m.lists (header_of m.keys at) p
      → Own st.list_arena m.lists (header_of m.keys at) (piece_on_of st m name p output).place
  -- two outcomes that meet the contract are equal
  pub on_settled : (st : State) (m : Lent) (name : List ℕ) (p : Place) (output : List ℕ) (x y : Out)
      → x ≡ piece_on_of st m name p output → y ≡ piece_on_of st m name p output → x ≡ y
