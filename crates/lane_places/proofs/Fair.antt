-- Of every answer: only a piece that is given changes the output or the place, and a refusal's number is one that is
-- listed for a piece. Assumes nothing.
use Prim.Native.Nat.{ℕ}
use mathlib.Core.Path.{◌≡◌, refl}
use mathlib.Core.Bool.{Bool, true, false, cond}
use mathlib.Core.List.{List}
use native.Mathlib.Omega.{arith}
use lib.Dec.{leb}
use lib.ListN.{length}
use Rattle.limits.specs.Refusals.{looking_up, reading_piece, permitted}
use Rattle.memory_arena.specs.declared.Arena.{Arena}
use Rattle.expull_header.specs.declared.Header.{Header}
use Rattle.expull_header.specs.Header.{lane_length}
use Rattle.store_state.specs.declared.State.{State}
use Rattle.store_look.specs.declared.Lookup.{Lookup}
use Rattle.store_look.specs.declared.Lookup.TheVariants.{At, Missing, Failed}
use Rattle.records.specs.Record.{header_of, header_sound}
use Rattle.store_look.specs.Look.{Lent, lookup_of}
use Rattle.store_look.specs.Said.{said_lookup}
use Rattle.store_look.proofs.Fair.{fair-lookup}
use Rattle.lane_pieces.specs.declared.Pieced.{Pieced}
use Rattle.lane_pieces.specs.declared.Pieced.TheVariants.{Absent, Given, Refused}
use Rattle.lane_pieces.specs.Piece.{piece_length}
use Rattle.lane_pieces.specs.Onward.{good_on}
use Rattle.lane_pieces.specs.Said.{said_pieced}
use Rattle.lane_pieces.proofs.Fair.{lookup_number_lem}
use Rattle.lane_places.specs.declared.Place.{Place}
use Rattle.lane_places.specs.PieceOn.{fits_length, block_at, met_on, Out, out, gone_from, piece_on_at, on_lookup}
use Rattle.lane_places.specs.PieceOn.{piece_on_of}

pub record Fair (p : Place) (output : List ℕ) (o : Out) : Type 0 where
  pub refused : (n told : ℕ) → o.answer ≡ Refused n told → (o.place ≡ p) × (o.output ≡ output)
  pub numbered : permitted reading_piece (said_pieced o.answer) ≡ true

fair-kept : (p : Place) (output : List ℕ) (r : Pieced) → permitted reading_piece (said_pieced r) ≡ true
    → Fair p output (out r p output)
fair-kept p output r h = record { refused = λ n told e. (refl, refl); numbered = h }

fair_given : (p q : Place) (output written : List ℕ) (k : ℕ) → Fair p output (out (Given k) q written)
fair_given p q output written k = record { refused = λ n told e. absurd (never n told e); numbered = refl }
  where
    never : (n told : ℕ) → Given k ≡ Refused n told → ⊥
    never n told e = let z : ◌≡◌ {A = ℕ} 0 1 = cc in omega arith

fair_cond : {p : Place} {output : List ℕ} (b : Bool) (x y : Out) → Fair p output x → Fair p output y
    → Fair p output (cond b x y)
fair_cond true x y f g = f
fair_cond false x y f g = g

fair_from : (a : Arena) (lists : List ℕ) (h : Header) (p : Place) (n : ℕ) (output : List ℕ)
    → Fair p output (gone_from a lists h p n output)
unfolding gone_from
fair_from a lists h p n output =
    fair_cond (good_on a lists p.index (block_at h p) (met_on p n)) _ _ (fair_given p _ output _ _)
    (fair-kept p output (Refused 4 0) refl)

fair-at : (a : Arena) (keys lists : List ℕ) (p : Place) (at : ℕ) (output : List ℕ)
    → Fair p output (piece_on_at a keys lists p at output)
unfolding piece_on_at
fair-at a keys lists p at output =
    fair_cond (header_sound keys at) _ _
    (fair_cond (fits_length p (lane_length (header_of keys at))) _ _
    (fair_cond (leb 1 (length output)) _ _
    (fair_from a lists (header_of keys at) p (piece_length (header_of keys at) p.given (length output)) output)
    (fair-kept p output (Refused 8 (lane_length (header_of keys at))) refl))
    (fair-kept p output (Refused 2 0) refl))
    (fair-kept p output (Refused 4 0) refl)

pub fair-on : (st : State) (m : Lent) (name : List ℕ) (p : Place) (output : List ℕ)
    → Fair p output (piece_on_of st m name p output)
unfolding piece_on_of
fair-on st m name p output = go (lookup_of st m name) (fair-lookup st m name)
  where
    go : (l : Lookup) → permitted looking_up (said_lookup l) ≡ true
        → Fair p output (on_lookup l p (λ at. piece_on_at st.list_arena m.keys m.lists p at output) output)
    go (At at) h = fair-at st.list_arena m.keys m.lists p at output
    go Missing h = fair-kept p output Absent refl
    go (Failed n) h = fair-kept p output (Refused n 0) (lookup_number_lem n h)
