-- Of every answer: only a piece that is given changes the output, and a refusal's number is one that is listed for the
-- call. Assumes nothing.
use Prim.Native.Nat.{ℕ}
use mathlib.Core.Path.{◌≡◌, refl}
use mathlib.Core.Bool.{Bool, true, false, cond, ◌||◌}
use mathlib.Core.List.{List}
use native.Mathlib.Omega.{arith}
use lib.Dec.{leb, eqb}
use lib.ListN.{length}
use Rattle.limits.specs.Refusals.{looking_up, reading_piece, is_among, refusal_numbers, permitted}
use Rattle.memory_arena.specs.declared.Arena.{Arena}
use Rattle.expull_header.specs.Header.{lane_length}
use Rattle.expull_walk.specs.Blocks.{good_blocks}
use Rattle.store_state.specs.declared.State.{State}
use Rattle.store_look.specs.declared.Lookup.{Lookup}
use Rattle.store_look.specs.declared.Lookup.TheVariants.{At, Missing, Failed}
use Rattle.records.specs.Record.{header_of, header_sound}
use Rattle.store_look.specs.Look.{Lent, lookup_of}
use Rattle.store_look.specs.Said.{said_lookup}
use Rattle.store_look.proofs.Fair.{fair-lookup}
use Rattle.lane_pieces.specs.declared.Pieced.{Pieced}
use Rattle.lane_pieces.specs.declared.Pieced.TheVariants.{Absent, Given, Refused}
use Rattle.lane_pieces.specs.Piece.{blocks_met, piece_length, Out, out, piece_at, on_lookup, piece_of}
use Rattle.lane_pieces.specs.Said.{said_pieced}

pub record Fair (output : List ℕ) (o : Out) : Type 0 where
  pub refused : (n told : ℕ) → o.answer ≡ Refused n told → o.output ≡ output
  pub absent : o.answer ≡ Absent → o.output ≡ output
  pub numbered : permitted reading_piece (said_pieced o.answer) ≡ true

fair-kept : (output : List ℕ) (r : Pieced) → permitted reading_piece (said_pieced r) ≡ true → Fair output (out r output)
fair-kept output r h = record { refused = λ n told e. refl; absent = λ e. refl; numbered = h }

fair_given : (output written : List ℕ) (k : ℕ) → Fair output (out (Given k) written)
fair_given output written k =
    record { refused = λ n told e. absurd (never n told e); absent = λ e. absurd (gone e); numbered = refl }
  where
    never : (n told : ℕ) → Given k ≡ Refused n told → ⊥
    never n told e = let z : ◌≡◌ {A = ℕ} 0 1 = cc in omega arith

    gone : Given k ≡ Absent → ⊥
    gone e = let z : ◌≡◌ {A = ℕ} 0 1 = cc in omega arith

fair_cond : {output : List ℕ} (b : Bool) (x y : Out) → Fair output x → Fair output y → Fair output (cond b x y)
fair_cond true x y p q = p
fair_cond false x y p q = q

fair-at : (a : Arena) (keys lists : List ℕ) (given at : ℕ) (output : List ℕ)
    → Fair output (piece_at a keys lists given at output)
unfolding piece_at
fair-at a keys lists given at output =
    fair_cond (header_sound keys at) _ _
    (fair_cond (leb given (lane_length (header_of keys at))) _ _
    (fair_cond
    (good_blocks a lists (header_of keys at).head
    (blocks_met given (piece_length (header_of keys at) given (length output)))) _ _
    (fair_cond (leb 1 (length output)) _ _ (fair_given output _ _)
    (fair-kept output (Refused 8 (lane_length (header_of keys at))) refl))
    (fair-kept output (Refused 4 0) refl))
    (fair-kept output (Refused 2 0) refl))
    (fair-kept output (Refused 4 0) refl)

-- a lookup's numbers are among a piece's
pub lookup_number_lem : (n : ℕ) → is_among n (refusal_numbers looking_up) ≡ true
    → is_among n (refusal_numbers reading_piece) ≡ true
lookup_number_lem n h = wider (eqb n 2) (eqb n 3) (eqb n 4) (eqb n 8) h
  where
    wider : (a b c d : Bool) → (a || (b || (c || false))) ≡ true → (a || (b || (c || (d || false)))) ≡ true
    wider true b c d h = refl
    wider false true c d h = refl
    wider false false true d h = refl
    wider false false false true h = refl
    wider false false false false h = h

pub fair-piece : (st : State) (m : Lent) (name : List ℕ) (given : ℕ) (output : List ℕ)
    → Fair output (piece_of st m name given output)
unfolding piece_of
fair-piece st m name given output = go (lookup_of st m name) (fair-lookup st m name)
  where
    go : (l : Lookup) → permitted looking_up (said_lookup l) ≡ true
        → Fair output (on_lookup l (λ at. piece_at st.list_arena m.keys m.lists given at output) output)
    go (At at) h = fair-at st.list_arena m.keys m.lists given at output
    go Missing h = fair-kept output Absent refl
    go (Failed n) h = fair-kept output (Refused n 0) (lookup_number_lem n h)
