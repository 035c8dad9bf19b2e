-- RULES AD3, AD4, X8. What a piece promises on any memory beyond its own equation. One record, a field a sentence;
-- proofs/Promises.antt has its value.
use Rattle.std.specs.Prelude.{ℕ, ◌-◌, ◌≤◌, min, ◌≡◌, List, length}
use Rattle.spans.specs.Span.{read_span, overwrite}
use Rattle.store_state.specs.declared.State.{State}
use Rattle.store_look.specs.declared.Lookup.TheVariants.{Missing}
use Rattle.store_look.specs.declared.Answer.TheVariants.{Found}
use Rattle.store_look.specs.declared.Outcome.TheVariants.{Reading}
use Rattle.store_look.specs.Look.{Lent, lookup_of, read_of}
use Rattle.lane_pieces.specs.declared.Pieced.TheVariants.{Absent, Given, Refused}
use Rattle.lane_pieces.specs.Piece.{Out, out, piece_of}

-- RULES AD3, AD4, X8.
pub record Promises : Type 0 where
  -- a refusal leaves the output as it was
  pub piece_refused : (st : State) (m : Lent) (name : List ℕ) (given : ℕ) (output : List ℕ) (n told : ℕ)
      → (piece_of st m name given output).answer ≡ Refused n told
      → piece_of st m name given output ≡ out (Refused n told) output
  -- an absent lane is absent whatever the count and the output, and leaves it as it was
  pub piece_absent : (st : State) (m : Lent) (name : List ℕ) (given : ℕ) (output : List ℕ)
      → lookup_of st m name ≡ Missing → piece_of st m name given output ≡ out Absent output
  -- where a reading of the whole lane, into an output that is long enough, gives n bytes, a piece gives those of them
  -- behind the count: as many as there are places, or as are left
  pub piece_of_reading : (st : State) (m : Lent) (name : List ℕ) (given : ℕ) (output whole : List ℕ) (n : ℕ)
      → (read_of st m name whole).answer ≡ Found (Reading n) → given ≤ n → 1 ≤ length output
      → piece_of st m name given output
      ≡ out (Given (min (length output) (n - given)))
      (overwrite 0 (read_span given (min (length output) (n - given)) (read_of st m name whole).output) output)
  -- two outcomes that meet the contract are equal
  pub piece_settled : (st : State) (m : Lent) (name : List ℕ) (given : ℕ) (output : List ℕ) (x y : Out)
      → x ≡ piece_of st m name given output → y ≡ piece_of st m name given output → x ≡ y
