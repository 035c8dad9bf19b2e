-- RULES AF13. What sound promises of the requests' own readings. One record; `sound_reads` of proofs/Promises.antt
-- proves it of any state, any lent memory and any mark area.
use Rattle.std.specs.Prelude.{ℕ, ◌≢◌, List, ℤ}
use Rattle.limits.specs.Refusals.{number_in}
use Rattle.store_state.specs.declared.State.{State}
use Rattle.store_look.specs.Look.{Lent}
use Rattle.readings.specs.Readings.{readings_of}
use Rattle.readings.specs.Said.{said_recalled}
use Rattle.lane_pieces.specs.Piece.{piece_of}
use Rattle.lane_pieces.specs.Said.{said_pieced}

-- RULES AF13. No piece and no readings answer 4
pub record NoDamageRead (st : State) (m : Lent) : Type 0 where
  pub piece : (name : List ℕ) (given : ℕ) (output : List ℕ)
      → number_in (said_pieced (piece_of st m name given output).answer) ≢ 4
  pub readings : (name : List ℕ) (output : List ℤ) → number_in (said_recalled (readings_of st m name output).answer) ≢ 4
