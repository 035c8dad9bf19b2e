-- RULES AD8. A lane of readings on a panel with a small buffer: it is read in pieces, each piece is fed to the number
-- reader, and the numbers make the accepted readings. `panel_reads` of proofs/Panel.antt proves it of each store and
-- each history in which the lane's readings were handed on.
use Rattle.std.specs.Prelude.{ℕ, ◌≤◌, ◌≡◌, Bool, List, [], ◌++◌, map, length, pos}
use Rattle.limits.specs.Limits.{fed_limit}
use Rattle.reading_run.specs.Readings.{readings_from}
use Rattle.number_pieces.specs.Feed.{holding, fresh}
use Rattle.number_pieces.specs.Cut.{Piece, HasPlaces, EachHasPlaces, joined as bytes_of, goes_on, got, calls_of}
use Rattle.history.specs.History.{World, joined}
use Rattle.history_readings.specs.Steps.{Step, call_of, accepted_for, readings_among}
use Rattle.history_pieces.specs.Going.{Turn, calls_in, gathered, lane_of}

-- RULES AD8. W is the store at its start, steps are the calls and readings of its history.
pub record PanelReads (w : World) (steps : List Step) (name : List ℕ) : Type 0 where
  -- the numbers that the lane's readings were stored as make the accepted readings, in order
  pub numbers : List ℕ
  pub readings : readings_from (pos 0) numbers ≡ readings_among (accepted_for name steps w)
  -- pieces of any sizes, asked for before, between and after the calls, that joined are the whole lane: however these
  -- bytes are cut into what the number reader is fed, it gives out those numbers, and nothing is held at the end
  pub fed : (ts : List Turn) (ps : List Piece) (p : Piece) (last : Bool) → calls_in ts ≡ map call_of steps
      → gathered name ts w [] ≡ lane_of (joined name (map call_of steps) w)
      → bytes_of ps ++ p.bytes ≡ gathered name ts w []
      → length (gathered name ts w []) ≤ fed_limit → EachHasPlaces ps → HasPlaces p
      → calls_of fresh ps p last ≡ got numbers (goes_on (holding [] (length (gathered name ts w []))))
