-- RULES AD5. What pieces come to in a store with a history: `piece_back` and `pieces-joined` of proofs/Joined.antt
-- prove the two records of each store that an accepted creation made and of any calls on it.
use Rattle.std.specs.Prelude.{ℕ, ◌-◌, ◌≤◌, ◌<◌, min, ◌≡◌, List, [], ◌++◌, length, take}
use Rattle.std.proofs.Math.Option.{none, some}
use Rattle.spans.specs.Span.{read_span, overwrite}
use Rattle.store_state.specs.Name.{name_limit_of}
use Rattle.lane_pieces.specs.declared.Pieced.TheVariants.{Absent, Given, Refused}
use Rattle.lane_pieces.specs.Piece.{out, piece_of}
use Rattle.history.specs.History.{World, Call, play, joined}
use Rattle.history_pieces.specs.Going.{Turn, calls_in, next_piece, gathered, lane_of}

-- RULES AD5. One piece after the calls: no number but 2 for the count, 3 for the name, and 8 ever comes. W is the store
-- at its start.
pub record PieceBack (w : World) (calls : List Call) (name : List ℕ) (given : ℕ) (output : List ℕ) : Type 0 where
  -- as many of the accepted bytes behind the count as there are places, or as are left
  pub gives : (bs : List ℕ) → joined name calls w ≡ some bs → given ≤ length bs → 1 ≤ length output
      → piece_of (play calls w).state (play calls w).memory name given output
      ≡ out (Given (min (length output) (length bs - given)))
      (overwrite 0 (read_span given (min (length output) (length bs - given)) bs) output)
  -- a count above the length; an output without a place, with the length told
  pub too_far : (bs : List ℕ) → joined name calls w ≡ some bs → length bs < given
      → piece_of (play calls w).state (play calls w).memory name given output ≡ out (Refused 2 0) output
  pub no_place : (bs : List ℕ) → joined name calls w ≡ some bs → given ≤ length bs → length output ≡ 0
      → piece_of (play calls w).state (play calls w).memory name given output ≡ out (Refused 8 (length bs)) output
  -- a name that no accepted append brought; one over the limit
  pub none_there : joined name calls w ≡ none → length name ≤ name_limit_of w.state
      → piece_of (play calls w).state (play calls w).memory name given output ≡ out Absent output
  pub long_name : name_limit_of w.state < length name
      → piece_of (play calls w).state (play calls w).memory name given output ≡ out (Refused 3 0) output

-- RULES AD5. Pieces of any sizes, with any calls in between: joined they are the front of the lane's accepted appends,
-- joined in order, those accepted in between too.
pub record PiecesJoined (w : World) (name : List ℕ) (ts : List Turn) : Type 0 where
  -- what is left of the lane
  pub rest : List ℕ
  pub front : lane_of (joined name (calls_in ts) w) ≡ gathered name ts w [] ++ rest
  -- the next piece is as many of the bytes left as there are places
  pub next : (output : List ℕ)
      → next_piece (play (calls_in ts) w) name (gathered name ts w []) output ≡ take (length output) rest
  -- so a piece with a place is empty only at the lane's end, and then they are the whole lane
  pub whole : (output : List ℕ) → 1 ≤ length output
      → next_piece (play (calls_in ts) w) name (gathered name ts w []) output ≡ []
      → gathered name ts w [] ≡ lane_of (joined name (calls_in ts) w)
