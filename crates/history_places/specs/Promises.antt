-- RULES AD11. In a store with a history, going on from the places that the pieces hand back gives what pieces by their
-- counts give: `goes_on` of proofs/Places.antt proves it of each store that an accepted creation made.
use Rattle.std.specs.Prelude.{ℕ, ◌≡◌, List, [], ◌∷◌, length}
use Rattle.lane_pieces.specs.Piece.{piece_of}
use Rattle.lane_places.specs.declared.Place.{Place}
use Rattle.lane_places.specs.PieceOn.{beginning, piece_on_of}
use Rattle.history.specs.History.{World, after, play}
use Rattle.history_pieces.specs.Going.{Turn, does, asks, calls_in, gathered}

-- RULES AD11. The place after some turns: each piece is asked for from the place that the one before it handed back,
-- with any calls in between
unfoldable pub place_in : List ℕ → List Turn → World → Place → Place
unfolding piece_on_of
place_in name [] w p = p
place_in name (does c ∷ ts) w p = place_in name ts (after c w) p
place_in name (asks output ∷ ts) w p = place_in name ts w (piece_on_of w.state w.memory name p output).place

-- RULES AD11. W is the store at its start. After any turns the next piece, from the place that they lead to, is the one
-- by the count of the bytes gathered so far: of every name, one that is absent or too long too
pub record GoesOn (w : World) (name : List ℕ) (ts : List Turn) (output : List ℕ) : Type 0 where
  pub counted : (place_in name ts w beginning).given ≡ length (gathered name ts w [])
  pub same_answer :
      (piece_on_of (play (calls_in ts) w).state (play (calls_in ts) w).memory name (place_in name ts w beginning) output
      ).answer
      ≡ (piece_of (play (calls_in ts) w).state (play (calls_in ts) w).memory name (length (gathered name ts w [])) output
      ).answer
  pub same_output :
      (piece_on_of (play (calls_in ts) w).state (play (calls_in ts) w).memory name (place_in name ts w beginning) output
      ).output
      ≡ (piece_of (play (calls_in ts) w).state (play (calls_in ts) w).memory name (length (gathered name ts w [])) output
      ).output
