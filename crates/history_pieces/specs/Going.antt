-- RULES AD5. A lane is read in pieces, each told by the count given out so far, with any calls in between.
use Rattle.std.specs.Prelude.{ℕ, List, [], ◌∷◌, ◌++◌, length, take}
use Rattle.std.proofs.Math.Option.{Option, none, some}
use Rattle.lane_pieces.specs.declared.Pieced.{Pieced}
use Rattle.lane_pieces.specs.declared.Pieced.TheVariants.{Absent, Given, Refused}
use Rattle.lane_pieces.specs.Piece.{piece_of}
use Rattle.history.specs.History.{World, Call, after}

-- RULES AD5. A turn: a call of the store, or a piece asked for into an output of any length, 0 too
pub data Turn : Type 0 where
  does : Call → Turn
  asks : List ℕ → Turn

-- RULES AD5. The store's calls among them
abbrev pub calls_in : List Turn → List Call
calls_in [] = []
calls_in (does c ∷ ts) = c ∷ calls_in ts
calls_in (asks output ∷ ts) = calls_in ts

-- RULES AD5. The bytes that a piece gave: those at the front of its output
abbrev pub given_by : Pieced → List ℕ → List ℕ
given_by Absent output = []
given_by (Given n) output = take n output
given_by (Refused n told) output = []

-- RULES AD5. One piece behind those that were given, into an output
abbrev pub next_piece : World → List ℕ → List ℕ → List ℕ → List ℕ
next_piece w name got output =
    given_by (piece_of w.state w.memory name (length got) output).answer
    (piece_of w.state w.memory name (length got) output).output

-- RULES AD5. All pieces joined, in order, behind those that were given
unfoldable pub gathered : List ℕ → List Turn → World → List ℕ → List ℕ
unfolding piece_of
gathered name [] w got = got
gathered name (does c ∷ ts) w got = gathered name ts (after c w) got
gathered name (asks output ∷ ts) w got = gathered name ts w (got ++ next_piece w name got output)

-- RULES AD5. A lane's bytes; none where it is absent
abbrev pub lane_of : Option (List ℕ) → List ℕ
lane_of none = []
lane_of (some bs) = bs
