-- RULES AC8. A lane's bytes fed in pieces, call after call.
use Rattle.std.specs.Prelude.{ℕ, ◌≤◌, Bool, false, List, [], ◌∷◌, ◌++◌, length, take, Option, Some, None}
use Rattle.limits.specs.declared.Refusal.{Refusal}
use Rattle.number_pieces.specs.declared.Pieces.{Pieces}
use Rattle.number_pieces.specs.declared.Stop.{Stop}
use Rattle.number_pieces.specs.Feed.{Out, feed_of}

-- RULES AC8. A piece and the output that it is fed with.
pub record Piece : Type 0 where
  pub bytes : List ℕ
  pub output : List ℕ

-- RULES AC8. The output has a place for each byte.
abbrev pub HasPlaces : Piece → Type 0
HasPlaces p = length p.bytes ≤ length p.output

-- RULES AC8. And so for all of some pieces.
abbrev pub EachHasPlaces : List Piece → Type 0
EachHasPlaces [] = Unit {0}
EachHasPlaces (p ∷ ps) = HasPlaces p × EachHasPlaces ps

-- RULES AC8. The bytes of all pieces.
abbrev pub joined : List Piece → List ℕ
joined [] = []
joined (p ∷ ps) = p.bytes ++ joined ps

-- RULES AC8. Where a caller stands: with the state to go on with; or with a refusal and what it told.
pub data Where : Type 0 where
  goes_on : Pieces → Where
  stopped : Refusal → ℕ → Where

-- RULES AC8. What a caller has got: the numbers, and where it stands.
pub record Got : Type 0 where
  pub numbers : List ℕ
  pub stands : Where

-- RULES AC8. The same.
abbrev pub got : List ℕ → Where → Got
got ns w = record { numbers = ns; stands = w }

-- RULES AC8. By the answer.
abbrev pub where_at : Option Stop → Pieces → Where
where_at None st = goes_on st
where_at (Some s) st = stopped s.refusal s.told

-- RULES AC8. The numbers are those at the front of the output.
abbrev pub got_of : Out → Got
got_of o = got (take o.answer.numbers o.output) (where_at o.answer.stop o.answer.state)

-- RULES AC8. One call.
abbrev pub call_of : Pieces → Piece → Bool → Got
call_of st p last = got_of (feed_of st p.bytes last p.output)

-- RULES AC8. And those behind it, if it goes on.
abbrev pub going_on : List ℕ → Where → (Pieces → Got) → Got
going_on ns (goes_on st) rest = got (ns ++ (rest st).numbers) (rest st).stands
going_on ns (stopped n told) rest = got ns (stopped n told)

-- RULES AC8. A call for each of some pieces, then one for the last; the lane's end, if it is said, is said with that.
unfoldable pub calls_of : Pieces → List Piece → Piece → Bool → Got
unfolding feed_of
calls_of st [] p last = call_of st p last
calls_of st (q ∷ qs) p last =
    going_on (call_of st q false).numbers (call_of st q false).stands (λ after. calls_of after qs p last)
