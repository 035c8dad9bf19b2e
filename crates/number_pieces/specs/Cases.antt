-- RULES AC9, X7. Worked pieces, a row a case: what the call says, and the whole answer with the output where it
-- matters.
use Rattle.std.specs.Prelude.{ℕ, ◌≡◌, refl, true, false, List, [], ◌∷◌, replicate, None}
use Rattle.limits.specs.Refusals.{answered, refused, some_numbers}
use Rattle.number_pieces.specs.declared.Pieces.{Pieces}
use Rattle.limits.specs.declared.Refusal.TheVariants.{NoEnd}
use Rattle.number_pieces.specs.Feed.{fresh, out, fed, stopped, feed_of}
use Rattle.number_pieces.specs.Said.{said_fed}

-- a state whose array begins with a byte
abbrev state : ℕ → ℕ → ℕ → Pieces
state n b before = record { held = b ∷ 0 ∷ 0 ∷ 0 ∷ []; count = n; fed = before }

abbrev sevens : ℕ → List ℕ
sevens n = replicate n 7

-- RULES AC9, X7.
pub said_cases : (said_fed (feed_of fresh (0x81 ∷ 0x2C ∷ 0x82 ∷ []) true (sevens 3)).answer
    ≡ answered some_numbers (2 ∷ []))
    × (said_fed (feed_of (state 5 0 0) [] false []).answer ≡ refused 2 [])
    × (said_fed (feed_of (state 1 0x80 0) [] false []).answer ≡ refused 2 [])
    × (said_fed (feed_of (state 0 0 4294967295) (0x80 ∷ []) false (sevens 1)).answer ≡ refused 2 [])
    × (said_fed (feed_of (state 0 0x80 4294967294) (0x80 ∷ []) true (sevens 1)).answer ≡ answered some_numbers (1 ∷ []))
    × (said_fed (feed_of fresh (0x81 ∷ 0x82 ∷ []) false (sevens 1)).answer ≡ refused 8 (2 ∷ []))
    × (said_fed (feed_of fresh (0x81 ∷ 0 ∷ 0 ∷ 0 ∷ 0 ∷ 0 ∷ 0x80 ∷ []) false (sevens 7)).answer ≡ refused 11 (5 ∷ 1 ∷ []))
    × (said_fed (feed_of fresh (0x81 ∷ 0x2C ∷ 0x80 ∷ []) false (sevens 3)).answer ≡ refused 12 (2 ∷ 1 ∷ []))
unfolding feed_of
said_cases = (refl, refl, refl, refl, refl, refl, refl, refl)

-- RULES AC9. 300 cut behind its first byte; and behind its second a byte that the lane's end leaves without an end.
pub fed_cases : (feed_of fresh (0x2C ∷ []) false (sevens 1) ≡ out (fed (state 1 0x2C 1) 0 None) (sevens 1))
    × (feed_of (state 1 0x2C 1) (0x82 ∷ 0x05 ∷ []) true (sevens 2)
    ≡ out (stopped (state 1 0x2C 1) 1 NoEnd 3) (300 ∷ 7 ∷ []))
unfolding feed_of
fed_cases = (refl, refl)
