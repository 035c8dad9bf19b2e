-- RULES X7. What the number reader's answer says.
use Rattle.std.specs.Prelude.{ℕ, ◌≡◌, Bool, cond, List, [], ◌∷◌, eqb, Option, Some, None}
use Rattle.limits.specs.Refusals.{Said, answered, refused, some_numbers, number_of, one-outcome}
use Rattle.number_pieces.specs.declared.Pieces.{Pieces}
use Rattle.number_pieces.specs.declared.Stop.{Stop}
use Rattle.number_pieces.specs.declared.Fed.{Fed}
use Rattle.number_pieces.specs.Feed.{Out, feed_of}

-- RULES X7. What a refusal tells: 2 nothing; 8 the places needed; 11 and 12 the place and how many numbers were given.
abbrev pub told_by : ℕ → ℕ → ℕ → List ℕ
told_by n told given = cond (eqb n 2) [] (cond (eqb n 8) (told ∷ []) (told ∷ given ∷ []))

-- RULES X7. By whether it goes on, and how many numbers were given.
abbrev pub said_stop : Option Stop → ℕ → Said
said_stop None given = answered some_numbers (given ∷ [])
said_stop (Some s) given = refused (number_of s.refusal) (told_by (number_of s.refusal) s.told given)

-- RULES X7. The answer.
abbrev pub said_fed : Fed → Said
said_fed r = said_stop r.stop r.numbers

-- RULES X8. The promise permits one outcome.
pub feed_settled : (st : Pieces) (piece : List ℕ) (last : Bool) (output : List ℕ) {x y : Out}
    → x ≡ feed_of st piece last output → y ≡ feed_of st piece last output → x ≡ y
feed_settled st piece last output p q = one-outcome p q
