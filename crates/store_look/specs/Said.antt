-- Each answer in document 01's terms: its word and the values it tells, or a refusal's number and what is told beside
-- it.
use Rattle.std.specs.Prelude.{ℕ, cond, List, [], ◌∷◌, eqb}
use Rattle.limits.specs.Refusals.{Said, answered, refused, a_place, absent, a_length, a_reading}
use Rattle.limits.specs.Refusals.{a_block, no_such_block, a_bucket, no_bucket, a_count}
use Rattle.store_look.specs.declared.Lookup.{Lookup}
use Rattle.store_look.specs.declared.Lookup.TheVariants.{At, Missing, Failed}
use Rattle.store_look.specs.declared.Outcome.{Outcome}
use Rattle.store_look.specs.declared.Outcome.TheVariants.{Length, Reading, Block, NoSuchBlock}
use Rattle.store_look.specs.declared.Answer.{Answer}
use Rattle.store_look.specs.declared.Answer.TheVariants.{Absent, Found, Refused}
use Rattle.store_look.specs.declared.Listed.{Listed}
use Rattle.store_look.specs.declared.Listed.TheVariants.{Bucket, NoMore, Stopped}
use Rattle.store_look.specs.declared.Counted.{Counted}
use Rattle.store_look.specs.declared.Counted.TheVariants.{Keys, Unknown}

-- RULES X7.
abbrev pub said_lookup : Lookup → Said
said_lookup (At at) = answered a_place (at ∷ [])
said_lookup Missing = answered absent []
said_lookup (Failed n) = refused n []

-- RULES X7.
abbrev pub said_outcome : Outcome → Said
said_outcome (Length n) = answered a_length (n ∷ [])
said_outcome (Reading n) = answered a_reading (n ∷ [])
said_outcome (Block at n) = answered a_block (at ∷ n ∷ [])
said_outcome NoSuchBlock = answered no_such_block []

-- RULES X7. "The length is told" with 8, and nothing with any other number.
abbrev pub told_with : ℕ → ℕ → List ℕ
told_with n told = cond (eqb n 8) (told ∷ []) []

-- RULES X7.
abbrev pub said_answer : Answer → Said
said_answer Absent = answered absent []
said_answer (Found o) = said_outcome o
said_answer (Refused n told) = refused n (told_with n told)

-- RULES X7.
abbrev pub said_listed : Listed → Said
said_listed (Bucket i at) = answered a_bucket (i ∷ at ∷ [])
said_listed NoMore = answered no_bucket []
said_listed (Stopped n) = refused n []

-- RULES X7.
abbrev pub said_counted : Counted → Said
said_counted (Keys n) = answered a_count (n ∷ [])
said_counted (Unknown n) = refused n []
