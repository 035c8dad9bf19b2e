-- RULES X7. What the writer's answer says: the report's bytes, or a refusal's number; 8 tells the bytes needed.
use Rattle.std.specs.Prelude.{ℕ, [], ◌∷◌, Result, Ok, Err}
use Rattle.limits.specs.declared.Refusal.TheVariants.{OutputTooShort}
use Rattle.limits.specs.Refusals.{Said, answered, refused, number_of, a_report}
use Rattle.report.specs.declared.Unwritten.{Unwritten}
use Rattle.report.specs.declared.Unwritten.TheVariants.{Refused, TooShort}

-- RULES X7.
abbrev pub said_reported : Result ℕ Unwritten → Said
said_reported (Ok n) = answered a_report (n ∷ [])
said_reported (Err (Refused k)) = refused (number_of k) []
said_reported (Err (TooShort needed)) = refused (number_of OutputTooShort) (needed ∷ [])
