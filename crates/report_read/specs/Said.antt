-- RULES X7. What each answer says: its word and the values it tells, or a refusal's number and what is told beside it.
use Rattle.std.specs.Prelude.{ℕ, [], ◌∷◌, Option, Some, None, Result, Ok, Err}
use Rattle.limits.specs.declared.Refusal.TheVariants.{OutputTooShort, NoReport}
use Rattle.limits.specs.Refusals.{Said, answered, refused, number_of, some_lanes, a_lane, no_such_lane, some_bytes, no_hex}
use Rattle.report_read.specs.declared.check.Lanes.{Lanes}
use Rattle.report_read.specs.declared.check.BadLine.{BadLine}
use Rattle.report_read.specs.declared.pick.Lane.{Lane}
use Rattle.report_read.specs.declared.unhex.TooShort.{TooShort}

-- RULES X7. "refusal 15 with the first bad line"
abbrev pub said_checked : Result Lanes BadLine → Said
said_checked (Ok a) = answered some_lanes (a.lanes ∷ a.bytes ∷ [])
said_checked (Err e) = refused (number_of NoReport) (e.line ∷ [])

-- RULES X7.
abbrev pub said_picked : Result (Option Lane) BadLine → Said
said_picked (Ok (Some a)) = answered a_lane (a.name ∷ a.name_length ∷ a.bytes ∷ a.bytes_length ∷ [])
said_picked (Ok None) = answered no_such_lane []
said_picked (Err e) = refused (number_of NoReport) (e.line ∷ [])

-- RULES X7. 8 tells the bytes needed.
abbrev pub said_unhexed : Result (Option ℕ) TooShort → Said
said_unhexed (Ok (Some n)) = answered some_bytes (n ∷ [])
said_unhexed (Ok None) = answered no_hex []
said_unhexed (Err e) = refused (number_of OutputTooShort) (e.needed ∷ [])
