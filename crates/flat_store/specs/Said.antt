-- RULES X7. Each answer in the paper's terms: its word and the values it tells, or a refusal's number, and the length
-- that 8 tells.
use Rattle.std.specs.Prelude.{true, false, [], ◌∷◌, Some, None, Ok, Err}
use Rattle.limits.specs.Refusals.{Said, answered, refused, accepted, standing, absent, a_length, a_reading, number_of}
use Rattle.flat_store.specs.declared.NotRead.TheVariants.{TooShort, Refused}
use Rattle.flat_store.specs.Calls.{Appended, Lookup, Measured, Answer}

-- RULES X7.
abbrev pub said_appended : Appended → Said
said_appended (Ok used) = answered accepted (used ∷ [])
said_appended (Err r) = refused (number_of r) []

-- RULES X7.
abbrev pub said_lookup : Lookup → Said
said_lookup (Ok true) = answered standing []
said_lookup (Ok false) = answered absent []
said_lookup (Err r) = refused (number_of r) []

-- RULES X7.
abbrev pub said_length : Measured → Said
said_length (Ok (Some n)) = answered a_length (n ∷ [])
said_length (Ok None) = answered absent []
said_length (Err r) = refused (number_of r) []

-- RULES X7.
abbrev pub said_read : Answer → Said
said_read (Ok (Some n)) = answered a_reading (n ∷ [])
said_read (Ok None) = answered absent []
said_read (Err (TooShort n)) = refused 8 (n ∷ [])
said_read (Err (Refused r)) = refused (number_of r) []
