-- An append's answer in document 01's terms: its word, or a refusal's number.
use Rattle.std.specs.Prelude.{[]}
use Rattle.limits.specs.Refusals.{Said, answered, refused, accepted}
use Rattle.store_append.specs.declared.Appended.{Appended}
use Rattle.store_append.specs.declared.Appended.TheVariants.{Accepted, Declined}

-- RULES X7.
abbrev pub said_appended : Appended → Said
said_appended (Accepted st) = answered accepted []
said_appended (Declined st n) = refused n []
