-- Creation's answer in document 01's terms: its word, or a refusal's number.
use Rattle.std.specs.Prelude.{[], Ok, Err}
use Rattle.limits.specs.Refusals.{Said, answered, refused, created, number_of}
use Rattle.store_create.specs.Create.{Created}

-- RULES X7.
abbrev pub said_created : Created → Said
said_created (Ok st) = answered created []
said_created (Err e) = refused (number_of e) []
