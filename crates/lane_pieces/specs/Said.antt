-- RULES X7. What a piece's answer says: absent; how many bytes it gave; or a refusal's number, with 8 the lane's
-- length.
use Rattle.std.specs.Prelude.{[], ◌∷◌}
use Rattle.limits.specs.Refusals.{Said, answered, refused, absent, a_piece}
use Rattle.store_look.specs.Said.{told_with}
use Rattle.lane_pieces.specs.declared.Pieced.{Pieced}
use Rattle.lane_pieces.specs.declared.Pieced.TheVariants.{Absent, Given, Refused}

-- RULES X7.
abbrev pub said_pieced : Pieced → Said
said_pieced Absent = answered absent []
said_pieced (Given n) = answered a_piece (n ∷ [])
said_pieced (Refused n told) = refused n (told_with n told)
