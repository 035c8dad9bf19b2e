-- RULES X7. What a join's answer says: how many lanes went across; a refusal tells that too.
use Rattle.std.specs.Prelude.{[], ◌∷◌}
use Rattle.limits.specs.Refusals.{Said, answered, refused, lanes_joined}
use Rattle.join.specs.declared.Joined.{Joined}
use Rattle.join.specs.declared.Joined.TheVariants.{Whole, Halted}

-- RULES X7.
abbrev pub said_joined : Joined → Said
said_joined (Whole st k) = answered lanes_joined (k ∷ [])
said_joined (Halted st n k) = refused n (k ∷ [])
