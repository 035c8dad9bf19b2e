-- RULES X7. What reading back says: how many readings, absent, or a refusal's number. 8 and the later ones tell the
-- count of whole readings, 2, 3 and 4 nothing.
use Rattle.std.specs.Prelude.{ℕ, cond, List, [], ◌∷◌, leb}
use Rattle.limits.specs.Refusals.{Said, answered, refused, some_readings, absent}
use Rattle.readings.specs.declared.Recalled.{Recalled}
use Rattle.readings.specs.declared.Recalled.TheVariants.{Readings, Absent, Refused}

-- RULES X7.
abbrev pub count_told : ℕ → ℕ → List ℕ
count_told n count = cond (leb 8 n) (count ∷ []) []

-- RULES X7.
abbrev pub said_recalled : Recalled → Said
said_recalled (Readings n) = answered some_readings (n ∷ [])
said_recalled Absent = answered absent []
said_recalled (Refused n count) = refused n (count_told n count)
