-- RULES X7. What the check's answer says. A fault is an answer and no refusal: the bucket, and the fault's place in the
-- paper's list.
use Rattle.std.specs.Prelude.{[], ◌∷◌}
use Rattle.limits.specs.Refusals.{Said, answered, refused, sound, a_fault, wrong_count}
use Rattle.store_look.specs.Said.{told_with}
use Rattle.brownout_faults.specs.declared.Checked.{Checked}
use Rattle.brownout_faults.specs.declared.Checked.TheVariants.{Sound, Faulty, Miscounted, Refused}

-- RULES X7.
abbrev pub said_checked : Checked → Said
said_checked Sound = answered sound []
said_checked (Faulty i fault) = answered a_fault (i ∷ fault ∷ [])
said_checked Miscounted = answered wrong_count []
said_checked (Refused n told) = refused n (told_with n told)
