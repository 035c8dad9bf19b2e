-- RULES AF14. "every store with a history as in demand 3 is called sound". One record, a field a sentence;
-- `history_called-sound` of proofs/Sound.antt proves it of each store that an accepted creation made and of any calls
-- on it.
use Rattle.std.specs.Prelude.{ℕ, ◌≤◌, ◌<◌, ◌≡◌, List, length, replicate}
use Rattle.history.specs.History.{World, Call, play}
use Rattle.brownout_faults.specs.declared.Checked.TheVariants.{Sound, Refused}
use Rattle.brownout_faults.specs.Check.{marks_needed, out, check_of}

-- RULES AF14. W is the store at its start
pub record CalledSound (w : World) (calls : List Call) : Type 0 where
  -- with a mark area that is long enough it is called sound, and the area is zero afterwards
  pub called_sound : (marks : List ℕ) → marks_needed (play calls w).memory ≤ length marks
      → check_of (play calls w).state (play calls w).memory marks ≡ out Sound (replicate (length marks) 0)
  -- with a shorter one 8 tells the bytes needed: no other answer ever comes
  pub too_short : (marks : List ℕ) → length marks < marks_needed (play calls w).memory
      → check_of (play calls w).state (play calls w).memory marks
      ≡ out (Refused 8 (marks_needed (play calls w).memory)) marks
