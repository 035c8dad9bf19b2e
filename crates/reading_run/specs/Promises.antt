-- What is promised of readings' bytes. One record, a field a sentence; proofs/Promises.antt has its one value.
use Rattle.std.specs.Prelude.{◌≡◌, List, ℤ, pos, None}
use Rattle.reading_run.specs.Readings.{readings_bytes, AllSigned, vints_of, readings_in}

-- RULES AB5.
pub record Promises : Type 0 where
  -- readings written one behind the other, the first behind 0: their bytes split into whole vints, nothing left over,
  pub written_whole : (rs : List ℤ) → (vints_of (readings_bytes (pos 0) rs)).refusal ≡ None
  -- and these make the readings
  pub written_back : (rs : List ℤ) → AllSigned rs → readings_in (vints_of (readings_bytes (pos 0) rs)) ≡ rs
