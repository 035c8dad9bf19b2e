-- The promises of readings' bytes, one value. Assumes nothing.
use mathlib.Core.Path.{ap, ◌∙◌}
use native.Mathlib.Omega.{arith}
use lib.IntN.{pos}
use Rattle.reading_run.specs.Readings.{Split, readings_in}
use Rattle.reading_run.specs.Promises.{Promises}
use Rattle.reading_run.proofs.Back.{written_splits, stored_readings}

pub promises : Promises
promises = record {
  written_whole = λ rs. ap (λ (s : Split). s.refusal) (written_splits (pos 0) rs);
  written_back = λ rs a. ap readings_in (written_splits (pos 0) rs) ∙ stored_readings (pos 0) rs (omega arith) a;
}
