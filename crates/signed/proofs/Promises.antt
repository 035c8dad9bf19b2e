-- The promises of readings' differences, one value. Assumes nothing.
use Rattle.signed.specs.Promises.{Promises}
use Rattle.signed.proofs.Laws.{unstored-stored, stored-fits, stored-unstored, unstored-fits}
use Rattle.signed.proofs.Laws.{following-difference, difference-fits}

pub promises : Promises
promises = record {
  unstored-stored = unstored-stored;
  stored-fits = stored-fits;
  stored-unstored = stored-unstored;
  unstored-fits = unstored-fits;
  following-difference = following-difference;
  difference-fits = difference-fits;
}
