-- The promises of vints, one value. Assumes nothing.
use Rattle.vint.specs.Promises.{Promises}
use Rattle.vint.proofs.Laws.{vint_length, fewest, vint_bytes_lem}
use Rattle.vint.proofs.Forms.{read_back, one_form, accepted, exactly_one}

pub promises : Promises
promises = record {
  read_back = read_back;
  one_form = one_form;
  accepted = accepted;
  exactly_one = exactly_one;
  vint_length = vint_length;
  fewest = fewest;
  vint_bytes_lem = vint_bytes_lem;
}
