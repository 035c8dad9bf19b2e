-- The promises of numbers fed in pieces, one value. Assumes nothing.
use Rattle.number_pieces.specs.Promises.{Promises}
use Rattle.number_pieces.proofs.Vints.{number_given, fault_12, fault_11, fewer_wait}
use Rattle.number_pieces.proofs.Calls.{cut_anywhere, fresh-takes, empty_piece, empty_goes_on, state_back}
use Rattle.number_pieces.proofs.Calls.{output_back, written_back}

pub promises : Promises
promises = record {
  cut_anywhere = cut_anywhere;
  fresh-takes = fresh-takes;
  empty_piece = empty_piece;
  empty_goes_on = empty_goes_on;
  state_back = state_back;
  output_back = output_back;
  number_given = number_given;
  fault_12 = fault_12;
  fault_11 = fault_11;
  fewer_wait = fewer_wait;
  written_back = written_back;
}
