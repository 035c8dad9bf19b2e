-- The value of `Promises`. Assumes nothing.
use Rattle.limits.specs.Refusals.{one-outcome}
use Rattle.store_look.specs.declared.Lookup.TheVariants.{Missing}
use Rattle.lane_pieces.specs.Piece.{out}
use Rattle.lane_pieces.specs.Promises.{Promises}
use Rattle.lane_pieces.proofs.Fair.{fair-piece}
use Rattle.lane_pieces.proofs.Pieces.{piece-looked}
use Rattle.lane_pieces.proofs.Readings.{piece_of_reading}

pub promises : Promises
promises = record {
  piece_refused = λ st m name given output n told e.
      λ i. out (e i) ((fair-piece st m name given output).refused n told e i);
  piece_absent = λ st m name given output e. piece-looked st m name given output Missing e;
  piece_of_reading = piece_of_reading;
  piece_settled = λ st m name given output x y p q. one-outcome p q;
}
