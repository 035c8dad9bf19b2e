-- The value of `Promises`. Assumes nothing.
use mathlib.Core.Path.{ap}
use Rattle.limits.specs.Refusals.{one-outcome}
use Rattle.lane_pieces.specs.Piece.{Out}
use Rattle.lane_places.specs.PieceOn.{out}
use Rattle.lane_places.specs.Promises.{Promises}
use Rattle.lane_places.proofs.Fair.{fair-on}
use Rattle.lane_places.proofs.Own.{alike}

pub promises : Promises
promises = record {
  on_refused = λ st m name p output n told e.
      let f = (fair-on st m name p output).refused n told e in
      λ i. out (e i) (f.0 i) (f.1 i);
  same_answer = λ st m name p output at e O. ap (λ (o : Out). o.answer) (alike st m name p output at e O).same;
  same_output = λ st m name p output at e O. ap (λ (o : Out). o.output) (alike st m name p output at e O).same;
  own_again = λ st m name p output at e O. (alike st m name p output at e O).own;
  on_settled = λ st m name p output x y p' q. one-outcome p' q;
}
