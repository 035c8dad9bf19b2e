-- Case by case. Assumes nothing.
use mathlib.Core.Path.{sym, ap}
use Rattle.lane_pieces.specs.Piece.{not_found}
use Rattle.lane_pieces.proofs.not_found.Goals as goal

pub returns-in-Failed : goal.returns-in-Failed
returns-in-Failed c = sym (ap not_found c.in-Failed.is)
