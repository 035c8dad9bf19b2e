-- Case by case. Assumes nothing.
use mathlib.Core.Path.{sym, ap}
use Rattle.store_look.specs.Look.{not_found}
use Rattle.store_look.proofs.lane.not_found.Goals as goal

pub returns-in-Failed : goal.returns-in-Failed
returns-in-Failed c = sym (ap not_found c.in-Failed.is)
