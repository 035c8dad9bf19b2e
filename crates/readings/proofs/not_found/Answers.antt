-- `readings::not_found` meets its contract. Assumes nothing.
use mathlib.Core.Path.{sym, ap}
use Rattle.readings.specs.Readings.{not_found}
use Rattle.readings.proofs.not_found.Goals as goal

pub returns-in-Failed : goal.returns-in-Failed
returns-in-Failed c = sym (ap not_found c.in-Failed.is)
