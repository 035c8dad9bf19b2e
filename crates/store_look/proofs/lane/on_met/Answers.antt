-- Case by case. Assumes nothing.
use mathlib.Core.Path.{sym, ap}
use Rattle.store_look.specs.Look.{on_met}
use Rattle.store_look.proofs.lane.on_met.Goals as goal

pub returns-in-Standing : goal.returns-in-Standing
returns-in-Standing c = sym (ap on_met c.in-Standing.is)
