-- Case by case. Assumes nothing.
use mathlib.Core.Path.{sym, ap}
use Rattle.brownout_faults.specs.Check.{found_met}
use Rattle.brownout.proofs.is_found.Goals as goal

pub returns-in-Standing : goal.returns-in-Standing
returns-in-Standing c = sym (ap (found_met c.args.n) c.in-Standing.is)
