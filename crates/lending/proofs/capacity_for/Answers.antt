-- `lending::capacity_for` meets its contract. Assumes nothing.
use native.Mathlib.Omega.{arith}
use Rattle.lending.proofs.Laws.{capacity_none, capacity_is, capacity_small}
use Rattle.lending.proofs.capacity_for.Goals as goal

pub returns-then-lanes-eq0 : goal.returns-then-lanes-eq0
returns-then-lanes-eq0 c = (capacity_none c.args.lanes c.if-lanes-eq0.true, omega arith)

pub returns : goal.returns
returns c = (
  capacity_is c.args.lanes _ c.compute_previous_power_of_two.ensures,
  capacity_small c.args.lanes _
      c.if-lanes-eq0.false c.requires c.compute_previous_power_of_two.ensures,
)
