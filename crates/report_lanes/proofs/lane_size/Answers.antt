-- `report_lanes::lane_size` meets its contract. Assumes nothing.
use native.Mathlib.Omega.{arith}
use Rattle.report_lanes.proofs.Measuring.{decimal_most}
use Rattle.report_lanes.proofs.lane_size.Goals as goal

pub overflow_add-result-2 : goal.overflow_add-result-2
overflow_add-result-2 c = omega (arith, c.digit_count.ensures, decimal_most c.args.n)

pub overflow_add-result-3 : goal.overflow_add-result-3
overflow_add-result-3 c = omega (arith, c.digit_count.ensures, decimal_most c.args.n)

pub returns : goal.returns
returns c = (rw c.digit_count.ensures, omega (arith, c.digit_count.ensures, decimal_most c.args.n))
