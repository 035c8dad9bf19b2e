-- The reader's promises, one value each. Assumes nothing.
use Rattle.limits.specs.Refusals.{one-outcome}
use Rattle.report_read.specs.Promises.{Promises, Settled}
use Rattle.report_read.proofs.Picking.{lane_is, lane_none}

pub promises : Promises
promises = record { lane_is = lane_is; lane_none = lane_none }

pub settled : Settled
settled = record {
  check_settled = λ t x y p q. one-outcome p q;
  lane_settled = λ t i x y p q. one-outcome p q;
  unhex_settled = λ cs output x y p q. one-outcome p q;
}
