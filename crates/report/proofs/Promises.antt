-- The value of `Promises`. Assumes nothing.
use Rattle.limits.specs.Refusals.{one-outcome}
use Rattle.report.specs.Promises.{Promises}
use Rattle.report.proofs.Reporting.{report_refused, report_enough}

pub promises : Promises
promises = record {
  report_refused = report_refused;
  report_enough = report_enough;
  report_settled = λ st m output x y p q. one-outcome p q;
}
