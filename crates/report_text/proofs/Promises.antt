-- The value of `Promises`. Assumes nothing.
use Rattle.report_text.specs.Promises.{Promises}
use Rattle.report_text.proofs.Round.{round_trip}
use Rattle.report_text.proofs.Exact.{only_text}

pub promises : Promises
promises = record { round_trip = round_trip; only_text = only_text }
