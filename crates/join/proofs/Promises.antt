-- The value of `Promises`. Assumes nothing.
use Rattle.limits.specs.Refusals.{one-outcome}
use Rattle.join.specs.Promises.{Promises}

pub promises : Promises
promises = record { join_settled = λ w v s x y p q. one-outcome p q }
