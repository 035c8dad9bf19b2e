-- The value of `Promises`. Assumes nothing.
use Rattle.entries.specs.Promises.{Promises}
use Rattle.entries.proofs.Laws.{read_back}
use Rattle.entries.proofs.Exact.{exact, all-met}
use Rattle.entries.proofs.Log.{in_order, from_first}

pub promises : Promises
promises = record {
  read_back = read_back;
  exact = exact;
  all-met = all-met;
  in_order = in_order;
  from_first = from_first;
}
