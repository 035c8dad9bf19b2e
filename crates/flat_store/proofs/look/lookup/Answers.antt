-- `flat_store::look::lookup` meets its contract. Assumes nothing.
use Rattle.std.specs.Prelude.{Ok, Err}
use Rattle.std.proofs.lemmas.Result.{err_from_is_err_and}
use Rattle.flat_store.proofs.Finds.{lookup_is}
use Rattle.flat_store.proofs.look.lookup.Goals as goal

pub returns-in_err-held-clause-settled : goal.returns-in_err-held-clause-settled
returns-in_err-held-clause-settled c =
    let p = err_from_is_err_and c.from_residual.result c.from_residual.ensures.1 in
    rw (p.1, p.2) (lookup_is c.args.buffer.now c.args.used c.args.name.now (Err _) c.in_err-held.ensures.settled)

pub returns-clause-settled : goal.returns-clause-settled
returns-clause-settled c =
    rw c.is_some.ensures
    (lookup_is c.args.buffer.now c.args.used c.args.name.now (Ok _) c.in_ok-held.ensures.settled)
