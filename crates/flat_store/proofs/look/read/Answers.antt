-- `flat_store::look::read` meets its contract. Assumes nothing.
use Rattle.std.specs.Prelude.{Ok, Err}
use mathlib.Core.Path.{sym}
use Rattle.std.proofs.lemmas.Result.{err_from_is_err_and}
use lib.Seq.{length-take-le}
use Rattle.spans.specs.Span.{read_span}
use Rattle.flat_store.proofs.Finds.{Sized, sized, read_not, read_8, read_fits, read_done}
use Rattle.flat_store.proofs.look.read.Goals as goal
use Rattle.flat_store.proofs.look.read.Goals.{In-Some}

-- so many bytes stand
stood : (c : In-Some) → Sized c.args.buffer.now c.args.used c.args.name.now c.in-Some.n
stood c = sized c.args.buffer.now c.args.used c.args.name.now c.in-Some.n (rw c.in-Some.is at c.in_ok-n.ensures.settled)

pub returns-in_err-n-clause-settled : goal.returns-in_err-n-clause-settled
returns-in_err-n-clause-settled c =
    let p = err_from_is_err_and c.from_residual.result c.from_residual.ensures.1 in
    rw (p.1, p.2) (read_not c.args.buffer.now c.args.used c.args.name.now c.args.output.now (Err _)
    c.in_err-n.ensures.settled (λ n q. cc))

pub returns-in_default-clause-settled : goal.returns-in_default-clause-settled
returns-in_default-clause-settled c =
    read_not c.args.buffer.now c.args.used c.args.name.now c.args.output.now (Ok _)
    (rw c.in_default.is at c.in_ok-n.ensures.settled) (λ n q. cc)

pub returns-then-output-n-clause-settled : goal.returns-then-output-n-clause-settled
returns-then-output-n-clause-settled c =
    read_8 c.args.buffer.now c.args.used c.args.name.now c.args.output.now c.in-Some.n
    (stood (goal.at.returns-then-output-n-clause-settled c).In-Some) c.if-output-n.true

pub slice_bounds-copy_run-end : goal.slice_bounds-copy_run-end
slice_bounds-copy_run-end c =
    sym (length-take-le c.args.used c.args.buffer.now
    (stood (goal.at.slice_bounds-copy_run-end c).In-Some).stood.inside)

pub copy_run-requires : goal.copy_run-requires
unfolding read_span
copy_run-requires c =
    read_fits c.args.buffer.now c.args.used c.args.name.now c.args.output.now c.in-Some.n
    (stood (goal.at.copy_run-requires c).In-Some) c.if-output-n.false

pub returns-clause-settled : goal.returns-clause-settled
unfolding read_span
returns-clause-settled c =
    read_done c.args.buffer.now c.args.used c.args.name.now c.args.output.now c.in-Some.n
    (stood (goal.at.returns-clause-settled c).In-Some) c.if-output-n.false c.copy_run.new.output c.copy_run.ensures
