-- `flat_store::look::length` meets its contract. Assumes nothing.
use mathlib.Core.Path.{sym, ◌∙◌}
use native.Mathlib.Omega.{arith}
use lib.ListN.{length}
use borrow.Author.Tests.{eqb-false}
use Rattle.spans.specs.Span.{read_span}
use Rattle.flat_store.proofs.Finds.{length-walked}
use Rattle.flat_store.proofs.look.length.Goals as goal

pub returns-clause-settled : goal.returns-clause-settled
unfolding read_span
returns-clause-settled c =
    c.walk_run.ensures
    ∙ sym (length-walked c.args.buffer.now c.args.used c.args.name.now c.if-buffer-used.false
    c.if-name-gt-NAME_LIMIT.false
    (omega (arith, eqb-false (length c.args.name.now) 0 (sym c.if-is_empty.ensures))))
