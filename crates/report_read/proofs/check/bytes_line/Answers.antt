-- `report_read::check::bytes_line` meets its contract. Assumes nothing.
use mathlib.Core.Path.{sym, ◌∙◌}
use native.Mathlib.Omega.{arith}
use borrow.Author.Tests.{eq-eqb, ne_eqb}
use Rattle.report_text.specs.Text.{bytes_word}
use Rattle.report_read.specs.Counted.{bytes_counted}
use Rattle.report_read.proofs.LineKinds.{bytes-told, no_bytes, bytes_most}
use Rattle.report_read.proofs.check.bytes_line.Goals as goal

pub returns-in_err-n : goal.returns-in_err-n
unfolding bytes_counted
returns-in_err-n c = c.from_residual.ensures ∙ sym (no_bytes _ _ c.in_err-n.ensures)

pub returns-then-n-p : goal.returns-then-n-p
unfolding bytes_counted
returns-then-n-p c = sym (bytes-told _ _ _ c.in_ok-n.ensures ∙ rw (ne_eqb _ _ c.if-n-p.true))

pub overflow_add-result-2 : goal.overflow_add-result-2
overflow_add-result-2 c = omega (arith, bytes_most bytes_word c.args.line.now _ c.in_ok-n.ensures)

pub returns : goal.returns
unfolding bytes_counted
returns c = sym (bytes-told _ _ _ c.in_ok-n.ensures ∙ rw (eq-eqb _ _ c.if-n-p.false))
