-- `report_read::check::name_line` meets its contract. Assumes nothing.
use mathlib.Core.Path.{sym, ◌∙◌}
use native.Mathlib.Omega.{arith}
use borrow.Author.Tests.{le-leb, lt-leb}
use Rattle.limits.specs.Limits.{name_limit}
use Rattle.report_read.specs.Counted.{name_counted}
use Rattle.report_read.proofs.LineKinds.{bytes-told, no_bytes}
use Rattle.report_read.proofs.Noting.{vouched-name}
use Rattle.report_read.proofs.check.name_line.Goals as goal

pub returns-in_err-n : goal.returns-in_err-n
unfolding name_counted
returns-in_err-n c = c.from_residual.ensures ∙ sym (no_bytes _ _ c.in_err-n.ensures)

pub returns-then-n : goal.returns-then-n
unfolding name_counted
returns-then-n c = sym (bytes-told _ _ _ c.in_ok-n.ensures ∙ rw (lt-leb c.in_ok-n.n name_limit (omega arith)))

pub was_seen-requires : goal.was_seen-requires
was_seen-requires c =
    vouched-name c.args.maybe c.args.text.now c.args.p c.args.line.now _ c.requires c.in_ok-n.ensures

pub returns-then-was_seen : goal.returns-then-was_seen
unfolding name_counted
returns-then-was_seen c =
    sym (bytes-told _ _ _ c.in_ok-n.ensures ∙ rw (
      le-leb c.in_ok-n.n name_limit (omega arith),
      sym c.was_seen.ensures ∙
          c.if-was_seen.true,
    ))

pub returns : goal.returns
unfolding name_counted
returns c =
    sym (bytes-told _ _ _ c.in_ok-n.ensures ∙ rw (
      le-leb c.in_ok-n.n name_limit (omega arith),
      sym c.was_seen.ensures ∙
          c.if-was_seen.false,
    ))
