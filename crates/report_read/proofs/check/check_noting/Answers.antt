-- `report_read::check::check_noting` meets its contract. The invariant, `Noting`: what the whole text reads as is what
-- the rest reads as behind the progress, and every name so far is noted.
-- Assumes nothing.
use Rattle.std.specs.Prelude.{Some}
use mathlib.Core.Path.{◌≡◌, sym, ◌∙◌}
use native.Mathlib.Omega.{arith}
use Rattle.std.proofs.lemmas.Result.{err_from_is_err_and}
use Rattle.report_read.proofs.Checking.{noting_starts, noting_vouch, noting-on, checking-rest}
use Rattle.report_read.proofs.Checking.{checking_bad, was_none}
use Rattle.report_read.proofs.check.check_noting.Goals as goal

pub loop-p-init : goal.loop-p-init
loop-p-init c = noting_starts c.args.text.now c.args.notes.now c.requires

pub returns-then-n-end : goal.returns-then-n-end
returns-then-n-end c =
    c.rest.ensures ∙ checking-rest c.loop-p.invariant.checking c.line_end-end.result c.line_end-end.ensures.0 (omega
    arith)

pub any_line-requires-clause-vouched : goal.any_line-requires-clause-vouched
any_line-requires-clause-vouched c =
    noting_vouch c.loop-p.invariant c.line_end-end.result c.line_end-end.ensures.0 (omega arith) c.note-maybe.result
    c.note-maybe.new.notes c.note-maybe.ensures

pub returns-in_err-p : goal.returns-in_err-p
returns-in_err-p c =
    let p = err_from_is_err_and c.from_residual.result c.from_residual.ensures.1 in
    let o = was_none _ _ _ c.in_err-p.ensures.value in
    rw (p.1, p.2, o.1) (checking_bad c.loop-p.invariant.checking c.line_end-end.result c.line_end-end.ensures.0 (omega
    arith) (sym c.any_line.ensures ∙ o.0))

pub loop-p-preserved : goal.loop-p-preserved
loop-p-preserved c =
    let o : c.any_line.result ≡ Some c.in_ok-p.p = grind arith in
    noting-on c.loop-p.invariant c.line_end-end.result c.line_end-end.ensures.0 (omega arith) c.note-maybe.result
    c.note-maybe.new.notes c.note-maybe.ensures _ (sym c.any_line.ensures ∙ o)
