-- `report_read::pick::pick_lane` meets its contract. Assumes nothing.
use mathlib.Core.Path.{ap, ◌∙◌}
use native.Mathlib.Omega.{arith}
use Rattle.std.specs.Prelude.{Some, Ok}
use Rattle.std.proofs.lemmas.Result.{err_from_is_err_and}
use Rattle.report_read.proofs.Picking.{pick_parts, pick_found, pick_none, pick_unread}
use Rattle.report_read.proofs.pick.pick_lane.Goals as goal

pub returns-in_err-checked-clause-settled : goal.returns-in_err-checked-clause-settled
returns-in_err-checked-clause-settled c =
    let p = err_from_is_err_and c.from_residual.result c.from_residual.ensures.1 in
    rw (p.1, p.2) (pick_unread c.args.text.now c.args.index _ c.in_err-checked.ensures.settled)

pub returns-then-checked-index-clause-settled : goal.returns-then-checked-index-clause-settled
returns-then-checked-index-clause-settled c =
    pick_none c.args.text.now c.args.index _ c.in_ok-checked.ensures.settled (omega arith)

pub parts_at-requires : goal.parts_at-requires
parts_at-requires c =
    pick_parts c.args.text.now c.args.index _ c.in_ok-checked.ensures.settled (omega arith) _
    c.lane_start-at.ensures.0

pub returns-clause-settled : goal.returns-clause-settled
returns-clause-settled c =
    ap (λ a. Ok (Some a)) c.parts_at.ensures
    ∙ pick_found c.args.text.now c.args.index _ c.in_ok-checked.ensures.settled (omega arith) _ c.lane_start-at.ensures.0
