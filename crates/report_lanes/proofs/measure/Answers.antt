-- `report_lanes::measure` meets its contract. Assumes nothing.
use mathlib.Core.Path.{sym, ap, ◌∙◌, subst}
use Rattle.std.specs.Prelude.{Ok, IfSome}
use Rattle.report_lanes.specs.Measure.{Small}
use native.Mathlib.Omega.{arith}
use native.Mathlib.Nat.{sub-zero}
use Rattle.std.proofs.lemmas.Result.{err_from_is_err_and}
use Rattle.store_look.specs.Look.{lent}
use Rattle.report_lanes.proofs.Measuring.{measuring_starts, measuring-few, measuring-on}
use Rattle.report_lanes.proofs.Measuring.{measuring_over, measuring_halted, measuring-ends, few_sums}
use Rattle.report_lanes.proofs.measure.Goals as goal

pub loop-init : goal.loop-init
loop-init c =
    rw sub-zero (measuring_starts c.args.st (lent c.args.table.now c.args.keys.now c.args.lists.now))

pub returns-in_err-lane : goal.returns-in_err-lane
returns-in_err-lane c =
    let p = err_from_is_err_and c.from_residual.result c.from_residual.ensures.1 in
    rw (p.1, p.2) (measuring_halted c.loop.invariant (omega arith) _ (sym c.in_err-lane.ensures.0), tt)

pub returns-in_default : goal.returns-in_default
returns-in_default c = (
  measuring_over c.loop.invariant (omega arith) (sym c.in_ok-lane.ensures.0 ∙ ap Ok c.in_default.is),
  few_sums c.loop.invariant c.requires,
)

pub overflow_add-sums-in-loop : goal.overflow_add-sums-in-loop
overflow_add-sums-in-loop c =
    let q = subst (λ o. IfSome o (Small c.args.st.buckets)) c.in-Some.is c.in_ok-lane.ensures.1 in
    omega (arith, q.2, c.loop.invariant.bytes_le, measuring-few c.loop.invariant c.requires)

pub overflow_add-sums-in-loop-2 : goal.overflow_add-sums-in-loop-2
overflow_add-sums-in-loop-2 c =
    omega (
      arith,
      c.lane_size-size.ensures.1,
      c.loop.invariant.text_le,
      measuring-few c.loop.invariant c.requires,
    )

pub loop-preserved : goal.loop-preserved
loop-preserved c =
    let q = subst (λ o. IfSome o (Small c.args.st.buckets)) c.in-Some.is c.in_ok-lane.ensures.1 in
    measuring-on c.loop.invariant c.requires (omega arith) _ _ (sym c.in_ok-lane.ensures.0 ∙ ap Ok c.in-Some.is) q.2
    c.lane_size-size.ensures.0 c.lane_size-size.ensures.1 _ (omega arith)

pub returns : goal.returns
returns c = (measuring-ends c.loop.invariant (omega arith), few_sums c.loop.invariant c.requires)
