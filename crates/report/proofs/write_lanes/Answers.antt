-- `report::write_lanes` meets its contract. Assumes nothing.
use Prim.Native.Nat.{ℕ, ◌-◌}
use mathlib.Core.Path.{◌≡◌, sym, ap, ◌∙◌, subst}
use native.Mathlib.Omega.{arith}
use native.Mathlib.Nat.{sub-zero}
use Rattle.std.specs.Prelude.{Ok, IfSome}
use Rattle.store_look.specs.Look.{lent}
use Rattle.report_lanes.specs.Lanes.{gather_from}
use Rattle.report_lanes.specs.Measure.{Small}
use Rattle.report_lanes.proofs.Measuring.{none_left, none_halted, none_more}
use Rattle.report.proofs.Written.{lanes_start, lane-stands, lane_room, lanes_on, lanes_over}
use Rattle.report.proofs.write_lanes.Goals as goal

pub loop-init : goal.loop-init
loop-init c =
    rw sub-zero (lanes_start c.args.st (lent c.args.table.now c.args.keys.now c.args.lists.now) c.args.from
    c.args.output.now c.requires.met)

pub write_lane-p-requires : goal.write_lane-p-requires
write_lane-p-requires c =
    let q = subst (λ o. IfSome o (Small c.args.st.buckets)) c.in-Ok-Some.field-0-is c.in-Ok-Some.ensures.1 in
    let e = sym c.in-Ok-Some.ensures.0 ∙ ap Ok c.in-Ok-Some.field-0-is in
    let S = lane-stands c.loop.invariant c.requires.whole (omega arith) _ e in
    let room = lane_room c.loop.invariant c.requires.whole (omega arith) _ e in
    (S.0, (S.1, (q.2, omega (arith, room, c.requires.fits))))

pub returns-in-Ok-None : goal.returns-in-Ok-None
returns-in-Ok-None c =
    lanes_over c.loop.invariant (none_left c.args.st (lent c.args.table.now c.args.keys.now c.args.lists.now) _
    c.loop.index _ (omega arith) (sym c.in-Ok-None.ensures.0 ∙ ap Ok c.in-Ok-None.field-0-is) c.loop.invariant.rest_is)

pub returns-in-Err : goal.returns-in-Err
returns-in-Err c =
    absurd (none_halted c.args.st (lent c.args.table.now c.args.keys.now c.args.lists.now) _ c.loop.index _ _ (omega
    arith) (sym c.in-Err.ensures.0) c.loop.invariant.rest_is)

pub loop-preserved : goal.loop-preserved
loop-preserved c =
    lanes_on c.loop.invariant c.requires.whole (omega arith) _ (sym c.in-Ok-Some.ensures.0 ∙ ap Ok
    c.in-Ok-Some.field-0-is)
    c.write_lane-p.new.output _ c.write_lane-p.ensures.0 c.write_lane-p.ensures.1 _ (omega arith)

pub returns : goal.returns
returns c =
    let m = lent c.args.table.now c.args.keys.now c.args.lists.now in
    let z : c.args.st.buckets - c.loop.counter ≡ 0 = omega arith in
    lanes_over c.loop.invariant (none_more c.args.st m c.loop.index c.loop.invariant.rest
    (ap (λ (k : ℕ). gather_from c.args.st m k c.loop.index) (sym z) ∙ c.loop.invariant.rest_is))
