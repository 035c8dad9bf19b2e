-- Going over all buckets is going over those left. Assumes nothing.
use Prim.Native.Nat.{◌<◌}
use mathlib.Core.Bool.{true, false}
use mathlib.Core.Path.{◌∙◌}
use native.Mathlib.Omega.{arith}
use borrow.Author.Tests.{eq-eqb, ne_eqb}
use Rattle.store_look.specs.Look.{lent}
use Rattle.brownout.proofs.Turns.{going-begun, going_stop, going_next, going_end}
use Rattle.brownout.proofs.go_over.Goals as goal
use Rattle.brownout.proofs.go_over.Goals.{After-look_over-fault}

inside : (c : After-look_over-fault) → c.loop-i.i < c.args.st.buckets
inside c = omega arith

pub loop-i-init : goal.loop-i-init
loop-i-init c =
    going-begun c.args.st (lent c.args.table.now c.args.keys.now c.args.lists.now) c.args.marks.now

pub look_over-fault-requires : goal.look_over-fault-requires
look_over-fault-requires c = (
  c.requires.0,
  (omega arith, omega (arith, c.requires.1, c.loop-i.invariant.kept)),
)

pub shape_of-marks-then-fault-ne0 : goal.shape_of-marks-then-fault-ne0
shape_of-marks-then-fault-ne0 c = c.look_over-fault.auto.marks ∙ c.loop-i.invariant.kept

pub returns-then-fault-ne0 : goal.returns-then-fault-ne0
returns-then-fault-ne0 c =
    going_stop c.loop-i.invariant (inside (goal.at.returns-then-fault-ne0 c).After-look_over-fault)
    c.look_over-fault.result c.look_over-fault.new.marks c.look_over-fault.ensures c.if-fault-ne0.true

pub count_on-count-requires : goal.count_on-count-requires
count_on-count-requires c =
    (c.requires.0, (inside (goal.at.count_on-count-requires c).After-look_over-fault, c.loop-i.invariant.few))

pub loop-i-preserved : goal.loop-i-preserved
loop-i-preserved c =
    going_next c.loop-i.invariant (inside (goal.at.loop-i-preserved c).After-look_over-fault) c.look_over-fault.result
    c.look_over-fault.new.marks c.look_over-fault.ensures c.if-fault-ne0.false c.look_over-fault.auto.marks
    c.count_on-count.result c.count_on-count.ensures.0 c.count_on-count.ensures.1

pub shape_of-marks-then-st-count : goal.shape_of-marks-then-st-count
shape_of-marks-then-st-count c = c.loop-i.invariant.kept

pub returns-then-st-count : goal.returns-then-st-count
returns-then-st-count c =
    going_end c.loop-i.invariant (omega arith) true (eq-eqb _ _ c.if-st-count.true)

pub shape_of-marks : goal.shape_of-marks
shape_of-marks c = c.loop-i.invariant.kept

pub returns : goal.returns
returns c = going_end c.loop-i.invariant (omega arith) false (ne_eqb _ _ c.if-st-count.false)
