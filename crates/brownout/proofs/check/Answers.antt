-- Refused, or cleared, gone over and cleared. Assumes nothing.
use mathlib.Core.Bool.{true}
use mathlib.Core.Path.{◌≡◌, sym, ◌∙◌}
use native.Mathlib.Omega.{arith}
use Rattle.store_look.specs.Look.{lent, checked}
use Rattle.brownout.proofs.Turns.{keys_short, lists_short, check_2, check_8, check_done, told}
use Rattle.brownout.proofs.check.Goals as goal
use Rattle.brownout.proofs.check.Goals.{Else-not-is_whole_state}

whole : (c : Else-not-is_whole_state) → checked c.args.st (lent c.args.table.now c.args.keys.now c.args.lists.now) ≡
    true
whole c = sym c.is_whole_state.ensures ∙ c.if-not-is_whole_state.false

pub returns-then-not-is_whole_state : goal.returns-then-not-is_whole_state
returns-then-not-is_whole_state c =
    let m = lent c.args.table.now c.args.keys.now c.args.lists.now in
    let it = told c.args.st m c.args.marks.now _ _ (check_2 c.args.st m c.args.marks.now (sym
    c.is_whole_state.ensures ∙ c.if-not-is_whole_state.true)) in record { settled = it.0; numbered = it.1 }

pub overflow_add-needed-2 : goal.overflow_add-needed-2
overflow_add-needed-2 c =
    omega (
      arith,
      keys_short c.args.st (lent c.args.table.now c.args.keys.now c.args.lists.now) (whole
          (goal.at.overflow_add-needed-2 c).Else-not-is_whole_state),
      lists_short c.args.st (lent c.args.table.now
          c.args.keys.now c.args.lists.now) (whole (goal.at.overflow_add-needed-2 c).Else-not-is_whole_state),
    )

pub returns-then-marks-needed : goal.returns-then-marks-needed
returns-then-marks-needed c =
    let it = told c.args.st (lent c.args.table.now c.args.keys.now c.args.lists.now) c.args.marks.now _ _ (check_8
    c.args.st (lent c.args.table.now c.args.keys.now c.args.lists.now) c.args.marks.now (whole
    (goal.at.returns-then-marks-needed c).Else-not-is_whole_state) c.if-marks-needed.true) in record {
      settled =
          it.0;
      numbered = it.1;
    }

pub go_over-answer-requires : goal.go_over-answer-requires
go_over-answer-requires c = (
  whole (goal.at.go_over-answer-requires c).Else-not-is_whole_state,
  omega (
    arith,
    c.if-marks-needed.false,
    c.clear.auto.marks,
  ),
)

pub returns : goal.returns
returns c =
    let it = told c.args.st (lent c.args.table.now c.args.keys.now c.args.lists.now) c.args.marks.now _ _
    (check_done c.args.st (lent c.args.table.now c.args.keys.now c.args.lists.now) c.args.marks.now (whole
    (goal.at.returns c).Else-not-is_whole_state) (omega (arith, c.if-marks-needed.false)) c.clear.new.marks
    c.go_over-answer.new.marks c.clear-2.new.marks c.go_over-answer.result c.clear.ensures.settled c.go_over-answer.ensures
    c.go_over-answer.auto.marks c.clear-2.ensures.settled) in record { settled = it.0; numbered = it.1 }
