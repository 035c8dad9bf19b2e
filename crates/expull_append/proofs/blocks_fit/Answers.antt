-- The plan of the whole is the plan of the bytes that still wait. Assumes nothing.
use Rattle.std.proofs.Common.{arith, sym, ap, ◌∙◌}
use Rattle.expull_append.proofs.Loops.{planning-end, plan_left, planning-turn, planning-next, planning-few}
use Rattle.memory_arena.proofs.Laws.{sensible_wide}
use Rattle.expull_append.specs.Append.{is_some}
use Rattle.expull_append.proofs.blocks_fit.Goals as goal

pub overflow_add-number : goal.overflow_add-number
overflow_add-number c = omega (arith, planning-few c.loop-left.invariant)

pub find_room-requires : goal.find_room-requires
find_room-requires c =
    (omega arith, (omega (arith, sensible_wide _ _ c.loop-left.invariant.sense), c.loop-left.invariant.sense))

pub returns-in_default : goal.returns-in_default
returns-in_default c =
    sym (ap is_some (plan_left c.args.len c.args.arena c.args.h c.args.n _ c.saturating_sub-left.ensures ∙ planning-turn
    c.loop-left.invariant c.loop-left-test.true c.get_block_size-size.ensures.0 (sym c.in_default.is ∙ c.find_room.ensures)))

pub loop-left-preserved : goal.loop-left-preserved
loop-left-preserved c =
    planning-next c.loop-left.invariant c.loop-left-test.true c.get_block_size-size.ensures.0 c.find_room.ensures
    c.in-Some.is c.saturating_sub-left-in-loop-left.ensures

pub returns : goal.returns
returns c =
    sym (ap is_some (plan_left c.args.len c.args.arena c.args.h c.args.n _ c.saturating_sub-left.ensures ∙ planning-end
    c.loop-left.invariant (omega (arith, c.loop-left-test.false))))
