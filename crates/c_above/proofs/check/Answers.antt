-- The answer, told, and what is written. Assumes nothing.
use mathlib.Core.Path.{sym, ◌∙◌}
use Rattle.store_state.specs.declared.State.{State}
use Rattle.store_look.specs.Look.{lent}
use Rattle.brownout_faults.specs.Check.{Out, out, check_of}
use Rattle.state_area.proofs.Laws.{sensible-long}
use Rattle.c_told.proofs.Laws.{answered_with, senseless_with}
use Rattle.c_above.specs.Above.{checked_told}
use Rattle.c_above.proofs.check.Goals as goal

pub returns-then-not-is_sensible_area : goal.returns-then-not-is_sensible_area
returns-then-not-is_sensible_area c =
    record {
      settled = senseless_with _ _ _ _ _ (sym c.is_sensible_area.ensures ∙ c.if-not-is_sensible_area.true)
          c.tell.ensures;
    }

pub load-st-requires : goal.load-st-requires
load-st-requires c = sensible-long _ (sym c.is_sensible_area.ensures ∙ c.if-not-is_sensible_area.false)

pub returns : goal.returns
returns c =
    record {
      settled = answered_with (λ (o : Out). checked_told o.answer c.args.told.now) (λ (o : Out). o.marks) (λ
          (s : State). check_of s (lent c.args.table.now c.args.keys.now c.args.lists.now) c.args.marks.now)
          c.args.state.now _ _ (out c.check-answer.result c.check-answer.new.marks) _ (sym c.is_sensible_area.ensures ∙
          c.if-not-is_sensible_area.false) c.tell_checked.ensures c.check-answer.ensures.settled c.load-st.ensures;
    }
