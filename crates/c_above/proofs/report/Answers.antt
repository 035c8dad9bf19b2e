-- The answer, told, and what is written. Assumes nothing.
use mathlib.Core.Path.{sym, ◌∙◌}
use Rattle.store_state.specs.declared.State.{State}
use Rattle.store_look.specs.Look.{lent}
use Rattle.report.specs.Report.{Out, out, report_of}
use Rattle.state_area.proofs.Laws.{sensible-long}
use Rattle.c_told.proofs.Laws.{answered_with, senseless_with}
use Rattle.c_above.specs.Above.{reported_told}
use Rattle.c_above.proofs.report.Goals as goal

pub returns-then-not-is_sensible_area : goal.returns-then-not-is_sensible_area
returns-then-not-is_sensible_area c =
    record {
      settled = senseless_with _ _ _ _ _ (sym c.is_sensible_area.ensures ∙ c.if-not-is_sensible_area.true)
          c.tell.ensures;
    }

pub load-st-requires : goal.load-st-requires
load-st-requires c = sensible-long _ (sym c.is_sensible_area.ensures ∙ c.if-not-is_sensible_area.false)

pub returns : goal.returns
returns c =
    record {
      settled = answered_with (λ (o : Out). reported_told o.answer c.args.told.now) (λ (o : Out). o.output)
          (λ (s : State). report_of s (lent c.args.table.now c.args.keys.now c.args.lists.now) c.args.output.now)
          c.args.state.now _ _ (out c.report-answer.result c.report-answer.new.output) _ (sym c.is_sensible_area.ensures ∙
          c.if-not-is_sensible_area.false) c.tell_reported.ensures c.report-answer.ensures.settled c.load-st.ensures;
    }
