-- The store's answer, told. Assumes nothing.
use mathlib.Core.Path.{sym, ap, ◌∙◌}
use Rattle.store_state.specs.declared.State.{State}
use Rattle.store_look.specs.declared.Answer.{Answer}
use Rattle.store_look.specs.Look.{Lent, lent, length_of}
use Rattle.state_area.proofs.Laws.{sensible-long}
use Rattle.c_told.specs.Told.{answer_told}
use Rattle.c_exports.proofs.nuvrisel_length.Goals as goal

pub returns-then-not-is_sensible_area : goal.returns-then-not-is_sensible_area
returns-then-not-is_sensible_area c =
    record { settled = c.tell.ensures ∙ rw (sym c.is_sensible_area.ensures ∙ c.if-not-is_sensible_area.true) }

pub load-st-requires : goal.load-st-requires
load-st-requires c = sensible-long _ (sym c.is_sensible_area.ensures ∙ c.if-not-is_sensible_area.false)

pub returns : goal.returns
returns c =
    let m : Lent = lent c.args.table.now c.args.keys.now c.args.lists.now in record {
      settled =
          c.tell_answer.ensures ∙ ap (λ (x : Answer). answer_told x c.args.told.now)
          (c.length_alone-answer.ensures.settled ∙ ap (λ (s : State). length_of s m c.args.name.now) c.load-st.ensures) ∙
          rw (sym c.is_sensible_area.ensures ∙ c.if-not-is_sensible_area.false);
    }
