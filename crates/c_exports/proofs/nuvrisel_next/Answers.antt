-- The store's answer, told. Assumes nothing.
use mathlib.Core.Path.{sym, ◌∙◌}
use Rattle.store_state.specs.declared.State.{State}
use Rattle.store_look.specs.declared.Listed.{Listed}
use Rattle.store_look.specs.Look.{lent, next_of}
use Rattle.state_area.proofs.Laws.{sensible-long}
use Rattle.c_told.specs.Told.{listed_told}
use Rattle.c_told.proofs.Laws.{answered, senseless}
use Rattle.c_exports.proofs.nuvrisel_next.Goals as goal

pub returns-then-not-is_sensible_area : goal.returns-then-not-is_sensible_area
returns-then-not-is_sensible_area c =
    record {
      settled = senseless _ _ _ _ (sym c.is_sensible_area.ensures ∙ c.if-not-is_sensible_area.true)
          c.tell.ensures;
    }

pub load-st-requires : goal.load-st-requires
load-st-requires c = sensible-long _ (sym c.is_sensible_area.ensures ∙ c.if-not-is_sensible_area.false)

pub returns : goal.returns
returns c =
    record {
      settled = answered (λ (x : Listed). listed_told x c.args.told.now) (λ (s : State). next_of s (lent
          c.args.table.now c.args.keys.now c.args.lists.now) c.args.index) c.args.state.now _ _ _ _ (sym
          c.is_sensible_area.ensures ∙ c.if-not-is_sensible_area.false) c.tell_listed.ensures
          c.next_occupied-next.ensures.settled c.load-st.ensures;
    }
