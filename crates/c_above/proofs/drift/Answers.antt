-- The state that the area holds, and the new one saved. Assumes nothing.
use mathlib.Core.Path.{◌≡◌, sym, ◌∙◌}
use mathlib.Core.Bool.{true}
use Rattle.store_state.specs.declared.State.{State}
use Rattle.store_look.specs.Look.{Lent, lent}
use mir.Facts.{to_z-of_z}
use Rattle.store_append.specs.Append.{Out, out}
use Rattle.readings.specs.Readings.{append_reading_of}
use Rattle.state_area.specs.Area.{sensible_area}
use Rattle.state_area.proofs.Laws.{sensible-long}
use Rattle.c_told.specs.Told.{saved_appended}
use Rattle.c_told.proofs.Laws.{answered_with}
use Rattle.c_above.proofs.drift.Goals as goal
use Rattle.c_above.proofs.drift.Goals.{Else-not-is_sensible_area}

-- the area was found sensible
sensible : (c : Else-not-is_sensible_area) → sensible_area c.args.state.now ≡ true
sensible c = sym c.is_sensible_area.ensures ∙ c.if-not-is_sensible_area.false

pub returns-then-not-is_sensible_area : goal.returns-then-not-is_sensible_area
returns-then-not-is_sensible_area c =
    record { settled = rw (sym c.is_sensible_area.ensures ∙ c.if-not-is_sensible_area.true) }

pub load-st-requires : goal.load-st-requires
load-st-requires c = sensible-long _ (sensible (goal.at.load-st-requires c).Else-not-is_sensible_area)

pub save_appended-requires : goal.save_appended-requires
save_appended-requires c = sensible-long _ (sensible (goal.at.save_appended-requires c).Else-not-is_sensible_area)

pub returns : goal.returns
returns c =
    let m : Lent = lent c.args.table.now c.args.keys.now c.args.lists.now in record {
      settled = answered_with (λ (o
          : Out). saved_appended o.answer c.args.state.now) (λ (o : Out). o.memory) (λ (s : State). append_reading_of s m
          c.args.name.now c.args.last c.args.reading) c.args.state.now _ _ (out c.append_reading-r.result.answer (lent
          c.append_reading-r.new.table c.append_reading-r.new.keys c.append_reading-r.new.lists)) c.load-st.result
          (sensible (goal.at.returns c).Else-not-is_sensible_area) c.save_appended.ensures
          (c.append_reading-r.ensures.settled ∙ (λ i. append_reading_of c.load-st.result m c.args.name.now (to_z-of_z
          c.ranges.last i) (to_z-of_z c.ranges.reading i))) c.load-st.ensures;
    }
