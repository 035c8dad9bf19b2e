-- The answer, told, and what is written. Assumes nothing.
use Prim.Native.Nat.{ℕ}
use mathlib.Core.Path.{sym, ap, ◌∙◌}
use mathlib.Core.List.{List}
use Rattle.store_state.specs.declared.State.{State}
use Rattle.store_look.specs.Look.{Lent, lent, Read, read_of}
use Rattle.state_area.proofs.Laws.{sensible-long}
use Rattle.c_exports.specs.Calls.{read_told}
use Rattle.c_exports.proofs.nuvrisel_read.Goals as goal

pub returns-then-not-is_sensible_area : goal.returns-then-not-is_sensible_area
returns-then-not-is_sensible_area c =
    record {
      settled = ap (λ (p : ℕ × List ℕ). (p, c.args.output.now)) c.tell.ensures ∙ rw (sym
          c.is_sensible_area.ensures ∙ c.if-not-is_sensible_area.true);
    }

pub load-st-requires : goal.load-st-requires
load-st-requires c = sensible-long _ (sym c.is_sensible_area.ensures ∙ c.if-not-is_sensible_area.false)

pub returns : goal.returns
returns c =
    let m : Lent = lent c.args.table.now c.args.keys.now c.args.lists.now in record {
      settled = ap (λ (p : ℕ × List
          ℕ). (p, c.read-r.new.output)) c.tell_answer.ensures ∙ ap (λ (o : Read). read_told o c.args.told.now)
          (c.read-r.ensures.settled ∙ ap (λ (s : State). read_of s m c.args.name.now c.args.output.now) c.load-st.ensures)
          ∙ rw (sym c.is_sensible_area.ensures ∙ c.if-not-is_sensible_area.false);
    }
