-- The state that the area holds, the append from the lookup on, and the new state saved. Assumes nothing.
use Prim.Native.Nat.{ℕ}
use mathlib.Core.Path.{sym, ap, subst, ◌∙◌}
use mathlib.Core.List.{List}
use Rattle.shared_arena_hashmap.specs.declared.Walk.{Walk}
use Rattle.store_state.specs.declared.State.{State}
use Rattle.store_look.specs.Look.{Lent, lent}
use Rattle.store_append.specs.Append.{Out, Looked, on_met}
use Rattle.store_append.proofs.Cases.{append-met}
use Rattle.state_area.specs.Area.{state_at}
use Rattle.state_area.proofs.Laws.{sensible-long}
use Rattle.c_told.specs.Told.{appended}
use Rattle.c_exports.proofs.append_fully.Goals as goal

pub load-st-requires : goal.load-st-requires
load-st-requires c = sensible-long _ c.requires.0

pub append_met-answer-requires : goal.append_met-answer-requires
append_met-answer-requires c =
    let m : Lent = lent c.args.table.now c.args.keys.now c.args.lists.now in subst (λ (x : State). Looked x m
    c.args.name.now c.args.hash c.args.met c.args.looked) (sym c.load-st.ensures) c.requires.1

pub save_appended-requires : goal.save_appended-requires
save_appended-requires c = sensible-long _ c.requires.0

pub returns : goal.returns
returns c =
    let m : Lent = lent c.args.table.now c.args.keys.now c.args.lists.now in
    let met = ap (λ (w : Walk). w.met) c.requires.1.walk in ap (λ (p : ℕ × List ℕ). (
      p,
      lent
          c.append_met-answer.new.table c.append_met-answer.new.keys c.append_met-answer.new.lists,
    ))
    c.save_appended.ensures ∙ ap (λ (o : Out). appended o c.args.state.now) (c.append_met-answer.ensures ∙ ap (λ (x
    : State). on_met c.args.met x m c.args.name.now c.args.bytes.now) c.load-st.ensures ∙ sym (append-met (state_at
    c.args.state.now) m c.args.name.now c.args.bytes.now c.args.met c.requires.1.whole c.requires.1.proper met))
