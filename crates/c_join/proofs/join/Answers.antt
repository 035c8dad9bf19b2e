-- A senseless area of either store; the join on the states that both hold. Assumes nothing.
use Prim.Native.Nat.{ℕ}
use mathlib.Core.Path.{◌≡◌, sym, ap, ◌∙◌}
use mathlib.Core.Bool.{true}
use mathlib.Core.List.{List}
use Rattle.store_state.specs.declared.State.{State}
use Rattle.store_look.specs.Look.{Lent, lent}
use Rattle.join.specs.Join.{store, Out, out, join_of}
use Rattle.state_area.specs.Area.{sensible_area, state_at}
use Rattle.state_area.proofs.Laws.{sensible-long}
use Rattle.c_join.specs.Joined.{saved_joined, joining, joined, join_in}
use Rattle.c_join.proofs.join.Goals as goal
use Rattle.c_join.proofs.join.Goals.{Else-not-is_sensible_area, Else-not-is_sensible_area-2}

-- the states that both areas hold, joined, and the new one saved
joins : (area area2 told s : List ℕ) (m m2 : Lent) (st st2 : State) (o : Out) (x : (ℕ × List ℕ) × List ℕ)
    → x ≡ saved_joined o.answer told area → o ≡ join_of (store st m) (store st2 m2) s → st ≡ state_at area
    → st2 ≡ state_at area2 → sensible_area area ≡ true → sensible_area area2 ≡ true
    → joining x o.memory o.scratch ≡ join_in area m area2 m2 s told
joins area area2 told s m m2 st st2 o x p q e f g h =
    ap (λ (y : (ℕ × List ℕ) × List ℕ). joining y o.memory o.scratch) p
    ∙ ap (λ (y : Out). joined y told area) (q ∙ (λ i. join_of (store (e i) m) (store (f i) m2) s)) ∙ rw (g, h)

-- both areas were found sensible
first-sensible : (c : Else-not-is_sensible_area) → sensible_area c.args.state.now ≡ true
first-sensible c = sym c.is_sensible_area.ensures ∙ c.if-not-is_sensible_area.false

second-sensible : (c : Else-not-is_sensible_area-2) → sensible_area c.args.state2.now ≡ true
second-sensible c = sym c.is_sensible_area-2.ensures ∙ c.if-not-is_sensible_area-2.false

pub returns-then-not-is_sensible_area : goal.returns-then-not-is_sensible_area
returns-then-not-is_sensible_area c =
    record {
      settled = ap (λ (p : ℕ × List ℕ). joining (p, c.args.state.now) (lent c.args.table.now c.args.keys.now
          c.args.lists.now) c.args.scratch.now) c.tell.ensures ∙ rw (sym c.is_sensible_area.ensures ∙
          c.if-not-is_sensible_area.true);
    }

pub returns-then-not-is_sensible_area-2 : goal.returns-then-not-is_sensible_area-2
returns-then-not-is_sensible_area-2 c =
    record {
      settled = ap (λ (p : ℕ × List ℕ). joining (p, c.args.state.now) (lent c.args.table.now c.args.keys.now
          c.args.lists.now) c.args.scratch.now) c.tell-then-not-is_sensible_area-2.ensures ∙ rw (
            first-sensible
                (goal.at.returns-then-not-is_sensible_area-2 c).Else-not-is_sensible_area,
            sym c.is_sensible_area-2.ensures ∙
                c.if-not-is_sensible_area-2.true,
          );
    }

pub load-st-requires : goal.load-st-requires
load-st-requires c = sensible-long _ (first-sensible (goal.at.load-st-requires c).Else-not-is_sensible_area)

pub load-st2-requires : goal.load-st2-requires
load-st2-requires c = sensible-long _ (second-sensible (goal.at.load-st2-requires c).Else-not-is_sensible_area-2)

pub save_joined-requires : goal.save_joined-requires
save_joined-requires c = sensible-long _ (first-sensible (goal.at.save_joined-requires c).Else-not-is_sensible_area)

pub returns : goal.returns
returns c =
    record {
      settled = joins c.args.state.now c.args.state2.now c.args.told.now c.args.scratch.now (lent
          c.args.table.now c.args.keys.now c.args.lists.now) (lent c.args.table2.now c.args.keys2.now c.args.lists2.now) _
          _ (out c.join-answer.result (lent c.join-answer.new.table c.join-answer.new.keys c.join-answer.new.lists)
          c.join-answer.new.scratch) _ c.save_joined.ensures c.join-answer.ensures.settled c.load-st.ensures
          c.load-st2.ensures (first-sensible (goal.at.returns c).Else-not-is_sensible_area) (second-sensible
          (goal.at.returns c).Else-not-is_sensible_area-2);
    }
