-- A senseless area; the short way, after which the area holds the same state; a refusal before the lookup; and every
-- append that goes on from its lookup. Assumes nothing.
use Prim.Native.Nat.{ℕ}
use mathlib.Core.Path.{◌≡◌, sym, ap, subst, ◌∙◌}
use mathlib.Core.Bool.{true}
use mathlib.Core.List.{List}
use Rattle.numbers.proofs.Laws.{bytes_of}
use Rattle.store_state.specs.declared.State.{State}
use Rattle.store_look.specs.Look.{Lent, lent}
use Rattle.store_quick.specs.declared.Tried.{Tried}
use Rattle.store_append.specs.Append.{Out, Looked, append_of}
use Rattle.store_quick.specs.Quick.{TriedOf}
use Rattle.state_area.specs.Area.{sensible_area, state_at}
use Rattle.state_area.proofs.Laws.{sensible-long}
use Rattle.state_area.proofs.Back.{loaded_saved}
use Rattle.c_told.specs.Told.{appended}
use Rattle.c_exports.specs.Calls.{append_in}
use Rattle.c_exports.proofs.nuvrisel_append.Goals as goal
use Rattle.c_exports.proofs.nuvrisel_append.Goals.{After-slice_known-6-1, Else-not-is_sensible_area}

-- the area was found sensible
sensible : (c : Else-not-is_sensible_area) → sensible_area c.args.state.now ≡ true
sensible c = sym c.is_sensible_area.ensures ∙ c.if-not-is_sensible_area.false

-- the state as it was loaded
loaded : (c : After-slice_known-6-1) → c.load-st.result ≡ state_at c.args.state.now
loaded c = c.load-st.ensures

-- how far the short way got
got : (c : After-slice_known-6-1) → (x : Tried) → c.try_append-tried.result ≡ x → TriedOf x (state_at
    c.args.state.now) (lent c.args.table.now c.args.keys.now c.args.lists.now) (lent c.args.table.now
    c.try_append-tried.new.keys c.try_append-tried.new.lists) c.args.name.now (append_of (state_at c.args.state.now)
    (lent c.args.table.now c.args.keys.now c.args.lists.now) c.args.name.now c.args.bytes.now)
got c x e =
    let m = (lent c.args.table.now c.args.keys.now c.args.lists.now) in
    let after = (lent c.args.table.now c.try_append-tried.new.keys c.try_append-tried.new.lists) in subst (λ (u :
    State). TriedOf x u m after c.args.name.now (append_of u m c.args.name.now c.args.bytes.now)) (let it :
    c.load-st.result ≡ state_at c.args.state.now = c.load-st.ensures in it) (subst (λ (y : Tried). TriedOf y
    c.load-st.result m after c.args.name.now (append_of c.load-st.result m c.args.name.now c.args.bytes.now)) e
    c.try_append-tried.ensures)

-- the call, on a sensible area
called : (c : After-slice_known-6-1) → appended (append_of (state_at c.args.state.now) (lent c.args.table.now
    c.args.keys.now c.args.lists.now) c.args.name.now c.args.bytes.now) c.args.state.now ≡ append_in
    c.args.state.now (lent c.args.table.now c.args.keys.now c.args.lists.now) c.args.name.now c.args.bytes.now
called c =
    rw (let it : sensible_area c.args.state.now ≡ true = sym c.is_sensible_area.ensures ∙
    c.if-not-is_sensible_area.false in it)

pub returns-then-not-is_sensible_area : goal.returns-then-not-is_sensible_area
returns-then-not-is_sensible_area c =
    record { settled = rw (sym c.is_sensible_area.ensures ∙ c.if-not-is_sensible_area.true) }

pub load-st-requires : goal.load-st-requires
load-st-requires c = sensible-long _ (sensible (goal.at.load-st-requires c).Else-not-is_sensible_area)

pub append_fully-requires : goal.append_fully-requires
append_fully-requires c =
    let a = c.args in
    let g = got (goal.at.append_fully-requires c).After-slice_known-6-1 _ c.in-LookedUp.is in (
      sensible
          (goal.at.append_fully-requires c).Else-not-is_sensible_area,
      subst (λ (x : Lent). Looked (state_at a.state.now)
          x a.name.now c.in-LookedUp.hash c.in-LookedUp.met c.in-LookedUp.looked) (sym g.0) g.1,
    )

pub returns-in-Done : goal.returns-in-Done
returns-in-Done c =
    let after = (lent c.args.table.now c.try_append-tried.new.keys c.try_append-tried.new.lists) in
    let none : ℕ = 0 in record {
      settled = ap (λ (x : List ℕ). ((none, x), after)) (sym (loaded_saved
          c.args.state.now (bytes_of c.args.state.now (λ i. (c.slice_known-1.given i).fits)) (sensible
          (goal.at.returns-in-Done c).Else-not-is_sensible_area))) ∙ ap (λ (x : Out). appended x c.args.state.now) (got
          (goal.at.returns-in-Done c).After-slice_known-6-1 _ c.in-Done.is) ∙ called (goal.at.returns-in-Done
          c).After-slice_known-6-1;
    }

pub returns-in-Refused : goal.returns-in-Refused
returns-in-Refused c =
    let g = got (goal.at.returns-in-Refused c).After-slice_known-6-1 _ c.in-Refused.is in record {
      settled = ap (λ
          (x : Lent). ((c.in-Refused.n, c.args.state.now), x)) g.0 ∙ ap (λ (x : Out). appended x c.args.state.now) (sym
          g.1) ∙ called (goal.at.returns-in-Refused c).After-slice_known-6-1;
    }

pub returns-in-LookedUp : goal.returns-in-LookedUp
returns-in-LookedUp c =
    record {
      settled = c.append_fully.ensures ∙ ap (λ (x : Lent). appended (append_of (state_at c.args.state.now) x
          c.args.name.now c.args.bytes.now) c.args.state.now) (got (goal.at.returns-in-LookedUp c).After-slice_known-6-1 _
          c.in-LookedUp.is).0 ∙ called (goal.at.returns-in-LookedUp c).After-slice_known-6-1;
    }
