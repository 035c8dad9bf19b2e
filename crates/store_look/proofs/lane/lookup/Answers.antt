-- The refusals in their order, the guard of names, then the walk. Assumes nothing.
use mathlib.Core.Bool.{true}
use mathlib.Core.Path.{◌≡◌, refl, sym, ap, subst, ◌∙◌}
use Rattle.store_look.proofs.Fair.{fair-lookup}
use Rattle.store_look.proofs.Found.{lookup_2, lookup_3, lookup-nameless, lookup-met}
use Rattle.store_look.proofs.Found.{looked_2, looked_3, looked-nameless, looked-walk}
use Rattle.store_look.specs.Look.{lent, checked}
use Rattle.store_look.specs.Said.{said_lookup}
use Rattle.store_look.specs.declared.Lookup.{Lookup}
use Rattle.limits.specs.Refusals.{looking_up, permitted}
use Rattle.store_look.proofs.lane.lookup.Goals as goal
use Rattle.store_look.proofs.lane.lookup.Goals.{Else-not-is_whole_state}

-- the state is whole
whole : (c : Else-not-is_whole_state) → checked c.args.st (lent c.args.table.now c.args.keys.now c.args.lists.now) ≡
    true
whole c = sym c.is_whole_state.ensures ∙ c.if-not-is_whole_state.false

pub returns-then-not-is_whole_state : goal.returns-then-not-is_whole_state
returns-then-not-is_whole_state c =
    let e = sym c.is_whole_state.ensures ∙ c.if-not-is_whole_state.true in record {
      settled = sym (lookup_2
          c.args.st (lent c.args.table.now c.args.keys.now c.args.lists.now) c.args.name.now e);
      numbered = refl;
      walked =
          sym (looked_2 c.args.st (lent c.args.table.now c.args.keys.now c.args.lists.now) c.args.name.now e);
    }

pub walk-w-requires : goal.walk-w-requires
walk-w-requires c = whole (goal.at.walk-w-requires c).Else-not-is_whole_state

pub returns-in-TooLong : goal.returns-in-TooLong
returns-in-TooLong c =
    let k = sym c.name_kind-kind.ensures ∙ c.in-TooLong.is in record {
      settled = sym (lookup_3 c.args.st (lent
          c.args.table.now c.args.keys.now c.args.lists.now) c.args.name.now (whole (goal.at.returns-in-TooLong
          c).Else-not-is_whole_state) k);
      numbered = refl;
      walked = sym (looked_3 c.args.st (lent c.args.table.now
          c.args.keys.now c.args.lists.now) c.args.name.now (whole (goal.at.returns-in-TooLong c).Else-not-is_whole_state)
          k);
    }

pub returns-in-Nameless : goal.returns-in-Nameless
returns-in-Nameless c =
    let k = sym c.name_kind-kind.ensures ∙ c.in-Nameless.is in record {
      settled = sym (lookup-nameless c.args.st
          (lent c.args.table.now c.args.keys.now c.args.lists.now) c.args.name.now (whole (goal.at.returns-in-Nameless
          c).Else-not-is_whole_state) k);
      numbered = refl;
      walked = sym (looked-nameless c.args.st (lent c.args.table.now
          c.args.keys.now c.args.lists.now) c.args.name.now (whole (goal.at.returns-in-Nameless
          c).Else-not-is_whole_state) k);
    }

pub returns-in-Proper : goal.returns-in-Proper
returns-in-Proper c =
    let k = sym c.name_kind-kind.ensures ∙ c.in-Proper.is in
    let e = c.on_met.ensures ∙ sym (lookup-met c.args.st (lent c.args.table.now c.args.keys.now c.args.lists.now)
    c.args.name.now _ (whole (goal.at.returns-in-Proper c).Else-not-is_whole_state) k (sym (ap (λ w. w.met)
    c.walk-w.ensures))) in record {
      settled = e;
      numbered = subst (λ (r : Lookup). permitted looking_up (said_lookup
          r) ≡ true) (sym e) (fair-lookup c.args.st (lent c.args.table.now c.args.keys.now c.args.lists.now)
          c.args.name.now);
      walked = ap (λ w. w.looked) c.walk-w.ensures ∙ sym (looked-walk c.args.st (lent
          c.args.table.now c.args.keys.now c.args.lists.now) c.args.name.now (whole (goal.at.returns-in-Proper
          c).Else-not-is_whole_state) k);
    }
