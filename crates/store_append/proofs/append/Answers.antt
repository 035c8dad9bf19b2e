-- The refusals in their order, the guard of names among them, then the append that it lets through. Assumes nothing.
use mathlib.Core.Bool.{true}
use mathlib.Core.Path.{◌≡◌, refl, sym, subst, ◌∙◌}
use lib.ListN.{length}
use Rattle.store_append.proofs.Fair.{fair-append}
use Rattle.store_append.proofs.Cases.{append_2, append_3, append_13, append-met}
use Rattle.store_look.proofs.Found.{looked_2, looked_3, looked-nameless, looked-walk}
use Rattle.store_append.specs.Append.{Out}
use Rattle.store_look.specs.Look.{lent, checked}
use Rattle.store_state.specs.Name.{name_kind}
use Rattle.store_append.specs.Said.{said_appended}
use Rattle.store_state.specs.declared.Name.TheVariants.{Proper}
use Rattle.limits.specs.Refusals.{appending, permitted}
use Rattle.store_append.proofs.append.Goals as goal
use Rattle.store_append.proofs.append.Goals.{Else-not-is_whole_state, In-Proper}

-- the state is whole
whole : (c : Else-not-is_whole_state) → checked c.args.st (lent c.args.table.now c.args.keys.now c.args.lists.now) ≡
    true
whole c = sym c.is_whole_state.ensures ∙ c.if-not-is_whole_state.false

proper : (c : In-Proper) → name_kind c.args.st (length c.args.name.now) ≡ Proper
proper c = sym c.name_kind.ensures ∙ c.in-Proper.is

pub returns-then-not-is_whole_state : goal.returns-then-not-is_whole_state
returns-then-not-is_whole_state c =
    let e = sym c.is_whole_state.ensures ∙ c.if-not-is_whole_state.true in record {
      settled = sym (append_2 _ _ _ _ e);
      numbered = refl;
      walked = sym (looked_2 _ _ _ e);
    }

pub append_proper-requires : goal.append_proper-requires
append_proper-requires c = (
  whole (goal.at.append_proper-requires c).Else-not-is_whole_state,
  proper (goal.at.append_proper-requires c).In-Proper,
)

pub returns-in-TooLong : goal.returns-in-TooLong
returns-in-TooLong c =
    let k = sym c.name_kind.ensures ∙ c.in-TooLong.is in
    let e = whole (goal.at.returns-in-TooLong c).Else-not-is_whole_state in record {
      settled = sym (append_3 _ _ _ _ e k);
      numbered = refl;
      walked = sym (looked_3 _ _ _ e k);
    }

pub returns-in-Nameless : goal.returns-in-Nameless
returns-in-Nameless c =
    let k = sym c.name_kind.ensures ∙ c.in-Nameless.is in
    let e = whole (goal.at.returns-in-Nameless c).Else-not-is_whole_state in record {
      settled = sym (append_13 _ _ _ _ e k);
      numbered = refl;
      walked = sym (looked-nameless _ _ _ e k);
    }

pub returns-in-Proper : goal.returns-in-Proper
returns-in-Proper c =
    let w = whole (goal.at.returns-in-Proper c).Else-not-is_whole_state in
    let k = proper (goal.at.returns-in-Proper c).In-Proper in
    let e = c.append_proper.ensures.settled ∙ sym (append-met _ _ _ _ _ w k refl) in record {
      settled = e;
      numbered =
          subst (λ (o : Out). permitted appending (said_appended o.answer) ≡ true) (sym e) (fair-append _ _ _ _).numbered;
      walked = c.append_proper.ensures.walked ∙ sym (looked-walk _ _ _ w k);
    }
