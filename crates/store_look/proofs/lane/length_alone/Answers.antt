-- The refusals in their order, the guard of names, then the length. Assumes nothing.
use mathlib.Core.Bool.{true}
use mathlib.Core.Path.{◌≡◌, sym, subst, ◌∙◌}
use Rattle.limits.specs.Refusals.{measuring, permitted}
use Rattle.store_look.proofs.Fair.{fair-length}
use Rattle.store_look.proofs.Found.{lookup_2, lookup_3, lookup-nameless}
use Rattle.store_look.proofs.Walked.{length-by}
use Rattle.store_look.specs.declared.Answer.{Answer}
use Rattle.store_look.specs.Look.{lent, checked, length_of}
use Rattle.store_look.specs.Said.{said_answer}
use Rattle.store_look.proofs.lane.length_alone.Goals as goal
use Rattle.store_look.proofs.lane.length_alone.Goals.{Else-not-is_whole_state, Start}

-- an answer that is the definition's says what a length may say
both : (s : Start) → (r : Answer) → r ≡ length_of s.args.st (lent s.args.table.now s.args.keys.now s.args.lists.now)
    s.args.name.now → (r ≡ length_of s.args.st (lent s.args.table.now s.args.keys.now s.args.lists.now)
    s.args.name.now) × (permitted measuring (said_answer r) ≡ true)
both s r e = (
  e,
  subst (λ (r : Answer). permitted measuring (said_answer r) ≡ true) (sym e) (fair-length s.args.st (lent
      s.args.table.now s.args.keys.now s.args.lists.now) s.args.name.now),
)

-- the state is whole
whole : (c : Else-not-is_whole_state) → checked c.args.st (lent c.args.table.now c.args.keys.now c.args.lists.now) ≡
    true
whole c = sym c.is_whole_state.ensures ∙ c.if-not-is_whole_state.false

pub returns-then-not-is_whole_state : goal.returns-then-not-is_whole_state
returns-then-not-is_whole_state c =
    let e = sym c.is_whole_state.ensures ∙ c.if-not-is_whole_state.true in
    let it = both (goal.at.returns-then-not-is_whole_state c).Start _ (sym (length-by _ _ _ _ (lookup_2 c.args.st
    (lent c.args.table.now c.args.keys.now c.args.lists.now) c.args.name.now e))) in record {
      settled = it.0;
      numbered = it.1;
    }

pub length_proper-requires : goal.length_proper-requires
length_proper-requires c = (
  whole (goal.at.length_proper-requires c).Else-not-is_whole_state,
  sym c.name_kind-kind.ensures ∙
      c.in-Proper.is,
)

pub returns-in-TooLong : goal.returns-in-TooLong
returns-in-TooLong c =
    let k = sym c.name_kind-kind.ensures ∙ c.in-TooLong.is in
    let it = both (goal.at.returns-in-TooLong c).Start _ (sym (length-by _ _ _ _ (lookup_3 c.args.st (lent
    c.args.table.now c.args.keys.now c.args.lists.now) c.args.name.now (whole (goal.at.returns-in-TooLong
    c).Else-not-is_whole_state) k))) in record { settled = it.0; numbered = it.1 }

pub returns-in-Nameless : goal.returns-in-Nameless
returns-in-Nameless c =
    let k = sym c.name_kind-kind.ensures ∙ c.in-Nameless.is in
    let it = both (goal.at.returns-in-Nameless c).Start _ (sym (length-by _ _ _ _ (lookup-nameless c.args.st (lent
    c.args.table.now c.args.keys.now c.args.lists.now) c.args.name.now (whole (goal.at.returns-in-Nameless
    c).Else-not-is_whole_state) k))) in record { settled = it.0; numbered = it.1 }

pub returns-in-Proper : goal.returns-in-Proper
returns-in-Proper c =
    let it = both (goal.at.returns-in-Proper c).Start _ c.length_proper.ensures in record {
      settled = it.0;
      numbered
          = it.1;
    }
