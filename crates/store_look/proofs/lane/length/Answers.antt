-- The lookup's answer, or the list's at the place found. Assumes nothing.
use mathlib.Core.Bool.{true}
use mathlib.Core.Path.{◌≡◌, sym, subst, ◌∙◌}
use Rattle.store_look.proofs.Fair.{fair-length}
use Rattle.store_look.proofs.Found.{lookup-held, length_not, length-at}
use Rattle.store_look.specs.Look.{lent}
use Rattle.store_look.specs.Said.{said_answer}
use Rattle.store_look.specs.declared.Answer.{Answer}
use Rattle.limits.specs.Refusals.{measuring, permitted}
use borrow.Enum.Refused.{opened}
use Rattle.store_look.proofs.lane.length.Goals as goal

pub returns-in_default : goal.returns-in_default
returns-in_default c =
    let m = lent c.args.table.now c.args.keys.now c.args.lists.now in
    let e = c.not_found.ensures ∙ length_not c.args.st m c.args.name.now _ c.lookup-looked.ensures.settled (opened
    c.in_default.in_default-own.keys2) in record {
      settled = e;
      numbered = subst (λ (r : Answer). permitted
          measuring (said_answer r) ≡ true) (sym e) (fair-length c.args.st m c.args.name.now);
      walked =
          c.lookup-looked.ensures.walked;
    }

pub length_at-requires : goal.length_at-requires
length_at-requires c =
    let h = lookup-held c.args.st (lent c.args.table.now c.args.keys.now c.args.lists.now) c.args.name.now _ (sym
    c.lookup-looked.ensures.settled ∙ c.in-At.is) in (h.length-in, h.value_in)

pub returns : goal.returns
returns c =
    let m = lent c.args.table.now c.args.keys.now c.args.lists.now in
    let e = c.length_at.ensures ∙ length-at c.args.st m c.args.name.now _ (sym c.lookup-looked.ensures.settled ∙
    c.in-At.is) in record {
      settled = e;
      numbered = subst (λ (r : Answer). permitted measuring (said_answer r) ≡
          true) (sym e) (fair-length c.args.st m c.args.name.now);
      walked = c.lookup-looked.ensures.walked;
    }
