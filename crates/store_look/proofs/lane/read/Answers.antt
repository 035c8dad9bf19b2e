-- The lookup's answer, or the reading at the place found. Assumes nothing.
use mathlib.Core.Bool.{true}
use mathlib.Core.Path.{◌≡◌, sym, ap, subst, ◌∙◌}
use lib.ListN.{length}
use Rattle.store_look.proofs.Fair.{fair-read}
use Rattle.store_look.proofs.Found.{lookup-held, read_not, read_at_lem}
use Rattle.store_state.proofs.Whole.{whole_facts}
use Rattle.store_look.specs.Look.{Read, lent, reading}
use Rattle.store_look.specs.Said.{said_answer}
use Rattle.store_look.specs.declared.Answer.{Answer}
use Rattle.limits.specs.Refusals.{reading_lane, permitted}
use borrow.Enum.Refused.{opened}
use Rattle.store_look.proofs.lane.read.Goals as goal

pub returns-in_default : goal.returns-in_default
returns-in_default c =
    let m = lent c.args.table.now c.args.keys.now c.args.lists.now in
    let e = ap (λ (r : Answer). reading r c.args.output.now) c.not_found.ensures ∙ read_not c.args.st m
    c.args.name.now c.args.output.now _ c.lookup-looked.ensures.settled (opened c.in_default.in_default-own.keys2)
    in record {
      settled = e;
      numbered = subst (λ (r : Read). permitted reading_lane (said_answer r.answer) ≡ true)
          (sym e) (fair-read c.args.st m c.args.name.now c.args.output.now).numbered;
      walked =
          c.lookup-looked.ensures.walked;
    }

pub read_at-requires : goal.read_at-requires
read_at-requires c =
    let h = lookup-held c.args.st (lent c.args.table.now c.args.keys.now c.args.lists.now) c.args.name.now _ (sym
    c.lookup-looked.ensures.settled ∙ c.in-At.is) in (
      (whole_facts c.args.st (length c.args.table.now) (length
          c.args.keys.now) (length c.args.lists.now) h.whole).list_arena,
      (h.length-in, h.value_in),
    )

pub returns : goal.returns
returns c =
    let m = lent c.args.table.now c.args.keys.now c.args.lists.now in
    let e = c.read_at.ensures ∙ read_at_lem c.args.st m c.args.name.now c.args.output.now _ (sym
    c.lookup-looked.ensures.settled ∙ c.in-At.is) in record {
      settled = e;
      numbered = subst (λ (r : Read). permitted
          reading_lane (said_answer r.answer) ≡ true) (sym e) (fair-read c.args.st m c.args.name.now
          c.args.output.now).numbered;
      walked = c.lookup-looked.ensures.walked;
    }
