-- The lookup's answer, or the list's at the place found. Assumes nothing.
use mathlib.Core.Bool.{true}
use mathlib.Core.Path.{◌≡◌, sym, subst, ◌∙◌}
use lib.ListN.{length}
use Rattle.store_look.proofs.Fair.{fair_block}
use Rattle.store_look.proofs.Found.{lookup-held, block_not, block_at_lem}
use Rattle.store_state.proofs.Whole.{whole_facts}
use Rattle.store_look.specs.Look.{lent}
use Rattle.store_look.specs.Said.{said_answer}
use Rattle.store_look.specs.declared.Answer.{Answer}
use Rattle.limits.specs.Refusals.{finding_block, permitted}
use borrow.Enum.Refused.{opened}
use Rattle.store_look.proofs.lane.find_block.Goals as goal

pub returns-in_default : goal.returns-in_default
returns-in_default c =
    let m = lent c.args.table.now c.args.keys.now c.args.lists.now in
    let e = c.not_found.ensures ∙ block_not c.args.st m c.args.name.now c.args.index _
    c.lookup-looked.ensures.settled (opened c.in_default.in_default-own.keys2) in record {
      settled = e;
      numbered =
          subst (λ (r : Answer). permitted finding_block (said_answer r) ≡ true) (sym e) (fair_block c.args.st m
          c.args.name.now c.args.index);
      walked = c.lookup-looked.ensures.walked;
    }

pub block_at-requires : goal.block_at-requires
block_at-requires c =
    let h = lookup-held c.args.st (lent c.args.table.now c.args.keys.now c.args.lists.now) c.args.name.now _ (sym
    c.lookup-looked.ensures.settled ∙ c.in-At.is) in (
      (whole_facts c.args.st (length c.args.table.now) (length
          c.args.keys.now) (length c.args.lists.now) h.whole).list_arena,
      (h.length-in, h.value_in),
    )

pub returns : goal.returns
returns c =
    let m = lent c.args.table.now c.args.keys.now c.args.lists.now in
    let e = c.block_at.ensures ∙ block_at_lem c.args.st m c.args.name.now c.args.index _ (sym
    c.lookup-looked.ensures.settled ∙ c.in-At.is) in record {
      settled = e;
      numbered = subst (λ (r : Answer).
          permitted finding_block (said_answer r) ≡ true) (sym e) (fair_block c.args.st m c.args.name.now c.args.index);
      walked = c.lookup-looked.ensures.walked;
    }
