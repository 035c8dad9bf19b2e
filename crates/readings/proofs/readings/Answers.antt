-- `readings::readings` meets its contract: the lookup's answer, or the readings at the place found. Assumes nothing.
use mathlib.Core.Bool.{true}
use mathlib.Core.Path.{◌≡◌, sym, ap, subst, ◌∙◌}
use lib.ListN.{length}
use Rattle.limits.specs.Refusals.{reading_readings, permitted}
use Rattle.store_look.specs.Look.{lent}
use Rattle.store_look.proofs.Found.{lookup-held}
use Rattle.store_state.proofs.Whole.{whole_facts}
use Rattle.readings.specs.declared.Recalled.{Recalled}
use Rattle.readings.specs.Readings.{Out, out}
use Rattle.readings.specs.Said.{said_recalled}
use Rattle.readings.proofs.Found.{readings_not, readings_at_lem, fair_readings}
use borrow.Enum.Refused.{opened}
use Rattle.readings.proofs.readings.Goals as goal

pub returns-in_default : goal.returns-in_default
returns-in_default c =
    let m = lent c.args.table.now c.args.keys.now c.args.lists.now in
    let e = ap (λ (r : Recalled). out r c.args.output.now) c.not_found.ensures ∙ readings_not c.args.st m
    c.args.name.now c.args.output.now _ c.lookup-looked.ensures.settled (opened c.in_default.in_default-own.keys2)
    in record {
      settled = e;
      numbered = subst (λ (r : Out). permitted reading_readings (said_recalled r.answer) ≡
          true) (sym e) (fair_readings c.args.st m c.args.name.now c.args.output.now).numbered;
      walked =
          c.lookup-looked.ensures.walked;
    }

pub readings_at-requires : goal.readings_at-requires
readings_at-requires c =
    let m = lent c.args.table.now c.args.keys.now c.args.lists.now in
    let h = lookup-held c.args.st m c.args.name.now _ (sym c.lookup-looked.ensures.settled ∙ c.in-At.is) in
    let W = whole_facts c.args.st (length c.args.table.now) (length c.args.keys.now) (length c.args.lists.now)
    h.whole in (W.list_arena, (h.length-in, h.value_in))

pub returns : goal.returns
returns c =
    let m = lent c.args.table.now c.args.keys.now c.args.lists.now in
    let e = c.readings_at.ensures ∙ sym (readings_at_lem c.args.st m c.args.name.now c.args.output.now _ (sym
    c.lookup-looked.ensures.settled ∙ c.in-At.is)) in record {
      settled = e;
      numbered = subst (λ (r : Out). permitted
          reading_readings (said_recalled r.answer) ≡ true) (sym e) (fair_readings c.args.st m c.args.name.now
          c.args.output.now).numbered;
      walked = c.lookup-looked.ensures.walked;
    }
