-- The two cases. Assumes nothing.
use mathlib.Core.Path.{sym, ◌∙◌}
use lib.ListN.{length}
use Rattle.store_append.proofs.Cases.{met_lap, met_lap_4}
use Rattle.store_append.proofs.Carried.{carried_lap}
use Rattle.store_state.proofs.Guard.{kind-length}
use Rattle.store_state.specs.declared.Name.TheVariants.{Proper}
use Rattle.store_state.proofs.Whole.{whole_facts, buckets_few}
use Rattle.store_append.proofs.append_after_lap.Goals as goal

pub is_saturated-requires : goal.is_saturated-requires
is_saturated-requires c =
    let h = whole_facts _ _ _ _
    c.requires.whole in (h.keys_le, buckets_few c.args.st _ _ _ h)

pub append_new-requires : goal.append_new-requires
append_new-requires c =
    let e = sym c.is_saturated.ensures ∙ c.if-is_saturated.true in record {
      lists_value = (
        c.requires.whole,
        (kind-length c.args.st (length c.args.name.now) Proper c.requires.proper).1,
      );
      carried = carried_lap _ _ _ c.args.hash c.args.looked c.requires e;
    }

pub returns-then-is_saturated : goal.returns-then-is_saturated
returns-then-is_saturated c =
    c.append_new.ensures ∙ sym (met_lap _ _ _ _ (sym c.is_saturated.ensures ∙ c.if-is_saturated.true))

pub returns : goal.returns
returns c =
    sym (met_lap_4 _ _ _ _ (sym c.is_saturated.ensures ∙ c.if-is_saturated.false))
