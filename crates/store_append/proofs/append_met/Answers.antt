-- The case that the lookup met. Assumes nothing.
use Rattle.std.proofs.Common.{ap, ◌∙◌}
use Rattle.store_append.proofs.Carried.{carried_empty}
use Rattle.store_look.proofs.Found.{walk-held}
use Rattle.store_state.proofs.Guard.{kind-length}
use Rattle.store_append.specs.Append.{on_met}
use Rattle.shared_arena_hashmap.specs.declared.Walk.{Walk}
use Rattle.store_append.proofs.append_met.Goals as goal

pub append_standing-requires : goal.append_standing-requires
append_standing-requires c =
    let h = walk-held _ _ _ _ c.requires.whole (ap (λ (v : Walk). v.met) c.requires.walk ∙ c.in-Standing.is) in
    (h.whole, (h.length-in, h.value_in))

pub append_new-requires : goal.append_new-requires
append_new-requires c = record {
  lists_value = (c.requires.whole, (kind-length _ _ _ c.requires.proper).1);
  carried = carried_empty _ _ _ _ _ (rw c.in-Empty.is at c.requires);
}

pub append_after_lap-requires : goal.append_after_lap-requires
append_after_lap-requires c = rw c.in-Lap.is at c.requires

pub returns-in-Damaged : goal.returns-in-Damaged
unfolding on_met
returns-in-Damaged c = rw c.in-Damaged.is

pub returns-in-Standing : goal.returns-in-Standing
unfolding on_met
returns-in-Standing c = rw c.in-Standing.is c.append_standing.ensures

pub returns-in-Empty : goal.returns-in-Empty
unfolding on_met
returns-in-Empty c = rw c.in-Empty.is c.append_new.ensures

pub returns-in-Lap : goal.returns-in-Lap
returns-in-Lap c = rw c.in-Lap.is c.append_after_lap.ensures
