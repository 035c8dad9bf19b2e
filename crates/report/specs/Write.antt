-- RULES AA17. The writer's second pass, as the code goes: what was met in the first pass stands.
use Rattle.std.specs.Prelude.{ℕ, ◌+◌, ◌≤◌, ◌≡◌, true, List, [], length}
use Rattle.store_state.specs.declared.State.{State}
use Rattle.store_look.specs.Look.{Lent, checked}
use Rattle.report_text.specs.Text.{Lane, lanes_text}
use Rattle.report_lanes.specs.Lanes.{Gathered, gathered, halted, gather_all}

-- the lanes that were met
abbrev pub lanes_of : Gathered → List Lane
lanes_of (gathered ls) = ls
lanes_of (halted n) = []

-- RULES AA17. Those of a store.
abbrev pub lanes_met : State → Lent → List Lane
lanes_met st m = lanes_of (gather_all st m)

-- RULES AA17. None was damaged, and their text fits from a place on.
pub record Room (st : State) (m : Lent) (from size : ℕ) : Type 0 where
  pub whole : checked st m ≡ true
  pub met : gather_all st m ≡ gathered (lanes_met st m)
  pub fits : from + length (lanes_text (lanes_met st m)) ≤ size
