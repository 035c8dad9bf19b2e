-- RULES AK12. What the exported join promises beyond its own equation: what the first store's area holds is the state
-- that the join gave. One record, a field a sentence; proofs/Promises.antt has its one value.
use Rattle.std.specs.Prelude.{ℕ, ◌≡◌, true, false, List}
use Rattle.numbers.specs.LittleEndian.{Bytes}
use Rattle.store_state.specs.declared.State.{State}
use Rattle.store_look.specs.Look.{Lent}
use Rattle.join.specs.declared.Joined.{Joined}
use Rattle.join.specs.declared.Joined.TheVariants.{Whole, Halted}
use Rattle.join.specs.Join.{store, Out, join_of, lanes_in}
use Rattle.state_area.specs.Area.{sensible_area, state_at}
use Rattle.c_told.specs.Told.{says}
use Rattle.c_join.specs.Joined.{joining, join_in}

-- RULES AK12. The state that a join gave.
abbrev pub state_in : Joined → State
state_in (Whole st k) = st
state_in (Halted st n k) = st

-- RULES AK12.
abbrev pub outcome_in : List ℕ → Lent → List ℕ → Lent → List ℕ → Out
outcome_in area m area2 m2 scratch = join_of (store (state_at area) m) (store (state_at area2) m2) scratch

-- RULES AK12.
pub record Promises : Type 0 where
  -- whole or stopped, the area afterwards is a sensible one that holds the state that the join gave: the next call
  -- begins with every lane that went across
  pub join_held : (area : List ℕ) (m : Lent) (area2 : List ℕ) (m2 : Lent) (scratch told : List ℕ) → Bytes area
      → sensible_area area ≡ true → sensible_area area2 ≡ true
      → (sensible_area (join_in area m area2 m2 scratch told).saved.1 ≡ true)
      × (state_at (join_in area m area2 m2 scratch told).saved.1
      ≡ state_in (outcome_in area m area2 m2 scratch).answer)
  -- a join of which no lane went across has changed neither the area nor the memory
  pub none_unchanged : (area : List ℕ) (m : Lent) (area2 : List ℕ) (m2 : Lent) (scratch told : List ℕ) → Bytes area
      → lanes_in (outcome_in area m area2 m2 scratch).answer ≡ 0
      → ((join_in area m area2 m2 scratch told).saved.1 ≡ area) × ((join_in area m area2 m2 scratch told).memory ≡ m)
  -- a short or senseless area of either store is 2, and nothing else is written
  pub senseless_2 : (area : List ℕ) (m : Lent) (area2 : List ℕ) (m2 : Lent) (scratch told : List ℕ)
      → sensible_area area ≡ false → join_in area m area2 m2 scratch told ≡ joining (says 2 0 0 told, area) m scratch
  pub senseless_2_second : (area : List ℕ) (m : Lent) (area2 : List ℕ) (m2 : Lent) (scratch told : List ℕ)
      → sensible_area area ≡ true → sensible_area area2 ≡ false
      → join_in area m area2 m2 scratch told ≡ joining (says 2 0 0 told, area) m scratch
