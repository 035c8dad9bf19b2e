-- What the exported calls promise beyond each call's own equation: what the area holds is the state. One record, a
-- field a sentence; proofs/Promises.antt has its one value.
use Rattle.std.specs.Prelude.{ℕ, ◌≤◌, ◌<◌, ◌^◌, ◌≢◌, ◌≡◌, true, false, List, length}
use Rattle.numbers.specs.LittleEndian.{Bytes}
use Rattle.store_state.specs.declared.State.{State}
use Rattle.store_append.specs.declared.Appended.TheVariants.{Accepted}
use Rattle.store_create.specs.Create.{create_of}
use Rattle.store_look.specs.Look.{Lent}
use Rattle.store_append.specs.Append.{append_of}
use Rattle.state_area.specs.Area.{area_size, sensible_area, state_at}
use Rattle.c_exports.specs.Calls.{create_in, append_in}
use Rattle.std.specs.Prelude.{Ok}

-- RULES AK8. The code is 0, and the area afterwards is a sensible one that holds a state.
abbrev pub Held : ℕ × List ℕ → State → Type 0
Held x st = (x.0 ≡ 0) × ((sensible_area x.1 ≡ true) × (state_at x.1 ≡ st))

-- RULES AK7, AK8.
pub record Promises : Type 0 where
  -- an accepted creation leaves the fresh store's state in the area, whatever that held
  pub create_held : (capacity seed size : ℕ) (area table keys lists : List ℕ) (st : State) → seed < 2 ^ 32
      → area_size ≤ length area → (create_of capacity seed size table (length keys) (length lists)).answer ≡ Ok st
      → Held (create_in capacity seed size area table (length keys) (length lists)).0 st
  -- an accepted append leaves the state that it gave: the next call begins with it
  pub append-held : (area : List ℕ) (m : Lent) (name bytes : List ℕ) (st : State) → Bytes area
      → sensible_area area ≡ true → (append_of (state_at area) m name bytes).answer ≡ Accepted st
      → Held (append_in area m name bytes).0 st
  -- a code other than 0 has changed nothing that is lent
  pub append_unchanged : (area : List ℕ) (m : Lent) (name bytes : List ℕ) → (append_in area m name bytes).0.0 ≢ 0
      → ((append_in area m name bytes).0.1 ≡ area) × ((append_in area m name bytes).1 ≡ m)
  -- a short or senseless area is 2
  pub senseless_2 : (area : List ℕ) (m : Lent) (name bytes : List ℕ) → sensible_area area ≡ false
      → append_in area m name bytes ≡ ((2, area), m)
