-- What a state area promises, beyond each function's own equation. One record, a field a sentence; proofs/Promises.antt
-- has its one value.
use Rattle.std.specs.Prelude.{ℕ, ◌≤◌, ◌<◌, ◌^◌, ◌≡◌, true, List, length}
use Rattle.numbers.specs.LittleEndian.{Bytes}
use Rattle.spans.specs.Span.{read_span, overwrite}
use Rattle.store_state.specs.declared.State.{State}
use Rattle.store_look.specs.Look.{Lent, checked}
use Rattle.state_area.specs.Area.{area_size, sensible_area, state_at, area_of, Fits}

-- RULES AK3, AK4.
pub record Promises : Type 0 where
  -- a state that was written is the state that is read, whatever the area held
  pub saved_loaded : (st : State) (area : List ℕ) → Fits st → area_size ≤ length area
      → state_at (overwrite 0 (area_of st) area) ≡ st
  -- and the area is a sensible one
  pub saved_sensible : (st : State) (area : List ℕ) → area_size ≤ length area
      → sensible_area (overwrite 0 (area_of st) area) ≡ true
  -- and the other way round: the state that a sensible area of bytes holds, written to it, is what stands there already
  pub loaded_saved : (area : List ℕ) → Bytes area → sensible_area area ≡ true
      → overwrite 0 (area_of (state_at area)) area ≡ area
  -- each state that passes the whole-state check fits: the area loses nothing of what a store call gives
  pub whole-fits : (st : State) (m : Lent) → checked st m ≡ true → st.seed < 2 ^ 32 → Fits st
  -- what an area of bytes holds fits
  pub held_fits : (area : List ℕ) → Bytes area → area_size ≤ length area → Fits (state_at area)
  -- 64 bytes are written, and none behind them
  pub saved_behind : (st : State) (area : List ℕ) (p n : ℕ) → area_size ≤ p
      → read_span p n (overwrite 0 (area_of st) area) ≡ read_span p n area
