-- RULES AB9, AB10. DEMAND 3 OVER READINGS, each sentence with its statement. w is a store as an accepted creation left
-- it on any lent memory, and steps are any calls and any readings, in any order, refused ones too. `readings_demand` of
-- proofs/Demand.antt proves it of each such store and each such list of steps.
use Rattle.std.specs.Prelude.{ℕ, ◌≤◌, ◌<◌, ◌≡◌, ◌≢◌, List, [], ◌∷◌, map, length, ℤ, pos}
use Rattle.std.proofs.Math.Option.{Option, none, some}
use Rattle.limits.specs.Refusals.{number_in}
use Rattle.store_state.specs.Name.{name_limit_of}
use Rattle.reading_run.specs.Readings.{reading_bytes, vints_of}
use Rattle.readings.specs.declared.Recalled.TheVariants.{Readings, Absent, Refused}
use Rattle.readings.specs.Readings.{Out, out, at_front, on_split, readings_of, append_reading_of}
use Rattle.readings.specs.Said.{said_recalled}
use Rattle.history.specs.History.{World, append_in, play, joined}
use Rattle.history.specs.Demand.{Demand3}
use Rattle.history_readings.specs.Steps.{Step, call_of, accepted_for, HandedOn, readings_among}

-- RULES AB9. Reading back in a world
abbrev pub recalled_in : World → List ℕ → List ℤ → Out
recalled_in w name output = readings_of w.state w.memory name output

-- RULES AB9. A lane that gives these readings: all of them, in order, or 8 with their count
pub record GivesReadings (w : World) (name : List ℕ) (rs : List ℤ) : Type 0 where
  pub given : (output : List ℤ) → length rs ≤ length output
      → recalled_in w name output ≡ out (Readings (length rs)) (at_front rs output)
  pub too_few : (output : List ℤ) → length output < length rs
      → recalled_in w name output ≡ out (Refused 8 (length rs)) output

-- RULES AB9. Without one the lane is absent
abbrev pub ReadsReadings : World → List ℕ → List ℤ → Type 0
ReadsReadings w name [] = (output : List ℤ) → recalled_in w name output ≡ out Absent output
ReadsReadings w name (r ∷ rs) = GivesReadings w name (r ∷ rs)

-- RULES AB10. What reading back answers by the accepted appends joined, whatever they are
abbrev pub recalled_by : Option (List ℕ) → List ℤ → Out
recalled_by none output = out Absent output
recalled_by (some bs) output = on_split (vints_of bs) output

-- RULES AB9, AB10.
pub record ReadingsDemand (w : World) (steps : List Step) : Type 0 where
  -- "If that is true each time and nothing else is appended there, reading back gives the accepted readings in order."
  pub readings_back : (name : List ℕ) → length name ≤ name_limit_of w.state
      → HandedOn (pos 0) (accepted_for name steps w)
      → ReadsReadings (play (map call_of steps) w) name (readings_among (accepted_for name steps w))
  -- of any lane, readings or not: the answer is worked out from its accepted appends joined, and 2 and 4 never come
  pub any_lane : (name : List ℕ) (output : List ℤ) → length name ≤ name_limit_of w.state
      → recalled_in (play (map call_of steps) w) name output ≡ recalled_by (joined name (map call_of steps) w) output
  pub long_name : (name : List ℕ) (output : List ℤ) → name_limit_of w.state < length name
      → recalled_in (play (map call_of steps) w) name output ≡ out (Refused 3 0) output
  pub never_2_or_4 : (name : List ℕ) (output : List ℤ)
      → (number_in (said_recalled (recalled_in (play (map call_of steps) w) name output).answer) ≢ 2)
      × (number_in (said_recalled (recalled_in (play (map call_of steps) w) name output).answer) ≢ 4)
  -- "For such lanes demand 3 is read over readings as well as over bytes": a reading is one append of a history, so
  -- each sentence of demand 3 about appends holds of readings, refusals exact among them
  pub one_append : (name : List ℕ) (last new : ℤ)
      → append_reading_of (play (map call_of steps) w).state (play (map call_of steps) w).memory name last new
      ≡ append_in (play (map call_of steps) w) name (reading_bytes last new)
  pub over_bytes : Demand3 w (map call_of steps)
