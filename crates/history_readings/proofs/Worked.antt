-- The theorem on the history of specs/Cases.antt. Assumes nothing.
use mathlib.Core.Path.{◌≡◌, refl, sym, subst}
use mathlib.Core.List.{[], ◌∷◌, map}
use native.Mathlib.Omega.{arith}
use lib.Dec.{lit<}
use lib.ListN.{replicate}
use lib.IntN.{pos, negsuc}
use Rattle.readings.specs.declared.Recalled.TheVariants.{Readings, Refused}
use Rattle.readings.specs.Readings.{out}
use Rattle.history.specs.History.{play}
use Rattle.history.specs.Cases.{lane_a, start, born}
use Rattle.history_readings.specs.Steps.{call_of, accepted_for, HandedOn}
use Rattle.history_readings.specs.Demand.{recalled_in, ReadsReadings, GivesReadings, ReadingsDemand}
use Rattle.history_readings.specs.Cases.{lowest, steps, six, accepted_cases}
use Rattle.history_readings.proofs.Demand.{readings_demand}

worked : ReadingsDemand start steps
worked = readings_demand 1 0 65536 (replicate 18 7) (replicate 64 7) (replicate 64 7) start born steps

handed : HandedOn (pos 0) (accepted_for lane_a steps start)
handed =
    subst (HandedOn (pos 0)) (sym accepted_cases.0)
    (refl, (lit< tt, (refl, (lit< tt, (refl, (lit< tt, (refl, (lit< tt, (refl, (lit< tt, (refl, (lit< tt, tt))))))))))))

lane : GivesReadings (play (map call_of steps) start) lane_a six
lane =
    subst (ReadsReadings (play (map call_of steps) start) lane_a) accepted_cases.1
    (worked.readings_back lane_a (omega arith) handed)

pub worked_readings : (recalled_in (play (map call_of steps) start) lane_a (replicate 7 (pos 7))
    ≡ out (Readings 6) (negsuc 0 ∷ lowest ∷ pos 0 ∷ lowest ∷ pos 0 ∷ pos 0 ∷ pos 7 ∷ []))
    × (recalled_in (play (map call_of steps) start) lane_a (replicate 5 (pos 7))
    ≡ out (Refused 8 6) (replicate 5 (pos 7)))
worked_readings =
    (lane.given (replicate 7 (pos 7)) (omega arith), lane.too_few (replicate 5 (pos 7)) (omega arith))
