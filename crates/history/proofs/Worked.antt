-- The theorem on the history of specs/Cases.antt: it says of it what working it out says. Assumes nothing.
use mathlib.Core.Path.{◌≡◌, subst}
use mathlib.Core.List.{[], ◌∷◌}
use native.Mathlib.Omega.{arith}
use lib.ListN.{replicate}
use Rattle.spans.specs.Span.{overwrite}
use Rattle.store_look.specs.declared.Answer.TheVariants.{Found}
use Rattle.store_look.specs.declared.Outcome.TheVariants.{Reading}
use Rattle.store_look.specs.Look.{reading, read_of}
use Rattle.history.specs.History.{play}
use Rattle.history.specs.Promises.{ReadsAs, ReadsBack}
use Rattle.history.specs.Demand.{Demand3}
use Rattle.history.specs.Cases.{calls, start, born, lane_a, nine, joined_cases}
use Rattle.history.proofs.Demand.{demand_3}

pub worked : Demand3 start calls
worked = demand_3 1 0 65536 (replicate 18 7) (replicate 64 7) (replicate 64 7) start born calls

pub worked_reading : read_of (play calls start).state (play calls start).memory lane_a (replicate 10 0)
    ≡ reading (Found (Reading 9)) (1 ∷ 2 ∷ 3 ∷ 4 ∷ 5 ∷ 6 ∷ 7 ∷ 8 ∷ 9 ∷ 0 ∷ [])
unfolding overwrite
worked_reading =
    let R : ReadsBack (play calls start) lane_a nine =
    subst (ReadsAs (play calls start) lane_a) joined_cases.1 (worked.reads_back lane_a (omega arith)) in
    R.read (replicate 10 0) (omega arith)
