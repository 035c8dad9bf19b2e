-- `readings::count_lane` meets its contract. Assumes nothing.
use mathlib.Core.Path.{ap, ◌∙◌}
use mathlib.Core.List.{[], ◌∷◌}
use lib.IntN.{pos}
use Rattle.expull_walk.specs.Blocks.{lane_bytes}
use Rattle.reading_run.specs.Run.{Out, end_of}
use Rattle.reading_run.proofs.Came.{ran}
use Rattle.readings.proofs.count_lane.Goals as goal

pub returns : goal.returns
returns c =
    let R = ran (lane_bytes c.args.lists.now.bytes.now c.args.h) (pos 0 ∷ []) in (
      ap (λ (t : Out). t.run.readings)
          c.take_lane.ensures ∙ R.count,
      ap (λ (t : Out). end_of t.run) c.take_lane.ensures ∙ R.end,
    )
