-- `report_read::next_lane` meets its contract. Assumes nothing.
use mathlib.Core.Path.{ap, ◌∙◌}
use Rattle.std.specs.Prelude.{unwrap_or}
use Rattle.report_read.proofs.Lines.{lane-found}
use Rattle.report_read.proofs.next_lane.Goals as goal

pub returns : goal.returns
returns c = (
  lane-found c.args.text.now c.args.from _ _ _ _ _ c.next_line-a.ensures.0 c.line_end-e.ensures.0
      c.next_line-b.ensures.0 (c.unwrap_or.ensures ∙ ap (λ o. unwrap_or o 0) c.number_in-told.ensures)
      c.go_ahead.ensures.0,
  c.go_ahead.ensures.1,
)
