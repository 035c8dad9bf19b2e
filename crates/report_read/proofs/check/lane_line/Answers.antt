-- `report_read::check::lane_line` meets its contract. Assumes nothing.
use mathlib.Core.Path.{sym, ◌∙◌}
use Rattle.report_read.specs.Counted.{lane_counted}
use Rattle.report_read.proofs.check.lane_line.Goals as goal

pub returns-then-fast_short_slice_compare : goal.returns-then-fast_short_slice_compare
unfolding lane_counted
returns-then-fast_short_slice_compare c = c.end_line.ensures ∙ rw (sym c.if-fast_short_slice_compare.ensures)

pub returns : goal.returns
unfolding lane_counted
returns c = c.name_line.ensures ∙ rw (sym c.if-fast_short_slice_compare.ensures)
