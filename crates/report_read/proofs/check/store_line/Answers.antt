-- `report_read::check::store_line` meets its contract. Assumes nothing.
use mathlib.Core.Path.{sym}
use Rattle.report_read.specs.Counted.{store_counted}
use Rattle.report_read.proofs.check.store_line.Goals as goal

pub returns-then-not-fast_short_slice_compare : goal.returns-then-not-fast_short_slice_compare
unfolding store_counted
returns-then-not-fast_short_slice_compare c = rw (sym c.if-not-fast_short_slice_compare.ensures)

pub returns : goal.returns
unfolding store_counted
returns c = rw (sym c.if-not-fast_short_slice_compare.ensures)
