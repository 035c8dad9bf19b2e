-- `report_read::check::any_line` meets its contract. Assumes nothing.
use mathlib.Core.Path.{◌∙◌}
use Rattle.report_read.specs.Counted.{counted_as, line_counted}
use Rattle.report_read.proofs.check.any_line.Goals as goal

pub returns-in-Store : goal.returns-in-Store
unfolding line_counted counted_as
returns-in-Store c = c.store_line.ensures ∙ rw c.in-Store.is

pub returns-in-Terms : goal.returns-in-Terms
unfolding line_counted counted_as
returns-in-Terms c = c.terms_line.ensures ∙ rw c.in-Terms.is

pub returns-in-Total : goal.returns-in-Total
unfolding line_counted counted_as
returns-in-Total c = c.total_line.ensures ∙ rw c.in-Total.is

pub returns-in-Lane : goal.returns-in-Lane
unfolding line_counted counted_as
returns-in-Lane c = c.lane_line.ensures ∙ rw c.in-Lane.is

pub returns-in-Length : goal.returns-in-Length
unfolding line_counted counted_as
returns-in-Length c = c.length_line.ensures ∙ rw c.in-Length.is

pub returns-in-Bytes : goal.returns-in-Bytes
unfolding line_counted counted_as
returns-in-Bytes c = c.bytes_line.ensures ∙ rw c.in-Bytes.is

pub returns-in-Nothing : goal.returns-in-Nothing
unfolding line_counted counted_as
returns-in-Nothing c = rw c.in-Nothing.is
