-- What stands where a lane begins, as far as its parts need it: `term=` and `bytes=` fit their lines.
use Rattle.std.specs.Prelude.{ℕ, ◌≤◌, List, length, drop}
use Rattle.report_read.specs.Lines.{line_length}
use Rattle.report_read.specs.Lane.{bytes_line}

pub record PartsIn (t : List ℕ) (at : ℕ) : Type 0 where
  pub within : at ≤ length t
  pub term_fits : 5 ≤ line_length (drop at t)
  pub bytes_fits : 6 ≤ line_length (drop (bytes_line t at) t)
