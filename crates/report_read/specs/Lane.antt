-- RULES AA11. A lane of a checked text by its index, from 0: the places of its name's hex and of its bytes' hex.
use Rattle.std.specs.Prelude.{ℕ, ◌+◌, ◌-◌, cond, List, ltb, length, drop}
use Rattle.std.specs.Prelude.{Option, Some, None, Result, Ok, Err}
use Rattle.report_text.specs.Reader.{Told, lanes, bad, text_read}
use Rattle.report_read.specs.declared.check.BadLine.{BadLine}
use Rattle.report_read.specs.declared.pick.Lane.{Lane}
use Rattle.report_read.specs.Lines.{line_length, next_line, lanes_on, first_lane}

-- RULES AA11. Where the bytes= line of the lane at a place begins.
abbrev pub bytes_line : List ℕ → ℕ → ℕ
bytes_line t at = next_line t (next_line t at)

-- RULES AA11. Start and length of a name's hex, and of the bytes'.
abbrev pub places : ℕ → ℕ → ℕ → ℕ → Lane
places name name_long bytes bytes_long =
    record { name = name; name_length = name_long; bytes = bytes; bytes_length = bytes_long }

-- RULES AA11. Behind `term=` and behind `bytes=`: start and length of each.
unfoldable pub parts_at : List ℕ → ℕ → Lane
unfolding line_length next_line
parts_at t at =
    places (at + 5) (line_length (drop at t) - 5) (bytes_line t at + 6) (line_length (drop (bytes_line t at) t) - 6)

-- RULES AA11. By what the reader says of the whole text.
abbrev pub on_told : Told → List ℕ → ℕ → Result (Option Lane) BadLine
on_told (lanes ls) t i = Ok (cond (ltb i (length ls)) (Some (parts_at t (lanes_on i t (first_lane t)))) None)
on_told (bad n) t i = Err (record { line = n })

-- RULES AA11. The whole text is checked first, whatever the index.
unfoldable pub lane_of : List ℕ → ℕ → Result (Option Lane) BadLine
unfolding text_read parts_at lanes_on
lane_of t i = on_told (text_read t) t i
