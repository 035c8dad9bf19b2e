-- RULES AA11. Lines and lanes of a text by their places, as the code goes through them.
use Rattle.std.specs.Prelude.{ℕ, zero, suc, ◌+◌, ◌-◌, ◌*◌, cond, List, [], ◌∷◌, ltb, eqb, length, take, drop}
use Rattle.std.specs.Prelude.{Option, None, Some}
use Rattle.report_text.specs.Text.{newline, len_word}
use Rattle.report_text.specs.Reader.{number_in}

-- RULES AA11. Bytes before the first newline, or all.
unfoldable pub line_length : List ℕ → ℕ
line_length [] = 0
line_length (c ∷ t) = cond (eqb c newline) 0 (suc (line_length t))

-- RULES AA11. Where the line from a place ends: at its newline, or at the text's end.
abbrev pub line_end : List ℕ → ℕ → ℕ
line_end t at = at + line_length (drop at t)

-- RULES AA11. The line from a place on.
abbrev pub line_at : List ℕ → ℕ → List ℕ
line_at t at = take (line_length (drop at t)) (drop at t)

-- RULES AA11. Where the next line begins.
unfoldable pub next_line : List ℕ → ℕ → ℕ
unfolding line_length
next_line t at = cond (ltb (line_end t at) (length t)) (line_end t at + 1) (line_end t at)

-- RULES AA11. So many bytes on, or the text's end.
abbrev pub ahead : List ℕ → ℕ → ℕ → ℕ
ahead t at n = cond (ltb (length t - at) n) (length t) (at + n)

-- RULES AA11. A number, or 0.
abbrev pub or_zero : Option ℕ → ℕ
or_zero None = 0
or_zero (Some n) = n

-- RULES AA11. The length that a lane's len= line tells.
unfoldable pub length_told : List ℕ → ℕ → ℕ
unfolding next_line number_in
length_told t at = or_zero (number_in len_word (line_at t (next_line t at)))

-- RULES AA11. Where the next lane begins: its bytes= line is as long as its len= line tells, so it needn't be gone
-- through.
unfoldable pub next_lane : List ℕ → ℕ → ℕ
unfolding next_line length_told
next_lane t at = ahead t (next_line t (next_line t at)) (7 + 2 * length_told t at)

-- RULES AA11. K lanes on.
unfoldable pub lanes_on : ℕ → List ℕ → ℕ → ℕ
unfolding next_lane
lanes_on zero t at = at
lanes_on (suc k) t at = lanes_on k t (next_lane t at)

-- RULES AA11. Where the first lane begins: behind store=, terms= and total=
abbrev pub first_lane : List ℕ → ℕ
first_lane t = next_line t (next_line t (next_line t 0))
