-- RULES AA10, AA17. The reader by counts: what the code does. It keeps no lanes, only how many there are and their
-- bytes; a name was seen before where its whole line is the term= line of an earlier lane. proofs/Counted.antt has that
-- it answers what the reader says.
use Rattle.std.specs.Prelude.{ℕ, zero, suc, ◌+◌, Bool, true, false, cond, ◌&&◌, not, List, leb, eqb, length}
use Rattle.std.specs.Prelude.{Option, None, Some, Result, Ok, Err}
use Rattle.limits.specs.Limits.{name_limit}
use Rattle.fastcmp.specs.Equal.{equal_bytes}
use Rattle.report_text.specs.Text.{total_of, store_line, terms_word, total_word, term_word, len_word, bytes_word, end_line}
use Rattle.report_text.specs.Reader.{Lines, ended, unended, lines_of, number_in, bytes_in, Told, lanes, bad}
use Rattle.report_read.specs.declared.check.Progress.{Progress}
use Rattle.report_read.specs.declared.check.Expected.{Expected}
use Rattle.report_read.specs.declared.check.Expected.TheVariants.{Store, Terms, Total, Lane, Length, Bytes, Nothing}
use Rattle.report_read.specs.declared.check.Lanes.{Lanes}
use Rattle.report_read.specs.declared.check.BadLine.{BadLine}
use Rattle.report_read.specs.Lines.{line_length, line_at, next_line, next_lane, first_lane}

-- RULES AA17. A line like this begins one of k lanes, the first of them at a place.
unfoldable pub seen_among : ℕ → List ℕ → List ℕ → ℕ → Bool
unfolding equal_bytes next_lane line_length
seen_among zero x t at = false
seen_among (suc k) x t at = cond (equal_bytes (line_at t at) x) true (seen_among k x t (next_lane t at))

-- ---- line by line

abbrev pub progress : Expected → ℕ → ℕ → ℕ → ℕ → ℕ → Progress
progress e terms total n bytes len =
    record { expected = e; terms = terms; total = total; lanes = n; bytes = bytes; length = len }

abbrev pub good_if : Bool → Progress → Option Progress
good_if t p = cond t (Some p) None

abbrev pub on_number : Option ℕ → (ℕ → Option Progress) → Option Progress
on_number None k = None
on_number (Some n) k = k n

abbrev pub on_bytes : Option (List ℕ) → (ℕ → Option Progress) → Option Progress
on_bytes None k = None
on_bytes (Some bs) k = k (length bs)

unfoldable pub store_counted : List ℕ → Option Progress
unfolding equal_bytes
store_counted l = good_if (equal_bytes l store_line) (progress Terms 0 0 0 0 0)

unfoldable pub terms_counted : List ℕ → Option Progress
unfolding number_in
terms_counted l = on_number (number_in terms_word l) (λ n. Some (progress Total n 0 0 0 0))

unfoldable pub total_counted : Progress → List ℕ → Option Progress
unfolding number_in
total_counted p l = on_number (number_in total_word l) (λ n. Some (progress Lane p.terms n 0 0 0))

unfoldable pub name_counted : List ℕ → Progress → List ℕ → Option Progress
unfolding bytes_in seen_among next_line
name_counted t p l =
    on_bytes (bytes_in term_word l)
    (λ n. good_if (leb n name_limit && not (seen_among p.lanes l t (first_lane t)))
    (progress Length p.terms p.total p.lanes p.bytes 0))

unfoldable pub end_counted : Progress → Option Progress
end_counted p =
    good_if (eqb p.lanes p.terms && eqb p.bytes p.total)
    (progress Nothing p.terms p.total p.lanes p.bytes 0)

unfoldable pub lane_counted : List ℕ → Progress → List ℕ → Option Progress
unfolding equal_bytes name_counted end_counted
lane_counted t p l = cond (equal_bytes l end_line) (end_counted p) (name_counted t p l)

unfoldable pub length_counted : Progress → List ℕ → Option Progress
unfolding number_in
length_counted p l =
    on_number (number_in len_word l) (λ n. Some (progress Bytes p.terms p.total p.lanes p.bytes n))

unfoldable pub bytes_counted : Progress → List ℕ → Option Progress
unfolding bytes_in
bytes_counted p l =
    on_bytes (bytes_in bytes_word l)
    (λ n. good_if (eqb n p.length) (progress Lane p.terms p.total (p.lanes + 1) (p.bytes + n) 0))

-- RULES AA17. By what it is to be.
unfoldable pub counted_as : Expected → List ℕ → Progress → List ℕ → Option Progress
unfolding store_counted terms_counted total_counted lane_counted length_counted bytes_counted
counted_as Store t p l = store_counted l
counted_as Terms t p l = terms_counted l
counted_as Total t p l = total_counted p l
counted_as Lane t p l = lane_counted t p l
counted_as Length t p l = length_counted p l
counted_as Bytes t p l = bytes_counted p l
counted_as Nothing t p l = None

-- RULES AA17. What a line makes of the counts.
unfoldable pub line_counted : List ℕ → Progress → List ℕ → Option Progress
unfolding counted_as
line_counted t p l = counted_as p.expected t p l

-- ---- the whole text

abbrev pub lanes_counted : ℕ → ℕ → Result Lanes BadLine
lanes_counted n bytes = Ok (record { lanes = n; bytes = bytes })

abbrev pub bad_line : ℕ → Result Lanes BadLine
bad_line n = Err (record { line = n })

abbrev pub is_nothing : Expected → Bool
is_nothing Nothing = true
is_nothing _ = false

-- all is read, and no byte follows; or line n is bad
abbrev pub end_of : Progress → ℕ → ℕ → Result Lanes BadLine
end_of p n k = cond (is_nothing p.expected && eqb k 0) (lanes_counted p.lanes p.bytes) (bad_line n)

abbrev pub rest_counted : Progress → ℕ → List ℕ → Result Lanes BadLine
rest_counted p n l = end_of p n (length l)

abbrev pub on_line : Option Progress → ℕ → (Progress → Result Lanes BadLine) → Result Lanes BadLine
on_line (Some p) n k = k p
on_line None n k = bad_line n

-- RULES AA17. Behind k lines.
unfoldable pub lines_counted : List ℕ → Progress → ℕ → Lines → Result Lanes BadLine
unfolding line_counted
lines_counted t p k (ended l ls) = on_line (line_counted t p l) (suc k) (λ q. lines_counted t q (suc k) ls)
lines_counted t p k (unended l) = rest_counted p (suc k) l

-- RULES AA17. The whole text.
unfoldable pub text_counted : List ℕ → Result Lanes BadLine
unfolding lines_counted lines_of
text_counted t = lines_counted t (progress Store 0 0 0 0 0) 0 (lines_of t)

-- ---- the call

-- RULES AA10. What the reader says of a text, without its lanes.
abbrev pub checked_of : Told → Result Lanes BadLine
checked_of (lanes ls) = lanes_counted (length ls) (total_of ls)
checked_of (bad n) = bad_line n
