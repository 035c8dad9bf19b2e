-- RULES AA6, AA7, AA8. Document 02, One: the reader. It goes line by line; each line is judged by what is expected
-- there, so the first bad line is the first that is refused.
use Rattle.std.specs.Prelude.{ℕ, suc, ◌+◌, ◌-◌, ◌*◌, Bool, true, false, cond, ◌&&◌, ◌||◌, not, List, [], ◌∷◌, ◌++◌, leb, eqb, length}
use Rattle.std.specs.Prelude.{Option, None, Some}
use Rattle.limits.specs.Limits.{name_limit, digit_limit}
use Rattle.fastcmp.specs.Equal.{equal_bytes}
use Rattle.report_text.specs.Text.{Lane, lane, total_of, newline, store_line, terms_word, total_word, term_word}
use Rattle.report_text.specs.Text.{len_word, bytes_word, end_line}

-- ---- lines

-- RULES AA6. A text's lines, each ended by its newline, and what follows the last newline.
pub data Lines : Type 0 where
  ended : List ℕ → Lines → Lines
  unended : List ℕ → Lines

-- RULES AA6. A byte more in the first line.
abbrev pub in_front : ℕ → Lines → Lines
in_front c (ended l ls) = ended (c ∷ l) ls
in_front c (unended l) = unended (c ∷ l)

-- RULES AA6. The cut.
unfoldable pub lines_of : List ℕ → Lines
lines_of [] = unended []
lines_of (c ∷ t) = cond (eqb c newline) (ended [] (lines_of t)) (in_front c (lines_of t))

-- ---- values

-- RULES AA8. A step that may fail, after another.
abbrev pub and_then : {A B : Type 0} → Option A → (A → Option B) → Option B
and_then None f = None
and_then (Some x) f = f x

-- RULES AA8. What follows a word in a line that begins with it.
unfoldable pub value_after : List ℕ → List ℕ → Option (List ℕ)
value_after [] l = Some l
value_after (w ∷ ws) [] = None
value_after (w ∷ ws) (c ∷ l) = cond (eqb w c) (value_after ws l) None

-- RULES AA8. 0 to 9.
abbrev pub is_digit : ℕ → Bool
is_digit c = leb 48 c && leb c 57

-- RULES AA8. The number that digits behind a number v make.
unfoldable pub number_from : ℕ → List ℕ → Option ℕ
number_from v [] = Some v
number_from v (c ∷ cs) = cond (is_digit c) (number_from (10 * v + (c - 48)) cs) None

-- RULES AA8. At least one digit, and "no leading zero but 0 itself"
abbrev pub no_leading_zero : List ℕ → Bool
no_leading_zero [] = false
no_leading_zero (c ∷ []) = true
no_leading_zero (c ∷ d ∷ cs) = not (eqb c 48)

-- RULES AA8. "decimals of 1 to 18 digits"
unfoldable pub number_of : List ℕ → Option ℕ
unfolding number_from
number_of cs = cond (leb (length cs) digit_limit && no_leading_zero cs) (number_from 0 cs) None

-- RULES AA8. 0 to 9, a to f.
abbrev pub is_hex : ℕ → Bool
is_hex c = is_digit c || (leb 97 c && leb c 102)

-- RULES AA8. What such a digit is worth.
abbrev pub hex_value : ℕ → ℕ
hex_value c = cond (leb c 57) (c - 48) (c - 87)

-- RULES AA8. A byte in front.
abbrev pub byte_before : ℕ → Option (List ℕ) → Option (List ℕ)
byte_before b None = None
byte_before b (Some bs) = Some (b ∷ bs)

-- RULES AA8. Two lower-case digits a byte.
unfoldable pub bytes_of : List ℕ → Option (List ℕ)
bytes_of [] = Some []
bytes_of (c ∷ []) = None
bytes_of (c ∷ d ∷ cs) = cond (is_hex c && is_hex d) (byte_before (16 * hex_value c + hex_value d) (bytes_of cs)) None

-- RULES AA8. The decimal behind a word.
unfoldable pub number_in : List ℕ → List ℕ → Option ℕ
unfolding value_after number_of
number_in word l = and_then (value_after word l) number_of

-- RULES AA8. The bytes whose hex stands behind a word.
unfoldable pub bytes_in : List ℕ → List ℕ → Option (List ℕ)
unfolding value_after bytes_of
bytes_in word l = and_then (value_after word l) bytes_of

-- ---- line by line

-- RULES AA7. A lane of this name is among them.
unfoldable pub named : List ℕ → List Lane → Bool
unfolding equal_bytes
named n [] = false
named n (a ∷ ls) = cond (equal_bytes n a.name) true (named n ls)

-- RULES AA7. What the next line is to be, with what was read so far: terms=, total=, the whole lanes, a lane's name,
-- its length.
pub data Expects : Type 0 where
  a_store : Expects
  a_terms : Expects
  a_total : ℕ → Expects
  a_lane : ℕ → ℕ → List Lane → Expects
  a_length : ℕ → ℕ → List Lane → List ℕ → Expects
  some_bytes : ℕ → ℕ → List Lane → List ℕ → ℕ → Expects
  nothing : List Lane → Expects

-- RULES AA7. Where a test holds.
abbrev pub provided : Bool → Expects → Option Expects
provided t s = cond t (Some s) None

-- RULES AA7. A name: "distinct and at most 65,535 bytes"
unfoldable pub name_taken : ℕ → ℕ → List Lane → List ℕ → Option Expects
unfolding named
name_taken terms total ls n = provided (leb (length n) name_limit && not (named n ls)) (a_length terms total ls n)

-- RULES AA7. end=1 "where terms= or total= isn't met" is bad.
unfoldable pub end_taken : ℕ → ℕ → List Lane → Option Expects
unfolding total_of
end_taken terms total ls = provided (eqb (length ls) terms && eqb (total_of ls) total) (nothing ls)

-- RULES AA7. "bytes= not of len" is bad.
abbrev pub bytes_taken : ℕ → ℕ → List Lane → List ℕ → ℕ → List ℕ → Option Expects
bytes_taken terms total ls n len bs = provided (eqb (length bs) len) (a_lane terms total (ls ++ (lane n bs ∷ [])))

-- RULES AA7. What a line makes of it; none for a bad line.
unfoldable pub line_read : Expects → List ℕ → Option Expects
unfolding equal_bytes number_in bytes_in name_taken end_taken
line_read a_store l = provided (equal_bytes l store_line) a_terms
line_read a_terms l = and_then (number_in terms_word l) (λ terms. Some (a_total terms))
line_read (a_total terms) l = and_then (number_in total_word l) (λ total. Some (a_lane terms total []))
line_read (a_lane terms total ls) l =
    cond (equal_bytes l end_line) (end_taken terms total ls)
    (and_then (bytes_in term_word l) (λ n. name_taken terms total ls n))
line_read (a_length terms total ls n) l = and_then (number_in len_word l) (λ len. Some (some_bytes terms total ls n len))
line_read (some_bytes terms total ls n len) l = and_then (bytes_in bytes_word l) (λ bs. bytes_taken terms total ls n len bs)
line_read (nothing ls) l = None

-- ---- the whole text

-- RULES AA6. The lanes, or the first bad line, from 1.
pub data Told : Type 0 where
  lanes : List Lane → Told
  bad : ℕ → Told

-- RULES AA6. What follows the last newline, as line n: nothing where all is read; else a missing or unended line, or
-- bytes after
-- the end.
abbrev pub no_more : List ℕ → Told → Told → Told
no_more [] good wrong = good
no_more (c ∷ cs) good wrong = wrong

-- RULES AA6. What the rest after the last newline makes of it.
abbrev pub rest_read : Expects → ℕ → List ℕ → Told
rest_read a_store n l = bad n
rest_read a_terms n l = bad n
rest_read (a_total terms) n l = bad n
rest_read (a_lane terms total ls) n l = bad n
rest_read (a_length terms total ls name) n l = bad n
rest_read (some_bytes terms total ls name len) n l = bad n
rest_read (nothing ls) n l = no_more l (lanes ls) (bad n)

-- RULES AA6. Going on behind a good line.
abbrev pub or_bad : Option Expects → ℕ → (Expects → Told) → Told
or_bad None n k = bad n
or_bad (Some s) n k = k s

-- RULES AA6. From line n on.
unfoldable pub lines_read : Expects → ℕ → Lines → Told
unfolding line_read
lines_read s n (ended l ls) = or_bad (line_read s l) n (λ s'. lines_read s' (suc n) ls)
lines_read s n (unended l) = rest_read s n l

-- RULES AA6. The reader.
unfoldable pub text_read : List ℕ → Told
unfolding lines_read lines_of
text_read t = lines_read a_store 1 (lines_of t)
