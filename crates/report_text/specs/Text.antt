-- RULES AA1, AA2, AA3. Document 02, One: the shift report as text. "store=1, then terms= and total= (lanes listed and
-- their bytes, decimal), then for each lane .. term= (name in lower-case hex), len= (decimal), bytes= (the same hex),
-- and last end=1. Each line ends with one newline."
use Rattle.std.specs.Prelude.{ℕ, zero, suc, ◌+◌, ◌/◌, ◌%◌, cond, List, [], ◌∷◌, ◌++◌, ltb, length}
use Rattle.limits.specs.Limits.{digit_limit}

-- RULES AA2. A lane of a report.
pub record Lane : Type 0 where
  pub name : List ℕ
  pub bytes : List ℕ

-- RULES AA2. Name and bytes put together.
abbrev pub lane : List ℕ → List ℕ → Lane
lane n bs = record { name = n; bytes = bs }

-- RULES AA2. The bytes of all lanes together.
unfoldable pub total_of : List Lane → ℕ
total_of [] = 0
total_of (a ∷ ls) = length a.bytes + total_of ls

-- ---- the fixed byte strings

-- RULES AA1. The byte that ends a line.
abbrev pub newline : ℕ
newline = 10

-- RULES AA2. store=1
abbrev pub store_line : List ℕ
store_line = 115 ∷ 116 ∷ 111 ∷ 114 ∷ 101 ∷ 61 ∷ 49 ∷ []

-- RULES AA2. terms=
abbrev pub terms_word : List ℕ
terms_word = 116 ∷ 101 ∷ 114 ∷ 109 ∷ 115 ∷ 61 ∷ []

-- RULES AA2. total=
abbrev pub total_word : List ℕ
total_word = 116 ∷ 111 ∷ 116 ∷ 97 ∷ 108 ∷ 61 ∷ []

-- RULES AA2. term=
abbrev pub term_word : List ℕ
term_word = 116 ∷ 101 ∷ 114 ∷ 109 ∷ 61 ∷ []

-- RULES AA2. len=
abbrev pub len_word : List ℕ
len_word = 108 ∷ 101 ∷ 110 ∷ 61 ∷ []

-- RULES AA2. bytes=
abbrev pub bytes_word : List ℕ
bytes_word = 98 ∷ 121 ∷ 116 ∷ 101 ∷ 115 ∷ 61 ∷ []

-- RULES AA2. end=1
abbrev pub end_line : List ℕ
end_line = 101 ∷ 110 ∷ 100 ∷ 61 ∷ 49 ∷ []

-- ---- numbers and bytes

-- RULES AA3. The last w digits of n, the highest first, no leading zero.
unfoldable pub digits : ℕ → ℕ → List ℕ
digits zero n = []
digits (suc w) n = cond (ltb n 10) ((48 + n) ∷ []) (digits w (n / 10) ++ ((48 + n % 10) ∷ []))

-- RULES AA3. A number below 10^18.
abbrev pub decimal : ℕ → List ℕ
decimal n = digits digit_limit n

-- RULES AA3. 0 to 9, a to f.
abbrev pub hex_digit : ℕ → ℕ
hex_digit n = cond (ltb n 10) (48 + n) (87 + n)

-- RULES AA3. Two digits a byte.
unfoldable pub hex : List ℕ → List ℕ
hex [] = []
hex (b ∷ bs) = hex_digit (b / 16) ∷ hex_digit (b % 16) ∷ hex bs

-- ---- the text

-- RULES AA1. A word, its value, one newline.
abbrev pub line : List ℕ → List ℕ → List ℕ
line word value = word ++ (value ++ (newline ∷ []))

-- RULES AA2. A lane's three lines.
unfoldable pub lane_text : Lane → List ℕ
unfolding hex digits
lane_text a =
    line term_word (hex a.name) ++ (line len_word (decimal (length a.bytes)) ++ line bytes_word (hex a.bytes))

-- RULES AA2. All lanes, one behind the other.
unfoldable pub lanes_text : List Lane → List ℕ
unfolding lane_text
lanes_text [] = []
lanes_text (a ∷ ls) = lane_text a ++ lanes_text ls

-- RULES AA2. What stands before them.
unfoldable pub head_text : ℕ → ℕ → List ℕ
unfolding digits
head_text terms total = line store_line [] ++ (line terms_word (decimal terms) ++ line total_word (decimal total))

-- RULES AA2. The whole.
unfoldable pub report_text : List Lane → List ℕ
unfolding head_text lanes_text total_of
report_text ls = head_text (length ls) (total_of ls) ++ (lanes_text ls ++ line end_line [])
