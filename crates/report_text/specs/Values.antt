-- RULES AA8. The tests that the values of a line pass.
use Rattle.std.specs.Prelude.{ℕ, ◌%◌, Bool, true, false, cond, List, [], ◌∷◌, leb, eqb, length, take}
use Rattle.fastcmp.specs.Equal.{equal_bytes}
use Rattle.report_text.specs.Reader.{is_hex}

-- RULES AA8. A line begins with a word.
unfoldable pub begins_with : List ℕ → List ℕ → Bool
unfolding equal_bytes
begins_with word l = cond (leb (length word) (length l)) (equal_bytes (take (length word) l) word) false

-- RULES AA8. Every byte is a digit of hex.
unfoldable pub all_hex : List ℕ → Bool
all_hex [] = true
all_hex (c ∷ cs) = cond (is_hex c) (all_hex cs) false

-- RULES AA8. Lower-case hex, two digits a byte; proofs/Words.antt has that just this reads as bytes.
unfoldable pub hex_text : List ℕ → Bool
unfolding all_hex
hex_text cs = cond (eqb (length cs % 2) 0) (all_hex cs) false
