-- RULES AA15. Document 02's two worked texts, and what the reader makes of them and of some bad ones.
use Rattle.std.specs.Prelude.{ℕ, ◌≡◌, refl, List, [], ◌∷◌, ◌++◌}
use Rattle.report_text.specs.Text.{lane, report_text, line, store_line, terms_word, total_word, term_word, len_word}
use Rattle.report_text.specs.Text.{bytes_word, end_line}
use Rattle.report_text.specs.Reader.{text_read, lanes, bad}

-- RULES AA15. store=1, terms=0, total=0, end=1
unfoldable pub empty_text : List ℕ
empty_text = line store_line [] ++ (line terms_word (48 ∷ []) ++ (line total_word (48 ∷ []) ++ line end_line []))

-- RULES AA15. store=1, terms=1, total=3, term=41, len=3, bytes=010203, end=1
unfoldable pub a_text : List ℕ
a_text =
    line store_line [] ++ (line terms_word (49 ∷ []) ++ (line total_word (51 ∷ [])
    ++ (line term_word (52 ∷ 49 ∷ [])
    ++ (line len_word (51 ∷ []) ++ (line bytes_word (48 ∷ 49 ∷ 48 ∷ 50 ∷ 48 ∷ 51 ∷ []) ++ line end_line [])))))

-- RULES AA15. Written.
pub written_cases : (report_text [] ≡ empty_text) × (report_text (lane (65 ∷ []) (1 ∷ 2 ∷ 3 ∷ []) ∷ []) ≡ a_text)
unfolding report_text empty_text a_text
written_cases = (refl, refl)

-- RULES AA15. Read; without a byte; bytes after the end; a line without its newline.
pub read_cases : (text_read empty_text ≡ lanes [])
    × (text_read a_text ≡ lanes (lane (65 ∷ []) (1 ∷ 2 ∷ 3 ∷ []) ∷ []))
    × (text_read [] ≡ bad 1)
    × (text_read (a_text ++ (120 ∷ [])) ≡ bad 8)
    × (text_read store_line ≡ bad 1)
unfolding text_read empty_text a_text
read_cases = (refl, refl, refl, refl, refl)
