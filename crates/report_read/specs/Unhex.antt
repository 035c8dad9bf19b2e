-- RULES AA12. The bytes that hex stands for, in a lent output.
use Rattle.std.specs.Prelude.{ℕ, ◌+◌, ◌*◌, cond, List, [], leb, length, get_or}
use Rattle.std.specs.Prelude.{Option, None, Some, Result, Ok, Err}
use Rattle.spans.specs.Span.{overwrite}
use Rattle.report_text.specs.Reader.{hex_value, bytes_of}
use Rattle.report_read.specs.declared.unhex.TooShort.{TooShort}

-- RULES AA12. Byte i of hex.
abbrev pub byte_in : List ℕ → ℕ → ℕ
byte_in cs i = 16 * hex_value (get_or cs (2 * i) 0) + hex_value (get_or cs (2 * i + 1) 0)

-- RULES AA12. Bytes, or none.
abbrev pub or_none : Option (List ℕ) → List ℕ
or_none None = []
or_none (Some bs) = bs

-- RULES AA12. The answer, and the lent output as the call leaves it.
pub record Out : Type 0 where
  pub answer : Result (Option ℕ) TooShort
  pub output : List ℕ

-- RULES AA12. Both put together.
abbrev pub out : Result (Option ℕ) TooShort → List ℕ → Out
out r o = record { answer = r; output = o }

abbrev pub too_short : ℕ → TooShort
too_short n = record { needed = n }

-- RULES AA12. By what the hex stands for.
abbrev pub on_hex : Option (List ℕ) → List ℕ → Out
on_hex None output = out (Ok None) output
on_hex (Some bs) output =
    cond (leb (length bs) (length output)) (out (Ok (Some (length bs))) (overwrite 0 bs output))
    (out (Err (too_short (length bs))) output)

-- RULES AA12. The call.
unfoldable pub unhex_of : List ℕ → List ℕ → Out
unfolding bytes_of overwrite
unhex_of cs output = on_hex (bytes_of cs) output
