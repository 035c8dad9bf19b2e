-- RULES AB12. One byte of a lane of readings, and all of them, as the code takes them: bytes are held until they are a
-- vint, then the vint reader is asked.
use Rattle.std.specs.Prelude.{ℕ, ◌+◌, cond, ◌&&◌, List, [], ◌∷◌, ltb, eqb, take, set, replicate, ℤ, pos, Option, Some, None, Ok, Err}
use Rattle.std.specs.Option.{is_none}
use Rattle.limits.specs.Limits.{vint_limit}
use Rattle.limits.specs.declared.Refusal.{Refusal}
use Rattle.limits.specs.declared.Refusal.TheVariants.{NoEnd}
use Rattle.vint.specs.Vint.{Unvint, take_vint, answer_of, read_vint}
use Rattle.signed.specs.Signed.{following, unstored}
use Rattle.reading_run.specs.declared.Run.{Run}

-- RULES AB12. The run, and the output's places as they then are.
pub record Out : Type 0 where
  pub run : Run
  pub output : List ℤ

-- RULES AB12. Both put together.
abbrev pub out : Run → List ℤ → Out
out r o = record { run = r; output = o }

-- RULES AB12. A run by its fields.
abbrev pub run_with : List ℕ → ℕ → ℤ → ℕ → Option Refusal → Run
run_with h k l n f = record { held = h; count = k; last = l; readings = n; fault = f }

-- RULES AB12. Nothing held, the last reading 0.
abbrev pub begun : Run
begun = run_with (replicate vint_limit 0) 0 (pos 0) 0 None

-- RULES AB12. A whole vint's number: the next reading, which is put at its place where the output has that place.
abbrev pub on_number : ℕ → Run → List ℤ → Out
on_number u s o =
    out (run_with s.held 0 (following s.last (unstored u)) (s.readings + 1) None)
    (set o s.readings (following s.last (unstored u)))

-- RULES AB12. What the reader says of the held bytes.
abbrev pub on_read : Unvint → Run → List ℤ → Out
on_read (Ok r) s o = on_number r.number s o
on_read (Err r) s o = out (run_with s.held 0 s.last s.readings (Some r)) o

-- RULES AB12. A byte more is held.
abbrev pub holding : Run → ℕ → Run
holding s b = run_with (set s.held s.count b) (s.count + 1) s.last s.readings None

-- RULES AB12. One with the top bit, or a fifth, ends it. After a refusal no byte matters.
unfoldable pub turn_of : Run → ℕ → List ℤ → Out
unfolding take_vint answer_of
turn_of s b o =
    cond (is_none s.fault)
    (cond (ltb b 128 && ltb (s.count + 1) vint_limit) (out (holding s b) o)
    (on_read (read_vint (take (s.count + 1) (holding s b).held)) (holding s b) o))
    (out s o)

-- RULES AB12. Byte by byte.
unfoldable pub run_of : Run → List ℕ → List ℤ → Out
unfolding turn_of
run_of s [] o = out s o
run_of s (b ∷ bs) o = run_of (turn_of s b o).run bs (turn_of s b o).output

-- RULES AB12. How it ends: held bytes are unended.
abbrev pub end_of : Run → Option Refusal
end_of s = cond (is_none s.fault) (cond (eqb s.count 0) None (Some NoEnd)) s.fault
