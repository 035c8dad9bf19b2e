-- RULES AC11. How it is proved: one byte, some bytes and the end of a call, as the code takes them.
use Rattle.std.specs.Prelude.{ℕ, ◌+◌, Bool, cond, ◌&&◌, List, [], ◌∷◌, ltb, eqb, take, set, Option, Some, None}
use Rattle.std.specs.Option.{is_none}
use Rattle.number_pieces.specs.declared.Pieces.{Pieces}
use Rattle.limits.specs.declared.Refusal.{Refusal}
use Rattle.limits.specs.declared.Refusal.TheVariants.{NoEnd}
use Rattle.number_pieces.specs.declared.Fed.{Fed}
use Rattle.number_pieces.specs.declared.Run.{Run}
use Rattle.number_pieces.specs.Run.{Step, holds, gives, faults, step_of}
use Rattle.number_pieces.specs.Feed.{holding, fed, stopped}

-- RULES AC11. The code's run and the output as it leaves it.
pub record Turned : Type 0 where
  pub run : Run
  pub output : List ℕ

-- RULES AC11. The same.
abbrev pub turned : Run → List ℕ → Turned
turned r o = record { run = r; output = o }

-- RULES AC11. A run, field by field.
abbrev pub run : List ℕ → ℕ → ℕ → ℕ → Option Refusal → Run
run h c n t f = record { held = h; count = c; numbers = n; taken = t; fault = f }

-- RULES AC11. At a piece's first byte.
abbrev pub begun : Pieces → Run
begun st = run st.held st.count 0 0 None

-- RULES AC11. What a step makes of a run.
abbrev pub on_turn : Step → Run → ℕ → List ℕ → Turned
on_turn (holds h) s b o = turned (run (set s.held s.count b) (s.count + 1) s.numbers (s.taken + 1) None) o
on_turn (gives v) s b o = turned (run s.held 0 (s.numbers + 1) (s.taken + 1) None) (set o s.numbers v)
on_turn (faults k) s b o = turned (run s.held s.count s.numbers s.taken (Some k)) o

-- RULES AC11. One byte.
unfoldable pub turn_of : Run → ℕ → List ℕ → Turned
unfolding step_of
turn_of s b o = on_turn (step_of (take s.count s.held) b) s b o

-- RULES AC11. Some bytes, up to a fault.
unfoldable pub turns_of : Run → List ℕ → List ℕ → Turned
unfolding turn_of
turns_of s [] o = turned s o
turns_of s (b ∷ bs) o =
    cond (is_none (turn_of s b o).run.fault) (turns_of (turn_of s b o).run bs (turn_of s b o).output) (turn_of s b o)

-- RULES AC11. The answer once all bytes are taken, or a fault was met.
abbrev pub finish_by : Option Refusal → Pieces → Run → Bool → Fed
finish_by None st s last =
    cond (last && ltb 0 s.count)
    (stopped st s.numbers NoEnd (st.fed + s.taken))
    (cond (eqb s.taken 0)
    (fed st s.numbers None)
    (fed (holding (take s.count s.held) (st.fed + s.taken)) s.numbers None))
finish_by (Some r) st s last = stopped st s.numbers r (st.fed + s.taken)

-- RULES AC11.
unfoldable pub finish_of : Pieces → Run → Bool → Fed
finish_of st s last = finish_by s.fault st s last
