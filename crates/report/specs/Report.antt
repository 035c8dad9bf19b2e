-- RULES AA5. The writer: all lanes are met (4) before the output's length matters (8), and that before a byte is
-- written.
use Rattle.std.specs.Prelude.{ℕ, cond, List, leb, length, Result, Ok, Err}
use Rattle.spans.specs.Span.{overwrite}
use Rattle.store_state.specs.declared.State.{State}
use Rattle.store_state.specs.State.{whole_state}
use Rattle.store_look.specs.Look.{Lent, checked}
use Rattle.report_text.specs.Text.{report_text}
use Rattle.report_lanes.specs.Lanes.{Gathered, gathered, halted, gather_from, gather_all}
use Rattle.limits.specs.declared.Refusal.TheVariants.{NotWhole}
use Rattle.report.specs.declared.Unwritten.{Unwritten}
use Rattle.report.specs.declared.Unwritten.TheVariants.{Refused, TooShort}

-- RULES AA5. The answer, and the lent output as the call leaves it.
pub record Out : Type 0 where
  pub answer : Result ℕ Unwritten
  pub output : List ℕ

-- RULES AA5. Both put together.
abbrev pub out : Result ℕ Unwritten → List ℕ → Out
out r o = record { answer = r; output = o }

-- RULES AA5. "Too short an output is refusal 8 with the length needed."
abbrev pub on_gathered : Gathered → List ℕ → Out
on_gathered (gathered ls) output =
    cond (leb (length (report_text ls)) (length output))
    (out (Ok (length (report_text ls))) (overwrite 0 (report_text ls) output))
    (out (Err (TooShort (length (report_text ls)))) output)
on_gathered (halted k) output = out (Err (Refused k)) output

-- RULES AA5. The call.
unfoldable pub report_of : State → Lent → List ℕ → Out
unfolding whole_state gather_from report_text overwrite
report_of st m output = cond (checked st m) (on_gathered (gather_all st m) output) (out (Err (Refused NotWhole)) output)
