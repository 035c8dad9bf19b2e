-- RULES AA15. A row a case: what the writer says of a store of 18 words and twice 64 bytes, where all memory held 7s:
-- empty, then with lane A and the bytes 1, 2, 3. The texts are document 02's.
use Rattle.std.specs.Prelude.{ℕ, ◌≡◌, refl, List, [], ◌∷◌, ◌++◌, replicate}
use Rattle.limits.specs.Refusals.{answered, refused, a_report}
use Rattle.spans.specs.Span.{overwrite}
use Rattle.store_state.specs.declared.State.{State}
use Rattle.store_append.specs.declared.Appended.{Appended}
use Rattle.store_append.specs.declared.Appended.TheVariants.{Accepted, Declined}
use Rattle.store_create.specs.Create.{fresh_state, create_of}
use Rattle.store_look.specs.Look.{Lent, lent}
use Rattle.store_append.specs.Append.{append_of}
use Rattle.report_text.specs.Cases.{empty_text, a_text}
use Rattle.report.specs.Report.{report_of}
use Rattle.report.specs.Said.{said_reported}

abbrev sevens : ℕ → List ℕ
sevens n = replicate n 7

abbrev start : State
start = fresh_state 0 65536 18 64 64 1

abbrev lent_at_first : Lent
lent_at_first = lent (create_of 1 0 65536 (sevens 18) 64 64).table (sevens 64) (sevens 64)

abbrev state_of : Appended → State
state_of (Accepted st) = st
state_of (Declined st n) = st

abbrev one : State
one = state_of (append_of start lent_at_first (65 ∷ []) (1 ∷ 2 ∷ 3 ∷ [])).answer

abbrev lent_one : Lent
lent_one = (append_of start lent_at_first (65 ∷ []) (1 ∷ 2 ∷ 3 ∷ [])).memory

-- the same with its record's length bytes overwritten, so that the record is no good span
abbrev broken : Lent
broken = lent lent_one.table (overwrite 0 (255 ∷ 255 ∷ []) lent_one.keys) lent_one.lists

-- and with its header's last byte overwritten, which is damage too
abbrev headless : Lent
headless = lent lent_one.table (overwrite 18 (1 ∷ []) lent_one.keys) lent_one.lists

-- RULES AA15.
pub said_reported_lem : (said_reported (report_of start lent_at_first (sevens 32)).answer ≡ answered a_report (30 ∷ []))
    × ((report_of start lent_at_first (sevens 32)).output ≡ empty_text ++ (7 ∷ 7 ∷ []))
    × (said_reported (report_of one lent_one (sevens 58)).answer ≡ answered a_report (57 ∷ []))
    × ((report_of one lent_one (sevens 58)).output ≡ a_text ++ (7 ∷ []))
    × (said_reported (report_of one lent_one (sevens 56)).answer ≡ refused 8 (57 ∷ []))
    × ((report_of one lent_one (sevens 56)).output ≡ sevens 56)
    × (said_reported (report_of one (lent [] [] []) (sevens 58)).answer ≡ refused 2 [])
    × (said_reported (report_of one broken (sevens 1)).answer ≡ refused 4 [])
    × (said_reported (report_of one headless (sevens 1)).answer ≡ refused 4 [])
unfolding create_of append_of report_of empty_text a_text
said_reported_lem = (refl, refl, refl, refl, refl, refl, refl, refl, refl)
