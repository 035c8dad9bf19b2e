-- RULES AB11. A row a case: what the two calls say on a store of 18 words and twice 64 bytes, where all memory held
-- 7s. Lane A gets -1, the lowest reading and 0, which are 1, 5 and 5 bytes: the third vint lies across its first two
-- blocks.
use Rattle.std.specs.Prelude.{ℕ, ◌≡◌, refl, List, [], ◌∷◌, replicate, ℤ, pos, negsuc}
use Rattle.limits.specs.Refusals.{answered, refused, accepted, some_readings, absent}
use Rattle.spans.specs.Span.{overwrite}
use Rattle.store_state.specs.declared.State.{State}
use Rattle.store_append.specs.declared.Appended.{Appended}
use Rattle.store_append.specs.declared.Appended.TheVariants.{Accepted, Declined}
use Rattle.store_append.specs.Said.{said_appended}
use Rattle.store_create.specs.Create.{fresh_state, create_of}
use Rattle.store_look.specs.Look.{Lent, lent}
use Rattle.store_append.specs.Append.{Out, out, append_of}
use Rattle.readings.specs.Readings.{readings_of, append_reading_of}
use Rattle.readings.specs.Said.{said_recalled}

abbrev sevens : ℕ → List ℕ
sevens n = replicate n 7

abbrev places : ℕ → List ℤ
places n = replicate n (pos 7)

abbrev lane_a : List ℕ
lane_a = 65 ∷ []

-- the state that an append gives back
abbrev state_of : Appended → State
state_of (Accepted st) = st
state_of (Declined st n) = st

-- a reading appended to lane A, and bytes
abbrev with : Out → ℤ → ℤ → Out
with o last new = append_reading_of (state_of o.answer) o.memory lane_a last new

abbrev with_bytes : Out → List ℕ → Out
with_bytes o bs = append_of (state_of o.answer) o.memory lane_a bs

-- the store as created with capacity 1 and seed 0
abbrev start : Out
start =
    out (Accepted (fresh_state 0 65536 18 64 64 1))
    (lent (create_of 1 0 65536 (sevens 18) 64 64).table (sevens 64) (sevens 64))

abbrev lowest : ℤ
lowest = negsuc 2147483647

abbrev three : Out
three = with (with (with start (pos 0) (negsuc 0)) (negsuc 0) lowest) lowest (pos 0)

-- the same with a byte behind it that begins a vint and ends none
abbrev torn : Out
torn = with_bytes three (0 ∷ [])

-- and with its record's length bytes overwritten, so that the record is no good span
abbrev broken : Lent
broken = lent three.memory.table (overwrite 0 (255 ∷ 255 ∷ []) three.memory.keys) three.memory.lists

-- RULES X7, AB11. Readings; 8 and then 11, with the count; 2, 3, 4; an absent lane, and one of no bytes.
pub said-recalled :
    (said_recalled (readings_of (state_of three.answer) three.memory lane_a (places 4)).answer
    ≡ answered some_readings (3 ∷ []))
    × ((readings_of (state_of three.answer) three.memory lane_a (places 4)).output
    ≡ negsuc 0 ∷ lowest ∷ pos 0 ∷ pos 7 ∷ [])
    × (said_recalled (readings_of (state_of three.answer) three.memory lane_a (places 2)).answer
    ≡ refused 8 (3 ∷ []))
    × (said_recalled (readings_of (state_of torn.answer) torn.memory lane_a (places 2)).answer
    ≡ refused 8 (3 ∷ []))
    × (said_recalled (readings_of (state_of torn.answer) torn.memory lane_a (places 4)).answer
    ≡ refused 11 (3 ∷ []))
    × ((readings_of (state_of torn.answer) torn.memory lane_a (places 4)).output ≡ places 4)
    × (said_recalled (readings_of (state_of three.answer) (lent [] [] []) lane_a (places 4)).answer ≡ refused 2 [])
    × (said_recalled (readings_of (state_of three.answer) three.memory (sevens 65536) []).answer ≡ refused 3 [])
    × (said_recalled (readings_of (state_of three.answer) broken lane_a (places 4)).answer ≡ refused 4 [])
    × (said_recalled (readings_of (state_of three.answer) three.memory (66 ∷ []) (places 4)).answer
    ≡ answered absent [])
    × (said_recalled (readings_of (state_of (with_bytes start []).answer) (with_bytes start []).memory lane_a []).answer
    ≡ answered some_readings (0 ∷ []))
unfolding create_of append_of append_reading_of readings_of
said-recalled = (refl, refl, refl, refl, refl, refl, refl, refl, refl, refl, refl)

-- RULES X7, AB11. A reading appended: accepted, and refused as an append is, 2, 3, 4; what it stores.
pub said-reading : (said_appended three.answer ≡ answered accepted [])
    × (three.memory.lists ≡ (with (with_bytes start (0x81 ∷ 0x7D ∷ 0x7F ∷ 0x7F ∷ 0x7F ∷ 0x8F ∷ [])) lowest (pos 0)
    ).memory.lists)
    × (said_appended
    (append_reading_of (state_of three.answer) (lent [] [] []) lane_a (pos 0) (pos 1)).answer ≡ refused 2 [])
    × (said_appended
    (append_reading_of (state_of three.answer) broken lane_a (pos 0) (pos 1)).answer ≡ refused 4 [])
unfolding create_of append_of append_reading_of
said-reading = (refl, refl, refl, refl)
