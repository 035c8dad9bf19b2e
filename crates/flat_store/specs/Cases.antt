-- RULES AH10. Small buffers worked out, a row a case: what each call says, and what it leaves.
use Rattle.std.specs.Prelude.{ℕ, ◌≡◌, refl, List, [], ◌∷◌, replicate}
use Rattle.limits.specs.Refusals.{answered, refused, accepted, standing, absent, a_length, a_reading}
use Rattle.flat_store.specs.Calls.{append_of, lookup_of, length_of, read_of}
use Rattle.flat_store.specs.Said.{said_appended, said_lookup, said_length, said_read}

-- lane A with bytes 1 2, lane B with none, lane A with byte 3
abbrev run : List ℕ
run =
    1 ∷ 0 ∷ 65 ∷ 2 ∷ 0 ∷ 0 ∷ 0 ∷ 1 ∷ 2 ∷ 1 ∷ 0 ∷ 66 ∷ 0 ∷ 0 ∷ 0 ∷ 0 ∷ 1 ∷ 0 ∷ 65 ∷ 1 ∷ 0 ∷ 0 ∷ 0 ∷ 3 ∷ []

abbrev lane_a : List ℕ
lane_a = 65 ∷ []

abbrev lane_b : List ℕ
lane_b = 66 ∷ []

abbrev lane_c : List ℕ
lane_c = 67 ∷ []

abbrev sevens : ℕ → List ℕ
sevens n = replicate n 7

-- RULES AH10.
pub said-looked : (said_lookup (lookup_of run 24 lane_a) ≡ answered standing [])
    × (said_lookup (lookup_of run 24 lane_c) ≡ answered absent [])
    × (said_lookup (lookup_of run 23 []) ≡ answered absent [])
    × (said_lookup (lookup_of run 0 lane_a) ≡ answered absent [])
    × (said_lookup (lookup_of run 25 []) ≡ refused 2 [])
unfolding lookup_of
said-looked = (refl, refl, refl, refl, refl)

-- RULES AH10. An entry that overruns the used count in its bytes, its byte length, its name or its name length, and
-- behind a match; a reading behind a used count above the buffer
pub said_damaged : (said_lookup (lookup_of run 23 lane_b) ≡ refused 4 [])
    × (said_lookup (lookup_of run 20 lane_b) ≡ refused 4 [])
    × (said_lookup (lookup_of run 18 lane_b) ≡ refused 4 [])
    × (said_lookup (lookup_of run 17 lane_b) ≡ refused 4 [])
    × (said_length (length_of run 10 lane_a) ≡ refused 4 [])
    × (said_read (read_of run 8 lane_a []).answer ≡ refused 4 [])
    × (said_read (read_of run 25 lane_a []).answer ≡ refused 2 [])
unfolding lookup_of length_of read_of
said_damaged = (refl, refl, refl, refl, refl, refl, refl)

-- RULES AH10.
pub said_answered : (said_length (length_of run 24 lane_a) ≡ answered a_length (3 ∷ []))
    × (said_length (length_of run 24 lane_b) ≡ answered a_length (0 ∷ []))
    × (said_length (length_of run 24 lane_c) ≡ answered absent [])
    × (said_read (read_of run 24 lane_a (sevens 4)).answer ≡ answered a_reading (3 ∷ []))
    × ((read_of run 24 lane_a (sevens 4)).output ≡ 1 ∷ 2 ∷ 3 ∷ 7 ∷ [])
    × (said_read (read_of run 24 lane_a (sevens 2)).answer ≡ refused 8 (3 ∷ []))
    × ((read_of run 24 lane_a (sevens 2)).output ≡ sevens 2)
    × (said_read (read_of run 24 lane_c (sevens 2)).answer ≡ answered absent [])
    × ((read_of run 24 lane_c (sevens 2)).output ≡ sevens 2)
unfolding length_of read_of
said_answered = (refl, refl, refl, refl, refl, refl, refl, refl, refl)

-- RULES AH10. An entry that just fits, and one byte less; no name, also in a full buffer; a used count above the
-- buffer, also with no name
pub said-appended : (said_appended (append_of (sevens 9) 0 lane_a (1 ∷ 2 ∷ [])).answer ≡ answered accepted (9 ∷ []))
    × ((append_of (sevens 10) 0 lane_a (1 ∷ 2 ∷ [])).buffer ≡ 1 ∷ 0 ∷ 65 ∷ 2 ∷ 0 ∷ 0 ∷ 0 ∷ 1 ∷ 2 ∷ 7 ∷ [])
    × (said_appended (append_of (sevens 8) 0 lane_a (1 ∷ 2 ∷ [])).answer ≡ refused 14 [])
    × ((append_of (sevens 8) 0 lane_a (1 ∷ 2 ∷ [])).buffer ≡ sevens 8)
    × (said_appended (append_of (sevens 8) 8 [] (1 ∷ [])).answer ≡ refused 13 [])
    × (said_appended (append_of (sevens 8) 9 [] (1 ∷ [])).answer ≡ refused 2 [])
unfolding append_of
said-appended = (refl, refl, refl, refl, refl, refl)
