-- RULES AA15. A row a case: what the reader's calls say of document 02's two texts and of bad ones.
use Rattle.std.specs.Prelude.{◌≡◌, refl, [], ◌∷◌, ◌++◌}
use Rattle.limits.specs.Refusals.{answered, refused, some_lanes, a_lane, no_such_lane, some_bytes, no_hex}
use Rattle.report_text.specs.Cases.{empty_text, a_text}
use Rattle.report_text.specs.Reader.{text_read}
use Rattle.report_read.specs.Counted.{checked_of}
use Rattle.report_read.specs.Lane.{lane_of}
use Rattle.report_read.specs.Said.{said_checked, said_picked, said_unhexed}
use Rattle.report_read.specs.Unhex.{unhex_of}

-- RULES AA15.
pub said-checked : (said_checked (checked_of (text_read empty_text)) ≡ answered some_lanes (0 ∷ 0 ∷ []))
    × (said_checked (checked_of (text_read a_text)) ≡ answered some_lanes (1 ∷ 3 ∷ []))
    × (said_checked (checked_of (text_read [])) ≡ refused 15 (1 ∷ []))
    × (said_checked (checked_of (text_read (a_text ++ (120 ∷ [])))) ≡ refused 15 (8 ∷ []))
unfolding text_read empty_text a_text
said-checked = (refl, refl, refl, refl)

-- RULES AA15. `41` stands behind 29 bytes, `010203` behind 44.
pub said_picked_lem : (said_picked (lane_of a_text 0) ≡ answered a_lane (29 ∷ 2 ∷ 44 ∷ 6 ∷ []))
    × (said_picked (lane_of a_text 1) ≡ answered no_such_lane [])
    × (said_picked (lane_of empty_text 0) ≡ answered no_such_lane [])
    × (said_picked (lane_of (a_text ++ (120 ∷ [])) 0) ≡ refused 15 (8 ∷ []))
unfolding lane_of empty_text a_text
said_picked_lem = (refl, refl, refl, refl)

-- RULES AA15. `0a0f`, `0A` and `0`.
pub said_unhexed_lem : (said_unhexed (unhex_of (48 ∷ 97 ∷ 48 ∷ 102 ∷ []) (7 ∷ 7 ∷ 7 ∷ [])).answer
    ≡ answered some_bytes (2 ∷ []))
    × ((unhex_of (48 ∷ 97 ∷ 48 ∷ 102 ∷ []) (7 ∷ 7 ∷ 7 ∷ [])).output ≡ 10 ∷ 15 ∷ 7 ∷ [])
    × (said_unhexed (unhex_of (48 ∷ 97 ∷ 48 ∷ 102 ∷ []) (7 ∷ [])).answer ≡ refused 8 (2 ∷ []))
    × (said_unhexed (unhex_of (48 ∷ 65 ∷ []) (7 ∷ [])).answer ≡ answered no_hex [])
    × (said_unhexed (unhex_of (48 ∷ []) (7 ∷ [])).answer ≡ answered no_hex [])
unfolding unhex_of
said_unhexed_lem = (refl, refl, refl, refl, refl)
