-- A row a case: what an append says in document 01's terms, on the store of store_look's rows. Each row is worked out
-- from the definition that the contract cites.
use Rattle.std.specs.Prelude.{◌≡◌, refl, []}
use Rattle.limits.specs.Refusals.{answered, refused, accepted}
use Rattle.spans.specs.Span.{overwrite}
use Rattle.expull_header.specs.Header.{header_bytes}
use Rattle.store_look.specs.Look.{lent}
use Rattle.store_look.specs.Cases.{sevens, lane_a, lane_b, holding, held, one, lent_one, broken}
use Rattle.store_look.specs.Cases.{nameless, nameless_broken}
use Rattle.store_append.specs.Said.{said_appended}
use Rattle.store_append.specs.Append.{append_of}

-- RULES X7. 5 where the one bucket is taken and two words have no room to grow; 6 for a record of 46 bytes behind one
-- of 19, in 64; 7 for blocks of 12, 20 and 36 bytes behind one of 12, in 64
pub said-appended : (said_appended (append_of one lent_one lane_a []).answer ≡ answered accepted [])
    × (said_appended (append_of one (lent [] [] []) lane_a []).answer ≡ refused 2 [])
    × (said_appended (append_of one lent_one (sevens 65519) []).answer ≡ refused 3 [])
    × (said_appended (append_of one lent_one [] []).answer ≡ refused 13 [])
    × (said_appended (append_of one broken lane_a []).answer ≡ refused 4 [])
    × (said_appended (append_of (holding 2) (held 2) lane_b []).answer ≡ refused 5 [])
    × (said_appended (append_of one lent_one (sevens 28) []).answer ≡ refused 6 [])
    × (said_appended (append_of one lent_one (sevens 27) []).answer ≡ answered accepted [])
    × (said_appended (append_of one lent_one lane_b (sevens 25)).answer ≡ refused 7 [])
    × (said_appended (append_of one lent_one lane_b (sevens 24)).answer ≡ answered accepted [])
unfolding append_of header_bytes overwrite
said-appended = (refl, refl, refl, refl, refl, refl, refl, refl, refl, refl)

-- RULES V1, X7. 13 comes before damage, and where a record of the empty name stands
pub said-nameless : (said_appended (append_of one nameless [] []).answer ≡ refused 13 [])
    × (said_appended (append_of one nameless_broken [] []).answer ≡ refused 13 [])
unfolding append_of header_bytes overwrite
said-nameless = (refl, refl)
