-- The store that the rows of store_look and store_append speak of is one that the calls make. Each row is worked out
-- from the definitions that the contracts cite.
use Rattle.std.specs.Prelude.{ℕ, ◌≡◌, refl, [], ◌∷◌}
use Rattle.spans.specs.Span.{overwrite}
use Rattle.expull_header.specs.Header.{header_bytes}
use Rattle.store_state.specs.declared.State.{State}
use Rattle.store_create.specs.Create.{out as creation, fresh_state, create_of}
use Rattle.store_look.specs.declared.Lookup.TheVariants.{Missing}
use Rattle.store_look.specs.Look.{Lent, lent, lookup_of}
use Rattle.store_look.specs.Cases.{sevens, lane_a, holding, held}
use Rattle.store_append.specs.declared.Appended.TheVariants.{Accepted}
use Rattle.store_append.specs.Append.{out, append_of}
use Rattle.std.specs.Prelude.{Ok}

-- the state as created over so many words with capacity 1 and seed 0, and the memory
abbrev start : ℕ → State
start words = fresh_state 0 65536 words 64 64 1

abbrev lent_at_first : ℕ → Lent
lent_at_first words = lent (create_of 1 0 65536 (sevens words) 64 64).table (sevens 64) (sevens 64)

-- RULES C3. Over 18 words, and over the two that one bucket takes.
pub made : (create_of 1 0 65536 (sevens 18) 64 64 ≡ creation (Ok (start 18)) (lent_at_first 18).table)
    × (create_of 1 0 65536 (sevens 2) 64 64 ≡ creation (Ok (start 2)) (lent_at_first 2).table)
unfolding create_of
made = (refl, refl)

-- RULES V2. A fresh store has no lane.
pub said-fresh : lookup_of (start 18) (lent_at_first 18) lane_a ≡ Missing
unfolding create_of lookup_of
said-fresh = refl

-- RULES V13. Three bytes to lane A leave just the store of the rows.
pub holds : (append_of (start 18) (lent_at_first 18) lane_a (1 ∷ 2 ∷ 3 ∷ []) ≡ out (Accepted (holding 18)) (held 18))
    × (append_of (start 2) (lent_at_first 2) lane_a (1 ∷ 2 ∷ 3 ∷ []) ≡ out (Accepted (holding 2)) (held 2))
unfolding create_of append_of header_bytes overwrite
holds = (refl, refl)
