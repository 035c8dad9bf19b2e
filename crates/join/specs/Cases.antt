-- RULES AI11. A row a case: joins worked out. The first store has lane A with the bytes 1, 2, 3; the second, with
-- another seed, page size, table and lengths, lists lane B with 9, 9, 9, 9 and then lane A with 4, 5. All memory held
-- 7s, the scratch 0s.
use Rattle.std.specs.Prelude.{ℕ, ◌≡◌, refl, List, [], ◌∷◌, replicate}
use Rattle.limits.specs.Refusals.{Said, answered, refused, lanes_joined}
use Rattle.spans.specs.Span.{overwrite}
use Rattle.shared_arena_hashmap.specs.Buckets.{cleared}
use Rattle.expull_header.specs.Header.{fresh, header_bytes}
use Rattle.store_create.specs.Create.{fresh_state}
use Rattle.store_look.specs.Look.{lent}
use Rattle.store_append.specs.Append.{append_of}
use Rattle.history.specs.History.{World, appends, play}
use Rattle.join.specs.Join.{store, Out, join_of}
use Rattle.join.specs.Said.{said_joined}

abbrev a : List ℕ
a = 65 ∷ []

abbrev b : List ℕ
b = 66 ∷ []

abbrev nines : List ℕ
nines = 9 ∷ 9 ∷ 9 ∷ 9 ∷ []

-- the first, with so many words, key bytes and list bytes
abbrev first : ℕ → ℕ → ℕ → World
first words key_bytes list_bytes =
    play (appends a (1 ∷ 2 ∷ 3 ∷ []) ∷ [])
    (store (fresh_state 0 1048576 words key_bytes list_bytes 1)
    (lent (cleared 0 1 (replicate words 7)) (replicate key_bytes 7) (replicate list_bytes 7)))

-- the second, with these bytes in lane A
abbrev second : List ℕ → World
second bytes =
    play (appends b nines ∷ appends a bytes ∷ [])
    (store (fresh_state 5 65536 40 99 80 4) (lent (cleared 0 4 (replicate 40 7)) (replicate 99 7) (replicate 80 7)))

-- the same with the length bytes of B's record overwritten, so that it is no good span
abbrev broken : World
broken =
    let v : World = second (4 ∷ 5 ∷ []) in
    store v.state
    (lent v.memory.table (overwrite 0 (255 ∷ 255 ∷ []) v.memory.keys) v.memory.lists)

-- and with a record of no name, and no bytes, in its place: an older store may have one
abbrev nameless : World
nameless =
    let v : World = second (4 ∷ 5 ∷ []) in
    store v.state
    (lent v.memory.table (overwrite 0 (0 ∷ 0 ∷ header_bytes fresh) v.memory.keys) v.memory.lists)

abbrev joined : Out
joined = join_of (first 18 64 64) (second (4 ∷ 5 ∷ [])) (replicate 5 0)

abbrev says : World → World → ℕ → Said
says w v room = said_joined (join_of w v (replicate room 0)).answer

-- RULES AI11. Whole, and what it leaves; a lane longer than the scratch; no bucket, no room for the record, no room for
-- the block; the second lane refused when the first is across; a lane without a name; damage; a state that isn't
-- whole.
pub said-joined : (said_joined joined.answer ≡ answered lanes_joined (2 ∷ []))
    × (joined.scratch ≡ 4 ∷ 5 ∷ 9 ∷ 9 ∷ 0 ∷ [])
    × (says (first 18 64 64) (second (4 ∷ 5 ∷ [])) 3 ≡ refused 8 (0 ∷ []))
    × (says (first 2 64 64) (second (4 ∷ 5 ∷ [])) 5 ≡ refused 5 (0 ∷ []))
    × (says (first 18 19 64) (second (4 ∷ 5 ∷ [])) 5 ≡ refused 6 (0 ∷ []))
    × (says (first 18 64 12) (second (4 ∷ 5 ∷ [])) 5 ≡ refused 7 (0 ∷ []))
    × (says (first 18 64 24) (second (4 ∷ 5 ∷ 6 ∷ 7 ∷ 8 ∷ 9 ∷ [])) 6 ≡ refused 7 (1 ∷ []))
    × (says (first 18 64 64) nameless 5 ≡ refused 13 (0 ∷ []))
    × (says (first 18 64 64) broken 5 ≡ refused 4 (0 ∷ []))
    × (says (first 18 64 64) (store (fresh_state 5 65536 40 99 80 4) (lent [] [] [])) 5 ≡ refused 2 (0 ∷ []))
unfolding play join_of append_of cleared
said-joined = (refl, refl, refl, refl, refl, refl, refl, refl, refl, refl)
