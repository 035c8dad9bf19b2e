-- RULES V1 to V9. The calls that change nothing but a lent output: lookup, length, reading, a block found and shown,
-- listing, the number of keys. Each makes the whole-state check first (2), then those by name ask the guard (3, or
-- absent for the empty name), then they look the name up (4, or absent).
use Rattle.std.specs.Prelude.{ℕ, ◌+◌, ◌-◌, ◌%◌, Bool, cond, ◌&&◌, List, [], leb, length}
use Rattle.std.specs.Prelude.{Option, Some, None, Result, Ok, Err}
use Rattle.limits.specs.declared.Refusal.{Refusal}
use Rattle.limits.specs.Refusals.{number_of}
use Rattle.spans.specs.Span.{read_span, overwrite}
use Rattle.murmurhash2.specs.Murmur.{murmur_hash2}
use Rattle.memory_arena.specs.declared.Arena.{Arena}
use Rattle.memory_arena.specs.Pages.{good_span}
use Rattle.shared_arena_hashmap.specs.declared.Met.{Met}
use Rattle.shared_arena_hashmap.specs.declared.Met.TheVariants.{Empty, Standing, Damaged, Lap}
use Rattle.shared_arena_hashmap.specs.declared.Walk.{Walk}
use Rattle.shared_arena_hashmap.specs.declared.Occupied.{Occupied}
use Rattle.records.specs.Record.{good_record, header_of, header_sound}
use Rattle.shared_arena_hashmap.specs.Probe.{lookup, occupied_from}
use Rattle.expull_walk.specs.declared.Block.{Block as BlockFound}
use Rattle.expull_header.specs.Header.{lane_length, block_count}
use Rattle.expull_walk.specs.Blocks.{good_blocks, lane_bytes, block_of}
use Rattle.store_state.specs.declared.State.{State}
use Rattle.store_look.specs.declared.Lookup.{Lookup}
use Rattle.store_look.specs.declared.Lookup.TheVariants.{At, Missing, Failed}
use Rattle.store_look.specs.declared.Outcome.TheVariants.{Length, Reading, Block, NoSuchBlock}
use Rattle.store_look.specs.declared.Answer.{Answer}
use Rattle.store_look.specs.declared.Answer.TheVariants.{Absent, Found, Refused}
use Rattle.store_look.specs.declared.Listed.{Listed}
use Rattle.store_look.specs.declared.Listed.TheVariants.{Bucket, NoMore, Stopped}
use Rattle.store_look.specs.declared.Counted.{Counted}
use Rattle.store_look.specs.declared.Counted.TheVariants.{Keys, Unknown}
use Rattle.store_state.specs.State.{whole_state, first_of}
use Rattle.store_state.specs.Name.{name_kind, by_kind}

-- RULES A1. The lent memory of a call.
pub record Lent : Type 0 where
  pub table : List ℕ
  pub keys : List ℕ
  pub lists : List ℕ

-- RULES A1. All three put together.
abbrev pub lent : List ℕ → List ℕ → List ℕ → Lent
lent t k l = record { table = t; keys = k; lists = l }

-- RULES B2, V1. The whole-state check of a call.
abbrev pub checked : State → Lent → Bool
checked st m = whole_state st (length m.table) (length m.keys) (length m.lists)

-- RULES N4, V1. The walk of a name's lookup.
unfoldable pub walk_of : State → Lent → List ℕ → Walk
unfolding lookup murmur_hash2
walk_of st m name =
    lookup m.table m.keys st.key_arena (first_of st) st.buckets (murmur_hash2 st.seed name) name

-- ---- lookup

-- RULES N4, V2. What it says.
abbrev pub on_met : Met → Lookup
on_met Empty = Missing
on_met (Standing at) = At at
on_met Damaged = Failed 4
on_met Lap = Missing

-- RULES V1, V2. The call: the empty name is absent, and isn't looked up.
unfoldable pub lookup_of : State → Lent → List ℕ → Lookup
unfolding whole_state name_kind walk_of
lookup_of st m name =
    cond (checked st m)
    (by_kind (name_kind st (length name)) (Failed 3) Missing (on_met (walk_of st m name).met))
    (Failed 2)

-- RULES N6. The bucket in place k of a name's probe order, counted from 1.
abbrev pub in_order : State → List ℕ → ℕ → ℕ
in_order st name k = (murmur_hash2 st.seed name + k) % st.buckets

-- RULES V15. How many buckets a call by name looks at, the last one included, in the table before any growth: none
-- where it is refused before its lookup, or given the empty name.
unfoldable pub looked_of : State → Lent → List ℕ → ℕ
unfolding whole_state name_kind walk_of
looked_of st m name = cond (checked st m) (by_kind (name_kind st (length name)) 0 0 (walk_of st m name).looked) 0

-- ---- the calls on a standing lane's list

-- RULES V3. An absent lane, a refused lookup, and else what the list of the record at a place answers.
abbrev pub on_lookup : Lookup → (ℕ → Answer) → Answer
on_lookup (At at) k = k at
on_lookup Missing k = Absent
on_lookup (Failed n) k = Refused n 0

-- RULES V3. The answer to a lookup that found no record.
abbrev pub not_found : Lookup → Answer
not_found (At at) = Absent
not_found Missing = Absent
not_found (Failed n) = Refused n 0

-- RULES V4. A standing lane's length.
unfoldable pub length_at : List ℕ → ℕ → Answer
unfolding header_sound lane_length
length_at keys at = cond (header_sound keys at) (Found (Length (lane_length (header_of keys at)))) (Refused 4 0)

-- RULES V4. The call.
unfoldable pub length_of : State → Lent → List ℕ → Answer
unfolding lookup_of length_at
length_of st m name = on_lookup (lookup_of st m name) (length_at m.keys)

-- ---- reading: all blocks are met before the output's length matters, and the output before it is written

-- RULES V5. The answer, and the lent output as the call leaves it.
pub record Read : Type 0 where
  pub answer : Answer
  pub output : List ℕ

-- RULES V5. Both put together.
abbrev pub reading : Answer → List ℕ → Read
reading r o = record { answer = r; output = o }

-- RULES V5, W5. Header and blocks are no damage.
unfoldable pub blocks_sound : State → Lent → ℕ → Bool
unfolding header_sound good_blocks
blocks_sound st m at =
    header_sound m.keys at
    && good_blocks st.list_arena m.lists (header_of m.keys at).head (block_count (header_of m.keys at))

-- RULES V5. "A reading writes the lane's bytes to the front of the output and no byte after them."
unfoldable pub read_at : State → Lent → ℕ → List ℕ → Read
unfolding blocks_sound lane_length lane_bytes overwrite
read_at st m at output =
    cond (blocks_sound st m at)
    (cond (leb (lane_length (header_of m.keys at)) (length output))
    (reading (Found (Reading (lane_length (header_of m.keys at))))
    (overwrite 0 (lane_bytes m.lists (header_of m.keys at)) output))
    (reading (Refused 8 (lane_length (header_of m.keys at))) output))
    (reading (Refused 4 0) output)

-- RULES V3. As on_lookup, with the output.
abbrev pub on_lookup_read : Lookup → (ℕ → Read) → List ℕ → Read
on_lookup_read (At at) k output = k at
on_lookup_read Missing k output = reading Absent output
on_lookup_read (Failed n) k output = reading (Refused n 0) output

-- RULES V5. The call.
unfoldable pub read_of : State → Lent → List ℕ → List ℕ → Read
unfolding lookup_of read_at
read_of st m name output = on_lookup_read (lookup_of st m name) (λ at. read_at st m at output) output

-- ---- a block found, and shown

-- RULES V6. What the list's answer says.
abbrev pub on_block : Result (Option BlockFound) Refusal → Answer
on_block (Ok (Some b)) = Found (Block b.at b.length)
on_block (Ok None) = Found NoSuchBlock
on_block (Err r) = Refused (number_of r) 0

-- RULES V6. Of a standing lane.
unfoldable pub block_at : State → Lent → ℕ → ℕ → Answer
unfolding header_sound block_of
block_at st m i at =
    cond (header_sound m.keys at) (on_block (block_of st.list_arena m.lists (header_of m.keys at) i))
    (Refused 4 0)

-- RULES V6. The call.
unfoldable pub find_block_of : State → Lent → List ℕ → ℕ → Answer
unfolding lookup_of block_at
find_block_of st m name i = on_lookup (lookup_of st m name) (block_at st m i)

-- RULES V7. "one block shown as a part of the lent list pages ...; a span that isn't good, or a state that 2 or 10
-- names, shows an empty part".
unfoldable pub show_of : State → Lent → ℕ → ℕ → List ℕ
unfolding whole_state good_span read_span
show_of st m at n = cond (checked st m && good_span st.list_arena at n) (read_span at n m.lists) []

-- ---- listing: "the next occupied bucket from i, or none, also where i is L or more"

-- RULES V8, W1. The bucket met, if its record is good.
unfoldable pub on_next : Option Occupied → Arena → List ℕ → Listed
unfolding good_record
on_next (Some o) a keys = cond (good_record a keys o.place) (Bucket o.bucket o.place) (Stopped 4)
on_next None a keys = NoMore

-- RULES V8. The call.
unfoldable pub next_of : State → Lent → ℕ → Listed
unfolding whole_state on_next occupied_from
next_of st m i =
    cond (checked st m) (on_next (occupied_from m.table (first_of st) (st.buckets - i) i) st.key_arena m.keys)
    (Stopped 2)

-- ---- the number of keys

-- RULES V9. The call.
unfoldable pub count_of : State → Lent → Counted
unfolding whole_state
count_of st m = cond (checked st m) (Keys st.keys) (Unknown 2)
