-- What an accepted append leaves alone, in all three lent slices, and where a byte or a word may differ. A refused one
-- leaves everything.
use Rattle.std.specs.Prelude.{ℕ, ◌+◌, ◌*◌, ◌≤◌, ◌<◌, ◌≡◌, ◌⊎◌, ◌≢◌, true, false, List, length, get_or}
use Rattle.std.proofs.Math.Option.{Option}
use Rattle.limits.specs.Limits.{record_extra, value_size, link_size}
use Rattle.spans.specs.Span.{read_span, Apart}
use Rattle.murmurhash2.specs.Murmur.{murmur_hash2}
use Rattle.memory_arena.specs.Pages.{room_at, room_for}
use Rattle.shared_arena_hashmap.specs.Power.{grown_length}
use Rattle.records.specs.Record.{value_place, header_of}
use Rattle.expull_header.specs.declared.Header.{Header}
use Rattle.expull_header.specs.Header.{block_size, block_count}
use Rattle.expull_walk.specs.Blocks.{block_place}
use Rattle.store_look.specs.declared.Lookup.TheVariants.{At}
use Rattle.store_look.specs.declared.Answer.TheVariants.{Found}
use Rattle.store_look.specs.declared.Outcome.TheVariants.{Block}
use Rattle.store_state.specs.State.{first_of}
use Rattle.store_look.specs.Look.{lookup_of, find_block_of}
use Rattle.store_append.specs.Append.{grows, grown_state, table_grown}
use Rattle.history_lanes.specs.Lane.{used_end}
use Rattle.history_names.specs.Table.{Outside, OneBucket}
use Rattle.history.specs.History.{World, is_joined}

-- RULES Y6. The lent slices of a world, the ends of their used parts, and the list header of the record at a place
abbrev pub keys_in : World → List ℕ
keys_in w = w.memory.keys

-- RULES Y6.
abbrev pub lists_in : World → List ℕ
lists_in w = w.memory.lists

-- RULES Y6.
abbrev pub table_in : World → List ℕ
table_in w = w.memory.table

-- RULES Y6.
abbrev pub keys_end : World → ℕ
keys_end w = used_end w.state.key_arena

-- RULES Y6.
abbrev pub lists_end : World → ℕ
lists_end w = used_end w.state.list_arena

-- RULES Y6.
abbrev pub header_in : World → ℕ → Header
header_in w at = header_of (keys_in w) at

-- RULES Y6. The n bytes from q are as they were
abbrev pub Kept : List ℕ → List ℕ → ℕ → ℕ → Type 0
Kept m m' q n = read_span q n m' ≡ read_span q n m

-- RULES Y6. The byte or word q isn't
abbrev pub Differs : List ℕ → List ℕ → ℕ → Type 0
Differs m m' q = get_or m' q 0 ≢ get_or m q 0

-- RULES Y6. Place q is one of the n from p
abbrev pub Within : ℕ → ℕ → ℕ → Type 0
Within p n q = (p ≤ q) × (q < p + n)

-- RULES Y6. N bytes from q and every block of a list, with its link
abbrev pub ApartFromBlocks : List ℕ → Header → ℕ → ℕ → Type 0
ApartFromBlocks m h q n =
    (i : ℕ) → i < block_count h → Apart q n (block_place m h.head i) (block_size (i + 3) + link_size)

-- RULES Y6. Place q lies in a block of a list, or in its link
abbrev pub InBlocks : List ℕ → Header → ℕ → Type 0
InBlocks m h q = (i : ℕ) × (i < block_count h) × Within (block_place m h.head i) (block_size (i + 3) + link_size) q

-- RULES Y6. W is before and w' after an accepted append to a name whose record then lies at a place; stood is what the
-- name had come to before
pub record LeavesAlone (w w' : World) (name : List ℕ) (stood : Option (List ℕ)) (at : ℕ) : Type 0 where
  -- the record: a standing name's lay there before
  pub placed : lookup_of w'.state w'.memory name ≡ At at
  pub stood_there : is_joined stood ≡ true → lookup_of w.state w.memory name ≡ At at
  -- a new name's lies at the used end of the current key page, or at place 0 of the next, and so much more is used;
  -- it is above all that was used. A standing name uses no more.
  pub keys_room : is_joined stood ≡ false
      → room_for w.state.key_arena (length (keys_in w)) (length name + record_extra)
      ≡ room_at at w'.state.key_arena
  pub keys_above : is_joined stood ≡ false
      → (keys_end w ≤ at) × (keys_end w' ≡ at + (length name + record_extra))
  pub keys_used : is_joined stood ≡ true → w'.state.key_arena ≡ w.state.key_arena
  -- key pages: only the 16 header bytes change, or only the new record's bytes
  pub keys-standing : is_joined stood ≡ true → (q n : ℕ) → Apart (value_place (keys_in w) at) value_size q n
      → Kept (keys_in w) (keys_in w') q n
  pub keys-new : is_joined stood ≡ false → (q n : ℕ) → Apart at (length name + record_extra) q n
      → Kept (keys_in w) (keys_in w') q n
  -- list pages: of the used part only what was unfilled of the lane's last block, and its link, can change; of a new
  -- name's nothing
  pub lists-standing : is_joined stood ≡ true → (q n : ℕ) → q + n ≤ lists_end w
      → Apart (header_in w at).tail ((header_in w at).remaining + link_size) q n → Kept (lists_in w) (lists_in w') q n
  pub lists-new : is_joined stood ≡ false → (q n : ℕ) → q + n ≤ lists_end w → Kept (lists_in w) (lists_in w') q n
  -- of all of it only what lies in the lane's blocks afterwards: not the free room, nor a skipped page tail
  pub lists-outside : (q n : ℕ) → ApartFromBlocks (lists_in w') (header_in w' at) q n → Kept (lists_in w) (lists_in w') q n
  -- and of the last block neither the unfilled bytes nor the link
  pub lists_unfilled : Kept (lists_in w) (lists_in w') (header_in w' at).tail ((header_in w' at).remaining + link_size)
  -- and no byte that any block of any lane told of before
  pub lists_filled : (j : List ℕ) (i p n : ℕ) → find_block_of w.state w.memory j i ≡ Found (Block p n)
      → Kept (lists_in w) (lists_in w') p n
  -- the table: nothing for a standing name; for a new one one bucket, that was empty and holds its record now; where it
  -- grows, words of the new table's place only, and the new name's bucket in the grown table
  pub table_standing : is_joined stood ≡ true → grows w.state ≡ false → table_in w' ≡ table_in w
  pub table-new : is_joined stood ≡ false → grows w.state ≡ false
      → OneBucket (first_of w.state) w.state.buckets at (murmur_hash2 w.state.seed name)
      (table_in w) (table_in w')
  pub table_is_grown : grows w.state ≡ true → (q : ℕ)
      → Outside (first_of (grown_state w.state)) (grown_length w.state.buckets) q
      → get_or (table_in w') q 0 ≡ get_or (table_in w) q 0
  pub table-grown-new : is_joined stood ≡ false → grows w.state ≡ true
      → OneBucket (first_of (grown_state w.state)) (grown_length w.state.buckets) at
      (murmur_hash2 w.state.seed name) (table_grown w.state (table_in w)) (table_in w')
  -- the seed and the lent lengths: no append changes them
  pub seed_kept : w'.state.seed ≡ w.state.seed
  pub lengths_kept : (length (table_in w') ≡ length (table_in w)) × (length (keys_in w') ≡ length (keys_in w))
      × (length (lists_in w') ≡ length (lists_in w))
  -- So, the other way round, a byte of the key pages that differs lies in the 16 header bytes, or in the new record;
  pub keys_differ : (q : ℕ) → Differs (keys_in w) (keys_in w') q
      → ((is_joined stood ≡ true) × Within (value_place (keys_in w) at) value_size q)
      ⊎ ((is_joined stood ≡ false) × Within at (length name + record_extra) q)
  -- one of the list pages in what was unfilled of the lane's last block or in its link, or, above what was used, in a
  -- block of the lane;
  pub lists_differ : (q : ℕ) → Differs (lists_in w) (lists_in w') q
      → ((is_joined stood ≡ true) × Within (header_in w at).tail ((header_in w at).remaining + link_size) q)
      ⊎ ((lists_end w ≤ q) × InBlocks (lists_in w') (header_in w' at) q)
  -- and a word of the table in the new name's bucket, or, where the table grows, in the new table.
  pub table_differ : (q : ℕ) → Differs (table_in w) (table_in w') q
      → ((n : is_joined stood ≡ false) × (g : grows w.state ≡ false)
      × Within (2 * (first_of w.state + (table-new n g).bucket)) 2 q)
      ⊎ ((grows w.state ≡ true)
      × Within (2 * first_of (grown_state w.state)) (2 * grown_length w.state.buckets) q)
