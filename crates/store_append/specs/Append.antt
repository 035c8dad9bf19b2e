-- RULES V10 to V14. Document 01: an append. "Whether a key stands is decided in the table before growth." Everything
-- is planned before anything is written: each refusal, the lowest that applies, leaves the lent memory and the state
-- as they were.
use Rattle.std.specs.Prelude.{ℕ, ◌+◌, ◌%◌, ◌≤◌, ◌≡◌, Bool, true, false, cond, ◌&&◌, not, List, leb, length, Some, None}
use Rattle.std.proofs.Math.Option.{Option, none, some}
use Rattle.limits.specs.Limits.{record_extra}
use Rattle.spans.specs.Span.{overwrite}
use Rattle.murmurhash2.specs.Murmur.{murmur_hash2}
use Rattle.memory_arena.specs.declared.Arena.{Arena}
use Rattle.memory_arena.specs.Pages.{MaybeRoom, room_for}
use Rattle.shared_arena_hashmap.specs.declared.Met.{Met}
use Rattle.shared_arena_hashmap.specs.declared.Met.TheVariants.{Empty, Standing, Damaged, Lap}
use Rattle.shared_arena_hashmap.specs.Power.{power_of_two, grown_length}
use Rattle.shared_arena_hashmap.specs.Buckets.{saturated}
use Rattle.records.specs.Record.{value_place, header_of, header_sound, record_bytes}
use Rattle.shared_arena_hashmap.specs.Probe.{walked}
use Rattle.shared_arena_hashmap.specs.Grow.{free_of, entered, grown}
use Rattle.expull_header.specs.declared.Header.{Header}
use Rattle.expull_header.specs.Header.{fresh, header_bytes, sound_header}
use Rattle.expull_append.specs.Append.{Writing, writing, appended, plan_of, is_some, good_tail}
use Rattle.store_state.specs.declared.State.{State}
use Rattle.store_append.specs.declared.Appended.{Appended}
use Rattle.store_append.specs.declared.Appended.TheVariants.{Accepted, Declined}
use Rattle.store_state.specs.declared.Name.TheVariants.{Proper}
use Rattle.store_state.specs.State.{whole_state, lent_buckets, first_of}
use Rattle.store_state.specs.Name.{name_kind, by_kind}
use Rattle.store_look.specs.Look.{Lent, lent, checked, walk_of}

-- RULES V10. The answer, and each lent slice as the call leaves it.
pub record Out : Type 0 where
  pub answer : Appended
  pub memory : Lent

-- RULES V10. Both put together.
abbrev pub out : Appended → Lent → Out
out r m = record { answer = r; memory = m }

-- RULES V10, X4. A refusal: everything as it was.
abbrev pub declined : State → Lent → ℕ → Out
declined st m n = out (Declined st n) m

-- ---- growth

-- RULES Q3. "Growing needs L + new length ≤ T."
abbrev pub room_to_grow : State → Bool
room_to_grow st = leb (st.buckets + grown_length st.buckets) (lent_buckets st.words)

-- RULES M6. Of the standing table.
abbrev pub is_saturated : State → Bool
is_saturated st = saturated st.buckets st.keys

-- RULES Q6. Saturated without room to grow: a new key can't be entered.
abbrev pub is_crowded : State → Bool
is_crowded st = is_saturated st && not (room_to_grow st)

-- RULES Q6. "An append on a saturated table grows it, even when the key stands already"; without room nothing grows.
abbrev pub grows : State → Bool
grows st = is_saturated st && room_to_grow st

-- RULES Q5. The state with the grown table at the other end.
abbrev pub grown_state : State → State
grown_state st = record {
  seed = st.seed;
  words = st.words;
  key_bytes = st.key_bytes;
  list_bytes = st.list_bytes;
  buckets = grown_length st.buckets;
  back = not st.back;
  keys = st.keys;
  key_arena = st.key_arena;
  list_arena = st.list_arena;
}

-- RULES Q5. The state afterwards, grown if it is to grow.
unfoldable pub state_grown : State → State
state_grown st = cond (grows st) (grown_state st) st

-- RULES Q4. And the table.
unfoldable pub table_grown : State → List ℕ → List ℕ
unfolding grown
table_grown st t =
    cond (grows st) (grown st.buckets (first_of st) (first_of (grown_state st)) (grown_length st.buckets) t) t

-- ---- what has to be known before anything is written

-- RULES V10. The state is whole, the list's header and tail are no damage, and its blocks fit.
pub record Planned (st : State) (m : Lent) (h : Header) (bytes : List ℕ) : Type 0 where
  pub whole : checked st m ≡ true
  pub sound : sound_header h 0 ≡ true
  pub tail : good_tail st.list_arena h ≡ true
  pub room : is_some (plan_of (length m.lists) st.list_arena h (length bytes)) ≡ true

-- ---- what a lookup hands on to the append behind it

-- RULES N4, V1. The state is whole, the guard lets the name through, and its hash and its walk are these.
pub record Looked (st : State) (m : Lent) (name : List ℕ) (hash : ℕ) (met : Met) (looked : ℕ) : Type 0 where
  pub whole : checked st m ≡ true
  pub proper : name_kind st (length name) ≡ Proper
  pub hashed : hash ≡ murmur_hash2 st.seed name
  pub walk : walk_of st m name ≡ walked met looked

-- RULES N6, Q1. The first empty bucket of a hash's probe is the last of the buckets looked at.
abbrev pub LastEmpty : State → List ℕ → ℕ → ℕ → Type 0
LastEmpty st t hash looked =
    (power_of_two st.buckets ≡ true)
    × ((looked ≤ st.buckets) × (free_of t (first_of st) st.buckets hash ≡ (hash + looked) % st.buckets))

-- RULES V13. The name's hash, and the walk to an empty bucket where the table isn't to grow.
pub record Carried (st : State) (m : Lent) (name : List ℕ) (hash looked : ℕ) : Type 0 where
  pub hashed : hash ≡ murmur_hash2 st.seed name
  pub empty : is_saturated st ≡ false → LastEmpty st m.table hash looked

-- ---- a standing lane

-- RULES V12, V13. The state with other arena states and another number of keys.
abbrev pub moved_state : State → ℕ → Arena → Arena → State
moved_state st keys keyArena listArena = record {
  seed = st.seed;
  words = st.words;
  key_bytes = st.key_bytes;
  list_bytes = st.list_bytes;
  buckets = st.buckets;
  back = st.back;
  keys = keys;
  key_arena = keyArena;
  list_arena = listArena;
}

-- RULES V12. The list's outcome: its 16 header bytes are written anew, the list pages are as the list leaves them,
-- the table is grown if it is to grow.
unfoldable pub standing_written : Option Writing → State → Lent → ℕ → Out
unfolding state_grown table_grown value_place header_bytes overwrite
standing_written none st m at = declined st m 7
standing_written (some w) st m at =
    out (Accepted (moved_state (state_grown st) st.keys st.key_arena w.arena))
    (lent (table_grown st m.table) (overwrite (value_place m.keys at) (header_bytes w.header) m.keys)
    w.memory)

-- RULES V12, W4. An append to a standing lane, whose record is at a place.
unfoldable pub append_standing : State → Lent → ℕ → List ℕ → Out
unfolding header_sound good_tail appended standing_written
append_standing st m at bytes =
    cond (header_sound m.keys at && good_tail st.list_arena (header_of m.keys at))
    (standing_written (appended bytes (writing m.lists st.list_arena (header_of m.keys at))) st m at)
    (declined st m 4)

-- ---- a new lane

-- RULES V13. "A new key goes in the first empty bucket of its probe, after any growth."
unfoldable pub new_written : Option Writing → State → Lent → List ℕ → ℕ → Arena → Out
unfolding state_grown table_grown entered record_bytes murmur_hash2
new_written none st m name at keyArena = declined st m 7
new_written (some w) st m name at keyArena =
    out (Accepted (moved_state (state_grown st) (st.keys + 1) keyArena w.arena))
    (lent (entered (first_of (state_grown st)) (state_grown st).buckets at (murmur_hash2 st.seed name)
    (table_grown st m.table))
    (overwrite at (record_bytes name w.header) m.keys) w.memory)

-- RULES V13. The new record's room; its list starts fresh.
unfoldable pub on_key_room : MaybeRoom → State → Lent → List ℕ → List ℕ → Out
unfolding new_written appended
on_key_room (Some r) st m name bytes =
    new_written (appended bytes (writing m.lists st.list_arena fresh)) st m name r.at r.after
on_key_room None st m name bytes = declined st m 6

-- RULES V13. An append to a name that doesn't stand.
unfoldable pub append_new : State → Lent → List ℕ → List ℕ → Out
unfolding on_key_room room_for
append_new st m name bytes =
    cond (is_crowded st) (declined st m 5)
    (on_key_room (room_for st.key_arena (length m.keys) (length name + record_extra)) st m name bytes)

-- ---- the call

-- RULES V11, W2. A lap without an empty bucket is damage where the table isn't saturated.
unfoldable pub on_met : Met → State → Lent → List ℕ → List ℕ → Out
unfolding append_standing append_new
on_met Damaged st m name bytes = declined st m 4
on_met (Standing at) st m name bytes = append_standing st m at bytes
on_met Empty st m name bytes = append_new st m name bytes
on_met Lap st m name bytes = cond (is_saturated st) (append_new st m name bytes) (declined st m 4)

-- RULES V1, V11. The call: the empty name is 13, before anything is looked up.
unfoldable pub append_of : State → Lent → List ℕ → List ℕ → Out
unfolding whole_state name_kind walk_of on_met
append_of st m name bytes =
    cond (checked st m)
    (by_kind (name_kind st (length name)) (declined st m 3) (declined st m 13)
    (on_met (walk_of st m name).met st m name bytes))
    (declined st m 2)
