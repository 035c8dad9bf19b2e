-- RULES AF17. How a memory without fault lies, in the terms of names: the invariant by which it is proved that an
-- accepted append keeps what the check calls sound. Beside the state and the lent memory stand names, places and block
-- addresses that no code stores. It asks less than a history leaves: the blocks of a list may lie in any order, its
-- last block may be empty, and the table may be full.
use Rattle.std.specs.Prelude.{ℕ, ◌+◌, ◌≤◌, ◌<◌, ◌≡◌, true, List, [], ◌∷◌, length}
use Rattle.limits.specs.Limits.{arena_limit, null_address, fresh_number, record_extra}
use Rattle.spans.specs.Span.{Apart}
use Rattle.murmurhash2.specs.Murmur.{murmur_hash2}
use Rattle.memory_arena.specs.declared.Arena.{Arena}
use Rattle.memory_arena.specs.Pages.{standing}
use Rattle.records.specs.Record.{key_at, good_record, header_of, header_sound}
use Rattle.expull_header.specs.declared.Header.{Header}
use Rattle.store_state.specs.declared.State.{State}
use Rattle.store_state.specs.State.{first_of}
use Rattle.store_look.specs.Look.{Lent, checked}
use Rattle.history_lanes.specs.Lane.{size_on, wide_on, Links, Below, Paged, oldest, Clear, used_end}
use Rattle.history_names.specs.Table.{Names, Member, occupied, Table}
use Rattle.history.specs.Sound.{BlocksApart}

-- ---- a list

-- RULES AF17. No block shares a place with an older one.
abbrev pub Own : List ℕ → Type 0
Own [] = Unit {0}
Own (x ∷ ks) = Clear x (wide_on ks) ks × Own ks

-- RULES AF17. The header names the first block and the next byte to write, and counts what remains in the newest block.
abbrev pub Ends : Header → List ℕ → Type 0
Ends h [] = (h.head ≡ null_address) × (h.tail ≡ null_address) × (h.remaining ≡ 0)
Ends h (x ∷ ks) = (h.head ≡ oldest x ks) × (h.remaining ≤ size_on ks) × (h.tail + h.remaining ≡ x + size_on ks)

-- RULES AF17. Its blocks, the newest first.
pub record Chain (m : List ℕ) (a : Arena) (h : Header) (ks : List ℕ) : Type 0 where
  pub number : h.number ≡ length ks + fresh_number
  pub links : Links m ks
  pub below : Below (used_end a) ks
  pub paged : Paged a.size ks
  pub ends : Ends h ks
  pub own : Own ks
  pub stands : standing a (length m) ≡ true
  pub short : length m ≤ arena_limit

-- ---- a memory

-- RULES AF17. The name of each bucket; of each name its record's place, and its list's blocks.
pub record Ghosts : Type 0 where
  pub names : Names
  pub place : List ℕ → ℕ
  pub blocks : List ℕ → List ℕ

-- RULES AF17. K is one of the names.
abbrev pub Stands : Ghosts → List ℕ → Type 0
Stands G k = Member k G.names

-- RULES AF17.
pub record Laid (st : State) (m : Lent) (G : Ghosts) : Type 0 where
  pub whole : checked st m ≡ true
  pub table : Table m.table (first_of st) st.buckets (murmur_hash2 st.seed) G.place G.names
  pub counted : st.keys ≡ occupied G.names
  -- the records: good, each with its name, which isn't empty, and a header that isn't damage; apart from each other
  pub good : (k : List ℕ) → Stands G k → good_record st.key_arena m.keys (G.place k) ≡ true
  pub key : (k : List ℕ) → Stands G k → key_at m.keys (G.place k) ≡ k
  pub named : (k : List ℕ) → Stands G k → 0 < length k
  pub header : (k : List ℕ) → Stands G k → header_sound m.keys (G.place k) ≡ true
  pub records_apart : (k n : List ℕ) → Stands G k → Stands G n → (k ≡ n → ⊥)
      → Apart (G.place k) (length k + record_extra) (G.place n) (length n + record_extra)
  -- the lists, which share no place either
  pub chain : (k : List ℕ) → Stands G k
      → Chain m.lists st.list_arena (header_of m.keys (G.place k)) (G.blocks k)
  pub chains_apart : (k n : List ℕ) → Stands G k → Stands G n → (k ≡ n → ⊥) → BlocksApart (G.blocks k) (G.blocks n)
