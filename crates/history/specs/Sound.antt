-- What a history leaves: a sound store. Beside the state and the lent memory stand names, places, headers and block
-- addresses that no code stores: they are what the words and bytes say, written out.
use Rattle.std.specs.Prelude.{ℕ, ◌+◌, ◌*◌, ◌≤◌, ◌<◌, ◌≡◌, true, List, [], ◌∷◌, length}
use Rattle.limits.specs.Limits.{name_limit, record_extra, value_size}
use Rattle.numbers.specs.LittleEndian.{le_bytes}
use Rattle.spans.specs.Span.{read_span, Apart}
use Rattle.murmurhash2.specs.Murmur.{murmur_hash2}
use Rattle.memory_arena.specs.declared.Arena.{Arena}
use Rattle.memory_arena.specs.Address.{place_of}
use Rattle.expull_header.specs.declared.Header.{Header}
use Rattle.expull_header.specs.Header.{header_bytes}
use Rattle.store_state.specs.State.{first_of}
use Rattle.store_look.specs.Look.{checked}
use Rattle.history_lanes.specs.Lane.{wide_on, content, Clear, used_end, Lane}
use Rattle.history_names.specs.Table.{Names, Member, occupied, Table}
use Rattle.history.specs.History.{World}

-- RULES Y12. The record of name k, which isn't empty, at a place: within the used part, on one page; the name's length,
-- the name, its list's header
pub record Record (keys : List ℕ) (a : Arena) (at : ℕ) (k : List ℕ) (h : Header) : Type 0 where
  pub some : 0 < length k
  pub short : length k ≤ name_limit
  pub ends : at + (length k + record_extra) ≤ used_end a
  pub paged : place_of a.size at + (length k + record_extra) ≤ a.size
  pub size : read_span at 2 keys ≡ le_bytes 2 (length k)
  pub key : read_span (at + 2) (length k) keys ≡ k
  pub value : read_span (at + 2 + length k) value_size keys ≡ header_bytes h

-- RULES Y12. The name of each bucket; and of each name its record's place, its list's header and the addresses of its
-- list's blocks, the newest first
pub record Ghosts : Type 0 where
  pub names : Names
  pub place : List ℕ → ℕ
  pub header : List ℕ → Header
  pub blocks : List ℕ → List ℕ

-- RULES Y12. K is a name of the store
abbrev pub Stands : Ghosts → List ℕ → Type 0
Stands G k = Member k G.names

-- RULES Y12. The places of two records share none
abbrev pub RecordsApart : Ghosts → List ℕ → List ℕ → Type 0
RecordsApart G k n = Apart (G.place k) (length k + record_extra) (G.place n) (length n + record_extra)

-- RULES Y12. No block of one list shares a place with a block of another
abbrev pub BlocksApart : List ℕ → List ℕ → Type 0
BlocksApart [] js = Unit {0}
BlocksApart (x ∷ ks) js = Clear x (wide_on ks) js × BlocksApart ks js

-- RULES Y12.
pub record Sound (w : World) (G : Ghosts) : Type 0 where
  pub whole : checked w.state w.memory ≡ true
  -- the table: its names, how many, and at most half full but for one
  pub table : Table w.memory.table (first_of w.state) w.state.buckets (murmur_hash2 w.state.seed)
      G.place G.names
  pub counted : w.state.keys ≡ occupied G.names
  pub half : 2 * w.state.keys ≤ w.state.buckets + 1
  -- the records
  pub records : (k : List ℕ) → Stands G k
      → Record w.memory.keys w.state.key_arena (G.place k) k (G.header k)
  pub records_apart : (k n : List ℕ) → Stands G k → Stands G n → (k ≡ n → ⊥) → RecordsApart G k n
  -- the lists
  pub lanes : (k : List ℕ) → Stands G k → Lane w.memory.lists w.state.list_arena (G.header k) (G.blocks k)
  pub lanes_apart : (k n : List ℕ) → Stands G k → Stands G n → (k ≡ n → ⊥) → BlocksApart (G.blocks k) (G.blocks n)

-- RULES Y12. The bytes of k's lane
abbrev pub bytes_of : World → Ghosts → List ℕ → List ℕ
bytes_of w G k = content w.memory.lists (G.blocks k) (G.header k).remaining
