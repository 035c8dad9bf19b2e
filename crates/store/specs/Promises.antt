-- What the store promises of its calls on any memory, damaged or not, beyond each call's own equation: the named laws
-- of document 01 that speak of more than one outcome. One record, a field a sentence; proofs/Promises.antt has its one
-- value.
use Rattle.std.specs.Prelude.{ℕ, ◌+◌, ◌<◌, ◌≡◌, true, List, [], length}
use Rattle.murmurhash2.specs.Murmur.{murmur_hash2}
use Rattle.shared_arena_hashmap.specs.Buckets.{address_at, hash_at, empty_at}
use Rattle.records.specs.Record.{key_at}
use Rattle.store_state.specs.declared.State.{State}
use Rattle.store_append.specs.declared.Appended.TheVariants.{Accepted, Declined}
use Rattle.store_look.specs.declared.Lookup.{Lookup}
use Rattle.store_look.specs.declared.Lookup.TheVariants.{Missing}
use Rattle.store_look.specs.declared.Answer.{Answer}
use Rattle.store_look.specs.declared.Answer.TheVariants.{Absent, Refused}
use Rattle.store_look.specs.declared.Listed.{Listed}
use Rattle.store_look.specs.declared.Counted.{Counted}
use Rattle.store_state.specs.State.{first_of}
use Rattle.store_create.specs.Create.{Out as Creation, out as creation, create_of}
use Rattle.store_look.specs.Look.{Lent, lent, checked, lookup_of, length_of, Read, reading, read_of, find_block_of}
use Rattle.store_look.specs.Look.{show_of, next_of, count_of}
use Rattle.store_append.specs.Append.{Out, declined, table_grown, append_of}
use Rattle.std.specs.Prelude.{Ok, Err}
use Rattle.limits.specs.declared.Refusal.{Refusal}
use Rattle.limits.specs.declared.Refusal.TheVariants.{NotCreatable}

-- ---- a new name entered

-- RULES Q1. An append has entered a name: a bucket of the standing table that was empty, after any growth, now has the
-- name's hash and the address of a record whose key is the name; and one key more is counted
pub record Entered (st : State) (m : Lent) (name : List ℕ) (st' : State) (m' : Lent) : Type 0 where
  pub bucket : ℕ
  pub below : bucket < st'.buckets
  pub was_empty : empty_at (table_grown st m.table) (first_of st' + bucket) ≡ true
  pub hashed : hash_at m'.table (first_of st' + bucket) ≡ murmur_hash2 st.seed name
  pub named : key_at m'.keys (address_at m'.table (first_of st' + bucket)) ≡ name
  pub counted : st'.keys ≡ st.keys + 1

-- ---- the promises

-- RULES B7, B9, Q1, V1, X4.
pub record Promises : Type 0 where
  -- "Nothing lent changes on a refusal; the state comes back equal."
  pub create_refused : (capacity seed size : ℕ) (table : List ℕ) (key_bytes list_bytes : ℕ) (e : Refusal)
      → (create_of capacity seed size table key_bytes list_bytes).answer ≡ Err e
      → create_of capacity seed size table key_bytes list_bytes ≡ creation (Err NotCreatable) table
  pub append_refused : (st : State) (m : Lent) (name bytes : List ℕ) (st' : State) (n : ℕ)
      → (append_of st m name bytes).answer ≡ Declined st' n → append_of st m name bytes ≡ declined st m n
  pub read_refused : (st : State) (m : Lent) (name output : List ℕ) (n told : ℕ)
      → (read_of st m name output).answer ≡ Refused n told → read_of st m name output ≡ reading (Refused n told) output
  -- nor does an absent lane's reading write
  pub read_absent : (st : State) (m : Lent) (name output : List ℕ)
      → (read_of st m name output).answer ≡ Absent → read_of st m name output ≡ reading Absent output
  -- what an accepted creation or append gives passes the whole-state check, or the next call would be refused for what
  -- this one did
  pub create_whole : (capacity seed size : ℕ) (table keys lists : List ℕ) (st : State)
      → (create_of capacity seed size table (length keys) (length lists)).answer ≡ Ok st
      → checked st (lent (create_of capacity seed size table (length keys) (length lists)).table keys lists) ≡ true
  pub append-whole : (st : State) (m : Lent) (name bytes : List ℕ) (st' : State)
      → (append_of st m name bytes).answer ≡ Accepted st' → checked st' (append_of st m name bytes).memory ≡ true
  -- document 02, Nine: "The state keeps it", the page size (of both arenas, by the check above)
  pub append_size : (st : State) (m : Lent) (name bytes : List ℕ) (st' : State)
      → (append_of st m name bytes).answer ≡ Accepted st' → st'.key_arena.size ≡ st.key_arena.size
  -- "A new key goes in the first empty bucket of its probe, after any growth": there always is one
  pub append-enters : (st : State) (m : Lent) (name bytes : List ℕ) (st' : State) → lookup_of st m name ≡ Missing
      → (append_of st m name bytes).answer ≡ Accepted st' → Entered st m name st' (append_of st m name bytes).memory
  -- document 02, Seven: "In appends a name of 0 bytes is now refused as number 13, checked just after number 3 and
  -- before damage. Lookups with it answer absent", and so does every other call by it, whatever the memory holds
  pub nameless_refused : (st : State) (m : Lent) (bytes : List ℕ) → checked st m ≡ true
      → append_of st m [] bytes ≡ declined st m 13
  pub nameless_absent : (st : State) (m : Lent) → checked st m ≡ true → (lookup_of st m [] ≡ Missing)
      × (length_of st m [] ≡ Absent)
      × ((output : List ℕ) → read_of st m [] output ≡ reading Absent output)
      × ((i : ℕ) → find_block_of st m [] i ≡ Absent)

-- ---- "that two permitted outcomes coincide is itself proved": two outcomes that meet a call's contract are equal

-- RULES X8.
pub record Settled : Type 0 where
  pub create_settled : (capacity seed size : ℕ) (table : List ℕ) (key_bytes list_bytes : ℕ) (x y : Creation)
      → x ≡ create_of capacity seed size table key_bytes list_bytes
      → y ≡ create_of capacity seed size table key_bytes list_bytes → x ≡ y
  pub append_settled : (st : State) (m : Lent) (name bytes : List ℕ) (x y : Out)
      → x ≡ append_of st m name bytes → y ≡ append_of st m name bytes → x ≡ y
  pub lookup_settled : (st : State) (m : Lent) (name : List ℕ) (x y : Lookup)
      → x ≡ lookup_of st m name → y ≡ lookup_of st m name → x ≡ y
  pub length_settled : (st : State) (m : Lent) (name : List ℕ) (x y : Answer)
      → x ≡ length_of st m name → y ≡ length_of st m name → x ≡ y
  pub read-settled : (st : State) (m : Lent) (name output : List ℕ) (x y : Read)
      → x ≡ read_of st m name output → y ≡ read_of st m name output → x ≡ y
  pub block_settled : (st : State) (m : Lent) (name : List ℕ) (i : ℕ) (x y : Answer)
      → x ≡ find_block_of st m name i → y ≡ find_block_of st m name i → x ≡ y
  pub show_settled : (st : State) (m : Lent) (at n : ℕ) (x y : List ℕ) → x ≡ show_of st m at n → y ≡ show_of st m at n
      → x ≡ y
  pub next_settled : (st : State) (m : Lent) (i : ℕ) (x y : Listed) → x ≡ next_of st m i → y ≡ next_of st m i → x ≡ y
  pub count_settled : (st : State) (m : Lent) (x y : Counted) → x ≡ count_of st m → y ≡ count_of st m → x ≡ y
