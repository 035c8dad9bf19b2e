-- Document 01, "Buckets", over a history: the words of a standing table, and the names that its buckets stand for.
-- Beside the words stands a list that no code has: for each bucket its name, or none where it is empty. A name's hash
-- and the address of its record are functions of the name; nothing here asks that the hash tells names apart.
use Rattle.std.specs.Prelude.{ℕ, zero, suc, ◌+◌, ◌*◌, ◌≤◌, ◌<◌, ◌≡◌, ◌⊎◌, ◌≢◌, true, List, [], ◌∷◌, length, get_or}
use Rattle.std.proofs.Math.Option.{Option, none, some}
use Rattle.limits.specs.Limits.{null_address}
use Rattle.memory_arena.specs.declared.Arena.{Arena}
use Rattle.shared_arena_hashmap.specs.Buckets.{address_at, hash_at}
use Rattle.records.specs.Record.{good_record, key_at}
use Rattle.shared_arena_hashmap.specs.Probe.{start_of, next_bucket}
use Rattle.shared_arena_hashmap.specs.Grow.{free_of, entered, grown}

-- a bucket each, its name or none
abbrev pub Names : Type 0
Names = List (Option (List ℕ))

-- the name at bucket i of the table; none past its end
abbrev pub name_at : Names → ℕ → Option (List ℕ)
name_at g i = get_or g i none

-- some name stands at bucket i
abbrev pub Taken : Names → ℕ → Type 0
Taken g i = (y : List ℕ) × (name_at g i ≡ some y)

-- the name k stands at some bucket
abbrev pub Member : List ℕ → Names → Type 0
Member k g = (i : ℕ) × (name_at g i ≡ some k)

-- how many names stand
abbrev pub occupied : Names → ℕ
occupied [] = 0
occupied (none ∷ g) = occupied g
occupied (some y ∷ g) = suc (occupied g)

-- going up from bucket i, round the end of l, k is met within n buckets and no empty one before it
abbrev pub Reached : Names → ℕ → List ℕ → ℕ → ℕ → Type 0
Reached g l k zero i = ⊥
Reached g l k (suc n) i = (name_at g i ≡ some k) ⊎ (Taken g i × Reached g l k n (next_bucket l i))

-- bucket b of the words: null where no name stands, else the name's record address, which isn't null, and its hash
abbrev pub Shows : List ℕ → ℕ → (List ℕ → ℕ) → (List ℕ → ℕ) → Option (List ℕ) → Type 0
Shows t b hash adr none = address_at t b ≡ null_address
Shows t b hash adr (some k) = (address_at t b ≡ adr k) × (hash_at t b ≡ hash k) × (adr k ≢ null_address)

-- RULES Y12. The l buckets from `first` on of the words t are a table of the names g
pub record Table (t : List ℕ) (first l : ℕ) (hash adr : List ℕ → ℕ) (g : Names) : Type 0 where
  pub some_bucket : 0 < l
  pub inside : 2 * (first + l) ≤ length t
  pub long : length g ≡ l
  pub shows : (i : ℕ) → i < l → Shows t (first + i) hash adr (name_at g i)
  pub reachable : (k : List ℕ) → Member k g → Reached g l k l (start_of l (hash k))
  pub once : (k : List ℕ) (i j : ℕ) → name_at g i ≡ some k → name_at g j ≡ some k → i ≡ j

-- RULES Y6. Word q is none of the table's
abbrev pub Outside : ℕ → ℕ → ℕ → Type 0
Outside first l q = (q < 2 * first) ⊎ (2 * (first + l) ≤ q)

-- every name's record is a good span of the key pages and has the name's bytes as its key
abbrev pub Records : List ℕ → Arena → (List ℕ → ℕ) → Names → Type 0
Records keys a adr g = (k : List ℕ) → Member k g → (good_record a keys (adr k) ≡ true) × (key_at keys (adr k) ≡ k)

-- RULES Y6. What entering a record with this address and this hash does to the words: one bucket differs, the first
-- empty one of the hash's probe, which holds the record now; no other word does
pub record OneBucket (first l address hash : ℕ) (t t' : List ℕ) : Type 0 where
  pub bucket : ℕ
  pub below : bucket < l
  pub first_empty : bucket ≡ free_of t first l hash
  pub was_empty : address_at t (first + bucket) ≡ null_address
  pub address_is : address_at t' (first + bucket) ≡ address
  pub hash_is : hash_at t' (first + bucket) ≡ hash
  pub others : (q : ℕ) → q ≢ 2 * (first + bucket) → q ≢ 2 * (first + bucket) + 1 → get_or t' q 0 ≡ get_or t q 0

-- RULES Y12. What entering k in a table of the names g leaves: a table of g', which has the names of g and k, one more
pub record Enters (t : List ℕ) (first l : ℕ) (hash adr : List ℕ → ℕ) (g : Names) (k : List ℕ) (g' : Names)
    : Type 0 where
  pub table : Table (entered first l (adr k) (hash k) t) first l hash adr g'
  pub new : Member k g'
  pub kept : (n : List ℕ) → Member n g → Member n g'
  pub only : (n : List ℕ) → Member n g' → (n ≡ k) ⊎ Member n g
  pub more : occupied g' ≡ suc (occupied g)
  pub one : OneBucket first l (adr k) (hash k) t (entered first l (adr k) (hash k) t)

-- RULES Y12. What growing a table of the names g leaves: a table of g' at the new place, with the same names and as
-- many
pub record Grows (t : List ℕ) (first l first' l' : ℕ) (hash adr : List ℕ → ℕ) (g g' : Names) : Type 0 where
  pub table : Table (grown l first first' l' t) first' l' hash adr g'
  pub kept : (n : List ℕ) → Member n g → Member n g'
  pub only : (n : List ℕ) → Member n g' → Member n g
  pub many : occupied g' ≡ occupied g
