-- RULES N, M4, M5. Document 01, "Buckets": "Probing starts at (hash + 1) mod L and goes up by one, round the end. A
-- lookup ends at an empty bucket (absent), at a bucket with equal hash and equal key, or after L buckets (absent)." A
-- record that is no good span, met with equal hash, is damage.
use Rattle.std.specs.Prelude.{ℕ, zero, suc, ◌+◌, ◌%◌, cond, List, Option, Some, None, eqb}
use Rattle.fastcmp.specs.Equal.{equal_bytes}
use Rattle.memory_arena.specs.declared.Arena.{Arena}
use Rattle.shared_arena_hashmap.specs.declared.Seen.{Seen}
use Rattle.shared_arena_hashmap.specs.declared.Seen.TheVariants.{Nothing, Same, Broken, Other}
use Rattle.shared_arena_hashmap.specs.declared.Met.{Met}
use Rattle.shared_arena_hashmap.specs.declared.Met.TheVariants.{Empty, Standing, Damaged, Lap}
use Rattle.shared_arena_hashmap.specs.declared.Walk.{Walk}
use Rattle.shared_arena_hashmap.specs.declared.Occupied.{Occupied}
use Rattle.shared_arena_hashmap.specs.Buckets.{address_at, hash_at, empty_at}
use Rattle.records.specs.Record.{good_record, key_at}

-- ---- a lookup

-- RULES N2, W1. What the record at an address is to a lookup of a name with the bucket's hash.
unfoldable pub seen_record : List ℕ → Arena → ℕ → List ℕ → Seen
unfolding good_record key_at equal_bytes
seen_record keys a at name = cond (good_record a keys at) (cond (equal_bytes (key_at keys at) name) (Same at) Other) Broken

-- RULES N2. What bucket b is to it.
unfoldable pub seen_at : List ℕ → List ℕ → Arena → ℕ → ℕ → List ℕ → Seen
unfolding seen_record
seen_at t keys a b hash name =
    cond (empty_at t b) Nothing (cond (eqb (hash_at t b) hash) (seen_record keys a (address_at t b) name) Other)

-- RULES N1. Where the probe of a hash starts.
abbrev pub start_of : ℕ → ℕ → ℕ
start_of l hash = (hash + 1) % l

-- RULES N1. The next bucket, round the end.
abbrev pub next_bucket : ℕ → ℕ → ℕ
next_bucket l i = cond (eqb (i + 1) l) 0 (i + 1)

-- RULES N3. What a lookup met at its end, and how many buckets it looked at.
abbrev pub walked : Met → ℕ → Walk
walked m k = record { met = m; looked = k }

-- RULES N3. The k-th bucket looked at ends the lookup, or the rest of the walk does.
abbrev pub on_seen : Seen → ℕ → Walk → Walk
on_seen Nothing k rest = walked Empty k
on_seen (Same at) k rest = walked (Standing at) k
on_seen Broken k rest = walked Damaged k
on_seen Other k rest = rest

-- RULES N3. At most n buckets more from bucket i of the standing table, k looked at before.
unfoldable pub probe : List ℕ → List ℕ → Arena → ℕ → ℕ → ℕ → List ℕ → ℕ → ℕ → ℕ → Walk
unfolding seen_at
probe t keys a first l hash name zero i k = walked Lap k
probe t keys a first l hash name (suc n) i k =
    on_seen (seen_at t keys a (first + i) hash name) (k + 1) (probe t keys a first l hash name n (next_bucket l i) (k + 1))

-- RULES N3. The whole lookup: what it met, and how many buckets it looked at.
unfoldable pub lookup : List ℕ → List ℕ → Arena → ℕ → ℕ → ℕ → List ℕ → Walk
unfolding probe
lookup t keys a first l hash name = probe t keys a first l hash name l (start_of l hash) 0

-- ---- listing: "the next occupied bucket from i, or none"

-- RULES N5. A bucket that isn't empty, with its record's place.
abbrev pub occupied_by : ℕ → ℕ → Occupied
occupied_by i at = record { bucket = i; place = at }

-- RULES N5. The first that isn't empty among n buckets from i on.
unfoldable pub occupied_from : List ℕ → ℕ → ℕ → ℕ → Option Occupied
occupied_from t first zero i = None
occupied_from t first (suc n) i =
    cond (empty_at t (first + i)) (occupied_from t first n (i + 1)) (Some (occupied_by i (address_at t (first + i))))
