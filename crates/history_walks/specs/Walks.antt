-- RULES N6, V15. What the walk told beside an answer by name is: `walks` and `walks-few` of proofs/Told.antt prove the
-- two records, of any store and of each store that an accepted creation made and of any calls on it.
use Rattle.std.specs.Prelude.{ℕ, ◌+◌, ◌≤◌, ◌<◌, ◌≡◌, true, false, List, [], length}
use Rattle.murmurhash2.specs.Murmur.{murmur_hash2}
use Rattle.shared_arena_hashmap.specs.declared.Seen.{Seen}
use Rattle.shared_arena_hashmap.specs.declared.Seen.TheVariants.{Nothing, Same, Broken, Other}
use Rattle.shared_arena_hashmap.specs.declared.Met.{Met}
use Rattle.shared_arena_hashmap.specs.declared.Met.TheVariants.{Empty, Standing, Damaged, Lap}
use Rattle.shared_arena_hashmap.specs.Probe.{seen_at}
use Rattle.store_state.specs.declared.State.{State}
use Rattle.store_state.specs.declared.Name.TheVariants.{TooLong, Proper}
use Rattle.store_state.specs.State.{first_of}
use Rattle.store_state.specs.Name.{name_kind}
use Rattle.store_look.specs.Look.{Lent, checked, in_order, on_met, lookup_of, looked_of}
use Rattle.history.specs.History.{World, Call, play}

-- RULES N6. What a name's lookup sees in place k of its probe order, counted from 1.
abbrev pub seen_in : State → Lent → List ℕ → ℕ → Seen
seen_in st m name k =
    seen_at m.table m.keys st.key_arena (first_of st + in_order st name k) (murmur_hash2 st.seed name) name

-- RULES N6. What a lookup has met whose last bucket is seen so: another's is the last of a whole lap.
abbrev pub last_met : Seen → Met
last_met Nothing = Empty
last_met (Same at) = Standing at
last_met Broken = Damaged
last_met Other = Lap

-- RULES N6. The number told is the answering bucket's place.
pub record WalkTold (st : State) (m : Lent) (name : List ℕ) : Type 0 where
  -- "how many buckets it looked at, the last one included"
  pub at_least_one : 1 ≤ looked_of st m name
  pub at_most_l : looked_of st m name ≤ st.buckets
  -- those before the last are passed by: they are other names'
  pub passed_by : (k : ℕ) → 1 ≤ k → k < looked_of st m name → seen_in st m name k ≡ Other
  -- "The number equals the place of the answering bucket in the probe order, counted from 1"
  pub answers : lookup_of st m name ≡ on_met (last_met (seen_in st m name (looked_of st m name)))
  -- "or L after a full lap"
  pub full_lap : seen_in st m name (looked_of st m name) ≡ Other → looked_of st m name ≡ st.buckets

-- RULES V15. On any memory.
pub record Walks : Type 0 where
  pub told : (st : State) (m : Lent) (name : List ℕ) → checked st m ≡ true → name_kind st (length name) ≡ Proper
      → WalkTold st m name
  -- "a call refused before its lookup, or given the empty name, tells 0"
  pub refused_2 : (st : State) (m : Lent) (name : List ℕ) → checked st m ≡ false → looked_of st m name ≡ 0
  pub refused_3 : (st : State) (m : Lent) (name : List ℕ) → name_kind st (length name) ≡ TooLong
      → looked_of st m name ≡ 0
  pub nameless : (st : State) (m : Lent) → looked_of st m [] ≡ 0

-- RULES Y14. "For stores with a history and L of 2 or more, prove that it is at most keys + 1"; for L of 1 it holds
-- too.
pub record WalksFew (w : World) (calls : List Call) (name : List ℕ) : Type 0 where
  pub few : looked_of (play calls w).state (play calls w).memory name ≤ (play calls w).state.keys + 1
