-- A lookup whose steps stand in a call's own code: its answer is the store's walk. Assumes nothing.
use Prim.Native.Nat.{ℕ}
use mathlib.Core.Path.{◌≡◌, ap, ◌∙◌}
use mathlib.Core.List.{List}
use Rattle.murmurhash2.specs.Murmur.{murmur_hash2}
use Rattle.shared_arena_hashmap.specs.declared.Walk.{Walk}
use Rattle.shared_arena_hashmap.specs.Probe.{lookup}
use Rattle.store_state.specs.declared.State.{State}
use Rattle.store_look.specs.declared.Lookup.{Lookup}
use Rattle.store_state.specs.State.{first_of}
use Rattle.store_look.specs.Look.{Lent, walk_of, lookup_of, on_lookup, length_at, length_of}

-- what it answers, with the name's hash
pub walk-found : (st : State) (m : Lent) (name : List ℕ) (f k : ℕ) (w : Walk)
    → w ≡ lookup m.table m.keys st.key_arena f st.buckets k name → f ≡ first_of st
    → k ≡ murmur_hash2 st.seed name → w ≡ walk_of st m name
unfolding walk_of
walk-found st m name f k w e q r =
    e ∙ (λ i. lookup m.table m.keys st.key_arena (q i) st.buckets (r i) name)

-- a length, by what the lookup says
pub length-by : (st : State) (m : Lent) (name : List ℕ) (l : Lookup) → lookup_of st m name ≡ l
    → length_of st m name ≡ on_lookup l (length_at m.keys)
unfolding length_of
length-by st m name l e = ap (λ (x : Lookup). on_lookup x (length_at m.keys)) e
