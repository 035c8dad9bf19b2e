-- What a lookup hands on: the empty bucket that it met is the one in which a new name is entered. Assumes nothing.
use Prim.Native.Nat.{ℕ, ◌+◌, ◌%◌, ◌≤◌}
use mathlib.Core.Path.{◌≡◌, refl, ap}
use mathlib.Core.Bool.{Bool, true, false}
use mathlib.Core.List.{List}
use native.Mathlib.Omega.{arith}
use lib.ListN.{length}
use Rattle.numbers.proofs.Tests.{not_both}
use Rattle.murmurhash2.specs.Murmur.{murmur_hash2}
use Rattle.shared_arena_hashmap.specs.declared.Met.TheVariants.{Empty, Lap}
use Rattle.shared_arena_hashmap.specs.declared.Walk.{Walk}
use Rattle.shared_arena_hashmap.specs.Probe.{lookup}
use Rattle.shared_arena_hashmap.specs.Grow.{free_of}
use Rattle.shared_arena_hashmap.proofs.Laws.{power_facts, lookup-looked}
use Rattle.shared_arena_hashmap.proofs.Room.{lookup_free}
use Rattle.store_state.specs.declared.State.{State}
use Rattle.store_state.specs.State.{first_of}
use Rattle.store_look.specs.Look.{Lent, walk_of}
use Rattle.store_append.specs.Append.{is_saturated, room_to_grow, is_crowded, grows, state_grown, table_grown}
use Rattle.store_append.specs.Append.{Looked, LastEmpty, Carried}
use Rattle.store_state.proofs.Whole.{Whole, whole_facts}
use Rattle.store_append.proofs.Growth.{Growable}
use Rattle.store_append.proofs.Cases.{state-stays, state-grows, table_stays, does_grow}

module _ (st : State) (m : Lent) (name : List ℕ) (hash looked : ℕ) where
  pub carried_empty : Looked st m name hash Empty looked → Carried st m name hash looked
  unfolding walk_of
  carried_empty k =
      let W : Whole st (length m.table) (length m.keys) (length m.lists) = whole_facts st (length m.table)
      (length m.keys) (length m.lists) k.whole in
      let some = (power_facts st.buckets W.power).some in
      let h : ℕ = murmur_hash2 st.seed name in
      let w : Walk = lookup m.table m.keys st.key_arena (first_of st) st.buckets h name in
      let e : w.looked ≡ looked = ap (λ (v : Walk). v.looked) k.walk in
      let f : free_of m.table (first_of st) st.buckets h ≡ (h + w.looked) % st.buckets =
      lookup_free m.table m.keys st.key_arena (first_of st) st.buckets h name some
      (ap (λ (v : Walk). v.met) k.walk) in
      let n : w.looked ≤ st.buckets =
      (lookup-looked m.table m.keys st.key_arena (first_of st) st.buckets h name some).1 in
      record { hashed = k.hashed; empty = λ s. (W.power, (omega (arith, e, n), rw (k.hashed, ← e) f)) }

  -- after a lap an append goes on where the table is saturated
  pub carried_lap : Looked st m name hash Lap looked → is_saturated st ≡ true → Carried st m name hash looked
  carried_lap k e = record { hashed = k.hashed; empty = λ s. not_both (is_saturated st) e s }

  -- a table that takes a new name, and has as many buckets as before, hasn't grown
  pub carried_on : Growable st (length m.table) → is_crowded st ≡ false → Carried st m name hash looked
      → (g : State) (t : List ℕ) → g ≡ state_grown st → t ≡ table_grown st m.table → g.buckets ≡ st.buckets
      → LastEmpty g t hash looked
  carried_on G k C g t p q b = go (grows st) refl
    where
      stays : grows st ≡ false → (a : Bool) → is_saturated st ≡ a → (r : Bool) → room_to_grow st ≡ r
          → LastEmpty st m.table hash looked
      stays y true e true f = not_both (grows st) (does_grow st e f) y
      stays y true e false f = not_both (is_crowded st) (rw (e, f)) k
      stays y false e r f = C.empty e

      go : (x : Bool) → grows st ≡ x → LastEmpty g t hash looked
      go true y =
          let z = ap (λ (s : State). s.buckets) (state-grows st y) in
          let w = ap (λ (s : State). s.buckets) p in
          absurd (omega (arith, z, w, b, G.some))
      go false y =
          rw (p, q, state-stays st y, table_stays st m.table y)
          (stays y (is_saturated st) refl (room_to_grow st) refl)
