-- An accepted append keeps the seed, on any memory. Assumes nothing.
use Prim.Native.Nat.{ℕ, ◌+◌}
use mathlib.Core.Path.{◌≡◌, refl, sym, ap, ◌∙◌}
use mathlib.Core.Bool.{Bool, true, false, cond, ◌&&◌}
use mathlib.Core.Option.{Option, none, some}
use mathlib.Core.List.{List}
use native.Mathlib.Omega.{arith}
use lib.ListN.{length}
use Rattle.limits.specs.Limits.{record_extra}
use Rattle.memory_arena.specs.declared.Arena.{Arena}
use Rattle.memory_arena.specs.Pages.{MaybeRoom, room_for}
use Rattle.shared_arena_hashmap.specs.declared.Met.{Met}
use Rattle.shared_arena_hashmap.specs.declared.Met.TheVariants.{Empty, Standing, Damaged, Lap}
use Rattle.expull_header.specs.Header.{fresh}
use Rattle.expull_append.specs.Append.{Writing, writing, appended, good_tail}
use Rattle.store_state.specs.declared.State.{State}
use Rattle.store_append.specs.declared.Appended.TheVariants.{Accepted}
use Rattle.store_state.specs.declared.Name.{Name}
use Rattle.store_state.specs.declared.Name.TheVariants.{TooLong, Nameless, Proper}
use Rattle.store_state.specs.Name.{name_kind, by_kind}
use Rattle.records.specs.Record.{header_of, header_sound}
use Rattle.store_look.specs.Look.{Lent, checked, walk_of}
use Rattle.store_append.specs.Append.{Out, declined, is_saturated, is_crowded, grows, grown_state, state_grown, moved_state}
use Rattle.store_append.specs.Append.{standing_written, append_standing, new_written, on_key_room, append_new, on_met}
use Rattle.store_append.specs.Append.{append_of}
use Rattle.std.specs.Prelude.{Some, None}

-- what was accepted has the seed of a state
Seeded : State → Out → Type 0
Seeded st o = (s : State) → o.answer ≡ Accepted s → s.seed ≡ st.seed

module _ (st : State) (m : Lent) where
  seeded_declined : (n : ℕ) → Seeded st (declined st m n)
  unfolding Seeded
  seeded_declined n s e = let z : ◌≡◌ {A = ℕ} 0 1 = cc in absurd (omega arith)

  seeded_cond : (b : Bool) (x y : Out) → Seeded st x → Seeded st y → Seeded st (cond b x y)
  seeded_cond true x y p q = p
  seeded_cond false x y p q = q

  seeded_kind : (k : Name) (x y z : Out) → Seeded st x → Seeded st y → Seeded st z → Seeded st (by_kind k x y z)
  seeded_kind TooLong x y z p q r = p
  seeded_kind Nameless x y z p q r = q
  seeded_kind Proper x y z p q r = r

  grown_seed : (state_grown st).seed ≡ st.seed
  unfolding state_grown
  grown_seed = go (grows st)
    where
      go : (b : Bool) → (cond b (grown_state st) st).seed ≡ st.seed
      go true = refl
      go false = refl

  seeded_standing_written : (at : ℕ) (x : Option Writing) → Seeded st (standing_written x st m at)
  unfolding standing_written Seeded
  seeded_standing_written at none s e = seeded_declined 7 s e
  seeded_standing_written at (some v) s e =
      let q : moved_state (state_grown st) st.keys st.key_arena v.arena ≡ s = cc in
      sym (ap (λ (r : State). r.seed) q) ∙ grown_seed

  seeded_new_written : (name : List ℕ) (at : ℕ) (a : Arena) (x : Option Writing)
      → Seeded st (new_written x st m name at a)
  unfolding new_written Seeded
  seeded_new_written name at a none s e = seeded_declined 7 s e
  seeded_new_written name at a (some v) s e =
      let q : moved_state (state_grown st) (st.keys + 1) a v.arena ≡ s = cc in
      sym (ap (λ (r : State). r.seed) q) ∙ grown_seed

  seeded_standing : (at : ℕ) (bytes : List ℕ) → Seeded st (append_standing st m at bytes)
  unfolding append_standing
  seeded_standing at bytes =
      seeded_cond (header_sound m.keys at && good_tail st.list_arena (header_of m.keys at)) _ _
      (seeded_standing_written at (appended bytes (writing m.lists st.list_arena (header_of m.keys at))))
      (seeded_declined 4)

  seeded_room : (name bytes : List ℕ) (r : MaybeRoom) → Seeded st (on_key_room r st m name bytes)
  unfolding on_key_room
  seeded_room name bytes (Some r) =
      seeded_new_written name r.at r.after (appended bytes (writing m.lists st.list_arena fresh))
  seeded_room name bytes None = seeded_declined 6

  seeded_new : (name bytes : List ℕ) → Seeded st (append_new st m name bytes)
  unfolding append_new
  seeded_new name bytes =
      seeded_cond (is_crowded st) _ _ (seeded_declined 5)
      (seeded_room name bytes (room_for st.key_arena (length m.keys) (length name + record_extra)))

  seeded_met : (name bytes : List ℕ) (x : Met) → Seeded st (on_met x st m name bytes)
  unfolding on_met
  seeded_met name bytes Damaged = seeded_declined 4
  seeded_met name bytes (Standing at) = seeded_standing at bytes
  seeded_met name bytes Empty = seeded_new name bytes
  seeded_met name bytes Lap = seeded_cond (is_saturated st) _ _ (seeded_new name bytes) (seeded_declined 4)

  pub seed_kept : (name bytes : List ℕ) (s : State) → (append_of st m name bytes).answer ≡ Accepted s → s.seed ≡ st.seed
  unfolding append_of Seeded
  seed_kept name bytes =
      seeded_cond (checked st m) _ _
      (seeded_kind (name_kind st (length name)) _ _ _ (seeded_declined 3) (seeded_declined 13)
      (seeded_met name bytes (walk_of st m name).met))
      (seeded_declined 2)
