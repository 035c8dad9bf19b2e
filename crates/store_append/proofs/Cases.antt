-- The append, case by case, as its code goes. Assumes nothing.
use Prim.Native.Nat.{ℕ, ◌+◌}
use mathlib.Core.Path.{◌≡◌, refl, ap, ◌∙◌}
use mathlib.Core.Bool.{true, false}
use mathlib.Core.Option.{Option, none, some}
use mathlib.Core.List.{List}
use lib.ListN.{length}
use Rattle.limits.specs.Limits.{record_extra}
use Rattle.numbers.proofs.Tests.{both_true, left_false, right_false, not_both}
use Rattle.spans.specs.Span.{overwrite}
use Rattle.murmurhash2.specs.Murmur.{murmur_hash2}
use Rattle.memory_arena.specs.declared.Arena.{Arena}
use Rattle.std.specs.Prelude.{None}
use Rattle.memory_arena.specs.Pages.{MaybeRoom, room_at, room_for}
use Rattle.shared_arena_hashmap.specs.declared.Met.{Met}
use Rattle.shared_arena_hashmap.specs.declared.Met.TheVariants.{Empty, Standing, Damaged, Lap}
use Rattle.shared_arena_hashmap.specs.Power.{grown_length}
use Rattle.records.specs.Record.{value_place, header_of, header_sound, record_bytes}
use Rattle.shared_arena_hashmap.specs.Grow.{entered, grown}
use Rattle.expull_header.specs.Header.{fresh, header_bytes}
use Rattle.expull_append.specs.Append.{Writing, writing, appended, plan_of, is_some, good_tail}
use Rattle.expull_append.proofs.Laws.{fits_plan}
use Rattle.store_state.specs.declared.State.{State}
use Rattle.store_append.specs.declared.Appended.TheVariants.{Accepted}
use Rattle.store_state.specs.declared.Name.TheVariants.{TooLong, Nameless, Proper}
use Rattle.store_state.specs.State.{first_of}
use Rattle.store_state.specs.Name.{name_kind}
use Rattle.store_look.specs.Look.{Lent, lent, checked, walk_of}
use Rattle.store_append.specs.Append.{out, declined, room_to_grow, is_saturated, is_crowded, grows, grown_state}
use Rattle.store_append.specs.Append.{state_grown, table_grown, moved_state, standing_written, append_standing}
use Rattle.store_append.specs.Append.{new_written, on_key_room, append_new, on_met, append_of}

-- ---- growth

pub stays_unsaturated : (st : State) → is_saturated st ≡ false → grows st ≡ false
stays_unsaturated st e = left_false (is_saturated st) (room_to_grow st) e

pub stays_crowded : (st : State) → room_to_grow st ≡ false → grows st ≡ false
stays_crowded st e = right_false (is_saturated st) (room_to_grow st) e

pub does_grow : (st : State) → is_saturated st ≡ true → room_to_grow st ≡ true → grows st ≡ true
does_grow st e f = both_true (is_saturated st) (room_to_grow st) e f

pub state-stays : (st : State) → grows st ≡ false → state_grown st ≡ st
unfolding state_grown
state-stays st e = rw e

pub state-grows : (st : State) → grows st ≡ true → state_grown st ≡ grown_state st
unfolding state_grown
state-grows st e = rw e

pub table_stays : (st : State) (t : List ℕ) → grows st ≡ false → table_grown st t ≡ t
unfolding table_grown
table_stays st t e = rw e

pub table-grows : (st : State) (t : List ℕ) → grows st ≡ true
    → table_grown st t ≡ grown st.buckets (first_of st) (first_of (grown_state st)) (grown_length st.buckets) t
unfolding table_grown
table-grows st t e = rw e

-- ---- the call

module _ (st : State) (m : Lent) (name bytes : List ℕ) where
  pub append_2 : checked st m ≡ false → append_of st m name bytes ≡ declined st m 2
  unfolding append_of
  append_2 e = rw e

  pub append_3 : checked st m ≡ true → name_kind st (length name) ≡ TooLong
      → append_of st m name bytes ≡ declined st m 3
  unfolding append_of
  append_3 e k = rw (e, k)

  pub append_13 : checked st m ≡ true → name_kind st (length name) ≡ Nameless
      → append_of st m name bytes ≡ declined st m 13
  unfolding append_of
  append_13 e k = rw (e, k)

  pub append-met : (x : Met) → checked st m ≡ true → name_kind st (length name) ≡ Proper → (walk_of st m name).met ≡ x
      → append_of st m name bytes ≡ on_met x st m name bytes
  unfolding append_of
  append-met x e k w = rw (e, k, w)

  pub met_damaged : on_met Damaged st m name bytes ≡ declined st m 4
  unfolding on_met
  met_damaged = refl

  pub met-standing : (at : ℕ) → on_met (Standing at) st m name bytes ≡ append_standing st m at bytes
  unfolding on_met
  met-standing at = refl

  pub met_empty : on_met Empty st m name bytes ≡ append_new st m name bytes
  unfolding on_met
  met_empty = refl

  pub met_lap : is_saturated st ≡ true → on_met Lap st m name bytes ≡ append_new st m name bytes
  unfolding on_met
  met_lap e = rw e

  pub met_lap_4 : is_saturated st ≡ false → on_met Lap st m name bytes ≡ declined st m 4
  unfolding on_met
  met_lap_4 e = rw e

  -- ---- a new lane

  pub new_5 : is_crowded st ≡ true → append_new st m name bytes ≡ declined st m 5
  unfolding append_new
  new_5 e = rw e

  pub new-room : is_crowded st ≡ false → (r : MaybeRoom)
      → room_for st.key_arena (length m.keys) (length name + record_extra) ≡ r
      → append_new st m name bytes ≡ on_key_room r st m name bytes
  unfolding append_new
  new-room e r f = rw (e, f)

  pub new_6 : on_key_room None st m name bytes ≡ declined st m 6
  unfolding on_key_room
  new_6 = refl

  pub new-at : (at : ℕ) (a : Arena) (w : Option Writing)
      → appended bytes (writing m.lists st.list_arena fresh) ≡ w
      → on_key_room (room_at at a) st m name bytes ≡ new_written w st m name at a
  unfolding on_key_room
  new-at at a w e = rw e

  pub new_7 : (at : ℕ) (a : Arena) → new_written none st m name at a ≡ declined st m 7
  unfolding new_written
  new_7 at a = refl

  -- ---- a standing lane

  pub standing_4 : (at : ℕ) → header_sound m.keys at ≡ false → append_standing st m at bytes ≡ declined st m 4
  unfolding append_standing
  standing_4 at e = rw e

  pub standing_4_tail : (at : ℕ) → good_tail st.list_arena (header_of m.keys at) ≡ false
      → append_standing st m at bytes ≡ declined st m 4
  unfolding append_standing
  standing_4_tail at e =
      rw (right_false (header_sound m.keys at) (good_tail st.list_arena (header_of m.keys at)) e)

  pub standing_on : (at : ℕ) (w : Option Writing) → header_sound m.keys at ≡ true
      → good_tail st.list_arena (header_of m.keys at) ≡ true
      → appended bytes (writing m.lists st.list_arena (header_of m.keys at)) ≡ w
      → append_standing st m at bytes ≡ standing_written w st m at
  unfolding append_standing
  standing_on at w e f g = rw (e, f, g)

  pub standing_7 : (at : ℕ) → standing_written none st m at ≡ declined st m 7
  unfolding standing_written
  standing_7 at = refl

  -- ---- what an accepted append leaves, put together from what each part of the code left

  pub new_done : (at : ℕ) (a : Arena) (x : Option Writing) (w : Writing) → some w ≡ x
      → (s : State) (t k l : List ℕ) → s ≡ moved_state (state_grown st) (st.keys + 1) a w.arena
      → t ≡ entered (first_of (state_grown st)) (state_grown st).buckets at (murmur_hash2 st.seed name)
      (table_grown st m.table)
      → k ≡ overwrite at (record_bytes name w.header) m.keys → l ≡ w.memory
      → out (Accepted s) (lent t k l) ≡ new_written x st m name at a
  unfolding new_written
  new_done at a x w e s t k l p q r u =
      (λ i. out (Accepted (p i)) (lent (q i) (r i) (u i))) ∙ ap (λ (y : Option Writing). new_written y st m name at a) e

  pub standing_done : (at : ℕ) (x : Option Writing) (w : Writing) → some w ≡ x
      → (s : State) (t k l : List ℕ) → s ≡ moved_state (state_grown st) st.keys st.key_arena w.arena
      → t ≡ table_grown st m.table
      → k ≡ overwrite (value_place m.keys at) (header_bytes w.header) m.keys → l ≡ w.memory
      → out (Accepted s) (lent t k l) ≡ standing_written x st m at
  unfolding standing_written
  standing_done at x w e s t k l p q r u =
      (λ i. out (Accepted (p i)) (lent (q i) (r i) (u i))) ∙ ap (λ (y : Option Writing). standing_written y st m at) e

-- ---- the dry run decides

pub plan_none : (bs : List ℕ) (w : Writing)
    → is_some (plan_of (length w.memory) w.arena w.header (length bs)) ≡ false → appended bs w ≡ none
plan_none bs w e = go (appended bs w) refl
  where
    go : (x : Option Writing) → appended bs w ≡ x → appended bs w ≡ none
    go none p = p
    go (some v) p =
        not_both (is_some (plan_of (length w.memory) w.arena w.header (length bs)))
        (ap is_some (fits_plan bs w v p)) e
