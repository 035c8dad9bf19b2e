-- An accepted append of a name that doesn't stand has entered it, on any memory: a table that isn't saturated has shown
-- an empty bucket to the lookup, and one that has grown has more buckets than were re-entered. Assumes nothing.
use Prim.Native.Nat.{ℕ, ◌+◌, ◌*◌, ◌/◌, ◌≤◌, ◌<◌}
use mathlib.Core.Path.{◌≡◌, refl, ap, ◌∙◌, subst}
use mathlib.Core.Bool.{Bool, true, false, cond}
use mathlib.Core.Option.{Option, none, some}
use mathlib.Core.List.{List}
use native.Mathlib.Omega.{arith}
use lib.ListN.{length}
use Rattle.limits.specs.Limits.{name_limit, record_extra}
use Rattle.numbers.specs.LittleEndian.{le_number, le_bytes}
use Rattle.numbers.proofs.Laws.{length_le, le_round}
use Rattle.numbers.proofs.Tests.{not_both}
use Rattle.spans.specs.Span.{read_span, overwrite}
use Rattle.spans.proofs.Laws.{length-overwrite, read_written, read_before}
use Rattle.murmurhash2.specs.Murmur.{murmur_hash2}
use Rattle.memory_arena.specs.declared.Arena.{Arena}
use Rattle.memory_arena.specs.Pages.{MaybeRoom, room_for}
use Rattle.memory_arena.proofs.Laws.{sensible_facts, room_in}
use Rattle.shared_arena_hashmap.specs.declared.Met.{Met}
use Rattle.shared_arena_hashmap.specs.declared.Met.TheVariants.{Empty, Standing, Damaged, Lap}
use Rattle.shared_arena_hashmap.specs.Power.{grown_length}
use Rattle.shared_arena_hashmap.specs.Buckets.{empty_at}
use Rattle.records.specs.Record.{key_length, key_at, record_bytes}
use Rattle.shared_arena_hashmap.specs.Grow.{free_of}
use Rattle.shared_arena_hashmap.proofs.Laws.{length-grown}
use Rattle.shared_arena_hashmap.proofs.Room.{enters, grown_empty, lookup_empty}
use Rattle.expull_header.specs.declared.Header.{Header}
use Rattle.expull_header.specs.Header.{fresh, header_bytes}
use Rattle.expull_append.specs.Append.{Writing, writing, appended}
use Rattle.store_state.specs.declared.State.{State}
use Rattle.store_append.specs.declared.Appended.TheVariants.{Accepted}
use Rattle.store_look.specs.declared.Lookup.TheVariants.{Missing, Failed}
use Rattle.store_state.specs.declared.Name.{Name}
use Rattle.store_state.specs.declared.Name.TheVariants.{TooLong, Nameless, Proper}
use Rattle.store_state.specs.State.{first_of}
use Rattle.store_state.specs.Name.{name_kind, by_kind}
use Rattle.store_look.specs.Look.{Lent, checked, walk_of, lookup_of, on_met as Look·onMet}
use Rattle.store_append.specs.Append.{Out, declined, is_saturated, room_to_grow, is_crowded, grows, grown_state, state_grown}
use Rattle.store_append.specs.Append.{table_grown, moved_state, new_written, on_key_room, append_new, on_met, append_of}
use Rattle.store.specs.Promises.{Entered}
use Rattle.store_state.proofs.Whole.{Whole, whole_facts, first-in}
use Rattle.store_append.proofs.Growth.{Growable, growable, grown-stands}
use Rattle.store_state.proofs.Guard.{kind_short}
use Rattle.store_append.proofs.Cases.{state-stays, state-grows, table_stays, table-grows, does_grow, stays_unsaturated}
use Rattle.records.proofs.Laws.{record_written}
use Rattle.std.specs.Prelude.{Some, None}

-- the key of a record as it is written
key_written : (at : ℕ) (name : List ℕ) (h : Header) (keys : List ℕ) → length name ≤ name_limit
    → at + (length name + record_extra) ≤ length keys
    → key_at (overwrite at (record_bytes name h) keys) at ≡ name
unfolding key_at key_length
key_written at name h keys short inside =
    subst (λ (m : List ℕ). read_span (at + 2) (le_number (read_span at 2 m)) m ≡ name) (record_written at name h keys)
    (rw (size, le_round 2 (length name) (omega arith)) key)
  where
    named : List ℕ
    named = overwrite (at + 2) name (overwrite at (le_bytes 2 (length name)) keys)

    size : read_span at 2 (overwrite (at + 2 + length name) (header_bytes h) named) ≡ le_bytes 2 (length name)
    size =
        read_before at 2 (at + 2 + length name) (header_bytes h) named (omega arith)
        ∙ read_before at 2 (at + 2) name (overwrite at (le_bytes 2 (length name)) keys) (omega arith)
        ∙ rw length_le at (read_written at (le_bytes 2 (length name)) keys (omega (arith, length_le 2 (length name))))

    key : read_span (at + 2) (length name) (overwrite (at + 2 + length name) (header_bytes h) named) ≡ name
    key =
        read_before (at + 2) (length name) (at + 2 + length name) (header_bytes h) named (omega arith)
        ∙ read_written (at + 2) name (overwrite at (le_bytes 2 (length name)) keys) (simp length-overwrite (omega arith))

-- some empty bucket of the l buckets from `first` on
AnEmpty : List ℕ → ℕ → ℕ → Type 0
AnEmpty t first l = (j : ℕ) × (j < l) × (empty_at t (first + j) ≡ true)

-- an append that was accepted has entered the name
Enters : State → Lent → List ℕ → Out → Type 0
Enters st m name o = (s : State) → o.answer ≡ Accepted s → Entered st m name s o.memory

module _ (st : State) (m : Lent) (c : checked st m ≡ true) (name : List ℕ) (short : length name ≤ name_limit) where
  whole : Whole st (length m.table) (length m.keys) (length m.lists)
  whole = whole_facts st (length m.table) (length m.keys) (length m.lists) c

  grow : Growable st (length m.table)
  grow = growable st (length m.table) (length m.keys) (length m.lists) whole

  -- the table after any growth lies in the lent words
  inside : 2 * (first_of (state_grown st) + (state_grown st).buckets) ≤ length (table_grown st m.table)
  inside =
      let S = grown-stands st (length m.table) grow in
      rw long
      (first-in (state_grown st) (length m.table) S.1.1
      (subst (λ (n : ℕ). (state_grown st).buckets ≤ n / 2) S.1.1 S.1.0))
    where
      long : length (table_grown st m.table) ≡ length m.table
      long = go (grows st) refl
        where
          go : (b : Bool) → grows st ≡ b → length (table_grown st m.table) ≡ length m.table
          go true e =
              ap length (table-grows st m.table e)
              ∙ length-grown st.buckets (first_of st) (first_of (grown_state st)) (grown_length st.buckets) m.table
          go false e = ap length (table_stays st m.table e)

  -- and has an empty bucket, where a new key may be entered and an unsaturated table has shown one
  room : is_crowded st ≡ false → (is_saturated st ≡ false → AnEmpty m.table (first_of st) st.buckets)
      → AnEmpty (table_grown st m.table) (first_of (state_grown st)) (state_grown st).buckets
  unfolding AnEmpty
  room k f = go (is_saturated st) refl (room_to_grow st) refl
    where
      Wanted : Type 0
      Wanted = AnEmpty (table_grown st m.table) (first_of (state_grown st)) (state_grown st).buckets

      go : (a : Bool) → is_saturated st ≡ a → (b : Bool) → room_to_grow st ≡ b → Wanted
      go true e true g =
          let y = does_grow st e g in
          let i = inside in
          rw (table-grows st m.table y, state-grows st y)
          (grown_empty st.buckets (first_of st) (first_of (grown_state st)) (grown_length st.buckets) m.table
          (omega (arith, grow.some)) (rw (table-grows st m.table y, state-grows st y, length-grown) at i))
      go true e false g = not_both (is_crowded st) (rw (e, g)) k
      go false e b g =
          let y = stays_unsaturated st e in
          rw (table_stays st m.table y, state-stays st y) (f e)

  enters-declined : (n : ℕ) → Enters st m name (declined st m n)
  unfolding Enters
  enters-declined n s e = let z : ◌≡◌ {A = ℕ} 0 1 = cc in absurd (omega arith)

  module _ (bytes : List ℕ) (empty : is_saturated st ≡ false → AnEmpty m.table (first_of st) st.buckets) where
    enters_written : (at : ℕ) (a : Arena) → is_crowded st ≡ false → at + (length name + record_extra) ≤ length m.keys
        → (x : Option Writing) → Enters st m name (new_written x st m name at a)
    unfolding new_written Enters AnEmpty
    enters_written at a k i none s e = enters-declined 7 s e
    enters_written at a k i (some v) s e =
        let q : moved_state (state_grown st) (st.keys + 1) a v.arena ≡ s = cc in
        let r = room k empty in
        let h : ℕ = murmur_hash2 st.seed name in
        let E = enters (table_grown st m.table) (first_of (state_grown st)) (state_grown st).buckets at h
        r.0 inside r.1 r.2 in
        subst (λ (s : State). Entered st m name s (new_written (some v) st m name at a).memory) q (record {
          bucket = free_of (table_grown st m.table) (first_of (state_grown st)) (state_grown st).buckets h;
          below = E.below;
          was_empty = E.was_empty;
          hashed = E.holds_hash;
          named = rw E.holds_address (key_written at name v.header m.keys short i);
          counted = refl;
        })

    enters-room : is_crowded st ≡ false → (r : MaybeRoom)
        → room_for st.key_arena (length m.keys) (length name + record_extra) ≡ r
        → Enters st m name (on_key_room r st m name bytes)
    unfolding on_key_room
    enters-room k (Some r) e =
        enters_written r.at r.after k
        (room_in st.key_arena (length m.keys) (length name + record_extra) r.at r.after (omega arith)
        (sensible_facts st.key_arena (length m.keys) whole.key_arena).stands e)
        (appended bytes (writing m.lists st.list_arena fresh))
    enters-room k None e = enters-declined 6

    enters-new : Enters st m name (append_new st m name bytes)
    unfolding append_new
    enters-new = go (is_crowded st) refl
      where
        go : (b : Bool) → is_crowded st ≡ b
            → Enters st m name
            (cond b (declined st m 5)
            (on_key_room
            (room_for st.key_arena (length m.keys) (length name + record_extra)) st m name bytes))
        go true e = enters-declined 5
        go false e = enters-room e
            (room_for st.key_arena (length m.keys) (length name + record_extra)) refl

  enters-met : (bytes : List ℕ) (x : Met) → (walk_of st m name).met ≡ x → Look·onMet x ≡ Missing
      → Enters st m name (on_met x st m name bytes)
  unfolding on_met walk_of AnEmpty
  enters-met bytes Damaged w e = let z : ◌≡◌ {A = ℕ} 0 1 = cc in absurd (omega arith)
  enters-met bytes (Standing at) w e = let z : ◌≡◌ {A = ℕ} 0 1 = cc in absurd (omega arith)
  enters-met bytes Empty w e = enters-new bytes (λ u. met_empty w)
    where
      met_empty : (walk_of st m name).met ≡ Empty → AnEmpty m.table (first_of st) st.buckets
      met_empty w =
          lookup_empty m.table m.keys st.key_arena (first_of st) st.buckets
          (murmur_hash2 st.seed name) name
          grow.some w
  enters-met bytes Lap w e = go (is_saturated st) refl
    where
      go : (b : Bool) → is_saturated st ≡ b → Enters st m name (cond b (append_new st m name bytes) (declined st m 4))
      go true s = enters-new bytes (λ u. not_both (is_saturated st) s u)
      go false s = enters-declined 4

pub append-enters : (st : State) (m : Lent) (name bytes : List ℕ) (s : State) → lookup_of st m name ≡ Missing
    → (append_of st m name bytes).answer ≡ Accepted s → Entered st m name s (append_of st m name bytes).memory
unfolding append_of lookup_of Enters
append-enters st m name bytes s l = go (checked st m) refl (name_kind st (length name)) refl l
  where
    go : (b : Bool) → checked st m ≡ b → (k : Name) → name_kind st (length name) ≡ k
        → cond b (by_kind k (Failed 3) Missing (Look·onMet (walk_of st m name).met)) (Failed 2) ≡ Missing
        → (cond b (by_kind k (declined st m 3) (declined st m 13) (on_met (walk_of st m name).met st m name bytes))
        (declined st m 2)).answer ≡ Accepted s
        → Entered st m name s
        (cond b (by_kind k (declined st m 3) (declined st m 13) (on_met (walk_of st m name).met st m name bytes))
        (declined st m 2)).memory
    go true c Proper k l e =
        enters-met st m c name (kind_short st (length name) k) bytes (walk_of st m name).met refl l s e
    go true c Nameless k l e = let z : ◌≡◌ {A = ℕ} 0 1 = cc in absurd (omega arith)
    go true c TooLong k l e = let z : ◌≡◌ {A = ℕ} 0 1 = cc in absurd (omega arith)
    go false c k e l f = let z : ◌≡◌ {A = ℕ} 0 1 = cc in absurd (omega arith)
