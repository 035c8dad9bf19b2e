-- An accepted creation or append gives a state that passes the whole-state check, on any memory, or the next call would
-- be refused for what this one did. Assumes nothing.
use Prim.Native.Nat.{ℕ, ◌+◌, ◌*◌, ◌/◌, ◌≤◌, ◌<◌}
use mathlib.Core.Path.{◌≡◌, refl, sym, ◌∙◌, subst}
use mathlib.Core.Bool.{Bool, true, false, cond, ◌&&◌}
use mathlib.Core.Option.{Option, none, some}
use mathlib.Core.List.{List}
use native.Mathlib.Omega.{arith}
use lib.ListN.{length}
use borrow.Author.Tests.{leb-false}
use Rattle.limits.specs.Limits.{record_extra}
use Rattle.numbers.proofs.Tests.{not_both}
use Rattle.spans.specs.Span.{overwrite}
use Rattle.spans.proofs.Laws.{length-overwrite}
use Rattle.murmurhash2.specs.Murmur.{murmur_hash2}
use Rattle.memory_arena.specs.declared.Arena.{Arena}
use Rattle.memory_arena.specs.Pages.{MaybeRoom, room_for}
use Rattle.memory_arena.specs.Calls.{sensible}
use Rattle.memory_arena.proofs.Laws.{room_size, room-sensible}
use Rattle.shared_arena_hashmap.specs.declared.Met.{Met}
use Rattle.shared_arena_hashmap.specs.declared.Met.TheVariants.{Empty, Standing, Damaged, Lap}
use Rattle.shared_arena_hashmap.specs.Power.{rounded_down, power_of_two, grown_length}
use Rattle.shared_arena_hashmap.specs.Buckets.{cleared}
use Rattle.records.specs.Record.{value_place, header_of, header_sound, record_bytes}
use Rattle.shared_arena_hashmap.specs.Grow.{entered, grown}
use Rattle.shared_arena_hashmap.proofs.Laws.{rounded_is_power, grown_is_power, length-cleared, length-entered}
use Rattle.shared_arena_hashmap.proofs.Laws.{length-grown}
use Rattle.expull_header.specs.Header.{fresh, header_bytes}
use Rattle.expull_append.specs.Append.{Writing, writing, appended, good_tail}
use Rattle.expull_append.proofs.Laws.{appended-length, appended-sensible, appended_size}
use Rattle.store_state.specs.declared.State.{State}
use Rattle.store_append.specs.declared.Appended.TheVariants.{Accepted}
use Rattle.store_create.specs.Create.{out as Create·out, creatable, fresh_state, create_of}
use Rattle.store_state.specs.declared.Name.{Name}
use Rattle.store_state.specs.declared.Name.TheVariants.{TooLong, Nameless, Proper}
use Rattle.store_state.specs.State.{words_taken, first_of}
use Rattle.store_state.specs.Name.{name_kind, by_kind}
use Rattle.store_look.specs.Look.{Lent, lent, checked, walk_of}
use Rattle.store_append.specs.Append.{Out, declined, is_saturated, room_to_grow, is_crowded, grows, grown_state, state_grown}
use Rattle.store_append.specs.Append.{table_grown, moved_state, standing_written, append_standing, new_written}
use Rattle.store_append.specs.Append.{on_key_room, append_new, on_met, append_of}
use Rattle.store_state.proofs.Whole.{Whole, whole_facts, whole_made}
use Rattle.store_create.proofs.Creation.{creatable_facts, unused-sensible}
use Rattle.store_append.proofs.Growth.{Growable, growable, grown-stands}
use Rattle.store_append.proofs.Cases.{state-stays, state-grows, stays_unsaturated, stays_crowded, does_grow}
use Rattle.std.specs.Prelude.{Ok, Err}
use Rattle.limits.specs.declared.Refusal.TheVariants.{NotCreatable}
use Rattle.std.specs.Prelude.{Some, None}

-- ---- growth

-- what a state has become by growing its table, or by not growing it
pub record Grown (st s : State) : Type 0 where
  pub words_same : s.words ≡ st.words
  pub keys_same : s.key_bytes ≡ st.key_bytes
  pub lists_same : s.list_bytes ≡ st.list_bytes
  pub power : power_of_two s.buckets ≡ true
  pub no_less : st.buckets ≤ s.buckets
  pub one_more : is_crowded st ≡ false → st.keys + 1 ≤ s.buckets

pub grown-state : (st : State) (w : ℕ) → Growable st w → power_of_two st.buckets ≡ true → Grown st (state_grown st)
grown-state st w h p = go (is_saturated st) refl (room_to_grow st) refl
  where
    stays : grows st ≡ false → (is_crowded st ≡ false → st.keys + 1 ≤ st.buckets) → Grown st (state_grown st)
    stays e k =
        subst (Grown st) (sym (state-stays st e))
        (record {
          words_same = refl;
          keys_same = refl;
          lists_same = refl;
          power = p;
          no_less = omega arith;
          one_more = k;
        })

    go : (a : Bool) → is_saturated st ≡ a → (b : Bool) → room_to_grow st ≡ b → Grown st (state_grown st)
    go true e true f =
        subst (Grown st) (sym (state-grows st (does_grow st e f)))
        (record {
          words_same = refl;
          keys_same = refl;
          lists_same = refl;
          power = grown_is_power st.buckets p h.few;
          no_less = omega arith;
          one_more = λ k. omega (arith, h.keys_le);
        })
    go true e false f = stays (stays_crowded st f) (λ k. not_both (is_crowded st) (rw (e, f)) k)
    go false e b f =
        let k : 2 * st.keys < st.buckets = leb-false _ _ e in
        stays (stays_unsaturated st e) (λ z. omega arith)

-- ---- what an append leaves

-- a state that passes the check, of the page size that there was
abbrev Sized : State → State → Lent → Type 0
Sized st s m = (checked s m ≡ true) × (s.key_arena.size ≡ st.key_arena.size)

-- an append that was accepted has left such a state
Keeps : State → Out → Type 0
Keeps st o = (s : State) → o.answer ≡ Accepted s → Sized st s o.memory

keeps-declined : (st : State) (m : Lent) (n : ℕ) → Keeps st (declined st m n)
unfolding Keeps
keeps-declined st m n s e = let z : ◌≡◌ {A = ℕ} 0 1 = cc in absurd (omega arith)

keeps_cond : (st : State) (b : Bool) (x y : Out) → (b ≡ true → Keeps st x) → (b ≡ false → Keeps st y)
    → Keeps st (cond b x y)
keeps_cond st true x y p q = p refl
keeps_cond st false x y p q = q refl

keeps-kind : (st : State) (k : Name) (x y z : Out) → Keeps st x → Keeps st y → Keeps st z → Keeps st (by_kind k x y z)
keeps-kind st TooLong x y z p q r = p
keeps-kind st Nameless x y z p q r = q
keeps-kind st Proper x y z p q r = r

module _ (st : State) (m : Lent) (c : checked st m ≡ true) where
  w : Whole st (length m.table) (length m.keys) (length m.lists)
  w = whole_facts st (length m.table) (length m.keys) (length m.lists) c

  g : Growable st (length m.table)
  g = growable st (length m.table) (length m.keys) (length m.lists) w

  long-table : length (table_grown st m.table) ≡ length m.table
  unfolding table_grown
  long-table = go (grows st)
    where
      go : (b : Bool) → length
          (cond b (grown st.buckets (first_of st) (first_of (grown_state st)) (grown_length st.buckets) m.table)
          m.table) ≡ length m.table
      go true = length-grown st.buckets (first_of st) (first_of (grown_state st)) (grown_length st.buckets) m.table
      go false = refl

  -- the state and the memory put together
  left : (keys : ℕ) (a b : Arena) (t k l : List ℕ) → keys ≤ (state_grown st).buckets
      → sensible a (length m.keys) ≡ true → sensible b (length m.lists) ≡ true
      → a.size ≡ st.key_arena.size → b.size ≡ st.list_arena.size → length t ≡ length m.table
      → length k ≡ length m.keys → length l ≡ length m.lists
      → Sized st (moved_state (state_grown st) keys a b) (lent t k l)
  left keys a b t k l n p q u v x y z =
      let G = grown-state st (length m.table) g w.power in
      let S = grown-stands st (length m.table) g in (
        whole_made (moved_state (state_grown st) keys a b) (length t) (length k) (length l)
            (record {
              words_is = S.1.1 ∙ sym x;
              key_bytes_is = G.keys_same ∙ w.key_bytes_is ∙ sym y;
              list_bytes_is = G.lists_same ∙ w.list_bytes_is ∙ sym z;
              taken = subst (λ (j : ℕ). words_taken j ≡ true) (sym x) w.taken;
              power = G.power;
              buckets_le = subst (λ (j : ℕ). (state_grown st).buckets ≤ j / 2) (S.1.1 ∙ sym x) S.1.0;
              keys_le = n;
              sizes_are = u ∙ w.sizes_are ∙ sym v;
              key_arena = subst (λ (j : ℕ). sensible a j ≡ true) (sym y) p;
              list_arena = subst (λ (j : ℕ). sensible b j ≡ true) (sym z) q;
            }),
        u,
      )

  keeps-standing_written : (at : ℕ) (bytes : List ℕ) (x : Option Writing)
      → appended bytes (writing m.lists st.list_arena (header_of m.keys at)) ≡ x
      → Keeps st (standing_written x st m at)
  unfolding standing_written Keeps
  keeps-standing_written at bytes none e s f = keeps-declined st m 7 s f
  keeps-standing_written at bytes (some v) e s f =
      let q : moved_state (state_grown st) st.keys st.key_arena v.arena ≡ s = cc in
      let G = grown-state st (length m.table) g w.power in
      let k : List ℕ = overwrite (value_place m.keys at) (header_bytes v.header) m.keys in
      subst (λ (r : State). Sized st r (lent (table_grown st m.table) k v.memory)) q
      (left st.keys st.key_arena v.arena (table_grown st m.table) k v.memory
      (omega (arith, w.keys_le, G.no_less)) w.key_arena
      (appended-sensible bytes (writing m.lists st.list_arena (header_of m.keys at)) v w.list_arena e) refl
      (appended_size bytes (writing m.lists st.list_arena (header_of m.keys at)) v e) long-table
      (length-overwrite (value_place m.keys at) (header_bytes v.header) m.keys)
      (appended-length bytes (writing m.lists st.list_arena (header_of m.keys at)) v e))

  keeps-standing : (at : ℕ) (bytes : List ℕ) → Keeps st (append_standing st m at bytes)
  unfolding append_standing
  keeps-standing at bytes =
      keeps_cond st (header_sound m.keys at && good_tail st.list_arena (header_of m.keys at)) _ _
      (λ e. keeps-standing_written at bytes
      (appended bytes (writing m.lists st.list_arena (header_of m.keys at))) refl)
      (λ e. keeps-declined st m 4)

  keeps-new_written : (name bytes : List ℕ) (at : ℕ) (a : Arena) → is_crowded st ≡ false
      → sensible a (length m.keys) ≡ true
      → a.size ≡ st.key_arena.size → (x : Option Writing)
      → appended bytes (writing m.lists st.list_arena fresh) ≡ x → Keeps st (new_written x st m name at a)
  unfolding new_written Keeps
  keeps-new_written name bytes at a r k u none e s f = keeps-declined st m 7 s f
  keeps-new_written name bytes at a r k u (some v) e s f =
      let q : moved_state (state_grown st) (st.keys + 1) a v.arena ≡ s = cc in
      let G = grown-state st (length m.table) g w.power in
      let h : ℕ = murmur_hash2 st.seed name in
      let t : List ℕ = entered (first_of (state_grown st)) (state_grown st).buckets at h (table_grown st m.table) in
      let n : List ℕ = overwrite at (record_bytes name v.header) m.keys in
      subst (λ (r : State). Sized st r (lent t n v.memory)) q
      (left (st.keys + 1) a v.arena t n v.memory (G.one_more r) k
      (appended-sensible bytes (writing m.lists st.list_arena fresh) v w.list_arena e) u
      (appended_size bytes (writing m.lists st.list_arena fresh) v e)
      (length-entered (first_of (state_grown st)) (state_grown st).buckets at h (table_grown st m.table) ∙ long-table)
      (length-overwrite at (record_bytes name v.header) m.keys)
      (appended-length bytes (writing m.lists st.list_arena fresh) v e))

  keeps-room : (name bytes : List ℕ) → is_crowded st ≡ false → (r : MaybeRoom)
      → room_for st.key_arena (length m.keys) (length name + record_extra) ≡ r
      → Keeps st (on_key_room r st m name bytes)
  unfolding on_key_room
  keeps-room name bytes e (Some r) f =
      let n = length name + record_extra in
      keeps-new_written name bytes r.at r.after e
      (room-sensible st.key_arena (length m.keys) n r.at r.after (omega arith) w.key_arena f)
      (room_size st.key_arena (length m.keys) n r.at r.after f)
      (appended bytes (writing m.lists st.list_arena fresh)) refl
  keeps-room name bytes e None f = keeps-declined st m 6

  keeps-new : (name bytes : List ℕ) → Keeps st (append_new st m name bytes)
  unfolding append_new
  keeps-new name bytes =
      keeps_cond st (is_crowded st) _ _ (λ e. keeps-declined st m 5)
      (λ e. keeps-room name bytes e (room_for st.key_arena (length m.keys) (length name + record_extra)) refl)

  keeps-met : (name bytes : List ℕ) (x : Met) → Keeps st (on_met x st m name bytes)
  unfolding on_met
  keeps-met name bytes Damaged = keeps-declined st m 4
  keeps-met name bytes (Standing at) = keeps-standing at bytes
  keeps-met name bytes Empty = keeps-new name bytes
  keeps-met name bytes Lap = keeps_cond st (is_saturated st) _ _ (λ e. keeps-new name bytes) (λ e. keeps-declined st m 4)

-- every accepted append
appended-keeps : (st : State) (m : Lent) (name bytes : List ℕ) → Keeps st (append_of st m name bytes)
unfolding append_of
appended-keeps st m name bytes =
    keeps_cond st (checked st m) _ _
    (λ c. keeps-kind st (name_kind st (length name)) _ _ _ (keeps-declined st m 3) (keeps-declined st m 13)
    (keeps-met st m c name bytes (walk_of st m name).met))
    (λ e. keeps-declined st m 2)

pub append-whole : (st : State) (m : Lent) (name bytes : List ℕ) (s : State)
    → (append_of st m name bytes).answer ≡ Accepted s
    → checked s (append_of st m name bytes).memory ≡ true
unfolding Keeps
append-whole st m name bytes s e = (appended-keeps st m name bytes s e).0

pub append_size : (st : State) (m : Lent) (name bytes : List ℕ) (s : State)
    → (append_of st m name bytes).answer ≡ Accepted s
    → s.key_arena.size ≡ st.key_arena.size
unfolding Keeps
append_size st m name bytes s e = (appended-keeps st m name bytes s e).1

-- ---- creation

pub create_whole : (capacity seed size : ℕ) (table keys lists : List ℕ) (s : State)
    → (create_of capacity seed size table (length keys) (length lists)).answer ≡ Ok s
    → checked s (lent (create_of capacity seed size table (length keys) (length lists)).table keys lists) ≡ true
unfolding create_of
create_whole capacity seed size table keys lists s =
    go (creatable capacity size (length table) (length keys) (length lists)) refl
  where
    go : (b : Bool) → creatable capacity size (length table) (length keys) (length lists) ≡ b
        → (cond b (Create·out (Ok
        (fresh_state seed size (length table) (length keys) (length lists) (rounded_down capacity)))
        (cleared 0 (rounded_down capacity) table)) (Create·out (Err NotCreatable) table)).answer ≡ Ok s
        → checked s (lent (cond b
        (Create·out (Ok (fresh_state seed size (length table) (length keys) (length lists) (rounded_down capacity)))
        (cleared 0 (rounded_down capacity) table)) (Create·out (Err NotCreatable) table)).table keys lists) ≡ true
    go true c e =
        let q : fresh_state seed size (length table) (length keys) (length lists) (rounded_down capacity) ≡ s = cc in
        let f = creatable_facts capacity size (length table) (length keys) (length lists) c in
        let n = length-cleared 0 (rounded_down capacity) table in
        subst (λ (r : State). checked r (lent (cleared 0 (rounded_down capacity) table) keys lists) ≡ true) q
        (whole_made _ _ _ _ (record {
          words_is = sym n;
          key_bytes_is = refl;
          list_bytes_is = refl;
          taken = subst (λ (j : ℕ). words_taken j ≡ true) (sym n) f.taken;
          power = rounded_is_power capacity;
          buckets_le = subst (λ (j : ℕ). rounded_down capacity ≤ j / 2) (sym n) f.buckets_le;
          keys_le = omega arith;
          sizes_are = refl;
          key_arena = unused-sensible size (length keys) f.sized f.key_pages;
          list_arena = unused-sensible size (length lists) f.sized f.list_pages;
        }))
    go false c e = let z : ◌≡◌ {A = ℕ} 0 1 = cc in absurd (omega arith)
