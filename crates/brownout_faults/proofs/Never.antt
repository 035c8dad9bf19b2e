-- What the check calls sound never answers 4, whoever wrote that memory. Assumes nothing.
use Prim.Native.Nat.{ℕ, zero, suc, ◌+◌, ◌-◌, ◌*◌, ◌≤◌, ◌<◌}
use mathlib.Core.Path.{◌≡◌, refl, sym, ap, ◌∙◌}
use mathlib.Core.Bool.{Bool, true, false, cond}
use mathlib.Core.Option.{Option, none, some}
use mathlib.Core.List.{List}
use native.Mathlib.Omega.{arith}
use lib.Dec.{leb, eqb}
use lib.ListN.{length}
use borrow.Author.Tests.{le-leb, leb-false, eqb-true, eqb-false}
use Rattle.limits.specs.Limits.{fresh_number, link_size, record_extra}
use Rattle.limits.specs.Refusals.{number_in}
use Rattle.numbers.proofs.Tests.{both, not_both}
use Rattle.memory_arena.specs.declared.Arena.{Arena}
use Rattle.memory_arena.specs.Pages.{MaybeRoom, standing, good_span, room_for}
use Rattle.memory_arena.proofs.Laws.{sensible_facts, standing_facts, good-end, good_page, good-below}
use Rattle.shared_arena_hashmap.specs.declared.Met.{Met}
use Rattle.shared_arena_hashmap.specs.declared.Met.TheVariants.{Empty, Standing, Damaged, Lap}
use Rattle.shared_arena_hashmap.specs.Probe.{occupied_by}
use Rattle.shared_arena_hashmap.specs.Buckets.{address_at}
use Rattle.records.specs.Record.{value_place, header_of, header_sound}
use Rattle.shared_arena_hashmap.specs.Probe.{occupied_from}
use Rattle.shared_arena_hashmap.proofs.Laws.{power_facts}
use Rattle.expull_header.specs.declared.Header.{Header}
use Rattle.std.specs.Prelude.{Some, None, Ok, Err}
use Rattle.limits.specs.declared.Refusal.TheVariants.{Damage as BadBlock}
use Rattle.expull_header.specs.Header.{fresh, block_size, block_count, lane_length, end_bytes_at}
use Rattle.expull_append.specs.Append.{Writing, writing, appended, good_tail}
use Rattle.expull_walk.specs.Blocks.{block_place, good_blocks, block_told, block_of}
use Rattle.expull_header.proofs.Laws.{SoundHeader, sound_facts}
use Rattle.history_lanes.proofs.Blocks.{placed_within}
use Rattle.store_state.specs.declared.State.{State}
use Rattle.store_look.specs.declared.Lookup.{Lookup}
use Rattle.store_look.specs.declared.Lookup.TheVariants.{At, Missing, Failed}
use Rattle.store_look.specs.declared.Answer.TheVariants.{Found, Refused}
use Rattle.store_state.specs.declared.Name.{Name}
use Rattle.store_state.specs.declared.Name.TheVariants.{TooLong, Nameless, Proper}
use Rattle.store_look.specs.Said.{said_lookup, said_answer, said_listed}
use Rattle.store_append.specs.Said.{said_appended}
use Rattle.store_state.specs.State.{first_of}
use Rattle.store_state.specs.Name.{name_kind, by_kind}
use Rattle.store_look.specs.Look.{Lent, checked, walk_of, lookup_of, on_lookup, on_lookup_read, length_at, length_of, reading}
use Rattle.store_look.specs.Look.{blocks_sound, read_at, read_of, on_block, block_at, find_block_of, on_next, next_of}
use Rattle.store_look.specs.Look.{on_met as Look·onMet}
use Rattle.store_append.specs.Append.{Out, declined, is_saturated, is_crowded, standing_written, append_standing}
use Rattle.store_append.specs.Append.{new_written, on_key_room, append_new, on_met, append_of}
use Rattle.store_state.proofs.Whole.{Whole, whole_facts}
use Rattle.brownout_faults.specs.Check.{vacant, record_in, good_in, tail_good, block_in}
use Rattle.brownout_faults.specs.Promises.{NoDamage, Faultless}
use Rattle.brownout_faults.proofs.Faults.{Clean, clean_facts}
use Rattle.brownout_faults.proofs.Where.{walk-found, walk_damaged, walk_lap}
use Rattle.std.specs.Prelude.{Some, None}

-- a block of a list whose blocks are good
good_last : (a : Arena) (m : List ℕ) (head k n : ℕ) → n ≡ suc k → good_blocks a m head n ≡ true
    → good_span a (block_place m head k) (block_size (k + 3) + link_size) ≡ true
unfolding good_blocks
good_last a m head k n e g = let h : good_blocks a m head (suc k) ≡ true = rw e at g in
    (both (good_blocks a m head k) _ h).1

good_fewer : (a : Arena) (m : List ℕ) (head k n : ℕ) → k ≤ n → good_blocks a m head n ≡ true
    → good_blocks a m head k ≡ true
unfolding good_blocks
good_fewer a m head k zero h g = let z : k ≡ 0 = omega arith in rw z
good_fewer a m head k (suc n) h g = go (eqb k (suc n)) refl
    (λ q. good_fewer a m head k n q (both (good_blocks a m head n) _ g).0)
  where
    go : (t : Bool) → eqb k (suc n) ≡ t → (k ≤ n → good_blocks a m head k ≡ true) → good_blocks a m head k ≡ true
    go true q f = rw (eqb-true k (suc n) q) g
    go false q f = let z : k ≡ suc n → ⊥ = eqb-false k (suc n) q in f (omega arith)

module _ (st : State) (m : Lent) (W : checked st m ≡ true) (F : Faultless st m) where
  whole : Whole st (length m.table) (length m.keys) (length m.lists)
  whole = whole_facts st (length m.table) (length m.keys) (length m.lists) W

  some_bucket : 0 < st.buckets
  some_bucket = (power_facts st.buckets whole.power).some

  lists_stand : standing st.list_arena (length m.lists) ≡ true
  lists_stand = (sensible_facts st.list_arena (length m.lists) whole.list_arena).stands

  clean : (i : ℕ) → i < st.buckets → vacant st m i ≡ false → Clean st m i
  clean i h v = clean_facts st m i v (F.clean i h)

  -- ---- lookups

  -- a record that a lookup finds is one of a bucket without fault
  pub record Kept (x : ℕ) : Type 0 where
    pub bucket : ℕ
    pub fine : Clean st m bucket
    pub place : record_in st m bucket ≡ x

  met-standing : (name : List ℕ) (x : ℕ) → (walk_of st m name).met ≡ Standing x → Kept x
  met-standing name x e =
      let r = walk-found st m some_bucket name x e in
      record { bucket = r.0; fine = clean r.0 r.1.inside r.1.full; place = r.1.place }

  met-sound : (name : List ℕ) → (walk_of st m name).met ≡ Damaged → ⊥
  met-sound name e =
      let r = walk_damaged st m some_bucket name e in
      not_both (good_in st m r.0) (clean r.0 r.1 r.2).good r.3

  -- what a lookup answers: nothing of 4, and where it finds a record that is one
  looks : (name : List ℕ) (l : Lookup) → lookup_of st m name ≡ l
      → (number_in (said_lookup l) ≡ 4 → ⊥) × ((x : ℕ) → l ≡ At x → Kept x)
  unfolding lookup_of
  looks name l e = go (name_kind st (length name)) (walk_of st m name).met refl (rw W at e)
    where
      go : (k : Name) (x : Met) → (walk_of st m name).met ≡ x → by_kind k (Failed 3) Missing (Look·onMet x) ≡ l
          → (number_in (said_lookup l) ≡ 4 → ⊥) × ((y : ℕ) → l ≡ At y → Kept y)
      go TooLong x q f = (rw (sym f) (λ z. omega arith), λ y g. let z : ◌≡◌ {A = ℕ} 0 1 = cc in absurd (omega arith))
      go Nameless x q f = (rw (sym f) (λ z. omega arith), λ y g. let z : ◌≡◌ {A = ℕ} 0 1 = cc in absurd (omega arith))
      go Proper Empty q f = (rw (sym f) (λ z. omega arith), λ y g. let z : ◌≡◌ {A = ℕ} 0 1 = cc in absurd (omega arith))
      go Proper Lap q f = (rw (sym f) (λ z. omega arith), λ y g. let z : ◌≡◌ {A = ℕ} 0 1 = cc in absurd (omega arith))
      go Proper Damaged q f = absurd (met-sound name q)
      go Proper (Standing x) q f = (
        rw (sym f) (λ z. omega arith),
        λ y g. let z : x ≡ y = cc in
            met-standing name y (q ∙ ap Standing z),
      )

  -- ---- the calls on a standing lane's list

  header_fine : (x : ℕ) → Kept x → header_sound m.keys x ≡ true
  header_fine x K = rw K.place at K.fine.header

  blocks_fine : (x : ℕ) → Kept x → good_blocks st.list_arena m.lists (header_of m.keys x).head
      (block_count (header_of m.keys x)) ≡ true
  blocks_fine x K = rw K.place at K.fine.blocks

  tail_fine : (x : ℕ) → Kept x → tail_good m (header_of m.keys x) ≡ true
  tail_fine x K = rw K.place at K.fine.tail

  never_length : (name : List ℕ) → number_in (said_answer (length_of st m name)) ≡ 4 → ⊥
  unfolding length_of length_at
  never_length name = go (lookup_of st m name) (looks name (lookup_of st m name) refl)
    where
      go : (l : Lookup) → (number_in (said_lookup l) ≡ 4 → ⊥) × ((x : ℕ) → l ≡ At x → Kept x)
          → number_in (said_answer (on_lookup l (length_at m.keys))) ≡ 4 → ⊥
      go (At x) k = rw (header_fine x (k.1 x refl)) (λ z. omega arith)
      go Missing k = λ z. omega arith
      go (Failed n) k = k.0

  never_read : (name output : List ℕ) → number_in (said_answer (read_of st m name output).answer) ≡ 4 → ⊥
  unfolding read_of read_at blocks_sound
  never_read name output = go (lookup_of st m name) (looks name (lookup_of st m name) refl)
    where
      fits : (x : ℕ) (b : Bool) (o : List ℕ)
          → number_in (said_answer (cond b (reading (Found (Rattle.store_look.specs.declared.Outcome.TheVariants.Reading
          (lane_length (header_of m.keys x)))) o)
          (reading (Refused 8 (lane_length (header_of m.keys x))) output)).answer) ≡ 4 → ⊥
      fits x true o = λ z. omega arith
      fits x false o = λ z. omega arith

      go : (l : Lookup) → (number_in (said_lookup l) ≡ 4 → ⊥) × ((x : ℕ) → l ≡ At x → Kept x)
          → number_in (said_answer (on_lookup_read l (λ at. read_at st m at output) output).answer) ≡ 4 → ⊥
      go (At x) k = rw (header_fine x (k.1 x refl), blocks_fine x (k.1 x refl))
          (fits x (leb (lane_length (header_of m.keys x)) (length output)) _)
      go Missing k = λ z. omega arith
      go (Failed n) k = k.0

  never_block : (name : List ℕ) (i : ℕ) → number_in (said_answer (find_block_of st m name i)) ≡ 4 → ⊥
  unfolding find_block_of block_at block_of
  never_block name i = go (lookup_of st m name) (looks name (lookup_of st m name) refl)
    where
      found : (x : ℕ) → Kept x → (b : Bool) → leb (block_count (header_of m.keys x)) i ≡ b
          → number_in (said_answer (on_block (cond b (Ok None)
          (cond (good_blocks st.list_arena m.lists (header_of m.keys x).head (i + 1))
          (Ok (Some (block_told m.lists (header_of m.keys x) i))) (Err BadBlock))))) ≡ 4 → ⊥
      found x K true q = λ z. omega arith
      found x K false q =
          rw (good_fewer st.list_arena m.lists (header_of m.keys x).head (i + 1)
          (block_count (header_of m.keys x)) (omega (arith, leb-false (block_count (header_of m.keys x)) i q))
          (blocks_fine x K))
          (λ z. omega arith)

      go : (l : Lookup) → (number_in (said_lookup l) ≡ 4 → ⊥) × ((x : ℕ) → l ≡ At x → Kept x)
          → number_in (said_answer (on_lookup l (block_at st m i))) ≡ 4 → ⊥
      go (At x) k = rw (header_fine x (k.1 x refl)) (found x (k.1 x refl) (leb (block_count (header_of m.keys x)) i)
          refl)
      go Missing k = λ z. omega arith
      go (Failed n) k = k.0

  -- ---- listing

  lists-on : (n j : ℕ) → (0 < n → j + n ≤ st.buckets) → number_in
      (said_listed (on_next (occupied_from m.table (first_of st) n j) st.key_arena m.keys)) ≡ 4 → ⊥
  unfolding occupied_from on_next
  lists-on zero j h = λ z. omega arith
  lists-on (suc n) j h = go (vacant st m j) refl (lists-on n (j + 1) (λ z. omega (arith, h (omega arith))))
    where
      go : (v : Bool) → vacant st m j ≡ v
          → (number_in (said_listed (on_next (occupied_from m.table (first_of st) n (j + 1)) st.key_arena m.keys))
          ≡ 4 → ⊥)
          → number_in (said_listed (on_next (cond v (occupied_from m.table (first_of st) n (j + 1)) (Some (occupied_by j (address_at
          m.table (first_of st + j))))) st.key_arena m.keys)) ≡ 4 → ⊥
      go true v ih = ih
      go false v ih = rw (clean j (omega (arith, h (omega arith))) v).good (λ z. omega arith)

  never_listing : (i : ℕ) → number_in (said_listed (next_of st m i)) ≡ 4 → ⊥
  unfolding next_of
  never_listing i = rw W (lists-on (st.buckets - i) i (λ z. omega arith))

  -- ---- appends

  tail_good_lem : (x : ℕ) → Kept x → good_tail st.list_arena (header_of m.keys x) ≡ true
  unfolding good_tail tail_good header_sound
  tail_good_lem x K = go (eqb h.number fresh_number) refl (tail_fine x K)
    where
      a : Arena
      a = st.list_arena

      h : Header
      h = header_of m.keys x

      go : (b : Bool) → eqb h.number fresh_number ≡ b
          → cond b true (eqb h.tail (block_in m h (block_count h - 1) + (block_size h.number - h.remaining))) ≡ true
          → cond b true (good_span a h.tail (h.remaining + link_size)) ≡ true
      go true q e = refl
      go false q e =
          let s : SoundHeader h (end_bytes_at (value_place m.keys x) m.keys) =
          sound_facts h (end_bytes_at (value_place m.keys x) m.keys) (header_fine x K) in
          let n : h.number ≡ fresh_number → ⊥ = eqb-false _ _ q in
          let k : ℕ = block_count h - 1 in
          let c : block_count h ≡ suc k = omega (arith, s.shape.from) in
          let w : k + 3 ≡ h.number = omega (arith, s.shape.from) in
          let g : good_span a (block_in m h k) (block_size h.number + link_size) ≡ true =
          rw w at (good_last a m.lists h.head k (block_count h) c (blocks_fine x K)) in
          let t : h.tail ≡ block_in m h k + (block_size h.number - h.remaining) = eqb-true _ _ e in
          let r : h.remaining ≤ block_size h.number = s.shape.within in
          good-below a h.tail (h.remaining + link_size) (omega arith)
          (rw t (placed_within a.size (block_in m h k) (block_size h.number + link_size)
          (block_size h.number - h.remaining) (h.remaining + link_size) (omega arith) (omega arith)
          (good_page a (block_in m h k) (block_size h.number + link_size) (length m.lists) lists_stand g)))
          (omega (
            arith,
            good-end a (block_in m h k) (block_size h.number + link_size) (length m.lists)
                lists_stand g,
          ))
          (standing_facts a (length m.lists) lists_stand).in_page

  module _ (name bytes : List ℕ) where
    abbrev Not4 : Out → Type 0
    Not4 o = number_in (said_appended o.answer) ≡ 4 → ⊥

    written : (at : ℕ) (w : Option Writing) → Not4 (standing_written w st m at)
    unfolding standing_written
    written at none = λ z. omega arith
    written at (some w) = λ z. omega arith

    entered : (at : ℕ) (a : Arena) (w : Option Writing) → Not4 (new_written w st m name at a)
    unfolding new_written
    entered at a none = λ z. omega arith
    entered at a (some w) = λ z. omega arith

    room : (r : MaybeRoom) → Not4 (on_key_room r st m name bytes)
    unfolding on_key_room
    room (Some r) = entered r.at r.after (appended bytes (writing m.lists st.list_arena fresh))
    room None = λ z. omega arith

    which : (b : Bool) (o : Out) (n : ℕ) → (n ≡ 4 → ⊥) → Not4 o → Not4 (cond b (declined st m n) o)
    which true o n k f = k
    which false o n k f = f

    taken : (b : Bool) (x y : Out) → b ≡ true → Not4 x → Not4 (cond b x y)
    taken true x y e f = f
    taken false x y e f = let z : ◌≡◌ {A = ℕ} 0 1 = cc in absurd (omega arith)

    new : Not4 (append_new st m name bytes)
    unfolding append_new
    new = which (is_crowded st) _ 5 (λ z. omega arith) (room
        (room_for st.key_arena (length m.keys) (length name + record_extra)))

    standing_on : (x : ℕ) → Kept x → Not4 (append_standing st m x bytes)
    unfolding append_standing
    standing_on x K = rw (header_fine x K, tail_good_lem x K)
        (written x (appended bytes (writing m.lists st.list_arena (header_of m.keys x))))

    met-on : (x : Met) → (walk_of st m name).met ≡ x → Not4 (on_met x st m name bytes)
    unfolding on_met
    met-on Damaged q = absurd (met-sound name q)
    met-on (Standing x) q = standing_on x (met-standing name x q)
    met-on Empty q = new
    met-on Lap q =
        let c = walk_lap st m some_bucket name q in
        let s : is_saturated st ≡ true = le-leb st.buckets (2 * st.keys) (omega (arith, F.counted)) in
        taken (is_saturated st) _ _ s new

    never_append : Not4 (append_of st m name bytes)
    unfolding append_of
    never_append = rw W (go (name_kind st (length name)) (met-on (walk_of st m name).met refl))
      where
        go : (k : Name) → Not4 (on_met (walk_of st m name).met st m name bytes)
            → Not4 (by_kind k (declined st m 3) (declined st m 13) (on_met (walk_of st m name).met st m name bytes))
        go TooLong f = λ z. omega arith
        go Nameless f = λ z. omega arith
        go Proper f = f

  pub faultless_never : NoDamage st m
  faultless_never = record {
    lookup = λ name. (looks name (lookup_of st m name) refl).0;
    measured = never_length;
    read = never_read;
    block = never_block;
    listing = never_listing;
    append = never_append;
  }
