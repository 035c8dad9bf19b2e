-- The calls that change nothing, case by case, and what a lookup that found a record says of it. Assumes nothing.
use Prim.Native.Nat.{ℕ, ◌+◌, ◌-◌, ◌≤◌, ◌<◌}
use mathlib.Core.Path.{◌≡◌, refl, sym, ap, ◌∙◌, subst}
use mathlib.Core.Bool.{Bool, true, false, cond}
use mathlib.Core.List.{List, [], ◌∷◌}
use native.Mathlib.Omega.{arith}
use types.Run.{OneOf, miss}
use denote.Enum.Declared.{tag_of}
use lib.Dec.{leb}
use lib.ListN.{length}
use borrow.Author.Tests.{le-leb, lt-leb}
use Rattle.numbers.proofs.Tests.{right_false}
use Rattle.spans.specs.Span.{read_span, overwrite}
use Rattle.memory_arena.specs.declared.Arena.{Arena}
use Rattle.memory_arena.specs.Pages.{good_span}
use Rattle.murmurhash2.specs.Murmur.{murmur_hash2}
use Rattle.shared_arena_hashmap.specs.declared.Met.{Met}
use Rattle.shared_arena_hashmap.specs.declared.Met.TheVariants.{Empty, Standing, Damaged, Lap}
use Rattle.std.specs.Prelude.{Some, None}
use Rattle.shared_arena_hashmap.specs.declared.Occupied.{Occupied}
use Rattle.records.specs.Record.{good_record, value_place, header_of, header_sound}
use Rattle.shared_arena_hashmap.specs.Probe.{occupied_from}
use Rattle.records.proofs.Laws.{good-record-in, Headed}
use Rattle.shared_arena_hashmap.proofs.Laws.{record_bounds}
use Rattle.expull_header.specs.declared.Header.{Header}
use Rattle.expull_header.specs.Header.{lane_length, block_count}
use Rattle.expull_walk.specs.Blocks.{good_blocks, lane_bytes, block_of}
use Rattle.store_state.specs.declared.State.{State}
use Rattle.store_look.specs.declared.Lookup.{Lookup}
use Rattle.store_look.specs.declared.Lookup.TheVariants.{At, Missing, Failed}
use Rattle.store_state.specs.declared.Name.{Name}
use Rattle.store_state.specs.declared.Name.TheVariants.{TooLong, Nameless, Proper}
use Rattle.store_state.specs.State.{first_of}
use Rattle.store_state.specs.Name.{name_kind, by_kind}
use Rattle.store_look.specs.declared.Listed.TheVariants.{Bucket, NoMore, Stopped}
use Rattle.store_look.specs.declared.Counted.TheVariants.{Keys, Unknown}
use Rattle.store_look.specs.contracts.Lookup.{the_type}
use Rattle.store_look.specs.declared.Answer.{Answer}
use Rattle.store_look.specs.declared.Answer.TheVariants.{Found, Refused}
use Rattle.store_look.specs.declared.Outcome.TheVariants.{Length, Reading}
use Rattle.store_look.specs.Look.{Lent, checked, walk_of, on_met, lookup_of, looked_of, on_lookup, on_lookup_read}
use Rattle.store_look.specs.Look.{not_found, length_at, length_of, reading, blocks_sound, read_at, read_of, on_block}
use Rattle.store_look.specs.Look.{block_at, find_block_of, on_next, next_of, show_of, count_of}
use Rattle.store_state.proofs.Whole.{whole_facts}

-- ---- lookup

module _ (st : State) (m : Lent) (name : List ℕ) where
  pub lookup_2 : checked st m ≡ false → lookup_of st m name ≡ Failed 2
  unfolding lookup_of
  lookup_2 e = rw e

  pub lookup_3 : checked st m ≡ true → name_kind st (length name) ≡ TooLong → lookup_of st m name ≡ Failed 3
  unfolding lookup_of
  lookup_3 e k = rw (e, k)

  pub lookup-nameless : checked st m ≡ true → name_kind st (length name) ≡ Nameless → lookup_of st m name ≡ Missing
  unfolding lookup_of
  lookup-nameless e k = rw (e, k)

  pub lookup-met : (x : Met) → checked st m ≡ true → name_kind st (length name) ≡ Proper → (walk_of st m name).met ≡ x
      → lookup_of st m name ≡ on_met x
  unfolding lookup_of
  lookup-met x e k w = rw (e, k, w)

  -- and how many buckets were looked at
  pub looked_2 : checked st m ≡ false → looked_of st m name ≡ 0
  unfolding looked_of
  looked_2 e = rw e

  pub looked_3 : checked st m ≡ true → name_kind st (length name) ≡ TooLong → looked_of st m name ≡ 0
  unfolding looked_of
  looked_3 e k = rw (e, k)

  pub looked-nameless : checked st m ≡ true → name_kind st (length name) ≡ Nameless → looked_of st m name ≡ 0
  unfolding looked_of
  looked-nameless e k = rw (e, k)

  pub looked-walk : checked st m ≡ true → name_kind st (length name) ≡ Proper
      → looked_of st m name ≡ (walk_of st m name).looked
  unfolding looked_of
  looked-walk e k = rw (e, k)

-- what is known of a store and a place in it once a lookup has answered with that place
pub record Held (st : State) (m : Lent) (at : ℕ) : Type 0 where
  pub whole : checked st m ≡ true
  pub length-in : at + 2 ≤ length m.keys
  pub value_in : value_place m.keys at + 16 ≤ length m.keys

-- a record that a walk met
pub walk-held : (st : State) (m : Lent) (name : List ℕ) (at : ℕ) → checked st m ≡ true
    → (walk_of st m name).met ≡ Standing at → Held st m at
unfolding walk_of value_place
walk-held st m name at e w =
    let h = whole_facts st (length m.table) (length m.keys) (length m.lists) e in
    let b = record_bounds m.table m.keys st.key_arena (first_of st) st.buckets
    (murmur_hash2 st.seed name) name at w in
    let i = good-record-in st.key_arena m.keys at h.key_arena b.0 in
    record { whole = e; length-in = omega (arith, i); value_in = omega (arith, i) }

-- a record that a lookup found
pub lookup-held : (st : State) (m : Lent) (name : List ℕ) (at : ℕ) → lookup_of st m name ≡ At at → Held st m at
unfolding lookup_of
lookup-held st m name at e = go (checked st m) refl (name_kind st (length name)) (walk_of st m name).met refl e
  where
    go : (b : Bool) → checked st m ≡ b → (k : Name) (x : Met) → (walk_of st m name).met ≡ x
        → cond b (by_kind k (Failed 3) Missing (on_met x)) (Failed 2) ≡ At at → Held st m at
    go true p Proper (Standing a) q e = let z : a ≡ at = cc in walk-held st m name at p (q ∙ ap Standing z)
    go true p Proper Empty q e = let z : ◌≡◌ {A = ℕ} 0 1 = cc in absurd (omega arith)
    go true p Proper Damaged q e = let z : ◌≡◌ {A = ℕ} 0 1 = cc in absurd (omega arith)
    go true p Proper Lap q e = let z : ◌≡◌ {A = ℕ} 0 1 = cc in absurd (omega arith)
    go true p Nameless x q e = let z : ◌≡◌ {A = ℕ} 0 1 = cc in absurd (omega arith)
    go true p TooLong x q e = let z : ◌≡◌ {A = ℕ} 0 1 = cc in absurd (omega arith)
    go false p k x q e = let z : ◌≡◌ {A = ℕ} 0 1 = cc in absurd (omega arith)

-- ---- the header of a record

-- ---- the answers of a standing lane

pub length_4 : (keys : List ℕ) (at : ℕ) → header_sound keys at ≡ false → length_at keys at ≡ Refused 4 0
unfolding length_at
length_4 keys at e = rw e

pub length_found : (keys : List ℕ) (at : ℕ) (h : Header) → Headed keys at h
    → length_at keys at ≡ Found (Length (lane_length h))
unfolding length_at
length_found keys at h e = rw e.sound (ap (λ (g : Header). Found (Length (lane_length g))) (sym e.is))

pub block_4 : (st : State) (m : Lent) (i at : ℕ) → header_sound m.keys at ≡ false → block_at st m i at ≡ Refused 4 0
unfolding block_at
block_4 st m i at e = rw e

pub block_found : (st : State) (m : Lent) (i at : ℕ) (h : Header) → Headed m.keys at h
    → block_at st m i at ≡ on_block (block_of st.list_arena m.lists h i)
unfolding block_at
block_found st m i at h e =
    rw e.sound (ap (λ (g : Header). on_block (block_of st.list_arena m.lists g i)) (sym e.is))

-- a lookup that code has told apart from a place
pub not_at : (l : Lookup) (k : ℕ → Answer) → OneOf (1 ∷ 2 ∷ []) (tag_of the_type l) → not_found l ≡ on_lookup l k
not_at (At at) k o = absurd (miss (1 ∷ 2 ∷ []) 0 tt o)
not_at Missing k o = refl
not_at (Failed e) k o = refl

-- ---- the answers by name

pub length_not : (st : State) (m : Lent) (name : List ℕ) (l : Lookup) → l ≡ lookup_of st m name
    → OneOf (1 ∷ 2 ∷ []) (tag_of the_type l)
    → not_found l ≡ length_of st m name
unfolding length_of
length_not st m name l e o = not_at l (length_at m.keys) o ∙ ap (λ (x : Lookup). on_lookup x (length_at m.keys)) e

pub length-at : (st : State) (m : Lent) (name : List ℕ) (at : ℕ) → lookup_of st m name ≡ At at
    → length_at m.keys at ≡ length_of st m name
unfolding length_of
length-at st m name at e = sym (ap (λ (x : Lookup). on_lookup x (length_at m.keys)) e)

pub block_not : (st : State) (m : Lent) (name : List ℕ) (i : ℕ) (l : Lookup) → l ≡ lookup_of st m name
    → OneOf (1 ∷ 2 ∷ []) (tag_of the_type l)
    → not_found l ≡ find_block_of st m name i
unfolding find_block_of
block_not st m name i l e o = not_at l (block_at st m i) o ∙ ap (λ (x : Lookup). on_lookup x (block_at st m i)) e

pub block_at_lem : (st : State) (m : Lent) (name : List ℕ) (i at : ℕ) → lookup_of st m name ≡ At at
    → block_at st m i at ≡ find_block_of st m name i
unfolding find_block_of
block_at_lem st m name i at e = sym (ap (λ (x : Lookup). on_lookup x (block_at st m i)) e)

-- ---- reading

pub read_4 : (st : State) (m : Lent) (at : ℕ) (output : List ℕ) → header_sound m.keys at ≡ false
    → read_at st m at output ≡ reading (Refused 4 0) output
unfolding read_at blocks_sound
read_4 st m at output e = rw e

pub read_4_block : (st : State) (m : Lent) (at : ℕ) (output : List ℕ) (h : Header) → Headed m.keys at h
    → good_blocks st.list_arena m.lists h.head (block_count h) ≡ false
    → read_at st m at output ≡ reading (Refused 4 0) output
unfolding read_at blocks_sound
read_4_block st m at output h k e =
    let g : good_blocks st.list_arena m.lists (header_of m.keys at).head (block_count (header_of m.keys at))
    ≡ false =
    subst (λ (x : Header). good_blocks st.list_arena m.lists x.head (block_count x) ≡ false) k.is e in
    rw (k.sound, g)

-- the reading of a lane whose blocks are good, by whether the output is long enough
pub read-on : (st : State) (m : Lent) (at : ℕ) (output : List ℕ) (h : Header) → Headed m.keys at h
    → good_blocks st.list_arena m.lists h.head (block_count h) ≡ true
    → read_at st m at output
    ≡ cond (leb (lane_length h) (length output))
    (reading (Found (Reading (lane_length h))) (overwrite 0 (lane_bytes m.lists h) output))
    (reading (Refused 8 (lane_length h)) output)
unfolding read_at blocks_sound
read-on st m at output h k e =
    let g : good_blocks st.list_arena m.lists (header_of m.keys at).head (block_count (header_of m.keys at))
    ≡ true =
    subst (λ (x : Header). good_blocks st.list_arena m.lists x.head (block_count x) ≡ true) k.is e in
    rw (k.sound, g)
    (ap (λ (x : Header). cond (leb (lane_length x) (length output))
    (reading (Found (Reading (lane_length x))) (overwrite 0 (lane_bytes m.lists x) output))
    (reading (Refused 8 (lane_length x)) output)) (sym k.is))

pub read_8 : (st : State) (m : Lent) (at : ℕ) (output : List ℕ) (h : Header) → Headed m.keys at h
    → good_blocks st.list_arena m.lists h.head (block_count h) ≡ true → length output < lane_length h
    → read_at st m at output ≡ reading (Refused 8 (lane_length h)) output
read_8 st m at output h k e n = read-on st m at output h k e ∙ rw (lt-leb (lane_length h) (length output) n)

pub read_done : (st : State) (m : Lent) (at : ℕ) (output : List ℕ) (h : Header) → Headed m.keys at h
    → good_blocks st.list_arena m.lists h.head (block_count h) ≡ true → lane_length h ≤ length output
    → read_at st m at output ≡ reading (Found (Reading (lane_length h))) (overwrite 0 (lane_bytes m.lists h) output)
read_done st m at output h k e n = read-on st m at output h k e ∙ rw (le-leb (lane_length h) (length output) n)

pub read_not : (st : State) (m : Lent) (name output : List ℕ) (l : Lookup) → l ≡ lookup_of st m name
    → OneOf (1 ∷ 2 ∷ []) (tag_of the_type l)
    → reading (not_found l) output ≡ read_of st m name output
unfolding read_of
read_not st m name output l e o = go l o ∙ ap (λ (x : Lookup). on_lookup_read x (λ at. read_at st m at output) output) e
  where
    go : (l : Lookup) → OneOf (1 ∷ 2 ∷ []) (tag_of the_type l)
        → reading (not_found l) output ≡ on_lookup_read l (λ at. read_at st m at output) output
    go (At at) o = absurd (miss (1 ∷ 2 ∷ []) 0 tt o)
    go Missing o = refl
    go (Failed n) o = refl

pub read_at_lem : (st : State) (m : Lent) (name output : List ℕ) (at : ℕ) → lookup_of st m name ≡ At at
    → read_at st m at output ≡ read_of st m name output
unfolding read_of
read_at_lem st m name output at e = sym (ap (λ (x : Lookup). on_lookup_read x (λ at. read_at st m at output) output) e)

-- ---- listing, showing, counting

pub next_2 : (st : State) (m : Lent) (i : ℕ) → checked st m ≡ false → next_of st m i ≡ Stopped 2
unfolding next_of
next_2 st m i e = rw e

pub next_past : (st : State) (m : Lent) (i : ℕ) → checked st m ≡ true → st.buckets ≤ i → next_of st m i ≡ NoMore
unfolding next_of occupied_from on_next
next_past st m i e h = let z : st.buckets - i ≡ 0 = omega arith in rw (e, z)

pub next-on : (st : State) (m : Lent) (i : ℕ) → checked st m ≡ true
    → next_of st m i ≡ on_next (occupied_from m.table (first_of st) (st.buckets - i) i) st.key_arena m.keys
unfolding next_of
next-on st m i e = rw e

pub next-good : (a : Arena) (keys : List ℕ) (o : Occupied) → good_record a keys o.place ≡ true
    → on_next (Some o) a keys ≡ Bucket o.bucket o.place
unfolding on_next
next-good a keys o e = rw e

pub next_bad : (a : Arena) (keys : List ℕ) (o : Occupied) → good_record a keys o.place ≡ false
    → on_next (Some o) a keys ≡ Stopped 4
unfolding on_next
next_bad a keys o e = rw e

pub next_none : (a : Arena) (keys : List ℕ) → on_next None a keys ≡ NoMore
unfolding on_next
next_none a keys = refl

pub show_part : (st : State) (m : Lent) (at n : ℕ) → checked st m ≡ true → good_span st.list_arena at n ≡ true
    → show_of st m at n ≡ read_span at n m.lists
unfolding show_of
show_part st m at n e f = rw (e, f)

pub show_bad : (st : State) (m : Lent) (at n : ℕ) → good_span st.list_arena at n ≡ false → show_of st m at n ≡ []
unfolding show_of
show_bad st m at n e = rw (right_false (checked st m) (good_span st.list_arena at n) e)

pub show_2 : (st : State) (m : Lent) (at n : ℕ) → checked st m ≡ false → show_of st m at n ≡ []
unfolding show_of
show_2 st m at n e = rw e

pub count_2 : (st : State) (m : Lent) → checked st m ≡ false → count_of st m ≡ Unknown 2
unfolding count_of
count_2 st m e = rw e

pub count_keys : (st : State) (m : Lent) → checked st m ≡ true → count_of st m ≡ Keys st.keys
unfolding count_of
count_keys st m e = rw e
