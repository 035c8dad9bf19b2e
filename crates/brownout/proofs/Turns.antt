-- The definitions of specs/ in the shapes in which the code meets them. Assumes nothing.
use Prim.Native.Nat.{ℕ, zero, suc, ◌+◌, ◌-◌, ◌*◌, ◌/◌, ◌%◌, ◌≤◌, ◌<◌}
use mathlib.Core.Path.{◌≡◌, refl, sym, ap, ◌∙◌}
use mathlib.Core.Bool.{Bool, true, false, cond}
use mathlib.Core.List.{List}
use native.Mathlib.Numerals.{add-one}
use native.Mathlib.Omega.{arith}
use lib.Dec.{leb, ltb, eqb}
use lib.ListN.{length, take, drop, get_or, replicate, length-replicate}
use borrow.Author.Tests.{eq-eqb, ne_eqb, lt-ltb, le-ltb, lt-leb, le-leb}
use Rattle.limits.specs.Limits.{null_address, fresh_number, record_extra, link_size, arena_limit, word_limit, bucket_limit}
use Rattle.limits.specs.Refusals.{checking, permitted}
use Rattle.numbers.specs.LittleEndian.{le_number}
use Rattle.spans.specs.Span.{read_span}
use Rattle.marks.specs.Bits.{Out as MarksOut, out as marks_out, mark_span}
use Rattle.murmurhash2.specs.Murmur.{murmur_hash2}
use Rattle.memory_arena.specs.declared.Arena.{Arena}
use Rattle.memory_arena.specs.Calls.{sensible}
use Rattle.memory_arena.proofs.Laws.{sensible_short}
use Rattle.shared_arena_hashmap.specs.declared.Walk.{Walk}
use Rattle.records.specs.Record.{key_length, key_at, good_record, value_place, header_of, header_sound}
use Rattle.records.proofs.Laws.{good-record-in}
use Rattle.shared_arena_hashmap.proofs.Laws.{power_facts, lookup-looked}
use Rattle.expull_header.specs.declared.Header.{Header}
use Rattle.std.specs.Prelude.{Some, Ok}
use Rattle.expull_walk.specs.declared.Block.{Block}
use Rattle.expull_header.specs.Header.{block_size, block_count, sound_header}
use Rattle.expull_walk.specs.Blocks.{block_place, good_blocks, block_length, block_of}
use Rattle.expull_header.proofs.Laws.{sound_facts}
use Rattle.expull_walk.proofs.Laws.{place-more, block_good, block_in_lem}
use Rattle.store_state.specs.declared.State.{State}
use Rattle.store_state.specs.State.{first_of}
use Rattle.store_look.specs.Look.{Lent, checked, walk_of}
use Rattle.store_state.proofs.Whole.{Whole, whole_facts, first-in, taken_facts, buckets_few}
use Rattle.brownout_faults.specs.declared.Checked.{Checked}
use Rattle.brownout_faults.specs.declared.Checked.TheVariants.{Sound, Faulty, Miscounted, Refused}
use Rattle.brownout_faults.specs.Check.{vacant, record_in, header_in, found_met, block_in, tail_good, fault_in, entries}
use Rattle.brownout_faults.specs.Check.{verdict_from, verdict_of, marks_needed, Out, out, check_of}
use Rattle.brownout.specs.Code.{bucket_of, list_judged, judged, on_marks, mark_blocks, Step, step, step_of, lane_marked}
use Rattle.brownout.specs.Code.{looked_over, counted_on, gone_over}
use Rattle.brownout_faults.specs.Said.{said_checked}
use Rattle.brownout.proofs.Marked.{gone_verdict}

-- ---- a bucket of the table

module _ (st : State) (m : Lent) (W : checked st m ≡ true) where
  whole : Whole st (length m.table) (length m.keys) (length m.lists)
  whole = whole_facts st (length m.table) (length m.keys) (length m.lists) W

  pub some_bucket : 0 < st.buckets
  some_bucket = (power_facts st.buckets whole.power).some

  pub buckets_in : st.buckets ≤ st.words / 2
  buckets_in = rw whole.words_is whole.buckets_le

  pub buckets_low : st.buckets ≤ bucket_limit
  buckets_low = buckets_few st (length m.table) (length m.keys) (length m.lists) whole

  pub keys_sense : sensible st.key_arena (length m.keys) ≡ true
  keys_sense = whole.key_arena

  pub lists_sense : sensible st.list_arena (length m.lists) ≡ true
  lists_sense = whole.list_arena

  pub keys_short : length m.keys ≤ arena_limit
  keys_short = sensible_short st.key_arena (length m.keys) keys_sense

  pub lists_short : length m.lists ≤ arena_limit
  lists_short = sensible_short st.list_arena (length m.lists) lists_sense

  pub record In (first i : ℕ) : Type 0 where
    pub inside : 2 * (first + i) + 1 < length m.table
    pub short : length m.table ≤ word_limit

  pub bucket-in : (first i : ℕ) → first ≡ first_of st → i < st.buckets → In first i
  bucket-in first i e h =
      let f : 2 * (first_of st + st.buckets) ≤ length m.table =
      first-in st (length m.table) whole.words_is whole.buckets_le in
      record { inside = omega arith; short = (taken_facts (length m.table) whole.taken).1 }

  pub looked-few : (name : List ℕ) → (walk_of st m name).looked ≤ bucket_limit
  unfolding walk_of
  looked-few name =
      omega (
        arith,
        (lookup-looked m.table m.keys st.key_arena (first_of st) st.buckets (murmur_hash2 st.seed name)
            name some_bucket).1,
        buckets_low,
      )

  -- a record that is good lies in the key pages
  pub record Held (at : ℕ) : Type 0 where
    pub length-in : at + 2 ≤ length m.keys
    pub record-in : at + (key_length m.keys at + record_extra) ≤ length m.keys
    pub value_in : value_place m.keys at + 16 ≤ length m.keys

  pub record-held : (at : ℕ) → good_record st.key_arena m.keys at ≡ true → Held at
  unfolding value_place
  record-held at g =
      let r = good-record-in st.key_arena m.keys at keys_sense g in
      record { length-in = omega arith; record-in = r; value_in = omega arith }

module _ (st : State) (m : Lent) (first i : ℕ) (e : first ≡ first_of st) where
  pub vacant_code : (b : Bool) → eqb (get_or m.table (2 * (first + i)) 0) null_address ≡ b → vacant st m i ≡ b
  vacant_code b f = rw e at f

  pub record_code : get_or m.table (2 * (first + i)) 0 ≡ record_in st m i
  record_code = ap (λ (x : ℕ). get_or m.table (2 * (x + i)) 0) e

  pub count_vacant : (count : ℕ) → get_or m.table (2 * (first + i)) 0 ≡ null_address → count ≡ counted_on st m i count
  count_vacant count f = rw (vacant_code true (eq-eqb _ _ f))

  pub count_full : (count : ℕ) → (get_or m.table (2 * (first + i)) 0 ≡ null_address → ⊥)
      → count + 1 ≡ counted_on st m i count
  count_full count f = rw (vacant_code false (ne_eqb _ _ f))

-- ---- the lookup

module _ (st : State) (m : Lent) (name : List ℕ) where
  pub bucket_none : (w : Walk) → w ≡ walk_of st m name → found_met (length name) w.met ≡ false
      → st.buckets ≡ bucket_of st m name
  unfolding bucket_of
  bucket_none w e s = let t : found_met (length name) (walk_of st m name).met ≡ false = rw e at s in rw t

  pub bucket_some : (w : Walk) (h : ℕ) → w ≡ walk_of st m name → h ≡ murmur_hash2 st.seed name
      → found_met (length name) w.met ≡ true
      → (h + w.looked) % st.buckets ≡ bucket_of st m name
  unfolding bucket_of
  bucket_some w h e f s =
      let t : found_met (length name) (walk_of st m name).met ≡ true = rw e at s in
      rw (t, f, e)

-- ---- a list

module _ (m : Lent) (a : Arena) (h : Header) where
  pub tail_none : h.number ≡ fresh_number → true ≡ tail_good m h
  unfolding tail_good
  tail_none e = rw (eq-eqb h.number fresh_number e)

  module _ (s : sound_header h 0 ≡ true) (g : good_blocks a m.lists h.head (block_count h) ≡ true)
      (n : h.number ≡ fresh_number → ⊥) where
    three : 3 ≤ h.number
    three = let f = (sound_facts h 0 s).shape.from in omega arith

    pub last_found : (i : ℕ) → i ≡ h.number - 3 → block_of a m.lists h i
        ≡ Ok (Some (record { at = block_in m h (block_count h - 1); length = block_size h.number - h.remaining }))
    unfolding block_of block_length
    last_found i e =
        let t = three in
        let p : i + 1 ≡ block_count h = omega arith in
        let q : i ≡ block_count h - 1 = omega arith in
        rw (lt-leb (block_count h) i (omega arith), p, g, eq-eqb (block_count h) (block_count h) refl, q)

    pub tail_some : (i : ℕ) (b : Block) → i ≡ h.number - 3 → block_of a m.lists h i ≡ Ok (Some b)
        → eqb h.tail (b.at + b.length) ≡ tail_good m h
    unfolding tail_good
    tail_some i b e f =
        let l = last_found i e in
        let x : b.at ≡ block_in m h (block_count h - 1) = cc in
        let y : b.length ≡ block_size h.number - h.remaining = cc in
        rw (ne_eqb h.number fresh_number n, x, y)

module _ (st : State) (m : Lent) (h : Header) where
  pub list_5 : good_blocks st.list_arena m.lists h.head (block_count h) ≡ false → 5 ≡ list_judged st m h
  unfolding list_judged
  list_5 e = rw e

  pub list_rest : (t : Bool) → good_blocks st.list_arena m.lists h.head (block_count h) ≡ true
      → tail_good m h ≡ t → cond t 0 6 ≡ list_judged st m h
  unfolding list_judged
  list_rest t e f = rw (e, f)

-- ---- a bucket judged

pub part_key : (keys : List ℕ) (at n : ℕ) → n ≡ key_length keys at
    → take (at + 2 + n - (at + 2)) (drop (at + 2) keys) ≡ key_at keys at
unfolding key_at read_span
part_key keys at n e = let s : at + 2 + n - (at + 2) ≡ key_length keys at = omega arith in rw s

module _ (st : State) (m : Lent) (i at : ℕ) where
  pub judged_1 : good_record st.key_arena m.keys at ≡ false → 1 ≡ judged st m i at
  unfolding judged
  judged_1 e = rw e

  module _ (good : good_record st.key_arena m.keys at ≡ true) (b : ℕ)
      (is : b ≡ bucket_of st m (key_at m.keys at)) where
    pub judged_2 : b < i → 2 ≡ judged st m i at
    unfolding judged
    judged_2 h = let t : ltb (bucket_of st m (key_at m.keys at)) i ≡ true = rw is at (lt-ltb b i h) in rw (good, t)

    pub judged_3 : i ≤ b → (b ≡ i → ⊥) → 3 ≡ judged st m i at
    unfolding judged
    judged_3 h n =
        let t : ltb (bucket_of st m (key_at m.keys at)) i ≡ false = rw is at (le-ltb b i h) in
        let u : eqb (bucket_of st m (key_at m.keys at)) i ≡ false = rw is at (ne_eqb b i n) in
        rw (good, t, u)

    here : b ≡ i → judged st m i at ≡ cond (header_sound m.keys at) (list_judged st m (header_of m.keys at)) 4
    unfolding judged
    here e =
        let t : ltb (bucket_of st m (key_at m.keys at)) i ≡ false = rw is at (le-ltb b i (omega arith)) in
        let u : eqb (bucket_of st m (key_at m.keys at)) i ≡ true = rw is at (eq-eqb b i e) in
        rw (good, t, u)

    pub judged_4 : b ≡ i → header_sound m.keys at ≡ false → 4 ≡ judged st m i at
    judged_4 e f = sym (here e ∙ rw f)

    pub judged_list : b ≡ i → header_sound m.keys at ≡ true → (h : Header) (r : ℕ) → h ≡ header_of m.keys at
        → r ≡ list_judged st m h → r ≡ judged st m i at
    judged_list e f h r k j = j ∙ ap (list_judged st m) k ∙ sym (here e ∙ rw f)

-- ---- marks

pub record Marking (marks₀ : List ℕ) (base : ℕ) (lists : List ℕ) (head count : ℕ) (marks : List ℕ) (place k : ℕ) : Type
    0 where
  pub at_most : k ≤ count
  pub here : place ≡ block_place lists head k
  pub kept : length marks ≡ length marks₀
  pub rest : mark_blocks marks₀ base lists head count 0 ≡ mark_blocks marks base lists head (count - k) k

pub marking-begun : (marks : List ℕ) (base : ℕ) (lists : List ℕ) (head count : ℕ)
    → Marking marks base lists head count marks head 0
unfolding block_place
marking-begun marks base lists head count = record {
  at_most = omega arith;
  here = refl;
  kept = refl;
  rest =
      let s : count - 0 ≡ count = omega arith in rw s;
}

module _ {marks₀ : List ℕ} {base : ℕ} {lists : List ℕ} {head count : ℕ} {marks : List ℕ} {place k : ℕ}
    (M : Marking marks₀ base lists head count marks place k) where
  turn : k < count → (size : ℕ) → size ≡ block_size (k + 3)
      → mark_blocks marks base lists head (count - k) k ≡ on_marks (mark_span marks (base + place) (size + link_size))
      (λ next. mark_blocks next base lists head (count - (k + 1)) (k + 1))
  unfolding mark_blocks
  turn h size e = let s : count - k ≡ suc (count - (k + 1)) = omega arith in rw (s, M.here, e)

  pub marking_stop : k < count → (size : ℕ) → size ≡ block_size (k + 3) → (next : List ℕ)
      → marks_out true next ≡ mark_span marks (base + place) (size + link_size)
      → marks_out true next ≡ mark_blocks marks₀ base lists head count 0
  marking_stop h size e next f =
      sym (M.rest ∙ turn h size e ∙ ap (λ (o : MarksOut).
      on_marks o (λ next. mark_blocks next base lists head (count - (k + 1)) (k + 1))) (sym f))

  pub marking-next : k < count → (size : ℕ) → size ≡ block_size (k + 3) → (next : List ℕ)
      → marks_out false next ≡ mark_span marks (base + place) (size + link_size)
      → length next ≡ length marks → (link : ℕ) → link ≡ le_number (read_span (place + size) link_size lists)
      → Marking marks₀ base lists head count next link (k + 1)
  marking-next h size e next f l link q = record {
    at_most = omega arith;
    here = q ∙ rw (M.here, e, add-one k) (sym (place-more lists head k));
    kept = l ∙ M.kept;
    rest = M.rest ∙ turn h size e ∙ ap (λ (o : MarksOut).
        on_marks o (λ next. mark_blocks next base lists head (count - (k + 1)) (k + 1))) (sym f);
  }

  pub marking-end : count ≤ k → marks_out false marks ≡ mark_blocks marks₀ base lists head count 0
  unfolding mark_blocks
  marking-end h = let s : count - k ≡ 0 = omega arith in sym (M.rest ∙ rw s)

  -- block k lies in the list pages
  pub marking-in : (a : Arena) → sensible a (length lists) ≡ true → good_blocks a lists head count ≡ true → k < count
      → (size : ℕ) → size ≡ block_size (k + 3)
      → place + (size + link_size) ≤ length lists
  marking-in a s g h size e = rw (M.here, e) (block_in_lem a lists head k s (block_good a lists head k count h g))

module _ (m : Lent) (at : ℕ) (h : Header) (marks next : List ℕ) (n : ℕ) (e : n ≡ key_length m.keys at) where
  pub lane_first : marks_out true next ≡ mark_span marks at (n + record_extra) → step 7 next ≡ lane_marked m at h marks
  unfolding lane_marked
  lane_first f =
      let s : marks_out true next ≡ mark_span marks at (key_length m.keys at + record_extra) = rw e at f in
      ap (λ (o : MarksOut). step_of (on_marks o (λ next.
      mark_blocks next (length m.keys) m.lists h.head (block_count h) 0))) s

  pub lane-then : marks_out false next ≡ mark_span marks at (n + record_extra) → (b : Bool) (last : List ℕ)
      → marks_out b last ≡ mark_blocks next (length m.keys) m.lists h.head (block_count h) 0
      → step (cond b 7 0) last ≡ lane_marked m at h marks
  unfolding lane_marked
  lane-then f b last g =
      let s : marks_out false next ≡ mark_span marks at (key_length m.keys at + record_extra) = rw e at f in
      ap step_of g ∙ ap (λ (o : MarksOut). step_of (on_marks o
      (λ next. mark_blocks next (length m.keys) m.lists h.head (block_count h) 0))) s

-- ---- a bucket, and all of them

module _ (st : State) (m : Lent) (i : ℕ) (marks : List ℕ) where
  pub over_vacant : vacant st m i ≡ true → step 0 marks ≡ looked_over st m i marks
  unfolding looked_over
  over_vacant v = rw v

  module _ (v : vacant st m i ≡ false) (at r : ℕ) (p : at ≡ record_in st m i) (j : r ≡ judged st m i at) where
    pub over_judged : (r ≡ 0 → ⊥) → step r marks ≡ looked_over st m i marks
    unfolding looked_over
    over_judged n =
        let k : r ≡ judged st m i (record_in st m i) = rw p at j in
        let z : eqb (judged st m i (record_in st m i)) 0 ≡ false = rw k at (ne_eqb r 0 n) in
        rw (v, z, k)

    pub over_marked : r ≡ 0 → (h : Header) → h ≡ header_of m.keys at → (s : Step) → s ≡ lane_marked m at h marks
        → s ≡ looked_over st m i marks
    unfolding looked_over
    over_marked n h q s f =
        let k : r ≡ judged st m i (record_in st m i) = rw p at j in
        let z : eqb (judged st m i (record_in st m i)) 0 ≡ true = rw k at (eq-eqb r 0 n) in
        let g : s ≡ lane_marked m (record_in st m i) (header_in st m i) marks = f ∙ rw (q, p) in
        g ∙ rw (v, z)

gone-turn : (st : State) (m : Lent) (n i count : ℕ) (marks : List ℕ)
    → gone_over st m (suc n) i count marks
    ≡ cond (eqb (looked_over st m i marks).fault 0) (gone_over st m n (i + 1) (counted_on st m i count)
    (looked_over st m i marks).marks)
    (out (Faulty i (looked_over st m i marks).fault) (looked_over st m i marks).marks)
unfolding gone_over
gone-turn st m n i count marks = refl

module _ (st : State) (m : Lent) (n i count : ℕ) (marks next : List ℕ) (r : ℕ)
    (s : step r next ≡ looked_over st m i marks) (some : 0 < n) where
  fault_is : (looked_over st m i marks).fault ≡ r
  fault_is = sym (ap (λ (x : Step). x.fault) s)

  marks_are : (looked_over st m i marks).marks ≡ next
  marks_are = sym (ap (λ (x : Step). x.marks) s)

  pub gone_stop : (r ≡ 0 → ⊥) → out (Faulty i r) next ≡ gone_over st m n i count marks
  gone_stop z = at n some
    where
      at : (n : ℕ) → 0 < n → out (Faulty i r) next ≡ gone_over st m n i count marks
      at zero h = absurd (omega arith)
      at (suc n) h = sym (gone-turn st m n i count marks ∙ rw (fault_is, marks_are, ne_eqb r 0 z))

  pub gone-on : r ≡ 0 → (counted : ℕ) → counted ≡ counted_on st m i count
      → gone_over st m n i count marks ≡ gone_over st m (n - 1) (i + 1) counted next
  gone-on z counted c = at n some
    where
      at : (n : ℕ) → 0 < n → gone_over st m n i count marks ≡ gone_over st m (n - 1) (i + 1) counted next
      at zero h = absurd (omega arith)
      at (suc n) h =
          let q : suc n - 1 ≡ n = omega arith in
          gone-turn st m n i count marks ∙ rw (q, c, fault_is, marks_are, eq-eqb r 0 z)

pub gone-end : (st : State) (m : Lent) (n i count : ℕ) (marks : List ℕ) (b : Bool) → n ≡ 0 → eqb st.keys count ≡ b
    → out (cond b Sound Miscounted) marks ≡ gone_over st m n i count marks
unfolding gone_over
gone-end st m n i count marks b e f = rw (e, f)

-- what holds while buckets are gone over
pub record Going (st : State) (m : Lent) (marks₀ marks : List ℕ) (i count : ℕ) : Type 0 where
  pub at_most : i ≤ st.buckets
  pub few : count ≤ i
  pub kept : length marks ≡ length marks₀
  pub rest : gone_over st m st.buckets 0 0 marks₀ ≡ gone_over st m (st.buckets - i) i count marks

pub going-begun : (st : State) (m : Lent) (marks : List ℕ) → Going st m marks marks 0 0
going-begun st m marks = record {
  at_most = omega arith;
  few = omega arith;
  kept = refl;
  rest = let s : st.buckets - 0
      ≡ st.buckets = omega arith in rw s;
}

module _ {st : State} {m : Lent} {marks₀ marks : List ℕ} {i count : ℕ} (G : Going st m marks₀ marks i count) where
  module _ (h : i < st.buckets) (r : ℕ) (next : List ℕ) (s : step r next ≡ looked_over st m i marks) where
    pub going_stop : (r ≡ 0 → ⊥) → out (Faulty i r) next ≡ gone_over st m st.buckets 0 0 marks₀
    going_stop z = gone_stop st m (st.buckets - i) i count marks next r s (omega arith) z ∙ sym G.rest

    pub going_next : r ≡ 0 → length next ≡ length marks → (counted : ℕ) → counted ≡ counted_on st m i count
        → counted ≤ i + 1 → Going st m marks₀ next (i + 1) counted
    going_next z k counted c f = record {
      at_most = omega arith;
      few = f;
      kept = k ∙ G.kept;
      rest =
          let q : st.buckets - i - 1 ≡ st.buckets - (i + 1) = omega arith in
          G.rest ∙ rw q at (gone-on st m (st.buckets - i) i count marks next r s (omega arith) z counted c);
    }

  pub going_end : st.buckets ≤ i → (b : Bool) → eqb st.keys count ≡ b
      → out (cond b Sound Miscounted) marks ≡ gone_over st m st.buckets 0 0 marks₀
  going_end h b e = gone-end st m (st.buckets - i) i count marks b (omega arith) e ∙ sym G.rest

-- ---- the call

module _ (st : State) (m : Lent) (marks : List ℕ) where
  pub check_2 : checked st m ≡ false → out (Refused 2 0) marks ≡ check_of st m marks
  unfolding check_of
  check_2 e = rw e

  pub check_8 : checked st m ≡ true → length marks < marks_needed m
      → out (Refused 8 (marks_needed m)) marks ≡ check_of st m marks
  unfolding check_of
  check_8 e h = rw (e, lt-leb (marks_needed m) (length marks) h)

  -- cleared, gone over, and cleared again
  pub check_done : (W : checked st m ≡ true) → marks_needed m ≤ length marks → (clear gone last : List ℕ) (r : Checked)
      → clear ≡ replicate (length marks) 0
      → out r gone ≡ gone_over st m st.buckets 0 0 clear → length gone ≡ length clear
      → last ≡ replicate (length gone) 0 → out r last ≡ check_of st m marks
  unfolding check_of
  check_done W h clear gone last r c g k l =
      let n : length clear ≡ length marks = ap length c ∙ length-replicate (length marks) 0 in
      let v : r ≡ verdict_of st m = ap (λ (o : Out). o.answer) g
      ∙ ap (λ (x : List ℕ). (gone_over st m st.buckets 0 0 x).answer) c
      ∙ gone_verdict st m W (length marks) (omega arith) in
      let s : length gone ≡ length marks = k ∙ n in
      rw (W, le-leb (marks_needed m) (length marks) h, v, l, s)

-- each answer is none of the refusals, or one of those listed
verdict_fair : (st : State) (m : Lent) (n i : ℕ) → permitted checking (said_checked (verdict_from st m n i)) ≡ true
unfolding verdict_from
verdict_fair st m zero i = go (eqb st.keys (entries st m i))
  where
    go : (b : Bool) → permitted checking (said_checked (cond b Sound Miscounted)) ≡ true
    go true = refl
    go false = refl
verdict_fair st m (suc n) i = go (eqb (fault_in st m i) 0) (verdict_fair st m n (i + 1))
  where
    go : (b : Bool) → permitted checking (said_checked (verdict_from st m n (i + 1))) ≡ true
        → permitted checking (said_checked (cond b (verdict_from st m n (i + 1)) (Faulty i (fault_in st m i)))) ≡ true
    go true f = f
    go false f = refl

fair : (st : State) (m : Lent) (marks : List ℕ) → permitted checking (said_checked (check_of st m marks).answer) ≡ true
unfolding check_of verdict_of
fair st m marks = go (checked st m) (leb (marks_needed m) (length marks))
  where
    go : (b c : Bool)
        → permitted checking (said_checked (cond b
        (cond c (out (verdict_from st m st.buckets 0) (replicate (length marks) 0))
        (out (Refused 8 (marks_needed m)) marks)) (out (Refused 2 0) marks)).answer)
        ≡ true
    go true true = verdict_fair st m st.buckets 0
    go true false = refl
    go false c = refl

pub told : (st : State) (m : Lent) (marks : List ℕ) (r : Checked) (left : List ℕ) → out r left ≡ check_of st m marks
    → (out r left ≡ check_of st m marks) × (permitted checking (said_checked r) ≡ true)
told st m marks r left e = (e, ap (λ (x : Out). permitted checking (said_checked x.answer)) e ∙ fair st m marks)
