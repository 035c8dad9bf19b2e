-- A memory without fault lies as `Laid` says. Assumes nothing.
use Prim.Native.Nat.{ℕ, zero, suc, ◌+◌, ◌-◌, ◌≤◌, ◌<◌}
use mathlib.Core.Path.{◌≡◌, refl, sym, ap, ◌∙◌, subst}
use mathlib.Core.Logic.{◌⊎◌, inl, inr, ⊎_elim}
use mathlib.Core.Bool.{Bool, true, false, cond, ◌&&◌, ◌||◌, not}
use mathlib.Core.Option.{none, some}
use mathlib.Core.List.{List}
use native.Mathlib.Nat.{zero-add}
use native.Mathlib.Omega.{arith}
use native.Mathlib.Decide.{ℕ_discrete, dec_le}
use lib.Dec.{eqb, ltb}
use lib.ListN.{length}
use borrow.Author.Tests.{eqb-true, eqb-false, ltb-true, ltb-false}
use Rattle.limits.specs.Limits.{arena_limit, fresh_number, record_extra}
use Rattle.numbers.proofs.Tests.{both, not_both}
use Rattle.spans.specs.Span.{Apart}
use Rattle.spans.proofs.Laws.{length_span}
use Rattle.murmurhash2.specs.Murmur.{murmur_hash2}
use Rattle.memory_arena.specs.Pages.{standing, good_span}
use Rattle.memory_arena.proofs.Laws.{sensible_facts, sensible_short, good-end, good_page}
use Rattle.shared_arena_hashmap.specs.declared.Met.{Met}
use Rattle.shared_arena_hashmap.specs.declared.Met.TheVariants.{Empty, Standing, Damaged, Lap}
use Rattle.shared_arena_hashmap.specs.Buckets.{hash_at}
use Rattle.records.specs.Record.{key_length, key_at, value_place, header_of, header_sound}
use Rattle.records.proofs.Laws.{good-record-in}
use Rattle.shared_arena_hashmap.proofs.Laws.{power_facts}
use Rattle.expull_header.specs.declared.Header.{Header}
use Rattle.expull_header.specs.Header.{fresh, block_size, block_count, end_bytes_at}
use Rattle.expull_walk.specs.Blocks.{block_place}
use Rattle.expull_header.proofs.Laws.{SoundHeader, sound_facts}
use Rattle.expull_walk.proofs.Laws.{block_good}
use Rattle.store_state.specs.declared.State.{State}
use Rattle.store_state.specs.State.{first_of}
use Rattle.store_look.specs.Look.{Lent, checked, walk_of, in_order}
use Rattle.store_state.proofs.Whole.{Whole, whole_facts, first-in}
use Rattle.history_lanes.specs.Lane.{size_on}
use Rattle.history_lanes.proofs.Blocks.{apart_sym}
use Rattle.history_names.specs.Table.{Names, name_at, Shows, Table}
use Rattle.history_names.proofs.Walk.{clash, named-below}
use Rattle.brownout_faults.specs.Check.{vacant, record_in, name_in, header_in, found_met, found_in, block_in}
use Rattle.brownout_faults.specs.Check.{block_wide, tail_good, overlap, record_wide, record_met, block_met, lane_met}
use Rattle.brownout_faults.specs.Check.{blocks_meet, overlaps_in, entries}
use Rattle.brownout_faults.specs.Promises.{Faultless}
use Rattle.brownout_faults.proofs.Faults.{Clean, clean_facts}
use Rattle.brownout_faults.proofs.Where.{names_from, length-names, name-full, name_none, count_names, walk-found}
use Rattle.brownout_faults.proofs.Where.{walk-reached}
use Rattle.brownout_kept.specs.Laid.{Ends, Chain, Ghosts, Laid}
use Rattle.brownout_kept.proofs.Indexed.{wide_at, places_to, places-length, places-links, places-oldest}
use Rattle.brownout_kept.proofs.Indexed.{places-below, places-paged, places-clear, places-own, places-apart}

-- ---- tests that fail

neither : (a b : Bool) → (a || b) ≡ false → (a ≡ false) × (b ≡ false)
neither true b e = not_both true refl e
neither false b e = (refl, e)

overlap-apart : (p n q k : ℕ) → overlap p n q k ≡ false → Apart p n q k
overlap-apart p n q k e = go (ltb p (q + k)) refl (ltb q (p + n)) refl e
  where
    go : (a : Bool) → ltb p (q + k) ≡ a → (b : Bool) → ltb q (p + n) ≡ b → (a && b) ≡ false → Apart p n q k
    go true x true y f = not_both true refl f
    go true x false y f = inl (ltb-false q (p + n) y)
    go false x b y f = inr (ltb-false p (q + k) x)

module _ (st : State) (m : Lent) where
  record_unmet : (i p w : ℕ) → record_met st m i p w ≡ false → (j : ℕ) → j < i → vacant st m j ≡ false
      → Apart p w (record_in st m j) (record_wide st m j)
  unfolding record_met
  record_unmet zero p w e j h v = absurd (omega arith)
  record_unmet (suc i) p w e j h v =
      go (ℕ_discrete j i) (λ f l. record_unmet i p w f j l v) (neither (record_met st m i p w) _ e)
    where
      go : Dec (j ≡ i)
          → (record_met st m i p w ≡ false → j < i → Apart p w (record_in st m j) (record_wide st m j))
          → (record_met st m i p w ≡ false)
          × ((not (vacant st m i) && overlap p w (record_in st m i) (record_wide st m i)) ≡ false)
          → Apart p w (record_in st m j) (record_wide st m j)
      go (yes q) f r =
          let u : vacant st m i ≡ false = rw (← q) v in
          rw q (overlap-apart p w (record_in st m i) (record_wide st m i) (rw u at r.1))
      go (no q) f r = f r.0 (omega arith)

  block_unmet : (g : Header) (n p w : ℕ) → block_met m g n p w ≡ false → (j : ℕ) → j < n
      → Apart p w (block_in m g j) (block_wide j)
  unfolding block_met
  block_unmet g zero p w e j h = absurd (omega arith)
  block_unmet g (suc n) p w e j h =
      go (ℕ_discrete j n) (λ f l. block_unmet g n p w f j l) (neither (block_met m g n p w) _ e)
    where
      go : Dec (j ≡ n) → (block_met m g n p w ≡ false → j < n → Apart p w (block_in m g j) (block_wide j))
          → (block_met m g n p w ≡ false) × (overlap p w (block_in m g n) (block_wide n) ≡ false)
          → Apart p w (block_in m g j) (block_wide j)
      go (yes q) f r = rw q (overlap-apart p w (block_in m g n) (block_wide n) r.1)
      go (no q) f r = f r.0 (omega arith)

  lane_unmet : (i p w : ℕ) → lane_met st m i p w ≡ false → (j : ℕ) → j < i → vacant st m j ≡ false
      → block_met m (header_in st m j) (block_count (header_in st m j)) p w ≡ false
  unfolding lane_met
  lane_unmet zero p w e j h v = absurd (omega arith)
  lane_unmet (suc i) p w e j h v =
      go (ℕ_discrete j i) (λ f l. lane_unmet i p w f j l v) (neither (lane_met st m i p w) _ e)
    where
      go : Dec (j ≡ i)
          → (lane_met st m i p w ≡ false → j < i
          → block_met m (header_in st m j) (block_count (header_in st m j)) p w ≡ false)
          → (lane_met st m i p w ≡ false)
          × ((not (vacant st m i) && block_met m (header_in st m i) (block_count (header_in st m i)) p w) ≡ false)
          → block_met m (header_in st m j) (block_count (header_in st m j)) p w ≡ false
      go (yes q) f r =
          let u : vacant st m i ≡ false = rw (← q) v in
          rw q (rw u at r.1)
      go (no q) f r = f r.0 (omega arith)

  -- block k of bucket i's lane has met neither an earlier lane nor an earlier block
  abbrev Alone : ℕ → ℕ → Type 0
  Alone i k =
      (lane_met st m i (block_in m (header_in st m i) k) (block_wide k) ≡ false)
      × (block_met m (header_in st m i) k (block_in m (header_in st m i) k) (block_wide k) ≡ false)

  blocks_unmet : (i n : ℕ) → blocks_meet st m i n ≡ false → (k : ℕ) → k < n → Alone i k
  unfolding blocks_meet
  blocks_unmet i zero e k h = absurd (omega arith)
  blocks_unmet i (suc n) e k h =
      go (ℕ_discrete k n) (λ f l. blocks_unmet i n f k l) (neither (blocks_meet st m i n) _ e)
    where
      go : Dec (k ≡ n) → (blocks_meet st m i n ≡ false → k < n → Alone i k)
          → (blocks_meet st m i n ≡ false)
          × ((lane_met st m i (block_in m (header_in st m i) n) (block_wide n)
          || block_met m (header_in st m i) n (block_in m (header_in st m i) n) (block_wide n)) ≡ false)
          → Alone i k
      go (yes q) f r =
          rw q (neither (lane_met st m i (block_in m (header_in st m i) n) (block_wide n))
          (block_met m (header_in st m i) n (block_in m (header_in st m i) n) (block_wide n)) r.1)
      go (no q) f r = f r.0 (omega arith)

-- ---- a found name

found-met : (n : ℕ) (x : Met) → found_met n x ≡ true → (y : ℕ) × (x ≡ Standing y) × (0 < n)
found-met n Empty e = not_both false e refl
found-met n (Standing y) e = (y, refl, ltb-true 0 n e)
found-met n Damaged e = not_both false e refl
found-met n Lap e = not_both false e refl

same_name : (k n : List ℕ) → some k ≡ some n → k ≡ n
same_name k n e = cc

module _ (st : State) (m : Lent) (W : checked st m ≡ true) (F : Faultless st m) where
  whole : Whole st (length m.table) (length m.keys) (length m.lists)
  whole = whole_facts st (length m.table) (length m.keys) (length m.lists) W

  some_bucket : 0 < st.buckets
  some_bucket = (power_facts st.buckets whole.power).some

  lists_stand : standing st.list_arena (length m.lists) ≡ true
  lists_stand = (sensible_facts st.list_arena (length m.lists) whole.list_arena).stands

  lists_short : length m.lists ≤ arena_limit
  lists_short = sensible_short st.list_arena (length m.lists) whole.list_arena

  -- ---- the names

  abbrev g : Names
  g = names_from st m st.buckets 0

  abbrev place : List ℕ → ℕ
  place k = record_in st m (in_order st k (walk_of st m k).looked)

  full-name : (i : ℕ) → i < st.buckets → vacant st m i ≡ false → name_at g i ≡ some (name_in st m i)
  full-name i h v = rw (zero-add i) at (name-full st m st.buckets 0 i h (rw (zero-add i) v))

  empty_name : (i : ℕ) → i < st.buckets → vacant st m i ≡ true → name_at g i ≡ none
  empty_name i h v = name_none st m st.buckets 0 i h (rw (zero-add i) v)

  -- bucket i holds the name k
  pub record At (i : ℕ) (k : List ℕ) : Type 0 where
    pub inside : i < st.buckets
    pub full : vacant st m i ≡ false
    pub key : name_in st m i ≡ k
    pub clean : Clean st m i
    pub some_byte : 0 < length k
    pub looked : in_order st k (walk_of st m k).looked ≡ i
    pub stands : (x : ℕ) × ((walk_of st m k).met ≡ Standing x)
    pub hashed : hash_at m.table (first_of st + i) ≡ murmur_hash2 st.seed k
    pub wide : record_wide st m i ≡ length k + record_extra

  key_length_lem : (i : ℕ) → Clean st m i → length (name_in st m i) ≡ key_length m.keys (record_in st m i)
  unfolding key_at
  key_length_lem i C =
      length_span (record_in st m i + 2) (key_length m.keys (record_in st m i)) m.keys
      (omega (arith, good-record-in st.key_arena m.keys (record_in st m i) whole.key_arena C.good))

  found-parts : (k : List ℕ) (i : ℕ) → found_in st m k i ≡ true
      → (found_met (length k) (walk_of st m k).met ≡ true) × (in_order st k (walk_of st m k).looked ≡ i)
  unfolding found_in
  found-parts k i e =
      let b = both (found_met (length k) (walk_of st m k).met) (eqb (in_order st k (walk_of st m k).looked) i) e in
      (b.0, eqb-true _ _ b.1)

  at-full : (i : ℕ) → i < st.buckets → vacant st m i ≡ false → At i (name_in st m i)
  at-full i h v =
      let C : Clean st m i = clean_facts st m i v (F.clean i h) in
      let k : List ℕ = name_in st m i in
      let b = found-parts k i C.found in
      let f = found-met (length k) (walk_of st m k).met b.0 in
      let l : in_order st k (walk_of st m k).looked ≡ i = b.1 in
      let r = walk-found st m some_bucket k f.0 f.1 in
      let e : r.0 ≡ i = r.1.looked-at ∙ l in
      record {
        inside = h;
        full = v;
        key = refl;
        clean = C;
        some_byte = f.2;
        looked = l;
        stands = (f.0, f.1);
        hashed = ap (λ (b : ℕ). hash_at m.table (first_of st + b)) (sym e) ∙ r.1.hashed;
        wide = ap (λ (n : ℕ). n + record_extra) (sym (key_length_lem i C));
      }

  at-bucket : (k : List ℕ) (i : ℕ) → name_at g i ≡ some k → At i k
  at-bucket k i e = go (vacant st m i) refl
    where
      h : i < st.buckets
      h = omega (arith, named-below g i k e, length-names st m st.buckets 0)

      go : (v : Bool) → vacant st m i ≡ v → At i k
      go true v = clash (empty_name i h v) e
      go false v = subst (At i) (same_name (name_in st m i) k (sym (full-name i h v) ∙ e)) (at-full i h v)

  placed : (i : ℕ) (k : List ℕ) → At i k → place k ≡ record_in st m i
  placed i k A = ap (record_in st m) A.looked

  laid_table : Table m.table (first_of st) st.buckets (murmur_hash2 st.seed) place g
  laid_table = record {
    some_bucket = some_bucket;
    inside = first-in st (length m.table) whole.words_is whole.buckets_le;
    long = length-names st m st.buckets 0;
    shows = λ i h. shows i h (vacant st m i) refl;
    reachable = λ k M. let A = at-bucket k M.0 M.1 in
        walk-reached st m some_bucket k g (λ b h v. full-name b h v) A.stands.0 A.stands.1;
    once = λ k i j p q. sym (at-bucket k i p).looked ∙ (at-bucket k j q).looked;
  }
    where
      shows : (i : ℕ) → i < st.buckets → (v : Bool) → vacant st m i ≡ v
          → Shows m.table (first_of st + i) (murmur_hash2 st.seed) place (name_at g i)
      shows i h true v = rw (empty_name i h v) (eqb-true _ _ v)
      shows i h false v =
          let A : At i (name_in st m i) = at-full i h v in
          let p : place (name_in st m i) ≡ record_in st m i = placed i (name_in st m i) A in
          rw (full-name i h v) (sym p, A.hashed, λ z. eqb-false _ _ v (sym p ∙ z))

  -- two names lie in two buckets, one of them earlier
  two : (k n : List ℕ) (i j : ℕ) → At i k → At j n → (k ≡ n → ⊥) → (i < j) ⊎ (j < i)
  two k n i j A B d = go (ℕ_discrete i j) (dec_le i j)
    where
      go : Dec (i ≡ j) → Dec (i ≤ j) → (i < j) ⊎ (j < i)
      go (yes p) q = absurd (d (sym A.key ∙ ap (name_in st m) p ∙ B.key))
      go (no p) (yes q) = inl (omega arith)
      go (no p) (no q) = inr (omega arith)

  -- ---- the records

  records-beside : (k n : List ℕ) (i j : ℕ) → At i k → At j n → j < i
      → Apart (place k) (length k + record_extra) (place n) (length n + record_extra)
  unfolding overlaps_in
  records-beside k n i j A B h =
      let e = (neither (record_met st m i (record_in st m i) (record_wide st m i)) _ A.clean.alone).0 in
      rw (placed i k A, placed j n B, ← A.wide, ← B.wide)
      (record_unmet st m i (record_in st m i) (record_wide st m i) e j h B.full)

  -- ---- the lists

  abbrev head : List ℕ → Header
  head k = header_of m.keys (place k)

  abbrev blocks : List ℕ → List ℕ
  blocks k = places_to m.lists (head k).head (block_count (head k))

  headed : (i : ℕ) (k : List ℕ) → At i k → head k ≡ header_in st m i
  headed i k A = ap (header_of m.keys) (placed i k A)

  module _ (i : ℕ) (k : List ℕ) (A : At i k) where
    abbrev h : Header
    h = header_in st m i

    sound : SoundHeader h (end_bytes_at (value_place m.keys (record_in st m i)) m.keys)
    unfolding header_sound
    sound = sound_facts h (end_bytes_at (value_place m.keys (record_in st m i)) m.keys) A.clean.header

    spans : (b : ℕ) → b < block_count h → good_span st.list_arena (block_in m h b) (wide_at b) ≡ true
    spans b l = block_good st.list_arena m.lists h.head b (block_count h) l A.clean.blocks

    meets : (b : ℕ) → b < block_count h → (lane_met st m i (block_in m h b) (block_wide b) ≡ false)
        × (block_met m h b (block_in m h b) (block_wide b) ≡ false)
    unfolding overlaps_in
    meets b l =
        blocks_unmet st m i (block_count h)
        (neither (record_met st m i (record_in st m i) (record_wide st m i)) _ A.clean.alone).1 b l

    list_ends : Ends h (places_to m.lists h.head (block_count h))
    unfolding tail_good
    list_ends = go (eqb h.number fresh_number) refl A.clean.tail
      where
        some_blocks : (c : ℕ) → h.number ≡ c + 3
            → h.tail ≡ block_in m h c + (block_size h.number - h.remaining)
            → Ends h (places_to m.lists h.head (suc c))
        some_blocks c e t =
            let r : h.remaining ≤ block_size h.number = sound.shape.within in
            let l : size_on (places_to m.lists h.head c) ≡ block_size h.number =
            ap (λ (n : ℕ). block_size (n + 3)) (places-length m.lists h.head c) ∙ ap block_size (sym e) in
            (sym (places-oldest m.lists h.head c), rw l r, rw l (omega (arith, t)))

        go : (b : Bool) → eqb h.number fresh_number ≡ b
            → cond b true (eqb h.tail (block_in m h (block_count h - 1) + (block_size h.number - h.remaining)))
            ≡ true
            → Ends h (places_to m.lists h.head (block_count h))
        go true q f =
            let e : h.number ≡ fresh_number = eqb-true _ _ q in
            let c : block_count h ≡ 0 = omega arith in
            let s : h ≡ fresh = sound.shape.without e in
            rw c (ap (λ (x : Header). x.head) s, ap (λ (x : Header). x.tail) s, ap (λ (x : Header). x.remaining) s)
        go false q f =
            let n : h.number ≡ fresh_number → ⊥ = eqb-false _ _ q in
            let u : fresh_number ≤ h.number = sound.shape.from in
            let c : block_count h ≡ suc (block_count h - 1) = omega arith in
            rw c (some_blocks (block_count h - 1) (omega arith) (eqb-true _ _ f))

    list_chain : Chain m.lists st.list_arena h (places_to m.lists h.head (block_count h))
    list_chain = record {
      number = let u : fresh_number ≤ h.number = sound.shape.from in
          omega (arith, places-length m.lists h.head (block_count h));
      links = places-links m.lists h.head (block_count h);
      below = places-below m.lists h.head _ (block_count h)
          (λ b l. good-end st.list_arena (block_in m h b) (wide_at b) (length m.lists) lists_stand
          (spans b l));
      paged = places-paged m.lists h.head st.list_arena.size (block_count h)
          (λ b l. good_page st.list_arena (block_in m h b) (wide_at b) (length m.lists) lists_stand
          (spans b l));
      ends = list_ends;
      own = places-own m.lists h.head (block_count h)
          (λ b c p q. block_unmet st m h c (block_in m h c) (wide_at c) (meets c q).1 b p);
      stands = lists_stand;
      short = lists_short;
    }

  -- the later of two lists shares no place with the earlier
  lists-beside : (k n : List ℕ) (i j : ℕ) → At i k → At j n → j < i → (b c : ℕ) → b < block_count (header_in st m i)
      → c < block_count (header_in st m j)
      → Apart (block_in m (header_in st m i) b) (wide_at b) (block_in m (header_in st m j) c) (wide_at c)
  lists-beside k n i j A B h b c p q =
      block_unmet st m (header_in st m j) (block_count (header_in st m j)) (block_in m (header_in st m i) b) (wide_at b)
      (lane_unmet st m i (block_in m (header_in st m i) b) (wide_at b) (meets i k A b p).0 j h B.full) c q

  lists-apart : (k n : List ℕ) (i j : ℕ) → At i k → At j n → (k ≡ n → ⊥) → (b c : ℕ) → b < block_count (head k)
      → c < block_count (head n)
      → Apart (block_place m.lists (head k).head b) (wide_at b) (block_place m.lists (head n).head c) (wide_at c)
  lists-apart k n i j A B d b c p q =
      rw (headed i k A, headed j n B)
      (⊎_elim
      (λ (l : i < j). apart_sym _ _ _ _
      (lists-beside n k j i B A l c b (rw (headed j n B) at q) (rw (headed i k A) at p)))
      (λ (l : j < i). lists-beside k n i j A B l b c (rw (headed i k A) at p) (rw (headed j n B) at q))
      (two k n i j A B d))

  -- ---- all of it

  abbrev pub ghosts : Ghosts
  ghosts = record { names = g; place = place; blocks = blocks }

  pub faultless_laid : Laid st m ghosts
  unfolding entries
  faultless_laid = record {
    whole = W;
    table = laid_table;
    counted =
        let s : 0 + st.buckets ≡ st.buckets = omega arith in
        F.counted ∙ sym (rw s at (count_names st m st.buckets 0)) ∙ omega arith;
    good = λ k M. let A = at-bucket k M.0 M.1 in rw (placed M.0 k A) A.clean.good;
    key = λ k M. let A = at-bucket k M.0 M.1 in ap (key_at m.keys) (placed M.0 k A) ∙ A.key;
    named = λ k M. (at-bucket k M.0 M.1).some_byte;
    header = λ k M. let A = at-bucket k M.0 M.1 in rw (placed M.0 k A) A.clean.header;
    records_apart = λ k n M N d.
        let A = at-bucket k M.0 M.1 in
        let B = at-bucket n N.0 N.1 in
        ⊎_elim (λ l. apart_sym _ _ _ _ (records-beside n k N.0 M.0 B A l))
        (λ l. records-beside k n M.0 N.0 A B l) (two k n M.0 N.0 A B d);
    chain = λ k M. let A = at-bucket k M.0 M.1 in rw (headed M.0 k A) (list_chain M.0 k A);
    chains_apart = λ k n M N d.
        let A = at-bucket k M.0 M.1 in
        let B = at-bucket n N.0 N.1 in
        places-apart m.lists (head k).head (blocks n) (block_count (head k))
        (λ b p. places-clear m.lists (head n).head (block_place m.lists (head k).head b) (wide_at b)
        (block_count (head n)) (λ c q. lists-apart k n M.0 N.0 A B d b c p q));
  }
