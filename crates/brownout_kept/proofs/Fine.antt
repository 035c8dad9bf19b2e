-- A memory that lies as `Laid` says has no fault. Assumes nothing.
use Prim.Native.Nat.{ℕ, zero, suc, ◌+◌, ◌-◌, ◌≤◌, ◌<◌}
use mathlib.Core.Path.{◌≡◌, refl, sym, ap, ◌∙◌}
use mathlib.Core.Logic.{inl, inr}
use mathlib.Core.Bool.{Bool, true, false, cond, ◌&&◌, ◌||◌, not}
use mathlib.Core.Option.{Option, none, some}
use mathlib.Core.List.{List, [], ◌∷◌}
use native.Mathlib.Omega.{arith}
use lib.Dec.{eqb, ltb}
use lib.ListN.{length, take}
use lib.Seq.{take-suc, take_all}
use borrow.Author.Tests.{lt-ltb, le-ltb, eq-eqb, eqb-false}
use Rattle.limits.specs.Limits.{fresh_number, record_extra}
use Rattle.numbers.proofs.Tests.{both_true, not_both, left_false, right_false}
use Rattle.fastcmp.specs.Equal.{equal_bytes}
use Rattle.fastcmp.proofs.Laws.{equal_not}
use Rattle.spans.specs.Span.{Apart}
use Rattle.spans.proofs.Laws.{length_span}
use Rattle.shared_arena_hashmap.specs.declared.Met.TheVariants.{Standing}
use Rattle.records.specs.Record.{key_length, key_at, header_of}
use Rattle.records.proofs.Laws.{good-record-in}
use Rattle.expull_header.specs.declared.Header.{Header}
use Rattle.expull_header.specs.Header.{block_size, block_count}
use Rattle.expull_walk.specs.Blocks.{good_blocks}
use Rattle.store_state.specs.declared.State.{State}
use Rattle.store_look.specs.Look.{Lent, walk_of}
use Rattle.store_state.proofs.Whole.{Whole, whole_facts}
use Rattle.history_names.specs.Table.{name_at, occupied}
use Rattle.history_names.proofs.Walk.{occupied-append}
use Rattle.history_names.proofs.Lookup.{empty_bucket, named-shows, named-bucket, finds}
use Rattle.brownout_faults.specs.Check.{vacant, record_in, name_in, header_in, name_among, found_met, found_in, header_good}
use Rattle.brownout_faults.specs.Check.{blocks_good, block_in, block_wide, tail_good, overlap, record_wide, record_met}
use Rattle.brownout_faults.specs.Check.{block_met, lane_met, blocks_meet, overlaps_in, fault_in, entries}
use Rattle.brownout_faults.specs.Promises.{Faultless}
use Rattle.brownout_faults.proofs.Faults.{Clean, fault_vacant, clean_made}
use Rattle.brownout_faults.proofs.Where.{walk-found}
use Rattle.brownout_kept.specs.Laid.{Chain, Ghosts, Stands, Laid}
use Rattle.brownout_kept.proofs.Indexed.{chain-blocks, chain-beside, chain-own, chain-filled}

-- spans that share no place don't overlap
apart-clear : (p n q k : ℕ) → Apart p n q k → overlap p n q k ≡ false
apart-clear p n q k (inl h) = right_false (ltb p (q + k)) (ltb q (p + n)) (le-ltb q (p + n) h)
apart-clear p n q k (inr h) = left_false (ltb p (q + k)) (ltb q (p + n)) (le-ltb p (q + k) h)

or_false : (a b : Bool) → a ≡ false → b ≡ false → (a || b) ≡ false
or_false a b p q = rw (p, q)

module _ {st : State} {m : Lent} {G : Ghosts} (S : Laid st m G) where
  -- the header of a name's list
  abbrev head : List ℕ → Header
  head k = header_of m.keys (G.place k)

  whole : Whole st (length m.table) (length m.keys) (length m.lists)
  whole = whole_facts st (length m.table) (length m.keys) (length m.lists) S.whole

  pub laid-length : (k : List ℕ) → Stands G k → key_length m.keys (G.place k) ≡ length k
  unfolding key_at
  laid-length k M =
      let n : ℕ = key_length m.keys (G.place k) in
      let i : G.place k + (n + record_extra) ≤ length m.keys =
      good-record-in st.key_arena m.keys (G.place k) whole.key_arena (S.good k M) in
      sym (length_span (G.place k + 2) n m.keys (omega arith)) ∙ ap length (S.key k M)

  laid_finds : (k : List ℕ) → Stands G k → (walk_of st m k).met ≡ Standing (G.place k)
  unfolding walk_of
  laid_finds k M = finds S.table m.keys st.key_arena (λ n N. (S.good n N, S.key n N)) k M

  -- ---- a bucket by the name that stands there

  pub record Named (i : ℕ) (k : List ℕ) : Type 0 where
    pub named : name_at G.names i ≡ some k
    pub full : vacant st m i ≡ false
    pub place : record_in st m i ≡ G.place k
    pub key : name_in st m i ≡ k
    pub wide : record_wide st m i ≡ length k + record_extra
    pub header : header_in st m i ≡ head k

  named_facts : (i : ℕ) (k : List ℕ) → name_at G.names i ≡ some k → Named i k
  named_facts i k e =
      let p : record_in st m i ≡ G.place k = (named-shows S.table i k e).0 in
      record {
        named = e;
        full = named-bucket S.table i k e;
        place = p;
        key = ap (key_at m.keys) p ∙ S.key k (i, e);
        wide = ap (λ (x : ℕ). key_length m.keys x + record_extra) p
            ∙ ap (λ (n : ℕ). n + record_extra) (laid-length k (i, e));
        header = ap (header_of m.keys) p;
      }

  -- a bucket is vacant or has a name
  data Bucket (i : ℕ) : Type 0 where
    empty : name_at G.names i ≡ none → vacant st m i ≡ true → Bucket i
    holds : (k : List ℕ) → Named i k → Bucket i

  bucket : (i : ℕ) → i < st.buckets → Bucket i
  bucket i h = go (name_at G.names i) refl
    where
      go : (o : Option (List ℕ)) → name_at G.names i ≡ o → Bucket i
      go none e = empty e (empty_bucket S.table i h e)
      go (some k) e = holds k (named_facts i k e)

  -- two buckets hold different names
  other : (i j : ℕ) (k y : List ℕ) → Named i k → Named j y → j < i → y ≡ k → ⊥
  other i j k y N M h e =
      let q : j ≡ i = S.table.once k j i (M.named ∙ ap some e) N.named in
      omega arith

  -- ---- the faults of bucket i, which holds the name k

  module _ (i : ℕ) (k : List ℕ) (N : Named i k) (inside : i < st.buckets) where
    stands : Stands G k
    stands = (i, N.named)

    lane : Chain m.lists st.list_arena (head k) (G.blocks k)
    lane = S.chain k stands

    first : (n : ℕ) → n ≤ i → name_among st m k n ≡ false
    unfolding name_among
    first zero h = refl
    first (suc n) h = or_false _ _ (first n (omega arith)) (go (bucket n (omega arith)))
      where
        go : Bucket n → (not (vacant st m n) && equal_bytes (name_in st m n) k) ≡ false
        go (empty e v) = rw v
        go (holds y M) = rw M.full (equal_not (name_in st m n) k (λ e. other i n k y N M h (sym M.key ∙ e)))

    found : found_in st m k i ≡ true
    unfolding found_in
    found = both_true (found_met (length k) (walk_of st m k).met) _
        (ap (found_met (length k)) met ∙ lt-ltb 0 (length k) (S.named k stands))
        (eq-eqb _ _ (sym r.1.looked-at ∙ here (bucket r.0 r.1.inside)))
      where
        met : (walk_of st m k).met ≡ Standing (G.place k)
        met = laid_finds k stands

        r : (b : ℕ) × Rattle.brownout_faults.proofs.Where.FoundAt st m S.table.some_bucket k (G.place k) b
        r = walk-found st m S.table.some_bucket k (G.place k) met

        here : Bucket r.0 → r.0 ≡ i
        here (empty e v) = not_both (vacant st m r.0) v r.1.full
        here (holds y M) =
            let e : y ≡ k = sym M.key ∙ r.1.key in
            S.table.once k r.0 i (M.named ∙ ap some e) N.named

    header-good : header_good st m i ≡ true
    header-good = rw N.place (S.header k stands)

    blocks-good : blocks_good st m i ≡ true
    blocks-good =
        ap (λ (h : Header). good_blocks st.list_arena m.lists h.head (block_count h)) N.header
        ∙ chain-blocks lane (block_count (head k)) (omega arith)

    tail_good_lem : tail_good m (head k) ≡ true
    unfolding tail_good
    tail_good_lem = go (eqb (head k).number fresh_number) refl
      where
        go : (b : Bool) → eqb (head k).number fresh_number ≡ b
            → cond b true (eqb (head k).tail (block_in m (head k) (block_count (head k) - 1) +
            (block_size (head k).number - (head k).remaining))) ≡ true
        go true e = refl
        go false e = eq-eqb _ _ (chain-filled lane (eqb-false (head k).number fresh_number e))

    record-alone : (n : ℕ) → n ≤ i → record_met st m n (G.place k) (length k + record_extra) ≡ false
    unfolding record_met
    record-alone zero h = refl
    record-alone (suc n) h = or_false _ _ (record-alone n (omega arith)) (go (bucket n (omega arith)))
      where
        go : Bucket n → (not (vacant st m n) && overlap (G.place k) (length k + record_extra) (record_in st m n)
            (record_wide st m n)) ≡ false
        go (empty e v) = rw v
        go (holds y M) =
            rw (M.full, M.wide, M.place)
            (apart-clear (G.place k) (length k + record_extra) (G.place y) (length y + record_extra)
            (S.records_apart k y stands (n, M.named) (λ e. other i n k y N M h (sym e))))

    -- block b of the lane
    module _ (b : ℕ) (hb : b < block_count (head k)) where
      abbrev at : ℕ
      at = block_in m (head k) b

      own_alone : (n : ℕ) → n ≤ b → block_met m (head k) n at (block_wide b) ≡ false
      unfolding block_met
      own_alone zero h = refl
      own_alone (suc n) h =
          or_false _ _ (own_alone n (omega arith))
          (apart-clear at (block_wide b) (block_in m (head k) n) (block_wide n)
          (chain-own lane n b h hb))

      other_alone : (y : List ℕ) (M : Stands G y) → (k ≡ y → ⊥) → (n : ℕ) → n ≤ block_count (head y)
          → block_met m (head y) n at (block_wide b) ≡ false
      unfolding block_met
      other_alone y M d zero h = refl
      other_alone y M d (suc n) h =
          or_false _ _ (other_alone y M d n (omega arith))
          (apart-clear at (block_wide b) (block_in m (head y) n) (block_wide n)
          (chain-beside lane (S.chain y M) (S.chains_apart k y stands M d) b n hb h))

      lanes-alone : (n : ℕ) → n ≤ i → lane_met st m n at (block_wide b) ≡ false
      unfolding lane_met
      lanes-alone zero h = refl
      lanes-alone (suc n) h = or_false _ _ (lanes-alone n (omega arith)) (go (bucket n (omega arith)))
        where
          go : Bucket n → (not (vacant st m n) && block_met m (header_in st m n) (block_count (header_in st m n)) at
              (block_wide b)) ≡ false
          go (empty e v) = rw v
          go (holds y M) =
              rw M.full
              (ap (λ (h : Header). block_met m h (block_count h) at (block_wide b)) M.header
              ∙ other_alone y (n, M.named) (λ e. other i n k y N M h (sym e)) (block_count (head y)) (omega arith))

    lane-alone : (n : ℕ) → n ≤ block_count (head k) → blocks_meet st m i n ≡ false
    unfolding blocks_meet
    lane-alone zero h = refl
    lane-alone (suc n) h =
        rw N.header
        (or_false _ _ (lane-alone n (omega arith)) (or_false _ _ (lanes-alone n h i (omega arith))
        (own_alone n h n (omega arith))))

    alone : overlaps_in st m i ≡ false
    unfolding overlaps_in
    alone =
        or_false (record_met st m i (record_in st m i) (record_wide st m i)) _
        (rw (N.wide, N.place) (record-alone i (omega arith)))
        (ap (λ (h : Header). blocks_meet st m i (block_count h)) N.header
        ∙ lane-alone (block_count (head k)) (omega arith))

    named-clean : Clean st m i
    named-clean = record {
      good = rw N.place (S.good k stands);
      first = rw N.key (first i (omega arith));
      found = rw N.key found;
      header = header-good;
      blocks = blocks-good;
      tail = rw N.header tail_good_lem;
      alone = alone;
    }

  -- ---- the verdict

  bucket-clean : (i : ℕ) → i < st.buckets → fault_in st m i ≡ 0
  bucket-clean i h = go (bucket i h)
    where
      go : Bucket i → fault_in st m i ≡ 0
      go (empty e v) = fault_vacant st m i v
      go (holds k N) = clean_made st m i N.full (named-clean i k N h)

  entries_count : (i : ℕ) → i ≤ st.buckets → entries st m i ≡ occupied (take i G.names)
  unfolding entries
  entries_count zero h = refl
  entries_count (suc i) h =
      rw (take-suc G.names i none (omega (arith, S.table.long)))
      (go (bucket i h) (entries_count i (omega arith)) ∙ sym
      (occupied-append (take i G.names) (name_at G.names i ∷ [])))
    where
      go : Bucket i → entries st m i ≡ occupied (take i G.names)
          → cond (vacant st m i) (entries st m i) (suc (entries st m i))
          ≡ occupied (take i G.names) + occupied (name_at G.names i ∷ [])
      go (empty e v) ih = rw (v, e) (omega (arith, ih))
      go (holds k N) ih = rw (N.full, N.named) (omega (arith, ih))

  pub laid-faultless : Faultless st m
  laid-faultless = record {
    clean = bucket-clean;
    counted =
        S.counted
        ∙ sym (entries_count st.buckets (omega arith)
        ∙ ap occupied (take_all st.buckets G.names (omega (arith, S.table.long))));
  }
