-- The marks decide the overlap: what is marked is what was met, byte for byte, so going over the buckets comes to the
-- verdict. Assumes nothing.
use Prim.Native.Nat.{ℕ, zero, suc, ◌+◌, ◌-◌, ◌*◌, ◌≤◌, ◌<◌}
use mathlib.Core.Path.{◌≡◌, refl, sym, ap, ◌∙◌}
use mathlib.Core.Logic.{◌⊎◌, inl, inr, ⊎_elim}
use mathlib.Core.Bool.{Bool, true, false, cond, ◌&&◌, ◌||◌, not}
use mathlib.Core.List.{List}
use native.Mathlib.Numerals.{add-one}
use native.Mathlib.Nat.{add-zero}
use native.Mathlib.Omega.{arith}
use native.Mathlib.Decide.{ℕ_discrete, dec_le}
use lib.Dec.{ltb, eqb}
use lib.ListN.{length, replicate, length-replicate}
use borrow.Author.Tests.{eqb-true, eqb-false, lt-ltb, le-ltb, ltb-true}
use Rattle.numbers.proofs.Tests.{both, both_true, left_false, right_false, same_test, not_both}
use Rattle.marks.specs.Bits.{Out as MarksOut, marked, mark_span}
use Rattle.marks.proofs.Laws.{Spread, span_spreads, span_met, span_length, clear_unmarked}
use Rattle.records.proofs.Laws.{good-record-in}
use Rattle.shared_arena_hashmap.proofs.Laws.{power_facts}
use Rattle.expull_header.specs.declared.Header.{Header}
use Rattle.expull_header.specs.Header.{block_count}
use Rattle.expull_walk.proofs.Laws.{block_good, block_in_lem}
use Rattle.store_state.specs.declared.State.{State}
use Rattle.store_look.specs.Look.{Lent, checked}
use Rattle.store_state.proofs.Whole.{Whole, whole_facts}
use Rattle.brownout_faults.specs.declared.Checked.TheVariants.{Faulty}
use Rattle.brownout_faults.specs.Check.{vacant, record_in, header_in, block_in, block_wide, overlap, record_wide, record_met}
use Rattle.brownout_faults.specs.Check.{block_met, lane_met, blocks_meet, overlaps_in, fault_in, entries, verdict_from}
use Rattle.brownout_faults.specs.Check.{verdict_of, out}
use Rattle.brownout.specs.Code.{judged, mark_blocks, Step, step, step_of, lane_marked, looked_over, counted_on}
use Rattle.brownout.specs.Code.{gone_over}
use Rattle.brownout_faults.proofs.Faults.{fault_vacant}
use Rattle.brownout.proofs.Once.{either_true, or_left, or_right, Judged, judged_facts, judged_fault}

-- ---- tests on spans that are tests on their bytes

pub record Bytewise (f : ℕ → ℕ → Bool) : Type 0 where
  pub wide : (j p w : ℕ) → p ≤ j → j < p + w → f j 1 ≡ true → f p w ≡ true
  pub narrow : (p w : ℕ) → 0 < w → f p w ≡ true → (j : ℕ) × (p ≤ j) × (j < p + w) × (f j 1 ≡ true)

or_none_lem : (a b : Bool) → b ≡ false → (a || b) ≡ a
or_none_lem true b e = refl
or_none_lem false b e = e

or_assoc : (a b c : Bool) → ((a || b) || c) ≡ (a || (b || c))
or_assoc true b c = refl
or_assoc false b c = refl

bytewise_none : Bytewise (λ p w. false)
bytewise_none = record { wide = λ j p w a b e. e; narrow = λ p w a e. not_both false e refl }

bytewise_or : (f g : ℕ → ℕ → Bool) → Bytewise f → Bytewise g → Bytewise (λ p w. f p w || g p w)
bytewise_or f g F G = record {
  wide = λ j p w a b e. ⊎_elim (λ q. or_left (f p w) (g p w) (F.wide j p w a b q))
      (λ q. or_right (f p w) (g p w) (G.wide j p w a b q)) (either_true (f j 1) (g j 1) e);
  narrow = λ p w a e.
      ⊎_elim (λ q. let r = F.narrow p w a q in (r.0, r.1, r.2, or_left (f r.0 1) (g r.0 1) r.3))
      (λ q. let r = G.narrow p w a q in (r.0, r.1, r.2, or_right (f r.0 1) (g r.0 1) r.3))
      (either_true (f p w) (g p w) e);
}

bytewise_if : (b : Bool) (f : ℕ → ℕ → Bool) → Bytewise f → Bytewise (λ p w. b && f p w)
bytewise_if true f F = F
bytewise_if false f F = bytewise_none

bytewise-overlap : (q k : ℕ) → 0 < k → Bytewise (λ p w. overlap p w q k)
bytewise-overlap q k h = record { wide = wide; narrow = narrow }
  where
    wide : (j p w : ℕ) → p ≤ j → j < p + w → overlap j 1 q k ≡ true → overlap p w q k ≡ true
    wide j p w a b e =
        let r = both (ltb j (q + k)) (ltb q (j + 1)) e in
        let x : j < q + k = ltb-true _ _ r.0 in
        let y : q < j + 1 = ltb-true _ _ r.1 in
        both_true (ltb p (q + k)) (ltb q (p + w)) (lt-ltb p (q + k) (omega arith)) (lt-ltb q (p + w) (omega arith))

    over : (j : ℕ) → j < q + k → q ≤ j → overlap j 1 q k ≡ true
    over j a b = both_true (ltb j (q + k)) (ltb q (j + 1)) (lt-ltb j (q + k) a) (lt-ltb q (j + 1) (omega arith))

    narrow : (p w : ℕ) → 0 < w → overlap p w q k ≡ true → (j : ℕ) × (p ≤ j) × (j < p + w) × (overlap j 1 q k ≡ true)
    narrow p w a e = go (dec_le p q)
      where
        r : (ltb p (q + k) ≡ true) × (ltb q (p + w) ≡ true)
        r = both (ltb p (q + k)) (ltb q (p + w)) e

        x : p < q + k
        x = ltb-true _ _ r.0

        y : q < p + w
        y = ltb-true _ _ r.1

        go : Dec (p ≤ q) → (j : ℕ) × (p ≤ j) × (j < p + w) × (overlap j 1 q k ≡ true)
        go (yes l) = (q, l, y, over q (omega arith) (omega arith))
        go (no l) = (p, omega arith, omega arith, over p x (omega arith))

module _ (st : State) (m : Lent) where
  record-bytes : (i : ℕ) → Bytewise (record_met st m i)
  unfolding record_met
  record-bytes zero = bytewise_none
  record-bytes (suc i) =
      bytewise_or (record_met st m i) _ (record-bytes i)
      (bytewise_if (not (vacant st m i)) (λ p w. overlap p w (record_in st m i) (record_wide st m i))
      (bytewise-overlap (record_in st m i) (record_wide st m i) (omega arith)))

  block_bytes : (h : Header) (k : ℕ) → Bytewise (block_met m h k)
  unfolding block_met
  block_bytes h zero = bytewise_none
  block_bytes h (suc k) = bytewise_or (block_met m h k) _ (block_bytes h k)
      (bytewise-overlap (block_in m h k) (block_wide k) (omega arith))

  lane-bytes : (i : ℕ) → Bytewise (lane_met st m i)
  unfolding lane_met
  lane-bytes zero = bytewise_none
  lane-bytes (suc i) =
      bytewise_or (lane_met st m i) _ (lane-bytes i)
      (bytewise_if (not (vacant st m i)) (block_met m (header_in st m i) (block_count (header_in st m i)))
      (block_bytes (header_in st m i) (block_count (header_in st m i))))

-- ---- what is marked

-- of klen bytes of the key pages those that f says, of llen bytes of the list pages those that g says
pub record Shows (marks : List ℕ) (klen llen : ℕ) (f g : ℕ → ℕ → Bool) : Type 0 where
  pub room : klen + llen ≤ 8 * length marks
  pub keys : (b : ℕ) → b < klen → marked marks b ≡ f b 1
  pub lists : (b : ℕ) → b < llen → marked marks (klen + b) ≡ g b 1

shows_same : {marks : List ℕ} {klen llen : ℕ} {f g f' g' : ℕ → ℕ → Bool} → ((b : ℕ) → f b 1 ≡ f' b 1)
    → ((b : ℕ) → g b 1 ≡ g' b 1)
    → Shows marks klen llen f g → Shows marks klen llen f' g'
shows_same p q S = record { room = S.room; keys = λ b h. S.keys b h ∙ p b; lists = λ b h. S.lists b h ∙ q b }

over_in : (b p w : ℕ) → p ≤ b → b < p + w → overlap b 1 p w ≡ true
over_in b p w h k = both_true (ltb b (p + w)) (ltb p (b + 1)) (lt-ltb b (p + w) k) (lt-ltb p (b + 1) (omega arith))

over_out : (b p w : ℕ) → (b < p) ⊎ (p + w ≤ b) → overlap b 1 p w ≡ false
over_out b p w (inl h) = right_false (ltb b (p + w)) (ltb p (b + 1)) (le-ltb p (b + 1) (omega arith))
over_out b p w (inr h) = left_false (ltb b (p + w)) (ltb p (b + 1)) (le-ltb b (p + w) h)

-- a span's marks: one was set exactly if the test on the span says so
span_tests : (f : ℕ → ℕ → Bool) → Bytewise f → (marks : List ℕ) (base p w : ℕ) → 0 < w → base + p + w ≤ 8 * length marks
    → ((b : ℕ) → p ≤ b → b < p + w → marked marks (base + b) ≡ f b 1)
    → (mark_span marks (base + p) w).met ≡ f p w
span_tests f F marks base p w h room e = same_test (mark_span marks (base + p) w).met (f p w) there
    (back (mark_span marks (base + p) w).met refl)
  where
    there : (mark_span marks (base + p) w).met ≡ true → f p w ≡ true
    there q =
        let r = span_met w marks (base + p) room q in
        let s : base + (r.0 - base) ≡ r.0 = omega (arith, r.1) in
        F.wide (r.0 - base) p w (omega (arith, r.1)) (omega (arith, r.1, r.2))
        (sym (e (r.0 - base) (omega (arith, r.1)) (omega (arith, r.1, r.2))) ∙ rw s r.3)

    back : (b : Bool) → (mark_span marks (base + p) w).met ≡ b → f p w ≡ true → b ≡ true
    back true q t = refl
    back false q t =
        let r = F.narrow p w h t in
        not_both (marked marks (base + r.0)) (e r.0 r.1 r.2 ∙ r.3)
        ((span_spreads w marks (base + p) room q).free (base + r.0) (omega (arith, r.1)) (omega (arith, r.2)))

module _ {marks : List ℕ} {klen llen : ℕ} {f g : ℕ → ℕ → Bool} (S : Shows marks klen llen f g)
    (p w : ℕ) (some : 0 < w) where
  -- n bytes of the key pages
  keys-met : Bytewise f → p + w ≤ klen → (mark_span marks p w).met ≡ f p w
  keys-met F h =
      let z : (b : ℕ) → 0 + b ≡ b = λ b. omega arith in
      rw (z p) at (span_tests f F marks 0 p w some (omega (arith, S.room))
      (λ b x y. rw (z b) (S.keys b (omega arith))))

  keys_shown : p + w ≤ klen → (mark_span marks p w).met ≡ false
      → Shows (mark_span marks p w).marks klen llen (λ q n. f q n || overlap q n p w) g
  keys_shown h e = record {
    room = rw (span_length w marks p) S.room;
    keys = λ b l. here b l (dec_le p b) (dec_le (p + w) b);
    lists = λ b l. T.outside (klen + b) (inr (omega arith)) ∙ S.lists b l;
  }
    where
      T : Spread marks p w (mark_span marks p w).marks
      T = span_spreads w marks p (omega (arith, S.room)) e

      here : (b : ℕ) → b < klen → Dec (p ≤ b) → Dec (p + w ≤ b)
          → marked (mark_span marks p w).marks b ≡ (f b 1 || overlap b 1 p w)
      here b l (no x) y = T.outside b (inl (omega arith)) ∙ S.keys b l
          ∙ sym (or_none_lem (f b 1) (overlap b 1 p w) (over_out b p w (inl (omega arith))))
      here b l (yes x) (yes y) = T.outside b (inr y) ∙ S.keys b l
          ∙ sym (or_none_lem (f b 1) (overlap b 1 p w) (over_out b p w (inr y)))
      here b l (yes x) (no y) = T.inside b x (omega arith)
          ∙ sym (or_right (f b 1) (overlap b 1 p w) (over_in b p w x (omega arith)))

  -- of the list pages
  lists-met : Bytewise g → p + w ≤ llen → (mark_span marks (klen + p) w).met ≡ g p w
  lists-met G h = span_tests g G marks klen p w some (omega (arith, S.room)) (λ b x y. S.lists b (omega arith))

  lists_shown : p + w ≤ llen → (mark_span marks (klen + p) w).met ≡ false
      → Shows (mark_span marks (klen + p) w).marks klen llen f (λ q n. g q n || overlap q n p w)
  lists_shown h e = record {
    room = rw (span_length w marks (klen + p)) S.room;
    keys = λ b l. T.outside b (inl (omega arith)) ∙ S.keys b l;
    lists = λ b l. here b l (dec_le p b) (dec_le (p + w) b);
  }
    where
      T : Spread marks (klen + p) w (mark_span marks (klen + p) w).marks
      T = span_spreads w marks (klen + p) (omega (arith, S.room)) e

      here : (b : ℕ) → b < llen → Dec (p ≤ b) → Dec (p + w ≤ b)
          → marked (mark_span marks (klen + p) w).marks (klen + b) ≡ (g b 1 || overlap b 1 p w)
      here b l (no x) y = T.outside (klen + b) (inl (omega arith)) ∙ S.lists b l
          ∙ sym (or_none_lem (g b 1) (overlap b 1 p w) (over_out b p w (inl (omega arith))))
      here b l (yes x) (yes y) = T.outside (klen + b) (inr (omega arith)) ∙ S.lists b l
          ∙ sym (or_none_lem (g b 1) (overlap b 1 p w) (over_out b p w (inr y)))
      here b l (yes x) (no y) = T.inside (klen + b) (omega arith) (omega arith)
          ∙ sym (or_right (g b 1) (overlap b 1 p w) (over_in b p w x (omega arith)))

-- ---- the blocks of bucket i's lane

module _ (st : State) (m : Lent) (i : ℕ) where
  abbrev h : Header
  h = header_in st m i

  meets-stays : (k n : ℕ) → blocks_meet st m i k ≡ true → blocks_meet st m i (k + n) ≡ true
  unfolding blocks_meet
  meets-stays k zero e = rw (add-zero k) e
  meets-stays k (suc n) e = let s : k + suc n ≡ suc (k + n) = omega arith in
      rw s (or_left (blocks_meet st m i (k + n)) _ (meets-stays k n e))

  -- what block k adds
  meets-next : (k : ℕ) → blocks_meet st m i k ≡ false
      → blocks_meet st m i (k + 1) ≡ (lane_met st m i (block_in m h k) (block_wide k)
      || block_met m h k (block_in m h k) (block_wide k))
  unfolding blocks_meet
  meets-next k e = rw (add-one k) (rw e)

  block_next : (k q n : ℕ) → block_met m h (k + 1) q n ≡ (block_met m h k q n
      || overlap q n (block_in m h k) (block_wide k))
  unfolding block_met
  block_next k q n = rw (add-one k)

  abbrev met_with : ℕ → ℕ → ℕ → Bool
  met_with k q n = lane_met st m i q n || block_met m h k q n

  pub record Blocked (f : ℕ → ℕ → Bool) (klen llen k : ℕ) (o : MarksOut) : Type 0 where
    pub met : o.met ≡ blocks_meet st m i k
    pub shows : o.met ≡ false → Shows o.marks klen llen f (met_with k)

  blocked : (f : ℕ → ℕ → Bool) (klen llen n k : ℕ) (marks : List ℕ) → Shows marks klen llen f (met_with k)
      → blocks_meet st m i k ≡ false
      → ((j : ℕ) → j < k + n → block_in m h j + block_wide j ≤ llen)
      → Blocked f klen llen (k + n) (mark_blocks marks klen m.lists h.head n k)
  unfolding mark_blocks
  blocked f klen llen zero k marks S e fits = record { met = rw (add-zero k) (sym e); shows = λ q. rw (add-zero k) S }
  blocked f klen llen (suc n) k marks S e fits =
      go (mark_span marks (klen + block_in m h k) (block_wide k)).met refl
      (λ T d. blocked f klen llen n (k + 1) (mark_span marks (klen + block_in m h k) (block_wide k)).marks T d
      (λ j l. fits j (omega arith)))
    where
      o : MarksOut
      o = mark_span marks (klen + block_in m h k) (block_wide k)

      said : (mark_span marks (klen + block_in m h k) (block_wide k)).met ≡ blocks_meet st m i (k + 1)
      said =
          lists-met S (block_in m h k) (block_wide k) (omega arith)
          (bytewise_or (lane_met st m i) (block_met m h k) (lane-bytes st m i) (block_bytes st m h k))
          (fits k (omega arith))
          ∙ sym (meets-next k e)

      go : (b : Bool) → (mark_span marks (klen + block_in m h k) (block_wide k)).met ≡ b
          → (Shows (mark_span marks (klen + block_in m h k) (block_wide k)).marks klen llen f (met_with (k + 1))
          → blocks_meet st m i (k + 1) ≡ false
          → Blocked f klen llen (k + 1 + n) (mark_blocks (mark_span marks (klen + block_in m h k) (block_wide k)).marks
          klen m.lists h.head n (k + 1)))
          → Blocked f klen llen (k + suc n)
          (cond b (mark_span marks (klen + block_in m h k) (block_wide k))
          (mark_blocks (mark_span marks (klen + block_in m h k) (block_wide k)).marks klen m.lists h.head n (k + 1)))
      go true q ih =
          let s : k + suc n ≡ k + 1 + n = omega arith in
          record { met = q ∙ sym (rw s (meets-stays (k + 1) n (sym said ∙ q))); shows = λ z. not_both _ q z }
      go false q ih =
          let s : k + suc n ≡ k + 1 + n = omega arith in
          rw s
          (ih
          (shows_same (λ b. refl) (λ b. or_assoc (lane_met st m i b 1) (block_met m h k b 1)
          (overlap b 1 (block_in m h k) (block_wide k)) ∙ ap (λ (c : Bool). lane_met st m i b 1 || c)
          (sym (block_next k b 1)))
          (lists_shown S (block_in m h k) (block_wide k) (omega arith) (fits k (omega arith)) q))
          (sym said ∙ q))

-- ---- bucket i

module _ (st : State) (m : Lent) (W : checked st m ≡ true) where
  whole : Whole st (length m.table) (length m.keys) (length m.lists)
  whole = whole_facts st (length m.table) (length m.keys) (length m.lists) W

  some_bucket : 0 < st.buckets
  some_bucket = (power_facts st.buckets whole.power).some

  -- what is marked when the first i buckets were met
  abbrev Met : ℕ → List ℕ → Type 0
  Met i marks = Shows marks (length m.keys) (length m.lists) (record_met st m i) (lane_met st m i)

  met-vacant : (i : ℕ) (marks : List ℕ) → vacant st m i ≡ true → Met i marks → Met (suc i) marks
  unfolding record_met lane_met
  met-vacant i marks v S =
      shows_same (λ b. sym (or_none_lem (record_met st m i b 1) _ (left_false (not (vacant st m i)) _ (ap not v))))
      (λ b. sym (or_none_lem (lane_met st m i b 1) _ (left_false (not (vacant st m i)) _ (ap not v)))) S

  met-full : (i : ℕ) (marks : List ℕ) → vacant st m i ≡ false
      → Shows marks (length m.keys) (length m.lists)
      (λ q n. record_met st m i q n || overlap q n (record_in st m i) (record_wide st m i))
      (met_with st m i (block_count (header_in st m i)))
      → Met (suc i) marks
  unfolding record_met lane_met
  met-full i marks v S =
      shows_same (λ b. ap (λ (c : Bool). record_met st m i b 1
      || (not c && overlap b 1 (record_in st m i) (record_wide st m i))) (sym v))
      (λ b. ap (λ (c : Bool). lane_met st m i b 1 || (not c
      && block_met m (header_in st m i) (block_count (header_in st m i)) b 1)) (sym v)) S

  pub record Stepped (i : ℕ) (fault : ℕ) (s : Step) : Type 0 where
    pub said : s.fault ≡ fault
    pub met : s.fault ≡ 0 → Met (suc i) s.marks

  module _ (i : ℕ) (inside : i < st.buckets) (before : (j : ℕ) → j < i → fault_in st m j ≡ 0) (marks : List ℕ)
      (S : Met i marks) where
    abbrev at : ℕ
    at = record_in st m i

    module _ (v : vacant st m i ≡ false) (J : Judged st m i) where
      record-in : at + record_wide st m i ≤ length m.keys
      record-in = good-record-in st.key_arena m.keys at whole.key_arena J.good

      abbrev first : MarksOut
      first = mark_span marks at (record_wide st m i)

      first-met : first.met ≡ record_met st m i at (record_wide st m i)
      first-met = keys-met S at (record_wide st m i) (omega arith) (record-bytes st m i) record-in

      abbrev then : List ℕ → MarksOut
      then next = mark_blocks next (length m.keys) m.lists (header_in st m i).head (block_count (header_in st m i)) 0

      none_yet : blocks_meet st m i 0 ≡ false
      unfolding blocks_meet
      none_yet = refl

      zero_blocks : (q n : ℕ) → block_met m (header_in st m i) 0 q n ≡ false
      unfolding block_met
      zero_blocks q n = refl

      then-met : first.met ≡ false
          → Blocked st m i (λ q n. record_met st m i q n || overlap q n at (record_wide st m i)) (length m.keys)
          (length m.lists) (block_count (header_in st m i)) (then first.marks)
      then-met e =
          let z : 0 + block_count (header_in st m i) ≡ block_count (header_in st m i) = omega arith in
          rw z at
          (blocked st m i (λ q n. record_met st m i q n || overlap q n at (record_wide st m i)) (length m.keys)
          (length m.lists) (block_count (header_in st m i)) 0 first.marks
          (shows_same (λ b. refl) (λ b. sym (or_none_lem (lane_met st m i b 1) _ (zero_blocks b 1)))
          (keys_shown S at (record_wide st m i) (omega arith) record-in e))
          none_yet
          (λ j l. block_in_lem st.list_arena m.lists (header_in st m i).head j whole.list_arena
          (block_good st.list_arena m.lists (header_in st m i).head j (block_count (header_in st m i))
          (omega arith) J.blocks)))

      lane-stepped : Stepped i (cond (overlaps_in st m i) 7 0) (lane_marked m at (header_in st m i) marks)
      unfolding lane_marked overlaps_in
      lane-stepped = go first.met refl
        where
          go : (b : Bool) → first.met ≡ b
              → Stepped i (cond (record_met st m i at (record_wide st m i)
              || blocks_meet st m i (block_count (header_in st m i))) 7 0) (step_of (cond b first (then first.marks)))
          go true e =
              let r : record_met st m i at (record_wide st m i) ≡ true = sym first-met ∙ e in
              record { said = rw (e, r); met = λ z. absurd (seven first.met e z) }
            where
              seven : (b : Bool) → b ≡ true → ◌≡◌ {A = ℕ} (cond b 7 0) 0 → ⊥
              seven true e z = omega arith
              seven false e z = not_both false e refl
          go false e =
              let r : record_met st m i at (record_wide st m i) ≡ false = sym first-met ∙ e in
              let B = then-met e in
              record {
                said = ap (λ (c : Bool). cond c 7 0) B.met
                    ∙ ap (λ (c : Bool). cond (c || blocks_meet st m i (block_count (header_in st m i))) 7 0) (sym r);
                met = λ z. met-full i (then first.marks).marks v (B.shows (unset (then first.marks).met z));
              }
            where
              unset : (b : Bool) → ◌≡◌ {A = ℕ} (cond b 7 0) 0 → b ≡ false
              unset true z = absurd (omega arith)
              unset false z = refl

    looked_over_lem : Stepped i (fault_in st m i) (looked_over st m i marks)
    unfolding looked_over
    looked_over_lem = go (vacant st m i) refl
      where
        inner : (b : Bool) → eqb (judged st m i at) 0 ≡ b → vacant st m i ≡ false
            → Stepped i (cond b (cond (overlaps_in st m i) 7 0) (judged st m i at))
            (cond b (lane_marked m at (header_in st m i) marks) (step (judged st m i at) marks))
        inner true e v = lane-stepped v (judged_facts st m i (eqb-true _ _ e))
        inner false e v = record { said = refl; met = λ z. absurd (eqb-false _ _ e z) }

        go : (b : Bool) → vacant st m i ≡ b
            → Stepped i (fault_in st m i) (cond b (step 0 marks)
            (cond (eqb (judged st m i at) 0) (lane_marked m at (header_in st m i) marks) (step (judged st m i at) marks)))
        go true v = record { said = sym (fault_vacant st m i v); met = λ z. met-vacant i marks v S }
        go false v = rw (judged_fault st m some_bucket i inside before v) (inner (eqb (judged st m i at) 0) refl v)

  -- ---- all buckets

  entries_next : (i : ℕ) → counted_on st m i (entries st m i) ≡ entries st m (i + 1)
  unfolding entries
  entries_next i = rw (add-one i) (go (vacant st m i))
    where
      go : (b : Bool) → cond b (entries st m i) (entries st m i + 1) ≡ cond b (entries st m i) (suc (entries st m i))
      go true = refl
      go false = add-one (entries st m i)

  gone_over_lem : (n i : ℕ) (marks : List ℕ) → i + n ≡ st.buckets → ((j : ℕ) → j < i → fault_in st m j ≡ 0) → Met i marks
      → (gone_over st m n i (entries st m i) marks).answer ≡ verdict_from st m n i
  unfolding gone_over verdict_from
  gone_over_lem zero i marks e before S = refl
  gone_over_lem (suc n) i marks e before S =
      rw looked.said
      (go (eqb (fault_in st m i) 0) refl (λ f. gone_over_lem n (i + 1) (looked_over st m i marks).marks (omega arith)
      (after f) (next f)))
    where
      looked : Stepped i (fault_in st m i) (looked_over st m i marks)
      looked = looked_over_lem i (omega arith) before marks S

      after : fault_in st m i ≡ 0 → (j : ℕ) → j < i + 1 → fault_in st m j ≡ 0
      after f j h = which (ℕ_discrete j i)
        where
          which : Dec (j ≡ i) → fault_in st m j ≡ 0
          which (yes p) = rw p f
          which (no p) = before j (omega arith)

      next : fault_in st m i ≡ 0 → Met (i + 1) (looked_over st m i marks).marks
      next f = rw (add-one i) (looked.met (looked.said ∙ f))

      go : (b : Bool) → eqb (fault_in st m i) 0 ≡ b
          → (fault_in st m i ≡ 0 → (gone_over st m n (i + 1) (entries st m (i + 1)) (looked_over st m i marks).marks
          ).answer ≡ verdict_from st m n (i + 1))
          → (cond b (gone_over st m n (i + 1) (counted_on st m i (entries st m i)) (looked_over st m i marks).marks)
          (out (Faulty i (fault_in st m i)) (looked_over st m i marks).marks)).answer
          ≡ cond b (verdict_from st m n (i + 1)) (Faulty i (fault_in st m i))
      go true q ih = ap (λ (c : ℕ). (gone_over st m n (i + 1) c (looked_over st m i marks).marks).answer) (entries_next i)
          ∙ ih (eqb-true _ _ q)
      go false q ih = refl

  -- nothing is marked at first
  met_none : (n : ℕ) → length m.keys + length m.lists ≤ 8 * n → Met 0 (replicate n 0)
  unfolding record_met lane_met
  met_none n h = record {
    room = rw (length-replicate {A = ℕ} n 0) h;
    keys = λ b l. clear_unmarked n b (omega arith);
    lists = λ b l. clear_unmarked n (length m.keys + b) (omega arith);
  }

  pub gone_verdict : (n : ℕ) → length m.keys + length m.lists ≤ 8 * n
      → (gone_over st m st.buckets 0 0 (replicate n 0)).answer ≡ verdict_of st m
  unfolding verdict_of entries
  gone_verdict n h = gone_over_lem st.buckets 0 (replicate n 0) (omega arith) (λ j l. absurd (omega arith))
      (met_none n h)
