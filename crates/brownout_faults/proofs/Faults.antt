-- What a bucket without fault is, and what the verdict says, clause by clause. Assumes nothing.
use Prim.Native.Nat.{ℕ, zero, suc, ◌+◌, ◌≤◌, ◌<◌}
use mathlib.Core.Path.{◌≡◌, refl, sym, ◌∙◌}
use mathlib.Core.Logic.{◌≢◌}
use mathlib.Core.Bool.{Bool, true, false, cond, not}
use native.Mathlib.Nat.{add-zero}
use native.Mathlib.Omega.{arith}
use native.Mathlib.Decide.{ℕ_discrete}
use lib.Dec.{eqb}
use borrow.Author.Tests.{eqb-true, eqb-false, eq-eqb}
use Rattle.store_state.specs.declared.State.{State}
use Rattle.store_look.specs.Look.{Lent}
use Rattle.brownout_faults.specs.declared.Checked.{Checked}
use Rattle.brownout_faults.specs.declared.Checked.TheVariants.{Sound, Faulty, Miscounted}
use Rattle.brownout_faults.specs.Check.{vacant, name_in, header_in, good_in, name_among, found_in, header_good}
use Rattle.brownout_faults.specs.Check.{blocks_good, tail_good, overlaps_in, fault_in, entries, verdict_from}
use Rattle.brownout_faults.specs.Check.{verdict_of}
use Rattle.brownout_faults.specs.Promises.{FirstFault, Faultless}

-- ---- a bucket

-- what an occupied bucket without fault is
pub record Clean (st : State) (m : Lent) (i : ℕ) : Type 0 where
  pub good : good_in st m i ≡ true
  pub first : name_among st m (name_in st m i) i ≡ false
  pub found : found_in st m (name_in st m i) i ≡ true
  pub header : header_good st m i ≡ true
  pub blocks : blocks_good st m i ≡ true
  pub tail : tail_good m (header_in st m i) ≡ true
  pub alone : overlaps_in st m i ≡ false

-- the tests one after the other
abbrev pub chain : Bool → Bool → Bool → Bool → Bool → Bool → Bool → ℕ
chain g n f h b t o =
    cond (not g) 1 (cond n 2 (cond (not f) 3 (cond (not h) 4 (cond (not b) 5 (cond (not t) 6 (cond o 7 0))))))

pub chain_facts : (g n f h b t o : Bool) → chain g n f h b t o ≡ 0
    → (g ≡ true) × (n ≡ false) × (f ≡ true) × (h ≡ true) × (b ≡ true) × (t ≡ true) × (o ≡ false)
chain_facts false n f h b t o e = absurd (omega arith)
chain_facts true true f h b t o e = absurd (omega arith)
chain_facts true false false h b t o e = absurd (omega arith)
chain_facts true false true false b t o e = absurd (omega arith)
chain_facts true false true true false t o e = absurd (omega arith)
chain_facts true false true true true false o e = absurd (omega arith)
chain_facts true false true true true true true e = absurd (omega arith)
chain_facts true false true true true true false e = (refl, refl, refl, refl, refl, refl, refl)

module _ (st : State) (m : Lent) (i : ℕ) where
  pub fault_vacant : vacant st m i ≡ true → fault_in st m i ≡ 0
  unfolding fault_in
  fault_vacant v = rw v

  pub fault_chain : vacant st m i ≡ false
      → fault_in st m i
      ≡ chain (good_in st m i) (name_among st m (name_in st m i) i) (found_in st m (name_in st m i) i) (header_good st m i)
      (blocks_good st m i)
      (tail_good m (header_in st m i)) (overlaps_in st m i)
  unfolding fault_in
  fault_chain v = rw v

  -- it is at most 7
  pub fault_most : fault_in st m i ≤ 7
  unfolding fault_in
  fault_most =
      go (vacant st m i) (good_in st m i) (name_among st m (name_in st m i) i) (found_in st m (name_in st m i) i)
      (header_good st m i) (blocks_good st m i) (tail_good m (header_in st m i)) (overlaps_in st m i)
    where
      go : (v g n f h b t o : Bool) → cond v 0 (chain g n f h b t o) ≤ 7
      go true g n f h b t o = omega arith
      go false false n f h b t o = omega arith
      go false true true f h b t o = omega arith
      go false true false false h b t o = omega arith
      go false true false true false b t o = omega arith
      go false true false true true false t o = omega arith
      go false true false true true true false o = omega arith
      go false true false true true true true true = omega arith
      go false true false true true true true false = omega arith

  pub clean_facts : vacant st m i ≡ false → fault_in st m i ≡ 0 → Clean st m i
  clean_facts v e =
      let c = chain_facts _ _ _ _ _ _ _ (sym (fault_chain v) ∙ e) in
      record { good = c.0; first = c.1; found = c.2; header = c.3; blocks = c.4; tail = c.5; alone = c.6 }

  pub clean_made : vacant st m i ≡ false → Clean st m i → fault_in st m i ≡ 0
  clean_made v c =
      fault_chain v ∙ rw (c.good, c.first, c.found, c.header, c.blocks, c.tail, c.alone)

-- ---- the verdict

module _ (st : State) (m : Lent) where
  -- what is said when all records were counted
  abbrev counting : ℕ → Checked
  counting i = cond (eqb st.keys (entries st m i)) Sound Miscounted

  -- a verdict that names no bucket: none of them has a fault, and it is what the count says
  through : (r : Checked) → ((j fault : ℕ) → Faulty j fault ≢ r) → (n i : ℕ) → verdict_from st m n i ≡ r
      → ((j : ℕ) → i ≤ j → j < i + n → fault_in st m j ≡ 0) × (counting (i + n) ≡ r)
  unfolding verdict_from
  through r d zero i e = (λ j a b. absurd (omega arith), rw (add-zero i) e)
  through r d (suc n) i e = go (eqb (fault_in st m i) 0) refl e (through r d n (i + 1))
    where
      go : (b : Bool) → eqb (fault_in st m i) 0 ≡ b
          → cond b (verdict_from st m n (i + 1)) (Faulty i (fault_in st m i)) ≡ r
          → (verdict_from st m n (i + 1) ≡ r
          → ((j : ℕ) → i + 1 ≤ j → j < i + 1 + n → fault_in st m j ≡ 0) × (counting (i + 1 + n) ≡ r))
          → ((j : ℕ) → i ≤ j → j < i + suc n → fault_in st m j ≡ 0) × (counting (i + suc n) ≡ r)
      go true q f ih =
          let s : i + suc n ≡ i + 1 + n = omega arith in
          (λ j a b. at j a b (ℕ_discrete j i), rw s (ih f).1)
        where
          at : (j : ℕ) → i ≤ j → j < i + suc n → Dec (j ≡ i) → fault_in st m j ≡ 0
          at j a b (yes p) = rw p (eqb-true _ _ q)
          at j a b (no p) = (ih f).0 j (omega arith) (omega arith)
      go false q f ih = absurd (d i (fault_in st m i) f)

  all-through : (r : Checked) → ((j fault : ℕ) → Faulty j fault ≢ r) → verdict_of st m ≡ r
      → ((i : ℕ) → i < st.buckets → fault_in st m i ≡ 0) × (counting st.buckets ≡ r)
  unfolding verdict_of
  all-through r d e =
      let t = through r d st.buckets 0 e in
      let s : 0 + st.buckets ≡ st.buckets = omega arith in
      (λ i h. t.0 i (omega arith) (omega arith), rw s at t.1)

  pub verdict_faultless : verdict_of st m ≡ Sound → Faultless st m
  verdict_faultless e =
      let t = all-through Sound (λ j fault f. let z : ◌≡◌ {A = ℕ} 0 1 = cc in omega arith) e in
      record { clean = t.0; counted = go (eqb st.keys (entries st m st.buckets)) refl t.1 }
    where
      go : (b : Bool) → eqb st.keys (entries st m st.buckets) ≡ b → cond b Sound Miscounted ≡ Sound
          → st.keys ≡ entries st m st.buckets
      go true q f = eqb-true _ _ q
      go false q f = let z : ◌≡◌ {A = ℕ} 0 1 = cc in absurd (omega arith)

  pub verdict_miscounted : verdict_of st m ≡ Miscounted
      → ((i : ℕ) → i < st.buckets → fault_in st m i ≡ 0) × (st.keys ≢ entries st m st.buckets)
  verdict_miscounted e =
      let t = all-through Miscounted (λ j fault f. let z : ◌≡◌ {A = ℕ} 0 1 = cc in omega arith) e in
      (t.0, go (eqb st.keys (entries st m st.buckets)) refl t.1)
    where
      go : (b : Bool) → eqb st.keys (entries st m st.buckets) ≡ b → cond b Sound Miscounted ≡ Miscounted
          → st.keys ≢ entries st m st.buckets
      go true q f = let z : ◌≡◌ {A = ℕ} 0 1 = cc in absurd (omega arith)
      go false q f = eqb-false _ _ q

  to_sound : (n i : ℕ) → ((j : ℕ) → i ≤ j → j < i + n → fault_in st m j ≡ 0) → st.keys ≡ entries st m (i + n)
      → verdict_from st m n i ≡ Sound
  unfolding verdict_from
  to_sound zero i f c = rw (eq-eqb _ _ (rw (add-zero i) at c))
  to_sound (suc n) i f c =
      let s : i + suc n ≡ i + 1 + n = omega arith in
      rw (eq-eqb _ _ (f i (omega arith) (omega arith)))
      (to_sound n (i + 1) (λ j a b. f j (omega arith) (omega arith)) (rw s at c))

  pub faultless_verdict : Faultless st m → verdict_of st m ≡ Sound
  unfolding verdict_of
  faultless_verdict F =
      let s : 0 + st.buckets ≡ st.buckets = omega arith in
      to_sound st.buckets 0 (λ j a b. F.clean j (omega arith)) (rw s F.counted)

  -- ---- the first faulty bucket

  from_faulty : (n i j fault : ℕ) → verdict_from st m n i ≡ Faulty j fault
      → (i ≤ j) × (j < i + n) × (fault_in st m j ≡ fault) × (fault ≡ 0 → ⊥)
      × ((x : ℕ) → i ≤ x → x < j → fault_in st m x ≡ 0)
  unfolding verdict_from
  from_faulty zero i j fault e = go (eqb st.keys (entries st m i)) e
    where
      go : (b : Bool) → cond b Sound Miscounted ≡ Faulty j fault
          → (i ≤ j) × (j < i + 0) × (fault_in st m j ≡ fault) × (fault ≡ 0 → ⊥)
          × ((x : ℕ) → i ≤ x → x < j → fault_in st m x ≡ 0)
      go true f = let z : ◌≡◌ {A = ℕ} 0 1 = cc in absurd (omega arith)
      go false f = let z : ◌≡◌ {A = ℕ} 0 1 = cc in absurd (omega arith)
  from_faulty (suc n) i j fault e = go (eqb (fault_in st m i) 0) refl e (from_faulty n (i + 1) j fault)
    where
      go : (b : Bool) → eqb (fault_in st m i) 0 ≡ b
          → cond b (verdict_from st m n (i + 1)) (Faulty i (fault_in st m i)) ≡ Faulty j fault
          → (verdict_from st m n (i + 1) ≡ Faulty j fault
          → (i + 1 ≤ j) × (j < i + 1 + n) × (fault_in st m j ≡ fault) × (fault ≡ 0 → ⊥)
          × ((x : ℕ) → i + 1 ≤ x → x < j → fault_in st m x ≡ 0))
          → (i ≤ j) × (j < i + suc n) × (fault_in st m j ≡ fault) × (fault ≡ 0 → ⊥)
          × ((x : ℕ) → i ≤ x → x < j → fault_in st m x ≡ 0)
      go false q f ih =
          let a : i ≡ j = cc in
          let b : fault_in st m i ≡ fault = cc in
          let d : fault_in st m i ≡ 0 → ⊥ = eqb-false (fault_in st m i) 0 q in
          (omega arith, omega arith, rw (← a) b, λ z. d (b ∙ z), λ x g h. absurd (omega arith))
      go true q f ih =
          let r = ih f in
          (omega (arith, r.0), omega (arith, r.1), r.2, r.3, λ x g h. at x g h (ℕ_discrete x i))
        where
          at : (x : ℕ) → i ≤ x → x < j → Dec (x ≡ i) → fault_in st m x ≡ 0
          at x g h (yes p) = rw p (eqb-true _ _ q)
          at x g h (no p) = (ih f).4 x (omega arith) h

  pub verdict_first : (i fault : ℕ) → verdict_of st m ≡ Faulty i fault → FirstFault st m i fault
  unfolding verdict_of
  verdict_first i fault e =
      let r = from_faulty st.buckets 0 i fault e in
      record {
        inside = omega (arith, r.1);
        fault_is = r.2;
        from_1 = let z = r.3 in omega arith;
        to_7 = omega (arith, r.2, fault_most st m i);
        before = λ j h. r.4 j (omega arith) h;
      }
