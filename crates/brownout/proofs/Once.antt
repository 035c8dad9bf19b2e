-- One lookup decides faults 2 and 3: where the buckets before have no fault, the name is in an earlier one exactly if
-- probing finds it there. Assumes nothing.
use Prim.Native.Nat.{ℕ, zero, suc, ◌<◌}
use mathlib.Core.Path.{◌≡◌, refl, sym, ap, ◌∙◌}
use mathlib.Core.Logic.{◌⊎◌, inl, inr, ⊎_elim}
use mathlib.Core.Bool.{Bool, true, false, cond, ◌&&◌, ◌||◌, not}
use mathlib.Core.List.{List}
use native.Mathlib.Omega.{arith}
use native.Mathlib.Decide.{ℕ_discrete}
use lib.Dec.{ltb, eqb}
use lib.ListN.{length}
use borrow.Author.Tests.{eqb-true, ne_eqb, lt-ltb, ltb-true, not-true}
use Rattle.numbers.proofs.Tests.{both, both_true, same_test, not_both}
use Rattle.fastcmp.specs.Equal.{equal_bytes}
use Rattle.fastcmp.proofs.Laws.{equal_true, equal_same}
use Rattle.shared_arena_hashmap.specs.declared.Met.{Met}
use Rattle.shared_arena_hashmap.specs.declared.Met.TheVariants.{Empty, Standing, Damaged, Lap}
use Rattle.store_state.specs.declared.State.{State}
use Rattle.store_look.specs.Look.{Lent, walk_of, in_order}
use Rattle.brownout_faults.specs.Check.{vacant, record_in, name_in, header_in, good_in, name_among, found_met}
use Rattle.brownout_faults.specs.Check.{found_in, header_good, blocks_good, tail_good, overlaps_in, fault_in}
use Rattle.brownout.specs.Code.{bucket_of, list_judged, judged}
use Rattle.brownout_faults.proofs.Faults.{Clean, chain, chain_facts, fault_chain, clean_facts}
use Rattle.brownout_faults.proofs.Where.{walk-found}

pub either_true : (a b : Bool) → (a || b) ≡ true → (a ≡ true) ⊎ (b ≡ true)
either_true true b e = inl refl
either_true false b e = inr e

pub or_left : (a b : Bool) → a ≡ true → (a || b) ≡ true
or_left a b e = rw e

pub or_right : (a b : Bool) → b ≡ true → (a || b) ≡ true
or_right true b e = refl
or_right false b e = e

module _ (st : State) (m : Lent) (i : ℕ) where
  -- the code's order of tests is the paper's, but for the overlap
  judged-chain : judged st m i (record_in st m i)
      ≡ chain (good_in st m i) (ltb (bucket_of st m (name_in st m i)) i) (eqb (bucket_of st m (name_in st m i)) i)
      (header_good st m i) (blocks_good st m i)
      (tail_good m (header_in st m i)) false
  unfolding judged list_judged
  judged-chain =
      go (good_in st m i) (ltb (bucket_of st m (name_in st m i)) i) (eqb (bucket_of st m (name_in st m i)) i)
      (header_good st m i) (blocks_good st m i) (tail_good m (header_in st m i))
    where
      go : (g n f h b t : Bool) → cond g (cond n 2 (cond f (cond h (cond b (cond t 0 6) 5) 4) 3)) 1
          ≡ chain g n f h b t false
      go false n f h b t = refl
      go true true f h b t = refl
      go true false false h b t = refl
      go true false true false b t = refl
      go true false true true false t = refl
      go true false true true true false = refl
      go true false true true true true = refl

  -- where nothing is judged, the record, the header and the blocks are good
  pub record Judged : Type 0 where
    pub good : good_in st m i ≡ true
    pub header : header_good st m i ≡ true
    pub blocks : blocks_good st m i ≡ true

  pub judged_facts : judged st m i (record_in st m i) ≡ 0 → Judged
  judged_facts e =
      let c = chain_facts (good_in st m i) (ltb (bucket_of st m (name_in st m i)) i)
      (eqb (bucket_of st m (name_in st m i)) i) (header_good st m i) (blocks_good st m i) (tail_good m (header_in st m i))
      false (sym judged-chain ∙ e) in
      record { good = c.0; header = c.3; blocks = c.4 }

module _ (st : State) (m : Lent) where
  among_facts : (name : List ℕ) (n : ℕ) → name_among st m name n ≡ true
      → (j : ℕ) × (j < n) × (vacant st m j ≡ false) × (name_in st m j ≡ name)
  unfolding name_among
  among_facts name zero e = not_both false e refl
  among_facts name (suc n) e = ⊎_elim (λ p. let r = among_facts name n p in (r.0, omega (arith, r.1), r.2, r.3))
      here (either_true _ _ e)
    where
      here : (not (vacant st m n) && equal_bytes (name_in st m n) name) ≡ true
          → (j : ℕ) × (j < suc n) × (vacant st m j ≡ false) × (name_in st m j ≡ name)
      here p = let q : (not (vacant st m n) ≡ true) × (equal_bytes (name_in st m n) name ≡ true) = both _ _ p in
          (n, omega arith, not-true _ q.0, equal_true _ _ q.1)

  among_made : (name : List ℕ) (n j : ℕ) → j < n → vacant st m j ≡ false → name_in st m j ≡ name
      → name_among st m name n ≡ true
  unfolding name_among
  among_made name zero j h v e = absurd (omega arith)
  among_made name (suc n) j h v e = go (ℕ_discrete j n) (λ k. among_made name n j k v e)
    where
      go : Dec (j ≡ n) → (j < n → name_among st m name n ≡ true)
          → (name_among st m name n || (not (vacant st m n) && equal_bytes (name_in st m n) name)) ≡ true
      go (yes p) f =
          let w : vacant st m n ≡ false = rw (← p) v in
          let k : name_in st m n ≡ name = rw (← p) e in
          or_right (name_among st m name n) (not (vacant st m n) && equal_bytes (name_in st m n) name)
          (both_true (not (vacant st m n)) (equal_bytes (name_in st m n) name) (ap not w)
          (equal_same (name_in st m n) name k))
      go (no p) f = or_left (name_among st m name n) (not (vacant st m n) && equal_bytes (name_in st m n) name)
          (f (omega arith))

  module _ (some_bucket : 0 < st.buckets) (i : ℕ) (inside : i < st.buckets)
      (before : (j : ℕ) → j < i → fault_in st m j ≡ 0) where
    -- probing finds the name in a bucket of the table exactly if the definition says so
    found-bucket : (name : List ℕ) (j : ℕ) → j < st.buckets → found_in st m name j ≡ eqb (bucket_of st m name) j
    unfolding found_in bucket_of
    found-bucket name j h = go (found_met (length name) (walk_of st m name).met)
      where
        go : (b : Bool) → (b && eqb (in_order st name (walk_of st m name).looked) j)
            ≡ eqb (cond b (in_order st name (walk_of st m name).looked) st.buckets) j
        go true = refl
        go false = sym (ne_eqb st.buckets j (λ z. omega arith))

    abbrev at : List ℕ → Met → ℕ
    at name x = cond (found_met (length name) x) (in_order st name (walk_of st m name).looked) st.buckets

    -- a name found in a bucket stands there
    stands-in : (name : List ℕ) → bucket_of st m name < st.buckets
        → (vacant st m (bucket_of st m name) ≡ false) × (name_in st m (bucket_of st m name) ≡ name)
    unfolding bucket_of
    stands-in name h = go (walk_of st m name).met refl h
      where
        go : (x : Met) → (walk_of st m name).met ≡ x → at name x < st.buckets
            → (vacant st m (at name x) ≡ false) × (name_in st m (at name x) ≡ name)
        go Empty e h = absurd (omega arith)
        go Damaged e h = absurd (omega arith)
        go Lap e h = absurd (omega arith)
        go (Standing x) e h = named (ltb 0 (length name)) h
          where
            named : (b : Bool) → cond b (in_order st name (walk_of st m name).looked) st.buckets < st.buckets
                → (vacant st m (cond b (in_order st name (walk_of st m name).looked) st.buckets) ≡ false)
                × (name_in st m (cond b (in_order st name (walk_of st m name).looked) st.buckets) ≡ name)
            named false h = absurd (omega arith)
            named true h =
                let r = walk-found st m some_bucket name x e in
                (rw (← r.1.looked-at) r.1.full, rw (← r.1.looked-at) r.1.key)

    name_earlier : (name : List ℕ) → name_among st m name i ≡ ltb (bucket_of st m name) i
    name_earlier name = same_test _ _ there back
      where
        there : name_among st m name i ≡ true → ltb (bucket_of st m name) i ≡ true
        there e =
            let r = among_facts name i e in
            let c : Clean st m r.0 = clean_facts st m r.0 r.2 (before r.0 r.1) in
            let f : found_in st m name r.0 ≡ true = rw r.3 at c.found in
            let b : bucket_of st m name ≡ r.0 = eqb-true _ _ (sym (found-bucket name r.0 (omega (arith, r.1))) ∙ f)
            in
            lt-ltb (bucket_of st m name) i (omega (arith, b, r.1))

        back : ltb (bucket_of st m name) i ≡ true → name_among st m name i ≡ true
        back e =
            let h : bucket_of st m name < i = ltb-true _ _ e in
            let r = stands-in name (omega arith) in
            among_made name i (bucket_of st m name) h r.0 r.1

    -- the fault: what is judged, and where that is none the overlap
    pub judged_fault : vacant st m i ≡ false
        → fault_in st m i ≡ cond (eqb (judged st m i (record_in st m i)) 0) (cond (overlaps_in st m i) 7 0)
        (judged st m i (record_in st m i))
    judged_fault v =
        fault_chain st m i v
        ∙ rw (name_earlier (name_in st m i), found-bucket (name_in st m i) i inside, judged-chain st m i)
        (go (good_in st m i) (ltb (bucket_of st m (name_in st m i)) i) (eqb (bucket_of st m (name_in st m i)) i)
        (header_good st m i) (blocks_good st m i) (tail_good m (header_in st m i)) (overlaps_in st m i))
      where
        go : (g n f h b t o : Bool) → chain g n f h b t o
            ≡ cond (eqb (chain g n f h b t false) 0) (cond o 7 0) (chain g n f h b t false)
        go false n f h b t o = refl
        go true true f h b t o = refl
        go true false false h b t o = refl
        go true false true false b t o = refl
        go true false true true false t o = refl
        go true false true true true false o = refl
        go true false true true true true o = refl
