-- In which bucket a lookup ends, on any memory: the k-th that it looks at is bucket (hash + k) mod L. Assumes nothing.
use Prim.Native.Nat.{ℕ, zero, suc, ◌+◌, ◌%◌, ◌≤◌, ◌<◌}
use mathlib.Core.Path.{◌≡◌, refl, ap, ◌∙◌}
use mathlib.Core.Logic.{◌⊎◌, inl, inr}
use mathlib.Core.Bool.{Bool, true, false, cond}
use mathlib.Core.Option.{none, some}
use mathlib.Core.List.{List, [], ◌∷◌}
use native.Mathlib.Nat.{add-zero, zero-add}
use native.Mathlib.Numerals.{add-one}
use native.Mathlib.Omega.{arith}
use lib.Dec.{eqb}
use borrow.Author.Tests.{eqb-true}
use lib.ListN.{length}
use Rattle.fastcmp.specs.Equal.{equal_bytes}
use Rattle.fastcmp.proofs.Laws.{equal_true}
use Rattle.murmurhash2.specs.Murmur.{murmur_hash2}
use Rattle.memory_arena.specs.declared.Arena.{Arena}
use Rattle.shared_arena_hashmap.specs.declared.Seen.{Seen}
use Rattle.shared_arena_hashmap.specs.declared.Seen.TheVariants.{Nothing, Same, Broken, Other}
use Rattle.shared_arena_hashmap.specs.declared.Met.TheVariants.{Standing, Damaged, Lap}
use Rattle.shared_arena_hashmap.specs.declared.Walk.{Walk}
use Rattle.shared_arena_hashmap.specs.Buckets.{address_at, hash_at, empty_at}
use Rattle.records.specs.Record.{key_at, good_record}
use Rattle.shared_arena_hashmap.specs.Probe.{seen_record, seen_at, start_of, next_bucket, on_seen, probe, lookup}
use Rattle.history_names.specs.Table.{Names, name_at, Taken, occupied, Reached}
use Rattle.shared_arena_hashmap.proofs.Room.{next-mod, next-below, start-below}
use Rattle.history_names.proofs.Walk.{AllTaken, taken_count}
use Rattle.store_state.specs.declared.State.{State}
use Rattle.store_state.specs.State.{first_of}
use Rattle.store_look.specs.Look.{Lent, walk_of, in_order}
use Rattle.brownout_faults.specs.Check.{vacant, record_in, name_in, good_in, entries}

-- ---- a walk, on any memory

module _ (t keys : List ℕ) (a : Arena) (first l hash : ℕ) (name : List ℕ) where
  abbrev seen : ℕ → Seen
  seen i = seen_at t keys a (first + i) hash name

  abbrev walk : ℕ → ℕ → ℕ → Walk
  walk n i k = probe t keys a first l hash name n i k

  -- a bucket at which a walk that has looked at k buckets in all ended with s
  abbrev Ends : ℕ → Seen → Type 0
  Ends k s = (b : ℕ) × (b < l) × (b ≡ (hash + k) % l) × (seen b ≡ s)

  probe-same : (n i k x : ℕ) → i < l → i ≡ (hash + (k + 1)) % l → (walk n i k).met ≡ Standing x
      → Ends (walk n i k).looked (Same x)
  unfolding probe
  probe-same zero i k x h e f = let z : ◌≡◌ {A = ℕ} 0 1 = cc in absurd (omega arith)
  probe-same (suc n) i k x h e f =
      go (seen i) refl (walk n (next_bucket l i) (k + 1))
      (probe-same n (next_bucket l i) (k + 1) x (next-below l i h)
      (next-mod l (hash + (k + 1)) i h e ∙ ap (λ (y : ℕ). y % l) (omega arith))) f
    where
      go : (s : Seen) → seen i ≡ s → (w : Walk) → (w.met ≡ Standing x → Ends w.looked (Same x))
          → (on_seen s (k + 1) w).met ≡ Standing x
          → Ends (on_seen s (k + 1) w).looked (Same x)
      go Nothing q w ih g = let z : ◌≡◌ {A = ℕ} 0 1 = cc in absurd (omega arith)
      go (Same y) q w ih g = let z : y ≡ x = cc in (i, h, e, q ∙ ap Same z)
      go Broken q w ih g = let z : ◌≡◌ {A = ℕ} 0 1 = cc in absurd (omega arith)
      go Other q w ih g = ih g

  probe-broken : (n i k : ℕ) → i < l → (walk n i k).met ≡ Damaged → (b : ℕ) × (b < l) × (seen b ≡ Broken)
  unfolding probe
  probe-broken zero i k h f = let z : ◌≡◌ {A = ℕ} 0 1 = cc in absurd (omega arith)
  probe-broken (suc n) i k h f =
      go (seen i) refl (walk n (next_bucket l i) (k + 1)) (probe-broken n (next_bucket l i) (k + 1) (next-below l i h)) f
    where
      go : (s : Seen) → seen i ≡ s → (w : Walk) → (w.met ≡ Damaged → (b : ℕ) × (b < l) × (seen b ≡ Broken))
          → (on_seen s (k + 1) w).met ≡ Damaged
          → (b : ℕ) × (b < l) × (seen b ≡ Broken)
      go Nothing q w ih g = let z : ◌≡◌ {A = ℕ} 0 1 = cc in absurd (omega arith)
      go (Same y) q w ih g = let z : ◌≡◌ {A = ℕ} 0 1 = cc in absurd (omega arith)
      go Broken q w ih g = (i, h, q)
      go Other q w ih g = ih g

  -- a walk that found its name has met no empty bucket before it
  probe-reached : (g : Names) → ((b : ℕ) → b < l → empty_at t (first + b) ≡ false → Taken g b)
      → ((b x : ℕ) → b < l → seen b ≡ Same x → name_at g b ≡ some name)
      → (n i k x : ℕ) → i < l → (walk n i k).met ≡ Standing x → Reached g l name n i
  unfolding probe seen_at
  probe-reached g T N zero i k x h f = let z : ◌≡◌ {A = ℕ} 0 1 = cc in absurd (omega arith)
  probe-reached g T N (suc n) i k x h f =
      go (empty_at t (first + i)) refl (seen i) refl (walk n (next_bucket l i) (k + 1))
      (probe-reached g T N n (next_bucket l i) (k + 1) x (next-below l i h)) f
    where
      go : (v : Bool) → empty_at t (first + i) ≡ v → (s : Seen) → seen i ≡ s → (w : Walk)
          → (w.met ≡ Standing x → Reached g l name n (next_bucket l i)) → (on_seen s (k + 1) w).met ≡ Standing x
          → (name_at g i ≡ some name) ⊎ (Taken g i × Reached g l name n (next_bucket l i))
      go v p Nothing q w ih f = let z : ◌≡◌ {A = ℕ} 0 1 = cc in absurd (omega arith)
      go v p (Same y) q w ih f = inl (N i y h q)
      go v p Broken q w ih f = let z : ◌≡◌ {A = ℕ} 0 1 = cc in absurd (omega arith)
      go true p Other q w ih f = let r : seen i ≡ Nothing = rw p in let z : ◌≡◌ {A = ℕ} 0 1 = cc in absurd (omega arith)
      go false p Other q w ih f = inr (T i h p, ih f)

  -- a lap has met no empty bucket: so the names g have one in each bucket that it looked at
  probe_lap : (g : Names) → ((b : ℕ) → b < l → empty_at t (first + b) ≡ false → Taken g b)
      → (n i k : ℕ) → i < l → (walk n i k).met ≡ Lap → AllTaken g l n i
  unfolding probe seen_at
  probe_lap g T zero i k h f = tt
  probe_lap g T (suc n) i k h f =
      go (empty_at t (first + i)) refl (seen i) refl (walk n (next_bucket l i) (k + 1))
      (probe_lap g T n (next_bucket l i) (k + 1) (next-below l i h)) f
    where
      go : (v : Bool) → empty_at t (first + i) ≡ v → (s : Seen) → seen i ≡ s → (w : Walk)
          → (w.met ≡ Lap → AllTaken g l n (next_bucket l i)) → (on_seen s (k + 1) w).met ≡ Lap
          → Taken g i × AllTaken g l n (next_bucket l i)
      go v p Nothing q w ih f = let z : ◌≡◌ {A = ℕ} 0 1 = cc in absurd (omega arith)
      go v p (Same y) q w ih f = let z : ◌≡◌ {A = ℕ} 0 1 = cc in absurd (omega arith)
      go v p Broken q w ih f = let z : ◌≡◌ {A = ℕ} 0 1 = cc in absurd (omega arith)
      go true p Other q w ih f = let r : seen i ≡ Nothing = rw p in let z : ◌≡◌ {A = ℕ} 0 1 = cc in absurd (omega arith)
      go false p Other q w ih f = (T i h p, ih f)

-- ---- what a bucket was, by what a lookup saw in it

module _ (t keys : List ℕ) (a : Arena) (b hash : ℕ) (name : List ℕ) where
  pub record SeenSame (x : ℕ) : Type 0 where
    pub full : empty_at t b ≡ false
    pub hashed : hash_at t b ≡ hash
    pub address : address_at t b ≡ x
    pub good : good_record a keys (address_at t b) ≡ true
    pub key : key_at keys (address_at t b) ≡ name

  pub same_facts : (x : ℕ) → seen_at t keys a b hash name ≡ Same x → SeenSame x
  unfolding seen_at seen_record
  same_facts x e =
      go (empty_at t b) refl (eqb (hash_at t b) hash) refl (good_record a keys (address_at t b)) refl
      (equal_bytes (key_at keys (address_at t b)) name) refl e
    where
      go : (v : Bool) → empty_at t b ≡ v → (u : Bool) → eqb (hash_at t b) hash ≡ u
          → (r : Bool) → good_record a keys (address_at t b) ≡ r
          → (q : Bool) → equal_bytes (key_at keys (address_at t b)) name ≡ q
          → cond v Nothing (cond u (cond r (cond q (Same (address_at t b)) Other) Broken) Other) ≡ Same x → SeenSame x
      go true v u o r g q k e = let z : ◌≡◌ {A = ℕ} 0 1 = cc in absurd (omega arith)
      go false v false o r g q k e = let z : ◌≡◌ {A = ℕ} 0 1 = cc in absurd (omega arith)
      go false v true o false g q k e = let z : ◌≡◌ {A = ℕ} 0 1 = cc in absurd (omega arith)
      go false v true o true g false k e = let z : ◌≡◌ {A = ℕ} 0 1 = cc in absurd (omega arith)
      go false v true o true g true k e =
          record { full = v; hashed = eqb-true _ _ o; address = (cc); good = g; key = equal_true _ _ k }

  pub broken_facts : seen_at t keys a b hash name ≡ Broken
      → (empty_at t b ≡ false) × (good_record a keys (address_at t b) ≡ false)
  unfolding seen_at seen_record
  broken_facts e =
      go (empty_at t b) refl (eqb (hash_at t b) hash) (good_record a keys (address_at t b)) refl
      (equal_bytes (key_at keys (address_at t b)) name) e
    where
      go : (v : Bool) → empty_at t b ≡ v → (u : Bool) → (r : Bool) → good_record a keys (address_at t b) ≡ r → (q : Bool)
          → cond v Nothing (cond u (cond r (cond q (Same (address_at t b)) Other) Broken) Other) ≡ Broken
          → (empty_at t b ≡ false) × (good_record a keys (address_at t b) ≡ false)
      go true v u r g q e = let z : ◌≡◌ {A = ℕ} 0 1 = cc in absurd (omega arith)
      go false v false r g q e = let z : ◌≡◌ {A = ℕ} 0 1 = cc in absurd (omega arith)
      go false v true false g q e = (v, g)
      go false v true true g true e = let z : ◌≡◌ {A = ℕ} 0 1 = cc in absurd (omega arith)
      go false v true true g false e = let z : ◌≡◌ {A = ℕ} 0 1 = cc in absurd (omega arith)

-- ---- a store's lookup

-- the names of n buckets from i on, as the words and bytes say them
abbrev pub names_from : State → Lent → ℕ → ℕ → Names
names_from st m zero i = []
names_from st m (suc n) i = cond (vacant st m i) none (some (name_in st m i)) ∷ names_from st m n (i + 1)

module _ (st : State) (m : Lent) where
  pub length-names : (n i : ℕ) → length (names_from st m n i) ≡ n
  length-names zero i = refl
  length-names (suc n) i = ap suc (length-names n (i + 1))

  -- the name of bucket i + j
  pub name-full : (n i j : ℕ) → j < n → vacant st m (i + j) ≡ false → name_at (names_from st m n i) j
      ≡ some (name_in st m (i + j))
  name-full zero i j h v = absurd (omega arith)
  name-full (suc n) i zero h v = let w : vacant st m i ≡ false = rw (add-zero i) at v in rw (w, add-zero i)
  name-full (suc n) i (suc j) h v =
      let s : i + suc j ≡ i + 1 + j = omega arith in
      rw s (name-full n (i + 1) j (omega arith) (rw s at v))

  pub name_none : (n i j : ℕ) → j < n → vacant st m (i + j) ≡ true → name_at (names_from st m n i) j ≡ none
  name_none zero i j h v = absurd (omega arith)
  name_none (suc n) i zero h v = let w : vacant st m i ≡ true = rw (add-zero i) at v in rw w
  name_none (suc n) i (suc j) h v =
      let s : i + suc j ≡ i + 1 + j = omega arith in
      name_none n (i + 1) j (omega arith) (rw s at v)

  pub count_names : (n i : ℕ) → occupied (names_from st m n i) + entries st m i ≡ entries st m (i + n)
  unfolding entries
  count_names zero i = rw (add-zero i) (zero-add (entries st m i))
  count_names (suc n) i = go (vacant st m i) refl (count_names n (i + 1))
    where
      go : (v : Bool) → vacant st m i ≡ v → occupied (names_from st m n (i + 1)) + entries st m (i + 1)
          ≡ entries st m (i + 1 + n)
          → occupied (cond v none (some (name_in st m i)) ∷ names_from st m n (i + 1)) + entries st m i
          ≡ entries st m (i + suc n)
      go true v ih =
          let s : i + suc n ≡ i + 1 + n = omega arith in
          let e : entries st m (i + 1) ≡ entries st m i = rw (add-one i) (rw v) in
          rw s (omega (arith, e))
      go false v ih =
          let s : i + suc n ≡ i + 1 + n = omega arith in
          let e : entries st m (i + 1) ≡ suc (entries st m i) = rw (add-one i) (rw v) in
          rw s (omega (arith, e))

  module _ (some_bucket : 0 < st.buckets) (name : List ℕ) where
    -- a record found: in the bucket that the number of buckets looked at tells
    pub record FoundAt (x b : ℕ) : Type 0 where
      pub inside : b < st.buckets
      pub looked-at : b ≡ in_order st name (walk_of st m name).looked
      pub full : vacant st m b ≡ false
      pub hashed : hash_at m.table (first_of st + b) ≡ murmur_hash2 st.seed name
      pub place : record_in st m b ≡ x
      pub good : good_in st m b ≡ true
      pub key : name_in st m b ≡ name

    pub walk-found : (x : ℕ) → (walk_of st m name).met ≡ Standing x → (b : ℕ) × FoundAt x b
    unfolding walk_of lookup
    walk-found x e =
        let h : ℕ = murmur_hash2 st.seed name in
        let r = probe-same m.table m.keys st.key_arena (first_of st) st.buckets h name st.buckets
        (start_of st.buckets h) 0 x
        (start-below st.buckets h some_bucket) refl e in
        let s = same_facts m.table m.keys st.key_arena (first_of st + r.0) h name x r.3 in (
          r.0,
          record {
            inside = r.1;
            looked-at = r.2;
            full = s.full;
            hashed = s.hashed;
            place = s.address;
            good = s.good;
            key =
                s.key;
          },
        )

    -- and the way to it, for names that the buckets hold
    pub walk-reached : (g : Names) → ((b : ℕ) → b < st.buckets → vacant st m b ≡ false
        → name_at g b ≡ some (name_in st m b))
        → (x : ℕ) → (walk_of st m name).met ≡ Standing x
        → Reached g st.buckets name st.buckets (start_of st.buckets (murmur_hash2 st.seed name))
    unfolding walk_of lookup
    walk-reached g N x e =
        let h : ℕ = murmur_hash2 st.seed name in
        probe-reached m.table m.keys st.key_arena (first_of st) st.buckets h name g
        (λ b k v. (name_in st m b, N b k v))
        (λ b y k q.
        let s = same_facts m.table m.keys st.key_arena (first_of st + b) h name y q in
        N b k s.full ∙ ap some s.key)
        st.buckets (start_of st.buckets h) 0 x (start-below st.buckets h some_bucket) e

    pub walk_damaged : (walk_of st m name).met ≡ Damaged → (b : ℕ) × (b < st.buckets) × (vacant st m b ≡ false)
        × (good_in st m b ≡ false)
    unfolding walk_of lookup
    walk_damaged e =
        let h : ℕ = murmur_hash2 st.seed name in
        let r = probe-broken m.table m.keys st.key_arena (first_of st) st.buckets h name st.buckets
        (start_of st.buckets h) 0
        (start-below st.buckets h some_bucket) e in
        let s = broken_facts m.table m.keys st.key_arena (first_of st + r.0) h name r.2 in
        (r.0, r.1, s.0, s.1)

    -- a lap without an empty bucket: every bucket is occupied
    pub walk_lap : (walk_of st m name).met ≡ Lap → st.buckets ≤ entries st m st.buckets
    unfolding walk_of lookup entries
    walk_lap e =
        let h : ℕ = murmur_hash2 st.seed name in
        let g : Names = names_from st m st.buckets 0 in
        let z : 0 + st.buckets ≡ st.buckets = omega arith in
        let T : (b : ℕ) → b < st.buckets → vacant st m b ≡ false
        → Taken g b = λ b k v. (name_in st m (0 + b), name-full st.buckets 0 b k (rw (zero-add b) v)) in
        let b : start_of st.buckets h < st.buckets = start-below st.buckets h some_bucket in
        let r = probe_lap m.table m.keys st.key_arena (first_of st) st.buckets h name g T st.buckets
        (start_of st.buckets h) 0 b e in
        omega (
          arith,
          taken_count g st.buckets st.buckets (start_of st.buckets h) (length-names st.buckets 0)
              (omega arith) b r,
          rw z at (count_names st.buckets 0),
        )
