-- A lookup in a table of names finds each name, and none but those. Assumes nothing.
use Prim.Native.Nat.{ℕ, zero, suc, ◌+◌, ◌≤◌, ◌<◌}
use mathlib.Core.Path.{◌≡◌, refl, sym, ap, ◌∙◌, subst}
use mathlib.Core.Logic.{◌⊎◌, inl, inr, ⊎_elim}
use mathlib.Core.Bool.{Bool, true, false, cond}
use mathlib.Core.Option.{Option, none, some}
use mathlib.Core.List.{List, [], ◌∷◌}
use native.Mathlib.Omega.{arith}
use lib.Dec.{eqb}
use borrow.Author.Tests.{eq-eqb, ne_eqb}
use Rattle.limits.specs.Limits.{null_address}
use Rattle.fastcmp.specs.Equal.{equal_bytes}
use Rattle.fastcmp.proofs.Laws.{equal_true, equal_false, equal_same, equal_not}
use Rattle.memory_arena.specs.declared.Arena.{Arena}
use Rattle.shared_arena_hashmap.specs.declared.Seen.{Seen}
use Rattle.shared_arena_hashmap.specs.declared.Seen.TheVariants.{Nothing, Same, Broken, Other}
use Rattle.shared_arena_hashmap.specs.declared.Met.{Met}
use Rattle.shared_arena_hashmap.specs.declared.Met.TheVariants.{Empty, Standing, Damaged, Lap}
use Rattle.shared_arena_hashmap.specs.declared.Walk.{Walk}
use Rattle.shared_arena_hashmap.specs.Buckets.{address_at, hash_at, empty_at}
use Rattle.shared_arena_hashmap.specs.Probe.{seen_record, seen_at, start_of, next_bucket, walked, on_seen, probe, lookup}
use Rattle.history_names.specs.Table.{Names, name_at, Member, occupied, Reached, Shows, Table, Records}
use Rattle.shared_arena_hashmap.proofs.Room.{next-below, start-below}
use Rattle.history_names.proofs.Walk.{named-below, clash, renamed, AllTaken, taken_count}

-- names are equal or not
pub decide_name : (y k : List ℕ) → Dec (y ≡ k)
decide_name y k = go (equal_bytes y k) refl
  where
    go : (b : Bool) → equal_bytes y k ≡ b → Dec (y ≡ k)
    go true e = yes (equal_true y k e)
    go false e = no (equal_false y k e)

-- a name stands in a table or not
pub decide_member : (k : List ℕ) (g : Names) → Dec (Member k g)
decide_member k [] = no (λ m. clash refl m.1)
decide_member k (o ∷ g) = go o refl (decide_member k g)
  where
    later : Member k g → Member k (o ∷ g)
    later m = (suc m.0, m.1)

    none_here : (o ≡ some k → ⊥) → (Member k g → ⊥) → (i : ℕ) → name_at (o ∷ g) i ≡ some k → ⊥
    none_here p q zero e = p e
    none_here p q (suc i) e = q (i, e)

    go : (x : Option (List ℕ)) → o ≡ x → Dec (Member k g) → Dec (Member k (o ∷ g))
    go x e (yes m) = yes (later m)
    go none e (no m) = no (λ n. none_here (clash e) m n.0 n.1)
    go (some y) e (no m) = here (decide_name y k)
      where
        here : Dec (y ≡ k) → Dec (Member k (o ∷ g))
        here (yes p) = yes (0, renamed e p)
        here (no p) = no (λ n. none_here (λ q. p (cc)) m n.0 n.1)

-- a choice between equals
either : {A : Type 0} (b : Bool) (x : A) → cond b x x ≡ x
either true x = refl
either false x = refl

-- ---- one bucket

module _ {t : List ℕ} {first l : ℕ} {hash adr : List ℕ → ℕ} {g : Names} (T : Table t first l hash adr g) where
  -- an empty bucket, and one with a name
  pub empty_bucket : (i : ℕ) → i < l → name_at g i ≡ none → empty_at t (first + i) ≡ true
  empty_bucket i h e =
      let s : Shows t (first + i) hash adr none = subst (Shows t (first + i) hash adr) e (T.shows i h) in
      eq-eqb (address_at t (first + i)) null_address s

  pub named-shows : (i : ℕ) (y : List ℕ) → name_at g i ≡ some y → Shows t (first + i) hash adr (some y)
  named-shows i y e = subst (Shows t (first + i) hash adr) e (T.shows i (omega (arith, T.long, named-below g i y e)))

  pub named-bucket : (i : ℕ) (y : List ℕ) → name_at g i ≡ some y → empty_at t (first + i) ≡ false
  named-bucket i y e =
      let s : Shows t (first + i) hash adr (some y) = named-shows i y e in
      ne_eqb (address_at t (first + i)) null_address (λ p. s.2 (sym s.0 ∙ p))

  -- what each is to a lookup
  seen_empty : (keys : List ℕ) (a : Arena) (h : ℕ) (k : List ℕ) (i : ℕ) → i < l → name_at g i ≡ none
      → seen_at t keys a (first + i) h k ≡ Nothing
  unfolding seen_at
  seen_empty keys a h k i b e = rw (empty_bucket i b e)

  module _ (keys : List ℕ) (a : Arena) (R : Records keys a adr g) where
    seen_same : (k : List ℕ) (i : ℕ) → name_at g i ≡ some k → seen_at t keys a (first + i) (hash k) k ≡ Same (adr k)
    unfolding seen_at seen_record
    seen_same k i e =
        let s : Shows t (first + i) hash adr (some k) = named-shows i k e in
        let r = R k (i, e) in
        rw (named-bucket i k e, eq-eqb (hash_at t (first + i)) (hash k) s.1, s.0, r.0, equal_same _ _ r.1)

    seen_other : (k y : List ℕ) (i : ℕ) → name_at g i ≡ some y → (y ≡ k → ⊥)
        → seen_at t keys a (first + i) (hash k) k ≡ Other
    unfolding seen_at seen_record
    seen_other k y i e n =
        let s : Shows t (first + i) hash adr (some y) = named-shows i y e in
        let r = R y (i, e) in
        rw (named-bucket i y e, s.0, r.0, equal_not _ k (λ p. n (sym r.1 ∙ p)))
        (either (eqb (hash_at t (first + i)) (hash k)) Other)

-- ---- a walk, bucket by bucket

module _ (t keys : List ℕ) (a : Arena) (first l h : ℕ) (k : List ℕ) where
  probe-turn : (n i c : ℕ) (s : Seen) → seen_at t keys a (first + i) h k ≡ s
      → probe t keys a first l h k (suc n) i c
      ≡ on_seen s (c + 1) (probe t keys a first l h k n (next_bucket l i) (c + 1))
  unfolding probe
  probe-turn n i c s e = ap (λ (s : Seen). on_seen s (c + 1) (probe t keys a first l h k n (next_bucket l i) (c + 1))) e

  probe-end : (i c : ℕ) → probe t keys a first l h k zero i c ≡ walked Lap c
  unfolding probe
  probe-end i c = refl

  lookup-probe : lookup t keys a first l h k ≡ probe t keys a first l h k l (start_of l h) 0
  unfolding lookup
  lookup-probe = refl

module _ {t : List ℕ} {first l : ℕ} {hash adr : List ℕ → ℕ} {g : Names} (T : Table t first l hash adr g) (keys : List ℕ)
    (a : Arena) where
  module _ (R : Records keys a adr g) (k : List ℕ) where
    abbrev met_from : ℕ → ℕ → ℕ → Met
    met_from n i c = (probe t keys a first l (hash k) k n i c).met

    met-turn : (n i c : ℕ) (s : Seen) → seen_at t keys a (first + i) (hash k) k ≡ s
        → met_from (suc n) i c ≡ (on_seen s (c + 1) (probe t keys a first l (hash k) k n (next_bucket l i) (c + 1))).met
    met-turn n i c s e = ap (λ (w : Walk). w.met) (probe-turn t keys a first l (hash k) k n i c s e)

    met-lookup : (lookup t keys a first l (hash k) k).met ≡ met_from l (start_of l (hash k)) 0
    met-lookup = ap (λ (w : Walk). w.met) (lookup-probe t keys a first l (hash k) k)

    probe_finds : (n i c : ℕ) → i < l → Reached g l k n i → met_from n i c ≡ Standing (adr k)
    probe_finds zero i c h r = absurd r
    probe_finds (suc n) i c h (inl e) = met-turn n i c (Same (adr k)) (seen_same T keys a R k i e)
    probe_finds (suc n) i c h (inr r) =
        go (decide_name r.0.0 k) (probe_finds n (next_bucket l i) (c + 1) (next-below l i h) r.1)
      where
        go : Dec (r.0.0 ≡ k) → met_from n (next_bucket l i) (c + 1) ≡ Standing (adr k)
            → met_from (suc n) i c ≡ Standing (adr k)
        go (yes p) ih = met-turn n i c (Same (adr k)) (seen_same T keys a R k i (renamed r.0.1 p))
        go (no p) ih = met-turn n i c Other (seen_other T keys a R k r.0.0 i r.0.1 p) ∙ ih

    abbrev Misses : ℕ → ℕ → ℕ → Type 0
    Misses n i c = (met_from n i c ≡ Empty) ⊎ ((met_from n i c ≡ Lap) × AllTaken g l n i)

    probe-misses : (Member k g → ⊥) → (n i c : ℕ) → i < l → Misses n i c
    probe-misses f zero i c h = inr (ap (λ (w : Walk). w.met) (probe-end t keys a first l (hash k) k i c), tt)
    probe-misses f (suc n) i c h = go (name_at g i) refl (probe-misses f n (next_bucket l i) (c + 1) (next-below l i h))
      where
        go : (o : Option (List ℕ)) → name_at g i ≡ o → Misses n (next_bucket l i) (c + 1) → Misses (suc n) i c
        go none e ih = inl (met-turn n i c Nothing (seen_empty T keys a (hash k) k i h e))
        go (some y) e ih =
            let s = met-turn n i c Other (seen_other T keys a R k y i e (λ p. f (i, renamed e p))) in
            ⊎_elim (λ q. inl (s ∙ q)) (λ q. inr (s ∙ q.0, ((y, e), q.1))) ih

    -- a name of the table is found, at its record
    pub finds : Member k g → (lookup t keys a first l (hash k) k).met ≡ Standing (adr k)
    finds m =
        met-lookup ∙ probe_finds l (start_of l (hash k)) 0 (start-below l (hash k) T.some_bucket) (T.reachable k m)

    -- any other name is not: the lookup ends at an empty bucket, or after a lap round a full table
    pub misses : (Member k g → ⊥)
        → ((lookup t keys a first l (hash k) k).met ≡ Empty) ⊎
        (((lookup t keys a first l (hash k) k).met ≡ Lap) × (l ≤ occupied g))
    misses f =
        let b : start_of l (hash k) < l = start-below l (hash k) T.some_bucket in
        ⊎_elim (λ e. inl (met-lookup ∙ e))
        (λ e. inr (met-lookup ∙ e.0, taken_count g l l (start_of l (hash k)) T.long (omega arith) b e.1))
        (probe-misses f l (start_of l (hash k)) 0 b)

  -- ---- how many buckets a lookup looks at, whatever the name and the records

  abbrev Looks : ℕ → List ℕ → ℕ → ℕ → ℕ → Type 0
  Looks h k n i c = (m : ℕ) × (m ≤ n) × AllTaken g l m i × ((probe t keys a first l h k n i c).looked ≤ c + m + 1)

  probe-looks : (h : ℕ) (k : List ℕ) (n i c : ℕ) → i < l → Looks h k n i c
  probe-looks h k zero i c b = (0, omega arith, tt, rw (probe-end t keys a first l h k i c) (omega arith))
  probe-looks h k (suc n) i c b =
      go (name_at g i) refl (seen_at t keys a (first + i) h k) refl
      (probe-looks h k n (next_bucket l i) (c + 1) (next-below l i b))
    where
      ends : (x : Met) → probe t keys a first l h k (suc n) i c ≡ walked x (c + 1) → Looks h k (suc n) i c
      ends x e = (0, omega arith, tt, rw e (omega arith))

      go : (o : Option (List ℕ)) → name_at g i ≡ o → (s : Seen) → seen_at t keys a (first + i) h k ≡ s
          → Looks h k n (next_bucket l i) (c + 1) → Looks h k (suc n) i c
      go none e s q r = ends Empty (probe-turn t keys a first l h k n i c Nothing (seen_empty T keys a h k i b e))
      go (some y) e Nothing q r = ends Empty (probe-turn t keys a first l h k n i c Nothing q)
      go (some y) e (Same at) q r = ends (Standing at) (probe-turn t keys a first l h k n i c (Same at) q)
      go (some y) e Broken q r = ends Damaged (probe-turn t keys a first l h k n i c Broken q)
      go (some y) e Other q r = (
        suc r.0,
        omega (arith, r.1),
        ((y, e), r.2),
        rw (probe-turn t keys a first l h k n i c Other q) (omega (arith, r.3)),
      )

  -- at most one more than names stand
  pub looks_few : (h : ℕ) (k : List ℕ) → (lookup t keys a first l h k).looked ≤ occupied g + 1
  looks_few h k =
      let b : start_of l h < l = start-below l h T.some_bucket in
      let r = probe-looks h k l (start_of l h) 0 b in
      rw (lookup-probe t keys a first l h k)
      (omega (arith, r.3, taken_count g l r.0 (start_of l h) T.long r.1 b r.2))
