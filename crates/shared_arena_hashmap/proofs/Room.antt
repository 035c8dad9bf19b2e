-- Room in a table, by counting empty buckets: a probe finds an empty bucket wherever there is one, and a table that has
-- grown has one left, whatever the words held. Assumes nothing.
use Prim.Native.Nat.{ℕ, zero, suc, ◌+◌, ◌*◌, ◌/◌, ◌%◌, ◌≤◌, ◌<◌}
use mathlib.Core.Path.{◌≡◌, refl, sym, ap, ◌∙◌}
use mathlib.Core.Logic.{◌⊎◌, inl, inr, ⊎_elim, ◌≢◌}
use mathlib.Core.Bool.{Bool, true, false, cond, false≢true}
use mathlib.Core.List.{List}
use native.Mathlib.Nat.{add-zero, mod-lt, suc-mul}
use native.Mathlib.Decide.{ℕ_discrete, dec_le}
use native.Mathlib.Omega.{arith}
use lib.Dec.{eqb}
use lib.ListN.{length}
use borrow.Author.Tests.{eq-eqb, ne_eqb, eqb-true, eqb-false}
use Rattle.limits.specs.Limits.{null_address}
use Rattle.shared_arena_hashmap.specs.Buckets.{address_at, hash_at, empty_at, with_bucket, cleared}
use Rattle.fastcmp.specs.Equal.{equal_bytes}
use Rattle.memory_arena.specs.declared.Arena.{Arena}
use Rattle.memory_arena.proofs.Laws.{split, place_of_lem}
use Rattle.shared_arena_hashmap.specs.declared.Seen.{Seen}
use Rattle.shared_arena_hashmap.specs.declared.Seen.TheVariants.{Nothing, Same, Broken, Other}
use Rattle.shared_arena_hashmap.specs.declared.Met.TheVariants.{Empty}
use Rattle.shared_arena_hashmap.specs.declared.Walk.{Walk}
use Rattle.records.specs.Record.{good_record, key_at}
use Rattle.shared_arena_hashmap.specs.Probe.{seen_record, seen_at, next_bucket, start_of, on_seen, probe, lookup}
use Rattle.shared_arena_hashmap.specs.Grow.{free_from, free_of, entered, reentered, all_reentered, grown}
use Rattle.shared_arena_hashmap.proofs.Words.{bucket_other, bucket_address, bucket_hash, clear_address}

-- how many of the n buckets from b on are empty
unfoldable empties : List ℕ → ℕ → ℕ → ℕ
empties t b zero = 0
empties t b (suc n) = cond (empty_at t b) 1 0 + empties t (b + 1) n

-- ---- where there is an empty bucket, a probe finds one

-- some empty bucket
AnEmpty : List ℕ → ℕ → ℕ → Type 0
AnEmpty t b n = (i : ℕ) × (i < n) × (empty_at t (b + i) ≡ true)

an_empty : (t : List ℕ) (b n : ℕ) → 0 < empties t b n → AnEmpty t b n
unfolding empties AnEmpty
an_empty t b zero h = absurd (omega arith)
an_empty t b (suc n) h = go (empty_at t b) refl h (an_empty t (b + 1) n)
  where
    go : (e : Bool) → empty_at t b ≡ e → 0 < cond e 1 0 + empties t (b + 1) n
        → (0 < empties t (b + 1) n → AnEmpty t (b + 1) n)
        → AnEmpty t b (suc n)
    go true p h f = (0, omega arith, rw add-zero p)
    go false p h f =
        let r = f (omega arith) in
        let s : b + 1 + r.0 ≡ b + (r.0 + 1) = omega arith in
        (r.0 + 1, omega (arith, r.1), ap (empty_at t) (sym s) ∙ r.2)

-- the next bucket is the first again behind the last, else one on
pub next_cases : (l i : ℕ) → i < l
    → ((i + 1 ≡ l) × (next_bucket l i ≡ 0)) ⊎ ((i + 1 < l) × (next_bucket l i ≡ i + 1))
next_cases l i h = go (eqb (i + 1) l) refl
  where
    go : (b : Bool) → eqb (i + 1) l ≡ b
        → ((i + 1 ≡ l) × (cond b 0 (i + 1) ≡ 0)) ⊎ ((i + 1 < l) × (cond b 0 (i + 1) ≡ i + 1))
    go true e = inl (eqb-true (i + 1) l e, refl)
    go false e = let n : i + 1 ≢ l = eqb-false (i + 1) l e in inr (omega arith, refl)

-- a bucket told by a remainder, and the next
pub next-mod : (l x i : ℕ) → i < l → i ≡ x % l → next_bucket l i ≡ (x + 1) % l
next-mod l x i h e = ⊎_elim round on (next_cases l i h)
  where
    parts : x / l * l + i ≡ x
    parts = rw e (split l x)

    round : (i + 1 ≡ l) × (next_bucket l i ≡ 0) → next_bucket l i ≡ (x + 1) % l
    round c =
        let s : suc (x / l) * l + 0 ≡ x + 1 = omega (arith, suc-mul (x / l) l, parts, c.0) in
        c.1 ∙ sym (place_of_lem l (suc (x / l)) 0 (omega arith)) ∙ ap (λ (y : ℕ). y % l) s

    on : (i + 1 < l) × (next_bucket l i ≡ i + 1) → next_bucket l i ≡ (x + 1) % l
    on c =
        let s : x / l * l + (i + 1) ≡ x + 1 = omega (arith, parts) in
        c.1 ∙ sym (place_of_lem l (x / l) (i + 1) c.0) ∙ ap (λ (y : ℕ). y % l) s

pub next-below : (l i : ℕ) → i < l → next_bucket l i < l
next-below l i h = ⊎_elim (λ c. omega (arith, c.1)) (λ c. omega (arith, c.0, c.1)) (next_cases l i h)

pub start-below : (l hash : ℕ) → 0 < l → start_of l hash < l
start-below l hash h = mod-lt (hash + 1) h

-- bucket j is one of the n that are met going up from i, round the end of l
abbrev Ahead : ℕ → ℕ → ℕ → ℕ → Type 0
Ahead l n i j = ((i ≤ j) × (j < i + n)) ⊎ (j + l < i + n)

-- an empty bucket that lies ahead is found, or one before it; and the one found is empty
found-ahead : (t : List ℕ) (first l n i j : ℕ) → i < l → j < l → empty_at t (first + j) ≡ true → Ahead l n i j
    → (free_from t first l n i < l) × (empty_at t (first + free_from t first l n i) ≡ true)
unfolding free_from
found-ahead t first l zero i j h k e (inl w) = absurd (omega arith)
found-ahead t first l zero i j h k e (inr w) = absurd (omega arith)
found-ahead t first l (suc n) i j h k e w =
    go (empty_at t (first + i)) refl (next_cases l i h) w
    (found-ahead t first l n (next_bucket l i) j (next-below l i h) k e)
  where
    Found : ℕ → Type 0
    Found f = (f < l) × (empty_at t (first + f) ≡ true)

    not_here : empty_at t (first + i) ≡ false → i ≢ j
    not_here p q = false≢true (sym p ∙ ap (λ (x : ℕ). empty_at t (first + x)) q ∙ e)

    go : (b : Bool) → empty_at t (first + i) ≡ b
        → ((i + 1 ≡ l) × (next_bucket l i ≡ 0)) ⊎ ((i + 1 < l) × (next_bucket l i ≡ i + 1))
        → Ahead l (suc n) i j → (Ahead l n (next_bucket l i) j → Found (free_from t first l n (next_bucket l i)))
        → Found (cond b i (free_from t first l n (next_bucket l i)))
    go true p c w f = (h, p)
    go false p (inl c) (inl w) f = let n : i ≢ j = not_here p in absurd (omega (arith, c.0))
    go false p (inl c) (inr w) f = f (inl (omega (arith, c.0, c.1), omega (arith, c.0, c.1)))
    go false p (inr c) (inl w) f =
        let n : i ≢ j = not_here p in
        f (inl (omega (arith, c.0, c.1), omega (arith, c.0, c.1)))
    go false p (inr c) (inr w) f = f (inr (omega (arith, c.0, c.1)))

-- a probe goes round the whole table
pub free_found : (t : List ℕ) (first l hash j : ℕ) → j < l → empty_at t (first + j) ≡ true
    → (free_of t first l hash < l) × (empty_at t (first + free_of t first l hash) ≡ true)
unfolding free_of
free_found t first l hash j k e =
    let s : start_of l hash < l = start-below l hash (omega arith) in
    found-ahead t first l l (start_of l hash) j s k e (ahead s)
  where
    ahead : start_of l hash < l → Ahead l l (start_of l hash) j
    ahead s = go (dec_le (start_of l hash) j)
      where
        go : Dec (start_of l hash ≤ j) → Ahead l l (start_of l hash) j
        go (yes p) = inl (p, omega arith)
        go (no p) = inr (omega arith)

-- ---- a record entered where there is an empty bucket

pub record EnteredAt (first l address hash : ℕ) (t : List ℕ) (bucket : ℕ) : Type 0 where
  pub below : bucket < l
  pub was_empty : empty_at t (first + bucket) ≡ true
  pub holds_address : address_at (entered first l address hash t) (first + bucket) ≡ address
  pub holds_hash : hash_at (entered first l address hash t) (first + bucket) ≡ hash

pub enters : (t : List ℕ) (first l address hash j : ℕ) → 2 * (first + l) ≤ length t → j < l
    → empty_at t (first + j) ≡ true
    → EnteredAt first l address hash t (free_of t first l hash)
unfolding entered
enters t first l address hash j inside k e =
    let f = free_found t first l hash j k e in
    let n : free_of t first l hash ≢ l = λ q. (omega (arith, f.0)) in
    let w : entered first l address hash t ≡ with_bucket (first + free_of t first l hash) address hash t =
    rw (ne_eqb (free_of t first l hash) l n) in
    record {
      below = f.0;
      was_empty = f.1;
      holds_address =
          ap (λ (u : List ℕ). address_at u (first + free_of t first l hash)) w
          ∙ bucket_address (first + free_of t first l hash) address hash t (omega (arith, f.0));
      holds_hash =
          ap (λ (u : List ℕ). hash_at u (first + free_of t first l hash)) w
          ∙ bucket_hash (first + free_of t first l hash) address hash t (omega (arith, f.0));
    }

-- ---- a bucket written takes at most one empty bucket

empties-apart : (c address hash : ℕ) (t : List ℕ) (b n : ℕ) → (c < b) ⊎ (b + n ≤ c)
    → empties (with_bucket c address hash t) b n ≡ empties t b n
unfolding empties
empties-apart c address hash t b zero d = refl
empties-apart c address hash t b (suc n) d =
    let n≢ : b ≢ c = λ e. apart d e in
    rw (bucket_other c address hash t b n≢).0
    (ap (λ (k : ℕ). cond (empty_at t b) 1 0 + k) (empties-apart c address hash t (b + 1) n (on d)))
  where
    apart : (c < b) ⊎ (b + suc n ≤ c) → b ≡ c → ⊥
    apart (inl h) e = omega arith
    apart (inr h) e = omega arith

    on : (c < b) ⊎ (b + suc n ≤ c) → (c < b + 1) ⊎ (b + 1 + n ≤ c)
    on (inl h) = inl (omega arith)
    on (inr h) = inr (omega arith)

empties_written : (c address hash : ℕ) (t : List ℕ) (b n : ℕ)
    → empties t b n ≤ empties (with_bucket c address hash t) b n + 1
unfolding empties
empties_written c address hash t b zero = omega arith
empties_written c address hash t b (suc n) = go (ℕ_discrete b c) (empties_written c address hash t (b + 1) n)
  where
    go : Dec (b ≡ c) → empties t (b + 1) n ≤ empties (with_bucket c address hash t) (b + 1) n + 1
        → cond (empty_at t b) 1 0 + empties t (b + 1) n
        ≤ cond (empty_at (with_bucket c address hash t) b) 1 0 + empties (with_bucket c address hash t) (b + 1) n + 1
    go (yes e) ih =
        omega (arith, one (empty_at t b), empties-apart c address hash t (b + 1) n (inl (omega arith)))
      where
        one : (x : Bool) → cond x 1 0 ≤ 1
        one true = omega arith
        one false = omega arith
    go (no e) ih = rw (bucket_other c address hash t b e).0 (omega (arith, ih))

empties-entered : (t : List ℕ) (first l address hash b n : ℕ)
    → empties t b n ≤ empties (entered first l address hash t) b n + 1
unfolding entered
empties-entered t first l address hash b n = go (eqb (free_of t first l hash) l)
  where
    go : (x : Bool)
        → empties t b n ≤ empties (cond x t (with_bucket (first + free_of t first l hash) address hash t)) b n + 1
    go true = omega arith
    go false = empties_written (first + free_of t first l hash) address hash t b n

empties-reentered : (t : List ℕ) (c first l b n : ℕ) → empties t b n ≤ empties (reentered c first l t) b n + 1
unfolding reentered
empties-reentered t c first l b n = go (empty_at t c)
  where
    go : (x : Bool)
        → empties t b n ≤ empties (cond x t (entered first l (address_at t c) (hash_at t c) t)) b n + 1
    go true = omega arith
    go false = empties-entered t first l (address_at t c) (hash_at t c) b n

empties-all : (k : ℕ) (t : List ℕ) (c first l b n : ℕ) → empties t b n ≤ empties (all_reentered k c first l t) b n + k
unfolding all_reentered
empties-all zero t c first l b n = omega arith
empties-all (suc k) t c first l b n =
    omega (
      arith,
      empties-reentered t c first l b n,
      empties-all k (reentered c first l t) (c + 1) first l b n,
    )

empties-cleared : (first l : ℕ) (t : List ℕ) (i n : ℕ) → i + n ≤ l → 2 * (first + l) ≤ length t
    → empties (cleared first l t) (first + i) n ≡ n
unfolding empties
empties-cleared first l t i zero h k = refl
empties-cleared first l t i (suc n) h k =
    let s : first + i + 1 ≡ first + (i + 1) = omega arith in
    rw (eq-eqb (address_at (cleared first l t) (first + i)) null_address (clear_address first l t i (omega arith) k), s)
    (omega (arith, empties-cleared first l t (i + 1) n (omega arith) k))

-- a table of n buckets grown to more than n has an empty bucket left, damaged or not
pub grown_empty : (n old first l : ℕ) (t : List ℕ) → n < l → 2 * (first + l) ≤ length t
    → (j : ℕ) × (j < l) × (empty_at (grown n old first l t) (first + j) ≡ true)
unfolding grown AnEmpty
grown_empty n old first l t more inside =
    an_empty (all_reentered n old first l (cleared first l t)) first l
    (omega (
      arith,
      empties-all n (cleared first l t) old first l first l,
      rw add-zero at (empties-cleared first l t 0 l (omega arith) inside),
    ))

seen_nothing : (t keys : List ℕ) (a : Arena) (b hash : ℕ) (name : List ℕ) → seen_at t keys a b hash name ≡ Nothing
    → empty_at t b ≡ true
unfolding seen_at seen_record
seen_nothing t keys a b hash name e =
    go (empty_at t b) (eqb (hash_at t b) hash) (good_record a keys (address_at t b))
    (equal_bytes (key_at keys (address_at t b)) name) e
  where
    go : (x y z w : Bool) → cond x Nothing (cond y (cond z (cond w (Same (address_at t b)) Other) Broken) Other)
        ≡ Nothing → x ≡ true
    go true y z w e = refl
    go false true true true e = cc
    go false true true false e = cc
    go false true false w e = cc
    go false false z w e = cc

-- a lookup that ended at an empty bucket has seen one
probe_empty : (t keys : List ℕ) (a : Arena) (first l hash : ℕ) (name : List ℕ) (n i k : ℕ) → i < l
    → (probe t keys a first l hash name n i k).met ≡ Empty → AnEmpty t first l
unfolding probe AnEmpty
probe_empty t keys a first l hash name zero i k h e = cc
probe_empty t keys a first l hash name (suc n) i k h e =
    go (seen_at t keys a (first + i) hash name) refl e
    (probe_empty t keys a first l hash name n (next_bucket l i) (k + 1) (next-below l i h))
  where
    rest : Walk
    rest = probe t keys a first l hash name n (next_bucket l i) (k + 1)

    go : (s : Seen) → seen_at t keys a (first + i) hash name ≡ s → (on_seen s (k + 1) rest).met ≡ Empty
        → (rest.met ≡ Empty → AnEmpty t first l) → AnEmpty t first l
    go Nothing p e f = (i, h, seen_nothing t keys a (first + i) hash name p)
    go (Same at) p e f = cc
    go Broken p e f = cc
    go Other p e f = f e

pub lookup_empty : (t keys : List ℕ) (a : Arena) (first l hash : ℕ) (name : List ℕ) → 0 < l
    → (lookup t keys a first l hash name).met ≡ Empty → (j : ℕ) × (j < l) × (empty_at t (first + j) ≡ true)
unfolding lookup AnEmpty
lookup_empty t keys a first l hash name h e =
    probe_empty t keys a first l hash name l (start_of l hash) 0 (start-below l hash h) e

-- ---- that bucket is the first empty one of the probe, and how many buckets were looked at tells its place

seen_other : (t keys : List ℕ) (a : Arena) (b hash : ℕ) (name : List ℕ) → seen_at t keys a b hash name ≡ Other
    → empty_at t b ≡ true → ⊥
unfolding seen_at
seen_other t keys a b hash name e f =
    let n : Nothing ≡ Other = rw f at e in
    let z : ◌≡◌ {A = ℕ} 0 1 = cc in omega arith

probe_free : (t keys : List ℕ) (a : Arena) (first l hash : ℕ) (name : List ℕ) (n i k : ℕ) → i < l
    → i ≡ (hash + (k + 1)) % l
    → (probe t keys a first l hash name n i k).met ≡ Empty
    → free_from t first l n i ≡ (hash + (probe t keys a first l hash name n i k).looked) % l
unfolding probe free_from
probe_free t keys a first l hash name zero i k h m e = cc
probe_free t keys a first l hash name (suc n) i k h m e =
    go (seen_at t keys a (first + i) hash name) refl (empty_at t (first + i)) refl e
    (probe_free t keys a first l hash name n (next_bucket l i) (k + 1) (next-below l i h)
    (next-mod l (hash + (k + 1)) i h m ∙ ap (λ (y : ℕ). y % l) (omega arith)))
  where
    rest : Walk
    rest = probe t keys a first l hash name n (next_bucket l i) (k + 1)

    go : (s : Seen) → seen_at t keys a (first + i) hash name ≡ s → (b : Bool) → empty_at t (first + i) ≡ b
        → (on_seen s (k + 1) rest).met ≡ Empty
        → (rest.met ≡ Empty → free_from t first l n (next_bucket l i) ≡ (hash + rest.looked) % l)
        → cond b i (free_from t first l n (next_bucket l i)) ≡ (hash + (on_seen s (k + 1) rest).looked) % l
    go Nothing p true q e f = m
    go Nothing p false q e f =
        absurd (false≢true (sym q ∙ seen_nothing t keys a (first + i) hash name p))
    go (Same at) p b q e f = cc
    go Broken p b q e f = cc
    go Other p true q e f = absurd (seen_other t keys a (first + i) hash name p q)
    go Other p false q e f = f e

pub lookup_free : (t keys : List ℕ) (a : Arena) (first l hash : ℕ) (name : List ℕ) → 0 < l
    → (lookup t keys a first l hash name).met ≡ Empty
    → free_of t first l hash ≡ (hash + (lookup t keys a first l hash name).looked) % l
unfolding lookup free_of
lookup_free t keys a first l hash name h e =
    probe_free t keys a first l hash name l (start_of l hash) 0 (start-below l hash h) refl e
