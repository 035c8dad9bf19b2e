-- A name entered in a table that has room: a table of one name more, and every other word as it was. Assumes nothing.
use Prim.Native.Nat.{ℕ, zero, suc, ◌+◌, ◌*◌, ◌≤◌, ◌<◌}
use mathlib.Core.Path.{◌≡◌, refl, sym, ap, ◌∙◌, subst}
use mathlib.Core.Logic.{◌⊎◌, inl, inr, ⊎_elim, ◌≢◌}
use mathlib.Core.Bool.{Bool, true, false, cond}
use mathlib.Core.Option.{Option, none, some}
use mathlib.Core.List.{List}
use native.Mathlib.Decide.{ℕ_discrete, dec_le}
use native.Mathlib.Omega.{arith}
use lib.ListN.{length, get_or, set, length-set}
use lib.Seq.{get_or-set_same, get_or-set_other}
use borrow.Author.Tests.{eq-eqb, ne_eqb}
use Rattle.limits.specs.Limits.{null_address}
use Rattle.shared_arena_hashmap.specs.Buckets.{address_at, hash_at, empty_at, with_bucket}
use Rattle.shared_arena_hashmap.specs.Probe.{start_of, next_bucket}
use Rattle.shared_arena_hashmap.specs.Grow.{free_from, free_of, entered}
use Rattle.history_names.specs.Table.{Names, name_at, Member, occupied, Reached, Shows, Table, Outside}
use Rattle.history_names.specs.Table.{OneBucket, Enters}
use Rattle.shared_arena_hashmap.proofs.Laws.{length-bucket}
use Rattle.shared_arena_hashmap.proofs.Words.{bucket-word, bucket_address, bucket_hash, bucket_other}
use Rattle.shared_arena_hashmap.proofs.Room.{next-below, start-below}
use Rattle.history_names.proofs.Walk.{renamed, AllTaken, taken_count, fill_name, fill_taken, fill_reached}
use Rattle.history_names.proofs.Walk.{fill_only, fill_count}
use Rattle.history_names.proofs.Lookup.{empty_bucket, named-bucket}

-- ---- what entering writes, whatever the words

module _ (t : List ℕ) (first l : ℕ) where
  free_turn : (n i : ℕ) (b : Bool) → empty_at t (first + i) ≡ b
      → free_from t first l (suc n) i ≡ cond b i (free_from t first l n (next_bucket l i))
  unfolding free_from
  free_turn n i b e = ap (λ (b : Bool). cond b i (free_from t first l n (next_bucket l i))) e

  -- the bucket that is looked for is one of the table's, or l
  free_bound : (n i : ℕ) → i < l → free_from t first l n i ≤ l
  unfolding free_from
  free_bound zero i h = omega arith
  free_bound (suc n) i h = go (empty_at t (first + i)) (free_bound n (next_bucket l i) (next-below l i h))
    where
      go : (b : Bool) → free_from t first l n (next_bucket l i) ≤ l → cond b i (free_from t first l n (next_bucket l i)) ≤ l
      go true p = omega arith
      go false p = p

  free_start : (hash : ℕ) → free_of t first l hash ≡ free_from t first l l (start_of l hash)
  unfolding free_of
  free_start hash = refl

  module _ (address hash : ℕ) where
    entered-full : free_of t first l hash ≡ l → entered first l address hash t ≡ t
    unfolding entered
    entered-full e = rw (eq-eqb (free_of t first l hash) l e)

    entered_free : free_of t first l hash ≢ l
        → entered first l address hash t ≡ with_bucket (first + free_of t first l hash) address hash t
    unfolding entered
    entered_free e = rw (ne_eqb (free_of t first l hash) l e)

    -- a fact of both outcomes
    entered_either : (P : List ℕ → Type 0) → P t
        → (free_of t first l hash ≢ l → P (with_bucket (first + free_of t first l hash) address hash t))
        → P (entered first l address hash t)
    entered_either P x y = go (ℕ_discrete (free_of t first l hash) l)
      where
        go : Dec (free_of t first l hash ≡ l) → P (entered first l address hash t)
        go (yes e) = subst P (sym (entered-full e)) x
        go (no e) = subst P (sym (entered_free e)) (y e)

    pub enter_length : length (entered first l address hash t) ≡ length t
    enter_length =
        entered_either (λ (u : List ℕ). length u ≡ length t) refl
        (λ e. length-bucket (first + free_of t first l hash) address hash t)

    -- every word outside the table is as it was
    pub enter_frame : 0 < l → (q : ℕ) → Outside first l q → get_or (entered first l address hash t) q 0 ≡ get_or t q 0
    enter_frame h q d =
        entered_either (λ (u : List ℕ). get_or u q 0 ≡ get_or t q 0) refl
        (λ e. bucket-word (first + free_of t first l hash) address hash t q (apart e d))
      where
        apart : free_of t first l hash ≢ l → Outside first l q
            → (q < 2 * (first + free_of t first l hash)) ⊎ (2 * (first + free_of t first l hash) + 2 ≤ q)
        apart e (inl p) = inl (omega arith)
        apart e (inr p) =
            let b : free_of t first l hash ≤ l =
            rw (free_start hash) (free_bound l (start_of l hash) (start-below l hash h)) in
            inr (omega arith)

-- ---- the same bucket in other words

pub shows_same : (t u : List ℕ) (b : ℕ) (hash adr : List ℕ → ℕ) (o : Option (List ℕ)) → address_at u b ≡ address_at t b
    → hash_at u b ≡ hash_at t b
    → Shows t b hash adr o → Shows u b hash adr o
shows_same t u b hash adr none p q s = p ∙ s
shows_same t u b hash adr (some k) p q s = (p ∙ s.0, q ∙ s.1, s.2)

-- ---- a name entered

module _ {t : List ℕ} {first l : ℕ} {hash adr : List ℕ → ℕ} {g : Names} (T : Table t first l hash adr g) where
  -- bucket f is the first empty one of the n from i on: any name put there is met from i on
  record FirstFree (n i f : ℕ) : Type 0 where
    below : f < l
    empty : name_at g f ≡ none
    met : (k : List ℕ) → Reached (set g f (some k)) l k n i

  free_cases : (n i : ℕ) → i < l → AllTaken g l n i ⊎ FirstFree n i (free_from t first l n i)
  free_cases zero i h = inl tt
  free_cases (suc n) i h = go (name_at g i) refl (free_cases n (next_bucket l i) (next-below l i h))
    where
      f : ℕ
      f = free_from t first l n (next_bucket l i)

      go : (o : Option (List ℕ)) → name_at g i ≡ o → AllTaken g l n (next_bucket l i) ⊎ FirstFree n (next_bucket l i) f
          → AllTaken g l (suc n) i ⊎ FirstFree (suc n) i (free_from t first l (suc n) i)
      go none e r = inr (subst (FirstFree (suc n) i) (sym (free_turn t first l n i true (empty_bucket T i h e)))
          (record { below = h; empty = e; met = λ k. inl (get_or-set_same g i (some k) none (omega (arith, T.long))) }))
      go (some y) e (inl r) = inl ((y, e), r)
      go (some y) e (inr r) =
          inr (subst (FirstFree (suc n) i) (sym (free_turn t first l n i false (named-bucket T i y e)))
          (record {
            below = r.below;
            empty = r.empty;
            met = λ k. inr (fill_taken g f k r.empty i (y, e), r.met k);
          }))

  -- with room there is such a bucket
  free_found : (h : ℕ) → occupied g < l → FirstFree l (start_of l h) (free_of t first l h)
  free_found h room =
      let b : start_of l h < l = start-below l h T.some_bucket in
      rw (free_start t first l h)
      (⊎_elim (λ a. absurd (omega (arith, taken_count g l l (start_of l h) T.long (omega arith) b a))) (λ f. f)
      (free_cases l (start_of l h) b))

  -- it filled with a name that isn't in the table, at its record's address
  module _ (k : List ℕ) (f : ℕ) (F : FirstFree l (start_of l (hash k)) f) (stranger : Member k g → ⊥)
      (address : adr k ≢ null_address) where
    inside-table : f < length g
    inside-table = omega (arith, F.below, T.long)

    bucket-fits : 2 * (first + f) + 2 ≤ length t
    bucket-fits = omega (arith, T.inside, F.below)

    filled-shows : (i : ℕ) → i < l
        → Shows (with_bucket (first + f) (adr k) (hash k) t) (first + i) hash adr (name_at (set g f (some k)) i)
    filled-shows i h = go (ℕ_discrete i f)
      where
        go : Dec (i ≡ f) → Shows (with_bucket (first + f) (adr k) (hash k) t) (first + i) hash adr
            (name_at (set g f (some k)) i)
        go (yes e) =
            rw (e, get_or-set_same g f (some k) none inside-table) (
              bucket_address (first + f) (adr k) (hash k) t bucket-fits,
              bucket_hash (first + f) (adr k) (hash k) t bucket-fits,
              address,
            )
        go (no e) =
            let o = bucket_other (first + f) (adr k) (hash k) t (first + i) (omega arith) in
            rw (get_or-set_other g f i (some k) none e)
            (shows_same t (with_bucket (first + f) (adr k) (hash k) t) (first + i) hash adr (name_at g i) o.0 o.1
            (T.shows i h))

    filled-reachable : (y : List ℕ) → Member y (set g f (some k))
        → Reached (set g f (some k)) l y l (start_of l (hash y))
    filled-reachable y m =
        ⊎_elim
        (λ e. subst (λ (y : List ℕ). Reached (set g f (some k)) l y l (start_of l (hash y))) (sym e.0) (F.met k))
        (λ e. fill_reached g f k F.empty l l (start_of l (hash y)) y (T.reachable y (m.0, e)))
        (fill_only g f k F.empty m.0 y inside-table m.1)

    filled_once : (y : List ℕ) (i j : ℕ) → name_at (set g f (some k)) i ≡ some y → name_at (set g f (some k)) j ≡ some y
        → i ≡ j
    filled_once y i j p q =
        go (fill_only g f k F.empty i y inside-table p) (fill_only g f k F.empty j y inside-table q)
      where
        strange : (x : ℕ) → y ≡ k → name_at g x ≡ some y → i ≡ j
        strange x e n = absurd (stranger (x, renamed n e))

        go : ((y ≡ k) × (i ≡ f)) ⊎ (name_at g i ≡ some y) → ((y ≡ k) × (j ≡ f)) ⊎ (name_at g j ≡ some y) → i ≡ j
        go (inl a) (inl b) = a.1 ∙ sym b.1
        go (inl a) (inr b) = strange j a.0 b
        go (inr a) (inl b) = strange i b.0 a
        go (inr a) (inr b) = T.once y i j a b

    filled-table : Table (with_bucket (first + f) (adr k) (hash k) t) first l hash adr (set g f (some k))
    filled-table = record {
      some_bucket = T.some_bucket;
      inside = rw (length-bucket (first + f) (adr k) (hash k) t) T.inside;
      long = length-set g f (some k) ∙ T.long;
      shows = filled-shows;
      reachable = filled-reachable;
      once = filled_once;
    }

    filled-one : f ≡ free_of t first l (hash k)
        → OneBucket first l (adr k) (hash k) t (with_bucket (first + f) (adr k) (hash k) t)
    filled-one e = record {
      bucket = f;
      below = F.below;
      first_empty = e;
      was_empty = subst (Shows t (first + f) hash adr) F.empty (T.shows f F.below);
      address_is = bucket_address (first + f) (adr k) (hash k) t bucket-fits;
      hash_is = bucket_hash (first + f) (adr k) (hash k) t bucket-fits;
      others = λ q x y. bucket-word (first + f) (adr k) (hash k) t q (beside q x y (dec_le (2 * (first + f)) q));
    }
      where
        beside : (q : ℕ) → q ≢ 2 * (first + f) → q ≢ 2 * (first + f) + 1 → Dec (2 * (first + f) ≤ q)
            → (q < 2 * (first + f)) ⊎ (2 * (first + f) + 2 ≤ q)
        beside q x y (yes h) = inr (omega arith)
        beside q x y (no h) = inl (omega arith)

  -- a name that isn't in the table, entered where there is room: the table has it, and every name that it had, and no
  -- other
  pub enters : (k : List ℕ) → (Member k g → ⊥) → occupied g < l → adr k ≢ null_address
      → (g' : Names) × Enters t first l hash adr g k g'
  enters k stranger room address =
      let f : ℕ = free_of t first l (hash k) in
      let F : FirstFree l (start_of l (hash k)) f = free_found (hash k) room in
      let b : f < length g = inside-table k f F stranger address in
      let e : entered first l (adr k) (hash k) t ≡ with_bucket (first + f) (adr k) (hash k) t =
      entered_free t first l (adr k) (hash k) (λ e. absurd (omega (arith, F.below))) in (
        set g f (some k),
        record {
          table = rw e (filled-table k f F stranger address);
          new = (f, get_or-set_same g f (some k) none b);
          kept = λ n m. (m.0, fill_name g f k F.empty m.0 n m.1);
          only = λ n m. ⊎_elim (λ e. inl e.0) (λ e. inr (m.0, e)) (fill_only g f k F.empty m.0 n b m.1);
          more = fill_count g f k F.empty b;
          one = rw e (filled-one k f F stranger address refl);
        },
      )
