-- A table of no names, and a table grown: the same names at the new place. Assumes nothing.
use Prim.Native.Nat.{ℕ, zero, suc, ◌+◌, ◌*◌, ◌≤◌, ◌<◌}
use mathlib.Core.Path.{◌≡◌, refl, sym, ap, ◌∙◌, subst}
use mathlib.Core.Logic.{◌⊎◌, inl, inr, ◌≢◌}
use mathlib.Core.Bool.{Bool, true, false}
use mathlib.Core.Option.{Option, none, some}
use mathlib.Core.List.{List, [], ◌∷◌, ◌++◌}
use native.Mathlib.Nat.{add-zero}
use native.Mathlib.Decide.{ℕ_discrete}
use native.Mathlib.Omega.{arith}
use lib.ListN.{length, get_or, take, replicate, length-replicate}
use lib.Seq.{take-suc, take_all}
use Rattle.spans.specs.Span.{Apart}
use Rattle.shared_arena_hashmap.specs.Buckets.{address_at, hash_at, empty_at, cleared}
use Rattle.shared_arena_hashmap.specs.Grow.{entered, reentered, all_reentered, grown}
use Rattle.history_names.specs.Table.{Names, name_at, Member, occupied, Shows, Table, Outside, Enters, Grows}
use Rattle.shared_arena_hashmap.proofs.Laws.{length-cleared}
use Rattle.shared_arena_hashmap.proofs.Words.{clear_address}
use Rattle.history_names.proofs.Words.{clear_frame}
use Rattle.history_names.proofs.Walk.{named-below, clash, renamed, occupied-append, occupied_part}
use Rattle.history_names.proofs.Lookup.{empty_bucket, named-bucket, named-shows}
use Rattle.history_names.proofs.Enter.{shows_same, enters, enter_length, enter_frame}

-- ---- the same table

-- in words that agree with it on the table
pub table_kept : {t : List ℕ} {first l : ℕ} {hash adr : List ℕ → ℕ} {g : Names} → Table t first l hash adr g
    → (u : List ℕ)
    → length u ≡ length t → ((q : ℕ) → 2 * first ≤ q → q < 2 * (first + l) → get_or u q 0 ≡ get_or t q 0)
    → Table u first l hash adr g
table_kept {t} {first} {l} {hash} {adr} {g} T u e f = record {
  some_bucket = T.some_bucket;
  inside = rw e T.inside;
  long = T.long;
  shows = λ i h. shows_same t u (first + i) hash adr (name_at g i) (f (2 * (first + i)) (omega arith) (omega arith))
      (f (2 * (first + i) + 1) (omega arith) (omega arith)) (T.shows i h);
  reachable = T.reachable;
  once = T.once;
}

-- with addresses that agree on its names
pub table_readdressed : {t : List ℕ} {first l : ℕ} {hash adr : List ℕ → ℕ} {g : Names} → Table t first l hash adr g
    → (adr' : List ℕ → ℕ)
    → ((k : List ℕ) → Member k g → adr' k ≡ adr k) → Table t first l hash adr' g
table_readdressed {t} {first} {l} {hash} {adr} {g} T adr' f = record {
  some_bucket = T.some_bucket;
  inside = T.inside;
  long = T.long;
  shows = λ i h. go i (name_at g i) refl (T.shows i h);
  reachable = T.reachable;
  once = T.once;
}
  where
    go : (i : ℕ) (o : Option (List ℕ)) → name_at g i ≡ o → Shows t (first + i) hash adr o
        → Shows t (first + i) hash adr' o
    go i none e s = s
    go i (some k) e s = let p : adr' k ≡ adr k = f k (i, e) in (s.0 ∙ sym p, s.1, λ q. s.2 (sym p ∙ q))

-- ---- a table of no names

blank_name : (n i : ℕ) → name_at (replicate n none) i ≡ none
blank_name zero i = refl
blank_name (suc n) zero = refl
blank_name (suc n) (suc i) = blank_name n i

pub clears_none : (n : ℕ) (k : List ℕ) → Member k (replicate n none) → ⊥
clears_none n k m = clash (blank_name n m.0) m.1

pub clears_count : (n : ℕ) → occupied (replicate n none) ≡ 0
clears_count zero = refl
clears_count (suc n) = clears_count n

-- cleared buckets are a table of no names
pub clears : (t : List ℕ) (b l : ℕ) (hash adr : List ℕ → ℕ) → 0 < l → 2 * (b + l) ≤ length t
    → Table (cleared b l t) b l hash adr (replicate l none)
clears t b l hash adr h k = record {
  some_bucket = h;
  inside = rw (length-cleared b l t) k;
  long = length-replicate l none;
  shows = λ i p. rw (blank_name l i) (clear_address b l t i p k);
  reachable = λ y m. absurd (clears_none l y m);
  once = λ y i j p q. clash (blank_name l i) p;
}

-- ---- what growing writes, whatever the words

module _ (first l : ℕ) where
  reentered_empty : (b : ℕ) (u : List ℕ) → empty_at u b ≡ true → reentered b first l u ≡ u
  unfolding reentered
  reentered_empty b u e = rw e

  reentered-named : (b : ℕ) (u : List ℕ) → empty_at u b ≡ false
      → reentered b first l u ≡ entered first l (address_at u b) (hash_at u b) u
  unfolding reentered
  reentered-named b u e = rw e

  reentered_either : (b : ℕ) (u : List ℕ) (P : List ℕ → Type 0) → P u
      → P (entered first l (address_at u b) (hash_at u b) u) → P (reentered b first l u)
  reentered_either b u P x y = go (empty_at u b) refl
    where
      go : (e : Bool) → empty_at u b ≡ e → P (reentered b first l u)
      go true e = subst P (sym (reentered_empty b u e)) x
      go false e = subst P (sym (reentered-named b u e)) y

  -- a fact that every entering keeps
  reentered-all : (P : List ℕ → Type 0) → ((u : List ℕ) (address hash : ℕ) → P u → P (entered first l address hash u))
      → (n b : ℕ) (u : List ℕ) → P u → P (all_reentered n b first l u)
  unfolding all_reentered
  reentered-all P f zero b u x = x
  reentered-all P f (suc n) b u x =
      reentered-all P f n (b + 1) (reentered b first l u)
      (reentered_either b u P x (f u (address_at u b) (hash_at u b) x))

  module _ (n old : ℕ) (t : List ℕ) where
    -- every word outside the new table is as it was
    pub grow_frame : 0 < l → (q : ℕ) → Outside first l q → get_or (grown n old first l t) q 0 ≡ get_or t q 0
    unfolding grown
    grow_frame p q d =
        reentered-all (λ (u : List ℕ). get_or u q 0 ≡ get_or t q 0) (λ u a h e. enter_frame u first l a h p q d ∙ e) n old
        (cleared first l t)
        (clear_frame first l t q d)

-- ---- the names, bucket by bucket

module _ {t : List ℕ} {first l : ℕ} {hash adr : List ℕ → ℕ} {g : Names} (T : Table t first l hash adr g) (first' l' : ℕ)
    (apart : Apart first l first' l')
    (some_bucket : 0 < l') (room : occupied g ≤ l') where
  -- words that agree outside the new table have the old table too
  old-kept : (u v : List ℕ) → Table u first l hash adr g → length v ≡ length u
      → ((q : ℕ) → Outside first' l' q → get_or v q 0 ≡ get_or u q 0)
      → Table v first l hash adr g
  old-kept u v O e f = table_kept O v e (λ q h k. f q (outside q h k apart))
    where
      outside : (q : ℕ) → 2 * first ≤ q → q < 2 * (first + l) → Apart first l first' l' → Outside first' l' q
      outside q h k (inl p) = inl (omega arith)
      outside q h k (inr p) = inr (omega arith)

  -- the names of the first i old buckets have been entered
  record Midway (i : ℕ) (u : List ℕ) (g' : Names) : Type 0 where
    old : Table u first l hash adr g
    table : Table u first' l' hash adr g'
    kept : (n : List ℕ) (j : ℕ) → j < i → name_at g j ≡ some n → Member n g'
    only : (n : List ℕ) → Member n g' → (j : ℕ) × (j < i) × (name_at g j ≡ some n)
    many : occupied g' ≡ occupied (take i g)

  module _ (i : ℕ) (u : List ℕ) (g' : Names) (h : i < l) (M : Midway i u g') where
    turn_count : (o : Option (List ℕ)) → name_at g i ≡ o
        → occupied (take (suc i) g) ≡ occupied (take i g) + occupied (o ∷ [])
    turn_count o e =
        ap occupied (take-suc g i none (omega (arith, T.long)) ∙ ap (λ (o : Option (List ℕ)). take i g ++ (o ∷ [])) e)
        ∙ occupied-append (take i g) (o ∷ [])

    turn_empty : name_at g i ≡ none → Midway (suc i) u g'
    turn_empty e = record {
      old = M.old;
      table = M.table;
      kept = λ n j b p. M.kept n j (below n j b p) p;
      only = λ n m. let o = M.only n m in (o.0, omega (arith, o.1), o.2);
      many = omega (arith, M.many, turn_count none e);
    }
      where
        below : (n : List ℕ) (j : ℕ) → j < suc i → name_at g j ≡ some n → j < i
        below n j b p = let q : j ≢ i = λ r. clash (ap (name_at g) r ∙ e) p in omega arith

    turn-named : (k : List ℕ) → name_at g i ≡ some k
        → (g'' : Names) × Midway (suc i) (entered first' l' (adr k) (hash k) u) g''
    turn-named k e =
        let s : Shows u (first + i) hash adr (some k) = named-shows M.old i k e in
        let E = enters M.table k stranger (omega (arith, M.many, turn_count (some k) e, occupied_part g (suc i)))
        s.2 in (
          E.0,
          record {
            old =
                old-kept u (entered first' l' (adr k) (hash k) u) M.old (enter_length u first' l' (adr k) (hash k))
                (enter_frame u first' l' (adr k) (hash k) some_bucket);
            table = E.1.table;
            kept = λ n j b p. here E.0 E.1 n j b p (ℕ_discrete j i);
            only = λ n m. there n (E.1.only n m);
            many = omega (arith, E.1.more, M.many, turn_count (some k) e);
          },
        )
      where
        stranger : Member k g' → ⊥
        stranger m = let o = M.only k m in omega (arith, o.1, T.once k o.0 i o.2 e)

        here : (g'' : Names) → Enters u first' l' hash adr g' k g'' → (n : List ℕ) (j : ℕ) → j < suc i
            → name_at g j ≡ some n → Dec (j ≡ i) → Member n g''
        here g'' E n j b p (yes q) =
            let r : name_at g j ≡ some k = ap (name_at g) q ∙ e in
            let x : n ≡ k = cc in
            subst (λ (n : List ℕ). Member n g'') (sym x) E.new
        here g'' E n j b p (no q) = E.kept n (M.kept n j (omega arith) p)

        there : (n : List ℕ) → (n ≡ k) ⊎ Member n g' → (j : ℕ) × (j < suc i) × (name_at g j ≡ some n)
        there n (inl x) = (i, omega arith, renamed e (sym x))
        there n (inr m) = let o = M.only n m in (o.0, omega (arith, o.1), o.2)

    turn : (g'' : Names) × Midway (suc i) (reentered (first + i) first' l' u) g''
    turn = go (name_at g i) refl
      where
        go : (o : Option (List ℕ)) → name_at g i ≡ o
            → (g'' : Names) × Midway (suc i) (reentered (first + i) first' l' u) g''
        go none e = (g', rw (reentered_empty first' l' (first + i) u (empty_bucket M.old i h e)) (turn_empty e))
        go (some k) e =
            let s : Shows u (first + i) hash adr (some k) = named-shows M.old i k e in
            rw (reentered-named first' l' (first + i) u (named-bucket M.old i k e), s.0, s.1) (turn-named k e)

  turns : (n i : ℕ) (u : List ℕ) (g' : Names) → i + n ≡ l → Midway i u g'
      → (g'' : Names) × Midway l (all_reentered n (first + i) first' l' u) g''
  unfolding all_reentered
  turns zero i u g' e M = (g', subst (λ (i : ℕ). Midway i u g') (omega arith) M)
  turns (suc n) i u g' e M =
      let N = turn i u g' (omega arith) M in
      let b : first + i + 1 ≡ first + suc i = omega arith in
      rw b (turns n (suc i) (reentered (first + i) first' l' u) N.0 (omega arith) N.1)

  grown-midway : 2 * (first' + l') ≤ length t → (g' : Names) × Midway l (grown l first first' l' t) g'
  unfolding grown
  grown-midway inside =
      rw add-zero at (turns l 0 (cleared first' l' t) (replicate l' none) (omega arith) (record {
        old = old-kept t (cleared first' l' t) T (length-cleared first' l' t) (clear_frame first' l' t);
        table = clears t first' l' hash adr some_bucket inside;
        kept = λ n j b p. absurd (omega arith);
        only = λ n m. absurd (clears_none l' n m);
        many = clears_count l';
      }))

  -- a table grown to another place that has room: the same names
  pub grows : 2 * (first' + l') ≤ length t → (g' : Names) × Grows t first l first' l' hash adr g g'
  grows inside =
      let E = grown-midway inside in (
        E.0,
        record {
          table = E.1.table;
          kept = λ n m. E.1.kept n m.0 (omega (arith, T.long, named-below g m.0 n m.1)) m.1;
          only = λ n m. let o = E.1.only n m in (o.0, o.2);
          many = E.1.many ∙ ap occupied (take_all l g (omega (arith, T.long)));
        },
      )
