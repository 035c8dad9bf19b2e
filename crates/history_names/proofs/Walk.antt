-- A walk round the table, what it has met when it has met no empty bucket, and how many names that are. Assumes
-- nothing.
use Prim.Native.Nat.{ℕ, zero, suc, ◌+◌, ◌-◌, ◌≤◌, ◌<◌}
use mathlib.Core.Path.{◌≡◌, refl, sym, ap, ◌∙◌, subst}
use mathlib.Core.Logic.{◌⊎◌, inl, inr}
use mathlib.Core.Option.{Option, none, some}
use mathlib.Core.List.{List, [], ◌∷◌, ◌++◌}
use native.Mathlib.Nat.{add-zero, add-suc, zero-add, suc-add}
use native.Mathlib.Decide.{ℕ_discrete, dec_le}
use native.Mathlib.Omega.{arith}
use lib.ListN.{length, take, drop, set, take-append-drop, get_or-eq_default}
use lib.Seq.{take-suc, take-add, get_or-set_same, get_or-set_other}
use Rattle.shared_arena_hashmap.specs.Probe.{next_bucket}
use Rattle.shared_arena_hashmap.proofs.Room.{next_cases, next-below}
use Rattle.history_names.specs.Table.{Names, name_at, Taken, occupied, Reached}

-- ---- places

-- no name and a name; and a name by another name for it
pub clash : {A : Type 0} {o : Option (List ℕ)} {k : List ℕ} → o ≡ none → o ≡ some k → A
clash p q = let z : ◌≡◌ {A = ℕ} 0 1 = cc in absurd (omega arith)

pub renamed : {o : Option (List ℕ)} {y k : List ℕ} → o ≡ some y → y ≡ k → o ≡ some k
renamed p q = cc

-- a bucket with a name is one of the table's
pub named-below : (g : Names) (i : ℕ) (k : List ℕ) → name_at g i ≡ some k → i < length g
named-below g i k e = go (dec_le (length g) i)
  where
    go : Dec (length g ≤ i) → i < length g
    go (yes h) = clash (get_or-eq_default g none h) e
    go (no h) = omega arith

-- ---- counting

pub occupied-append : (g h : Names) → occupied (g ++ h) ≡ occupied g + occupied h
occupied-append [] h = sym (zero-add (occupied h))
occupied-append (none ∷ g) h = occupied-append g h
occupied-append (some y ∷ g) h = ap suc (occupied-append g h) ∙ sym (suc-add (occupied g) (occupied h))

-- a front part has no more names than a longer one, nor than the whole
occupied-front : (g : Names) (a m : ℕ) → occupied (take a g) ≤ occupied (take (a + m) g)
occupied-front g a m = rw (take-add a m g) (omega (arith, occupied-append (take a g) (take m (drop a g))))

pub occupied_part : (g : Names) (a : ℕ) → occupied (take a g) ≤ occupied g
occupied_part g a =
    omega (arith, occupied-append (take a g) (drop a g), ap occupied (take-append-drop a g))

-- m buckets from a on that all have names
occupied-run : (g : Names) (a m : ℕ) → a + m ≤ length g → ((j : ℕ) → a ≤ j → j < a + m → Taken g j)
    → occupied (take a g) + m ≤ occupied (take (a + m) g)
occupied-run g a zero h f = simp add-zero (omega arith)
occupied-run g a (suc m) h f =
    let t : Taken g (a + m) = f (a + m) (omega arith) (omega arith) in
    let s : take (suc (a + m)) g ≡ take (a + m) g ++ (some t.0 ∷ []) =
    take-suc g (a + m) none (omega arith) ∙ ap (λ (o : Option (List ℕ)). take (a + m) g ++ (o ∷ [])) t.1 in
    let ih = occupied-run g a m (omega arith) (λ j p q. f j p (omega arith)) in
    simp add-suc (rw s (omega (arith, ih, occupied-append (take (a + m) g) (some t.0 ∷ []))))

-- ---- a walk that meets no empty bucket

-- the n buckets that are met going up from i, round the end of l, all have names
abbrev pub AllTaken : Names → ℕ → ℕ → ℕ → Type 0
AllTaken g l zero i = Unit {0}
AllTaken g l (suc n) i = Taken g i × AllTaken g l n (next_bucket l i)

-- bucket j is one of the n that are met from i on
abbrev Ahead : ℕ → ℕ → ℕ → ℕ → Type 0
Ahead l n i j = ((i ≤ j) × (j < i + n)) ⊎ (j + l < i + n)

covered : (g : Names) (l n i j : ℕ) → i < l → j < l → AllTaken g l n i → Ahead l n i j → Taken g j
covered g l zero i j h k a (inl w) = absurd (omega arith)
covered g l zero i j h k a (inr w) = absurd (omega arith)
covered g l (suc n) i j h k a w =
    go (ℕ_discrete i j) (next_cases l i h) w (covered g l n (next_bucket l i) j (next-below l i h) k a.1)
  where
    go : Dec (i ≡ j) → ((i + 1 ≡ l) × (next_bucket l i ≡ 0)) ⊎ ((i + 1 < l) × (next_bucket l i ≡ i + 1))
        → Ahead l (suc n) i j
        → (Ahead l n (next_bucket l i) j → Taken g j) → Taken g j
    go (yes e) c w f = subst (Taken g) e a.0
    go (no e) (inl c) (inl w) f = absurd (omega (arith, c.0))
    go (no e) (inl c) (inr w) f = f (inl (omega (arith, c.0, c.1), omega (arith, c.0, c.1)))
    go (no e) (inr c) (inl w) f = f (inl (omega (arith, c.0, c.1), omega (arith, c.0, c.1)))
    go (no e) (inr c) (inr w) f = f (inr (omega (arith, c.0, c.1)))

-- such a walk of at most one lap has met as many names as it has looked at buckets
pub taken_count : (g : Names) (l n i : ℕ) → length g ≡ l → n ≤ l → i < l → AllTaken g l n i → n ≤ occupied g
taken_count g l n i e h k a = go (dec_le (i + n) l)
  where
    taken : (j : ℕ) → j < l → Ahead l n i j → Taken g j
    taken j q w = covered g l n i j k q a w

    go : Dec (i + n ≤ l) → n ≤ occupied g
    go (yes p) =
        omega (
          arith,
          occupied-run g i n (omega arith) (λ j q r. taken j (omega arith) (inl (q, r))),
          occupied_part g (i + n),
        )
    go (no p) =
        let m : ℕ = i + n - l in
        let front : occupied (take 0 g) + m ≤ occupied (take (0 + m) g) =
        occupied-run g 0 m (omega arith) (λ j q r. taken j (omega arith) (inr (omega arith))) in
        let back : occupied (take i g) + (l - i) ≤ occupied (take (i + (l - i)) g) =
        occupied-run g i (l - i) (omega arith) (λ j q r. taken j (omega arith) (inl (q, omega arith))) in
        let mid : occupied (take (0 + m) g) ≤ occupied (take (0 + m + (i - m)) g) = occupied-front g (0 + m) (i - m) in
        let s : 0 + m + (i - m) ≡ i = omega arith in
        omega (arith, front, back, rw s at mid, occupied_part g (i + (l - i)))

-- ---- one name more

module _ (g : Names) (f : ℕ) (k : List ℕ) (empty : name_at g f ≡ none) where
  -- each name stands where it stood
  pub fill_name : (i : ℕ) (y : List ℕ) → name_at g i ≡ some y → name_at (set g f (some k)) i ≡ some y
  fill_name i y e = get_or-set_other g f i (some k) none (λ p. clash (ap (name_at g) p ∙ empty) e) ∙ e

  pub fill_taken : (i : ℕ) → Taken g i → Taken (set g f (some k)) i
  fill_taken i t = (t.0, fill_name i t.0 t.1)

  pub fill_reached : (l n i : ℕ) (y : List ℕ) → Reached g l y n i → Reached (set g f (some k)) l y n i
  fill_reached l zero i y r = r
  fill_reached l (suc n) i y (inl e) = inl (fill_name i y e)
  fill_reached l (suc n) i y (inr r) = inr (fill_taken i r.0, fill_reached l n (next_bucket l i) y r.1)

  -- and what stands is the new name at its bucket, or stood before
  pub fill_only : (i : ℕ) (y : List ℕ) → f < length g → name_at (set g f (some k)) i ≡ some y
      → ((y ≡ k) × (i ≡ f)) ⊎ (name_at g i ≡ some y)
  fill_only i y h e = go (ℕ_discrete i f)
    where
      go : Dec (i ≡ f) → ((y ≡ k) × (i ≡ f)) ⊎ (name_at g i ≡ some y)
      go (yes p) =
          let s : name_at (set g f (some k)) i ≡ some k =
          ap (name_at (set g f (some k))) p ∙ get_or-set_same g f (some k) none h in
          inl ((cc), p)
      go (no p) = inr (sym (get_or-set_other g f i (some k) none p) ∙ e)

pub fill_count : (g : Names) (f : ℕ) (k : List ℕ) → name_at g f ≡ none → f < length g
    → occupied (set g f (some k)) ≡ suc (occupied g)
fill_count [] f k e h = absurd (omega arith)
fill_count (none ∷ g) zero k e h = refl
fill_count (some y ∷ g) zero k e h = clash e refl
fill_count (none ∷ g) (suc f) k e h = fill_count g f k e (omega arith)
fill_count (some y ∷ g) (suc f) k e h = ap suc (fill_count g f k e (omega arith))
