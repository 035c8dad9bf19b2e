-- Sums over the lanes of a log: one entry more, and the names in another order. Assumes nothing.
use Prim.Native.Nat.{ℕ, suc, ◌+◌, ◌*◌, ◌≤◌}
use mathlib.Core.Path.{◌≡◌, refl, sym, ap, ◌∙◌}
use mathlib.Core.Bool.{Bool, true, false, cond, false≢true}
use mathlib.Core.Option.{Option, none, some}
use mathlib.Core.List.{List, [], ◌∷◌, ◌++◌}
use native.Mathlib.Nat.{suc-mul}
use native.Mathlib.Omega.{arith}
use Rattle.numbers.proofs.Tests.{same_test}
use Rattle.fastcmp.specs.Equal.{equal_bytes}
use Rattle.fastcmp.proofs.Laws.{equal_same, equal_true}
use Rattle.history_names.specs.Listing.{times}
use Rattle.history.specs.History.{Entry, entry, joined_on, joined_in, is_joined, among, with_name, names_in}
use Rattle.history.proofs.Log.{joined-more, names_more}
use Rattle.history.proofs.Told.{times_none}
use Rattle.shift_cost.specs.Shift.{sum_of, over_lanes}

-- ---- a sum

pub sum-end : (f : List ℕ → ℕ) (ns : List (List ℕ)) (n : List ℕ) → sum_of f (ns ++ (n ∷ [])) ≡ sum_of f ns + f n
unfolding sum_of
sum-end f [] n = omega arith
sum-end f (m ∷ ns) n = omega (arith, sum-end f ns n)

pub sum_same : (f g : List ℕ → ℕ) → ((j : List ℕ) → f j ≡ g j) → (ns : List (List ℕ)) → sum_of f ns ≡ sum_of g ns
unfolding sum_of
sum_same f g e [] = refl
sum_same f g e (n ∷ ns) = omega (arith, e n, sum_same f g e ns)

turned : (a b : List ℕ) → equal_bytes a b ≡ equal_bytes b a
turned a b =
    same_test _ _ (λ e. equal_same b a (sym (equal_true a b e))) (λ e. equal_same a b (sym (equal_true b a e)))

-- in which one name's part is another
swapped : (f g : List ℕ → ℕ) (name : List ℕ) → ((j : List ℕ) → equal_bytes j name ≡ false → g j ≡ f j)
    → (ns : List (List ℕ)) → sum_of g ns + times name ns * f name ≡ sum_of f ns + times name ns * g name
unfolding sum_of times
swapped f g name e [] = omega arith
swapped f g name e (m ∷ ns) = go (equal_bytes m name) refl (swapped f g name e ns)
  where
    go : (b : Bool) → equal_bytes m name ≡ b
        → sum_of g ns + times name ns * f name ≡ sum_of f ns + times name ns * g name
        → g m + sum_of g ns + cond (equal_bytes name m) (suc (times name ns)) (times name ns) * f name
        ≡ f m + sum_of f ns + cond (equal_bytes name m) (suc (times name ns)) (times name ns) * g name
    go true p ih =
        rw (turned name m, p)
        (omega (
          arith,
          ih,
          ap f (equal_true m name p),
          ap g (equal_true m name p),
          suc-mul (times name ns) (f name),
          suc-mul (times name ns) (g name),
        ))
    go false p ih = rw (turned name m, p) (omega (arith, ih, e m p))

-- ---- one entry more

module _ (log : List Entry) (name bytes : List ℕ) where
  abbrev f : List ℕ → Option (List ℕ)
  f j = joined_in j log none

  abbrev ns : List (List ℕ)
  ns = names_in log []

  lane-more : (j : List ℕ) → joined_in j (log ++ (entry name bytes ∷ [])) none
      ≡ cond (equal_bytes j name) (joined_on (f j) bytes) (f j)
  unfolding joined_in
  lane-more j = joined-more j log (entry name bytes ∷ []) none

  pub name-more : names_in (log ++ (entry name bytes ∷ [])) [] ≡ with_name name ns
  unfolding names_in
  name-more = names_more log (entry name bytes ∷ []) []

  -- each name is told once, and those are told that have an entry
  module _ (once : (j : List ℕ) → among j ns ≡ true → times j ns ≡ 1)
      (told : (j : List ℕ) → among j ns ≡ is_joined (f j)) (h : Option (List ℕ) → ℕ) (nothing : h none ≡ 0) where
    abbrev old : List ℕ → ℕ
    old j = h (f j)

    abbrev new : List ℕ → ℕ
    new j = h (cond (equal_bytes j name) (joined_on (f j) bytes) (f j))

    own : new name ≡ h (joined_on (f name) bytes)
    own = rw (equal_same name name refl)

    other : (j : List ℕ) → equal_bytes j name ≡ false → new j ≡ old j
    other j e = rw e

    missing : (o : Option (List ℕ)) → is_joined o ≡ false → h o ≡ 0
    missing none e = nothing
    missing (some bs) e = absurd (false≢true (sym e))

    with-name : (b : Bool) → among name ns ≡ b
        → sum_of new (cond b ns (ns ++ (name ∷ []))) + old name ≡ sum_of old ns + new name
    with-name true e =
        omega (
          arith,
          swapped old new name other ns,
          ap (λ (t : ℕ). t * old name) (once name e),
          ap (λ (t : ℕ). t * new name) (once name e),
        )
    with-name false e =
        omega (
          arith,
          swapped old new name other ns,
          ap (λ (t : ℕ). t * old name) (times_none name ns e),
          ap (λ (t : ℕ). t * new name) (times_none name ns e),
          sum-end new ns name,
          missing (f name) (sym (told name) ∙ e),
        )

    -- the lane's part goes up to what its entries come to now, and no other's moves
    pub lanes-more : over_lanes h (log ++ (entry name bytes ∷ [])) + h (f name)
        ≡ over_lanes h log + h (joined_on (f name) bytes)
    unfolding over_lanes
    lanes-more =
        omega (
          arith,
          ap (sum_of (λ j. h (joined_in j (log ++ (entry name bytes ∷ [])) none))) name-more,
          sum_same (λ j. h (joined_in j (log ++ (entry name bytes ∷ [])) none)) new (λ j. ap h (lane-more j))
              (with_name name ns),
          with-name (among name ns) refl,
          own,
        )

    -- and is no more than the whole
    pub lane-within : h (f name) ≤ over_lanes h log
    unfolding over_lanes
    lane-within = go (among name ns) refl
      where
        less : List ℕ → ℕ
        less j = cond (equal_bytes j name) 0 (old j)

        go : (b : Bool) → among name ns ≡ b → h (f name) ≤ sum_of old ns
        go true e =
            omega (
              arith,
              swapped old less name (λ j q. rw q) ns,
              ap (λ (t : ℕ). t * old name) (once name e),
              ap (λ (t : ℕ). t * less name) (once name e),
              ap {B = ℕ} (λ (b : Bool). cond b 0 (old name)) (equal_same name name refl),
            )
        go false e = omega (arith, missing (f name) (sym (told name) ∙ e))

-- ---- the names in another order

unfoldable removed : List ℕ → List (List ℕ) → List (List ℕ)
unfolding equal_bytes
removed x [] = []
removed x (y ∷ ys) = cond (equal_bytes x y) ys (y ∷ removed x ys)

sum-removed : (f : List ℕ → ℕ) (x : List ℕ) (ys : List (List ℕ)) → 1 ≤ times x ys
    → sum_of f ys ≡ f x + sum_of f (removed x ys)
unfolding removed sum_of times
sum-removed f x [] l = absurd (omega arith)
sum-removed f x (y ∷ ys) l = go (equal_bytes x y) refl l (sum-removed f x ys)
  where
    go : (b : Bool) → equal_bytes x y ≡ b → 1 ≤ cond b (suc (times x ys)) (times x ys)
        → (1 ≤ times x ys → sum_of f ys ≡ f x + sum_of f (removed x ys))
        → f y + sum_of f ys ≡ f x + sum_of f (cond b ys (y ∷ removed x ys))
    go true p l ih = omega (arith, ap f (equal_true x y p))
    go false p l ih = omega (arith, ih l)

times-removed : (j x : List ℕ) (ys : List (List ℕ)) → 1 ≤ times x ys
    → times j ys ≡ times j (removed x ys) + cond (equal_bytes j x) 1 0
unfolding removed times
times-removed j x [] l = absurd (omega arith)
times-removed j x (y ∷ ys) l = go (equal_bytes x y) refl l (times-removed j x ys)
  where
    one : (b : Bool) (n : ℕ) → cond b (suc n) n ≡ n + cond b 1 0
    one true n = omega arith
    one false n = omega arith

    more : (b : Bool) (n m k : ℕ) → n ≡ m + k → cond b (suc n) n ≡ cond b (suc m) m + k
    more true n m k e = omega arith
    more false n m k e = e

    go : (b : Bool) → equal_bytes x y ≡ b → 1 ≤ cond b (suc (times x ys)) (times x ys)
        → (1 ≤ times x ys → times j ys ≡ times j (removed x ys) + cond (equal_bytes j x) 1 0)
        → cond (equal_bytes j y) (suc (times j ys)) (times j ys)
        ≡ times j (cond b ys (y ∷ removed x ys)) + cond (equal_bytes j x) 1 0
    go true p l ih =
        ap (λ (k : List ℕ). cond (equal_bytes j k) (suc (times j ys)) (times j ys)) (sym (equal_true x y p))
        ∙ one (equal_bytes j x) (times j ys)
    go false p l ih =
        more (equal_bytes j y) (times j ys) (times j (removed x ys)) (cond (equal_bytes j x) 1 0) (ih l)

-- lists that tell each name as often have the same sum
pub sum_ordered : (f : List ℕ → ℕ) (xs ys : List (List ℕ)) → ((j : List ℕ) → times j xs ≡ times j ys)
    → sum_of f xs ≡ sum_of f ys
unfolding sum_of times
sum_ordered f [] [] e = refl
sum_ordered f [] (y ∷ ys) e =
    absurd (omega (arith, e y, ap (λ (b : Bool). cond b (suc (times y ys)) (times y ys)) (equal_same y y refl)))
sum_ordered f (x ∷ xs) ys e =
    omega (arith, sum-removed f x ys there, sum_ordered f xs (removed x ys) (λ j. go j (equal_bytes j x) refl))
  where
    there : 1 ≤ times x ys
    there = omega (arith, e x, ap (λ (b : Bool). cond b (suc (times x xs)) (times x xs)) (equal_same x x refl))

    go : (j : List ℕ) (b : Bool) → equal_bytes j x ≡ b → times j xs ≡ times j (removed x ys)
    go j true p =
        omega (
          arith,
          e j,
          ap (λ (b : Bool). cond b (suc (times j xs)) (times j xs)) p,
          times-removed j x ys there,
          ap {B = ℕ} (λ (b : Bool). cond b 1 0) p,
        )
    go j false p =
        omega (
          arith,
          e j,
          ap (λ (b : Bool). cond b (suc (times j xs)) (times j xs)) p,
          times-removed j x ys there,
          ap {B = ℕ} (λ (b : Bool). cond b 1 0) p,
        )
