-- Names that are told at most once were not seen before. Assumes nothing.
use Prim.Native.Nat.{ℕ, suc, ◌+◌, ◌≤◌}
use mathlib.Core.Path.{◌≡◌, refl, sym, ap, subst}
use mathlib.Core.Bool.{Bool, true, false, cond, false≢true}
use mathlib.Core.List.{List, [], ◌∷◌, ◌++◌, map, append_assoc}
use native.Mathlib.Omega.{arith}
use Rattle.fastcmp.specs.Equal.{equal_bytes}
use Rattle.fastcmp.proofs.Laws.{equal_refl}
use Rattle.history_names.specs.Listing.{times}
use Rattle.report_text.specs.Text.{Lane}
use Rattle.report_text.specs.Reader.{named}
use Rattle.report_text.specs.Reportable.{Unseen}

abbrev pub names_of : List Lane → List (List ℕ)
names_of ls = map (λ (a : Lane). a.name) ls

times-append : (j : List ℕ) (a b : List (List ℕ)) → times j (a ++ b) ≡ times j a + times j b
unfolding times
times-append j [] b = omega arith
times-append j (n ∷ a) b = go (equal_bytes j n) (times-append j a b)
  where
    go : (t : Bool) → times j (a ++ b) ≡ times j a + times j b
        → cond t (suc (times j (a ++ b))) (times j (a ++ b)) ≡ cond t (suc (times j a)) (times j a) + times j b
    go true e = omega arith
    go false e = e

times_here : (k : List ℕ) (ns : List (List ℕ)) → 1 ≤ times k (k ∷ ns)
unfolding times
times_here k ns = rw (equal_refl k) (omega arith)

seen-times : (k : List ℕ) (ls : List Lane) → named k ls ≡ true → 1 ≤ times k (names_of ls)
unfolding named times
seen-times k [] e = absurd (false≢true e)
seen-times k (a ∷ ls) e = go (equal_bytes k a.name) (seen-times k ls) e
  where
    go : (t : Bool) → (named k ls ≡ true → 1 ≤ times k (names_of ls)) → cond t true (named k ls) ≡ true
        → 1 ≤ cond t (suc (times k (names_of ls))) (times k (names_of ls))
    go true f e = omega arith
    go false f e = f e

names-append : (a b : List Lane) → names_of (a ++ b) ≡ names_of a ++ names_of b
names-append [] b = refl
names-append (x ∷ a) b = ap (λ (l : List (List ℕ)). x.name ∷ l) (names-append a b)

pub unseen : (seen ls : List Lane) → ((k : List ℕ) → times k (names_of (seen ++ ls)) ≤ 1) → Unseen seen ls
unseen seen [] f = tt
unseen seen (a ∷ ls) f = (
  go (named a.name seen) refl,
  unseen (seen ++ (a ∷ [])) ls
      (λ k. subst (λ (l : List Lane). times k (names_of l) ≤ 1) (sym (append_assoc seen (a ∷ []) ls)) (f k)),
)
  where
    twice : named a.name seen ≡ true → ⊥
    twice e =
        omega (
          arith,
          seen-times a.name seen e,
          times_here a.name (names_of ls),
          times-append a.name (names_of seen) (names_of (a ∷ ls)),
          ap (times a.name) (names-append seen (a ∷ ls)),
          f a.name,
        )

    go : (t : Bool) → named a.name seen ≡ t → named a.name seen ≡ false
    go true e = absurd (twice e)
    go false e = e
