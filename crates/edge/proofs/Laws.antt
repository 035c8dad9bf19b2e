-- Words told one behind the other are one write. Assumes nothing.
use Prim.Native.Nat.{ℕ, zero, suc, ◌+◌, ◌≤◌}
use mathlib.Core.Path.{◌≡◌, refl, sym, ap, ◌∙◌}
use mathlib.Core.List.{List, [], ◌∷◌, ◌++◌}
use native.Mathlib.Omega.{arith}
use lib.ListN.{length, length-append, set}
use Rattle.spans.specs.Span.{overwrite}
use Rattle.spans.proofs.Laws.{overwrite-append}

-- a place within the area
pub told_at : (m : List ℕ) (p v : ℕ) → set m p v ≡ overwrite p (v ∷ []) m
unfolding overwrite
told_at [] zero v = refl
told_at [] (suc p) v = refl
told_at (x ∷ m) zero v = refl
told_at (x ∷ m) (suc p) v = ap (◌∷◌ x) (told_at m p v)

-- and one past it
pub told_past : (m : List ℕ) (p v : ℕ) → length m ≤ p → m ≡ overwrite p (v ∷ []) m
unfolding overwrite
told_past [] zero v e = refl
told_past [] (suc p) v e = refl
told_past (x ∷ m) zero v e = absurd (omega (arith, e))
told_past (x ∷ m) (suc p) v e = ap (◌∷◌ x) (told_past m p v (omega (arith, e)))

-- a write that starts where another ends
behind : (p q : ℕ) (bs cs m : List ℕ) → q ≡ p + length bs → overwrite q cs (overwrite p bs m) ≡ overwrite p (bs ++ cs) m
behind p q bs cs m e = ap (λ (k : ℕ). overwrite k cs (overwrite p bs m)) e ∙ sym (overwrite-append p bs cs m)

pub told-four : (p a b c d : ℕ) (m : List ℕ)
    → overwrite (p + 3) (d ∷ []) (overwrite (p + 2) (c ∷ []) (overwrite (p + 1) (b ∷ []) (overwrite p (a ∷ []) m)))
    ≡ overwrite p (a ∷ b ∷ c ∷ d ∷ []) m
told-four p a b c d m =
    ap (λ (n : List ℕ). overwrite (p + 3) (d ∷ []) (overwrite (p + 2) (c ∷ []) n))
    (behind p (p + 1) (a ∷ []) (b ∷ []) m refl)
    ∙ ap (overwrite (p + 3) (d ∷ [])) (behind p (p + 2) (a ∷ b ∷ []) (c ∷ []) m refl)
    ∙ behind p (p + 3) (a ∷ b ∷ c ∷ []) (d ∷ []) m refl

pub told_fours : (xs ys zs vs m : List ℕ) → length xs ≡ 4 → length ys ≡ 4 → length zs ≡ 4
    → overwrite 12 vs (overwrite 8 zs (overwrite 4 ys (overwrite 0 xs m))) ≡ overwrite 0 (((xs ++ ys) ++ zs) ++ vs) m
told_fours xs ys zs vs m e f g =
    ap (λ (n : List ℕ). overwrite 12 vs (overwrite 8 zs n)) (behind 0 4 xs ys m (omega (arith, e)))
    ∙ ap (overwrite 12 vs) (behind 0 8 (xs ++ ys) zs m (omega (arith, e, f, length-append xs ys)))
    ∙ behind 0 12 ((xs ++ ys) ++ zs) vs m (omega (arith, e, f, g, length-append xs ys, length-append (xs ++ ys) zs))
