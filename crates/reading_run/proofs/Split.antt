-- Bytes split into vints, one step at a time; and what is asked of the vint reader here. Assumes nothing.
use Prim.Native.Nat.{ℕ, zero, suc, ◌≤◌}
use mathlib.Core.Path.{◌≡◌, refl, sym, subst}
use mathlib.Core.Bool.{Bool, true, false, cond, false≢true, ◌||◌}
use mathlib.Core.List.{List, [], ◌∷◌, ◌++◌}
use native.Mathlib.Omega.{arith}
use lib.Dec.{eqb}
use lib.ListN.{length, drop}
use Rattle.limits.specs.Limits.{vint_limit}
use Rattle.limits.specs.Refusals.{unvinting, refusal_numbers, is_among, permitted, number_of}
use Rattle.limits.specs.declared.Refusal.{Refusal}
use Rattle.limits.specs.declared.Refusal.TheVariants.{AnotherForm}
use Rattle.std.specs.Prelude.{Option, Some, None, Ok, Err}
use Rattle.vint.specs.Vint.{Unvint, number, ended, take_vint, last_group, is_another_form, answer_of, read_vint, said_unvint}
use Rattle.vint.proofs.Laws.{answers, same_number}
use Rattle.reading_run.specs.Readings.{split, on_vint, split_up, vints_of}

pub drop-front : (xs ys : List ℕ) → drop (length xs) (xs ++ ys) ≡ ys
drop-front [] ys = refl
drop-front (x ∷ xs) ys = drop-front xs ys

pub split_step : (f : ℕ) (bs : List ℕ) → 1 ≤ length bs
    → split_up (suc f) bs ≡ on_vint (read_vint bs) bs (λ rest. split_up f rest)
unfolding split_up
split_step f [] h = absurd (omega arith)
split_step f (b ∷ bs) h = refl

pub split_none : (f : ℕ) → split_up f [] ≡ split [] None
unfolding split_up
split_none zero = refl
split_none (suc f) = refl

-- ---- the reader

-- a number that is listed is so in a longer list
pub among-behind : (n : ℕ) (ms ns : List ℕ) → is_among n ns ≡ true → is_among n (ms ++ ns) ≡ true
among-behind n [] ns e = e
among-behind n (m ∷ ms) ns e = go (eqb n m) (among-behind n ms ns e)
  where
    go : (b : Bool) → is_among n (ms ++ ns) ≡ true → (b || is_among n (ms ++ ns)) ≡ true
    go true e = refl
    go false e = e

pub among-front : (n : ℕ) (ms ns : List ℕ) → is_among n ms ≡ true → is_among n (ms ++ ns) ≡ true
among-front n [] ns e = absurd (false≢true e)
among-front n (m ∷ ms) ns e = go (eqb n m) (among-front n ms ns) e
  where
    go : (b : Bool) → (is_among n ms ≡ true → is_among n (ms ++ ns) ≡ true) → (b || is_among n ms) ≡ true
        → (b || is_among n (ms ++ ns)) ≡ true
    go true f e = refl
    go false f e = f e

-- the count that goes with a number is that of the bytes taken
pub counted : (v k u j : ℕ) → answer_of (ended v k) ≡ number u j → j ≡ k
unfolding answer_of
counted v k u j e = go (is_another_form k (last_group v k)) e
  where
    go : (t : Bool) → ◌≡◌ {A = Unvint} (cond t (Err AnotherForm) (number v k)) (number u j) → j ≡ k
    go true e = cc
    go false e = sym (same_number v k u j e).1

-- how bytes end: none, or a refusal that is the reader's
abbrev pub Listed : Option Refusal → Type 0
Listed None = Unit {0}
Listed (Some r) = is_among (number_of r) (refusal_numbers unvinting) ≡ true

-- a refusal is a listed one
pub refusal_listed : (xs : List ℕ) (r : Refusal) → read_vint xs ≡ Err r → Listed (Some r)
refusal_listed xs r e =
    subst (λ (r : Unvint). permitted unvinting (said_unvint r) ≡ true) e
    (answers xs (take_vint vint_limit xs) (read_vint xs) refl refl).1

-- and so its number isn't 0
pub refusal_some : (xs : List ℕ) (r : Refusal) → read_vint xs ≡ Err r → number_of r ≡ 0 → ⊥
refusal_some xs r e z =
    false≢true (subst (λ (k : ℕ). is_among k (refusal_numbers unvinting) ≡ true) z (refusal_listed xs r e))

splits_listed : (f : ℕ) (bs : List ℕ) → Listed (split_up f bs).refusal
unfolding split_up
splits_listed zero bs = tt
splits_listed (suc f) [] = tt
splits_listed (suc f) (b ∷ bs) = go (read_vint (b ∷ bs)) refl (splits_listed f)
  where
    go : (r : Unvint) → read_vint (b ∷ bs) ≡ r → ((rest : List ℕ) → Listed (split_up f rest).refusal)
        → Listed (on_vint r (b ∷ bs) (λ rest. split_up f rest)).refusal
    go (Ok r) e more = more (drop r.taken (b ∷ bs))
    go (Err r) e more = refusal_listed (b ∷ bs) r e

pub refusals_listed : (bs : List ℕ) → Listed (vints_of bs).refusal
refusals_listed bs = splits_listed (length bs) bs
