-- Laws of a run over bytes: what each byte does, bytes joined, and what a run leaves. Assumes nothing.
use Prim.Native.Nat.{ℕ, zero, suc, ◌+◌, ◌≤◌, ◌<◌}
use mathlib.Core.Path.{◌≡◌, refl, sym, ap, ◌∙◌, subst}
use mathlib.Core.Logic.{◌⊎◌}
use mathlib.Core.Bool.{Bool, true, false, ◌&&◌}
use mathlib.Core.List.{List, [], ◌∷◌, ◌++◌}
use native.Mathlib.Omega.{arith}
use lib.Dec.{ltb}
use lib.ListN.{length, get_or, length-append}
use borrow.Author.Tests.{lt-ltb, le-ltb, ltb-true}
use Rattle.limits.specs.Limits.{held_limit}
use Rattle.numbers.proofs.Tests.{both, both_true, same_test, left_false, right_false, cond-true, cond-false}
use Rattle.std.specs.Prelude.{Ok, Err}
use Rattle.limits.specs.declared.Refusal.{Refusal}
use Rattle.limits.specs.declared.Refusal.TheVariants.{NoEnd, AnotherForm}
use Rattle.vint.specs.Vint.{Unvint, read_vint}
use Rattle.vint.proofs.Laws.{refusal_listed}
use Rattle.number_pieces.specs.Run.{Step, holds, gives, faults, on_vint, step_of, End, waits, stops, Ran, ran}
use Rattle.number_pieces.specs.Run.{in_front, on_step, run_of, at_end}
use Rattle.number_pieces.specs.Feed.{no_top}

-- ---- one byte

abbrev pub is_held : List ℕ → ℕ → Bool
is_held h b = ltb b 128 && ltb (length h) held_limit

pub step-held : (h : List ℕ) (b : ℕ) → is_held h b ≡ true → step_of h b ≡ holds (h ++ (b ∷ []))
unfolding step_of
step-held h b e = cond-true (is_held h b) _ _ e

pub step_asks : (h : List ℕ) (b : ℕ) → is_held h b ≡ false → step_of h b ≡ on_vint (read_vint (h ++ (b ∷ [])))
unfolding step_of
step_asks h b e = cond-false (is_held h b) _ _ e

pub is_held_lem : (h : List ℕ) (b : ℕ) → b < 128 → length h < held_limit → is_held h b ≡ true
is_held_lem h b l k = both_true (ltb b 128) (ltb (length h) held_limit) (lt-ltb b 128 l) (lt-ltb (length h) held_limit k)

pub not_held_top : (h : List ℕ) (b : ℕ) → 128 ≤ b → is_held h b ≡ false
not_held_top h b l = left_false (ltb b 128) (ltb (length h) held_limit) (le-ltb b 128 l)

pub not_held_fifth : (h : List ℕ) (b : ℕ) → held_limit ≤ length h → is_held h b ≡ false
not_held_fifth h b l = right_false (ltb b 128) (ltb (length h) held_limit) (le-ltb (length h) held_limit l)

pub run_step : (h : List ℕ) (i b : ℕ) (bs : List ℕ) (s : Step) → step_of h b ≡ s
    → run_of h i (b ∷ bs) ≡ on_step s i (λ g. run_of g (suc i) bs)
unfolding run_of
run_step h i b bs s e = rw e

pub run_none : (h : List ℕ) (i : ℕ) → run_of h i [] ≡ ran [] (waits h)
unfolding run_of
run_none h i = refl

-- a refusal stays one at the lane's end
pub end_stops : (last : Bool) (i : ℕ) (n : Refusal) (j : ℕ) → at_end last i (stops n j) ≡ stops n j
end_stops true i n j = refl
end_stops false i n j = refl

-- ---- bytes joined

-- what comes behind a run that didn't stop
abbrev pub on_waiting : End → (List ℕ → Ran) → Ran
on_waiting (waits h) k = k h
on_waiting (stops n i) k = ran [] (stops n i)

abbrev pub then : Ran → (List ℕ → Ran) → Ran
then r k = ran (r.numbers ++ (on_waiting r.end k).numbers) (on_waiting r.end k).end

step_then : (s : Step) (i : ℕ) (f g : List ℕ → Ran) (k : List ℕ → Ran) → ((h : List ℕ) → f h ≡ then (g h) k)
    → on_step s i f ≡ then (on_step s i g) k
step_then (holds h) i f g k e = e h
step_then (gives n) i f g k e = ap (in_front n) (e [])
step_then (faults n) i f g k e = refl

-- bytes joined are bytes one behind the other: why it can't matter where they are cut
pub run-append : (h : List ℕ) (i : ℕ) (p q : List ℕ)
    → run_of h i (p ++ q) ≡ then (run_of h i p) (λ g. run_of g (i + length p) q)
unfolding run_of
run-append h i [] q = let z : i ≡ i + 0 = omega arith in ap (λ (j : ℕ). run_of h j q) z
run-append h i (b ∷ p) q =
    let z : suc i + length p ≡ i + suc (length p) = omega arith in
    step_then (step_of h b) i (λ g. run_of g (suc i) (p ++ q)) (λ g. run_of g (suc i) p)
    (λ g. run_of g (i + suc (length p)) q)
    (λ g. run-append g (suc i) p q ∙ ap (λ (j : ℕ). then (run_of g (suc i) p) (λ g. run_of g j q)) z)

-- ---- what a run leaves

-- bytes that can be held
pub record Holdable (h : List ℕ) : Type 0 where
  pub few : length h ≤ held_limit
  pub low : no_top h ≡ true

pub top_snoc : (h : List ℕ) (b : ℕ) → no_top h ≡ true → b < 128 → no_top (h ++ (b ∷ [])) ≡ true
unfolding no_top
top_snoc [] b e l = both_true (ltb b 128) true (lt-ltb b 128 l) refl
top_snoc (x ∷ h) b e l =
    let p = both (ltb x 128) (no_top h) e in
    both_true (ltb x 128) (no_top (h ++ (b ∷ []))) p.0 (top_snoc h b p.1 l)

-- each byte is low
low_each : (l : List ℕ) → no_top l ≡ true → (k : ℕ) → k < length l → get_or l k 0 < 128
unfolding no_top
low_each [] e k h = absurd (omega arith)
low_each (x ∷ l) e zero h = ltb-true x 128 (both (ltb x 128) (no_top l) e).0
low_each (x ∷ l) e (suc k) h = low_each l (both (ltb x 128) (no_top l) e).1 k (omega arith)

each_low : (l : List ℕ) → ((k : ℕ) → k < length l → get_or l k 0 < 128) → no_top l ≡ true
unfolding no_top
each_low [] f = refl
each_low (x ∷ l) f =
    both_true (ltb x 128) (no_top l) (lt-ltb x 128 (f 0 (omega arith))) (each_low l (λ k h. f (suc k) (omega arith)))

-- told by a test
pub low_is : (t : Bool) (l : List ℕ) → (t ≡ true → (k : ℕ) → k < length l → get_or l k 0 < 128)
    → (((k : ℕ) → k < length l → get_or l k 0 < 128) → t ≡ true) → t ≡ no_top l
low_is t l f g = same_test t (no_top l) (λ e. each_low l (f e)) (λ e. g (low_each l e))

none_held : Holdable []
unfolding no_top
none_held = record { few = omega arith; low = refl }

abbrev FairStep : Step → Type 0
FairStep (holds h) = Holdable h
FairStep (gives n) = Unit {0}
FairStep (faults r) = (r ≡ NoEnd) ⊎ (r ≡ AnotherForm)

step-fair : (h : List ℕ) (b : ℕ) → Holdable h → FairStep (step_of h b)
step-fair h b H = go (is_held h b) refl (read_vint (h ++ (b ∷ []))) refl
  where
    go : (t : Bool) → is_held h b ≡ t → (r : Unvint) → read_vint (h ++ (b ∷ [])) ≡ r → FairStep (step_of h b)
    go true e r f =
        let p = both (ltb b 128) (ltb (length h) held_limit) e in
        subst FairStep (sym (step-held h b e)) (record {
          few = simp length-append (omega (arith, ltb-true (length h) held_limit p.1));
          low = top_snoc h b H.low (ltb-true b 128 p.0);
        })
    go false e (Ok n) f = subst FairStep (sym (step_asks h b e ∙ ap on_vint f)) tt
    go false e (Err n) f = subst FairStep (sym (step_asks h b e ∙ ap on_vint f)) (refusal_listed (h ++ (b ∷ [])) n f)

abbrev pub FairEnd : End → Type 0
FairEnd (waits h) = Holdable h
FairEnd (stops r i) = (r ≡ NoEnd) ⊎ (r ≡ AnotherForm)

-- bytes that can be held or a vint's refusal, and no more numbers than bytes
pub record Fair (n : ℕ) (r : Ran) : Type 0 where
  pub end_fair : FairEnd r.end
  pub no_more : length r.numbers ≤ n

pub run-fair : (h : List ℕ) (i : ℕ) (bs : List ℕ) → Holdable h → Fair (length bs) (run_of h i bs)
unfolding run_of
run-fair h i [] H = record { end_fair = H; no_more = omega arith }
run-fair h i (b ∷ bs) H = go (step_of h b) (step-fair h b H) (λ g G. run-fair g (suc i) bs G)
  where
    go : (s : Step) → FairStep s → ((g : List ℕ) → Holdable g → Fair (length bs) (run_of g (suc i) bs))
        → Fair (suc (length bs)) (on_step s i (λ g. run_of g (suc i) bs))
    go (holds g) G f = let r = f g G in record { end_fair = r.end_fair; no_more = omega (arith, r.no_more) }
    go (gives n) G f = let r = f [] none_held in record { end_fair = r.end_fair; no_more = omega (arith, r.no_more) }
    go (faults n) G f = record { end_fair = G; no_more = omega arith }
