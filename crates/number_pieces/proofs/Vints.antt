-- What the bytes of a lane come to is what the vint reader answers, asked again and again. Assumes nothing.
use Prim.Native.Nat.{ℕ, zero, suc, ◌+◌, ◌-◌, ◌≤◌, ◌<◌}
use mathlib.Core.Path.{◌≡◌, refl, sym, ap, ◌∙◌}
use mathlib.Core.Logic.{⊎_elim}
use mathlib.Core.Bool.{Bool, true, false, cond}
use mathlib.Core.List.{List, [], ◌∷◌, ◌++◌, append_assoc, append-nil}
use native.Mathlib.Omega.{arith}
use lib.Dec.{leb}
use lib.ListN.{length, take, drop, length-append}
use lib.Seq.{append_snoc, take_at, drop-append_seam}
use Rattle.limits.specs.Limits.{vint_limit}
use Rattle.std.specs.Prelude.{Err}
use Rattle.limits.specs.declared.Refusal.TheVariants.{NoEnd, AnotherForm}
use Rattle.vint.specs.Vint.{Unvint, number, write_vint, Taken, ended, unended, grouped, take_vint, last_group, is_another_form, answer_of}
use Rattle.vint.specs.Vint.{read_vint}
use Rattle.vint.proofs.Laws.{below_or, take_last, take_on, Took, took_last, took-on, took, took_back, took-front}
use Rattle.vint.proofs.Laws.{taken-within, same_number}
use Rattle.vint.proofs.Forms.{read_back}
use Rattle.number_pieces.specs.Run.{on_vint, waits, stops, ran, in_front, on_step, run_of}
use Rattle.number_pieces.specs.Promises.{vints_of, Each32}
use Rattle.number_pieces.proofs.Runs.{step-held, step_asks, is_held_lem, not_held_top, not_held_fifth, run_step}
use Rattle.number_pieces.proofs.Runs.{run_none}

-- ---- held bytes, then a vint's end

took_runs : {w : ℕ} {bs : List ℕ} {v k : ℕ} → Took w bs v k → (h : List ℕ) (i : ℕ) → length h + w ≡ vint_limit
    → run_of h i bs ≡ on_step (on_vint (read_vint (h ++ take k bs))) (i + (k - 1)) (λ g. run_of g (i + k) (drop k bs))
took_runs (took_last {w} {b} {bs} p) h i e =
    let x : i ≡ i + (1 - 1) = omega arith in
    let y : suc i ≡ i + 1 = omega arith in
    run_step h i b bs _ (step_asks h b (not_held_top h b p))
    ∙ (λ j. on_step (on_vint (read_vint (h ++ (b ∷ [])))) (x j) (λ g. run_of g (y j) bs))
took_runs (took-on {w} {b} {v} {k} {bs} p t) h i e =
    let r = taken-within t in
    let l : length (h ++ (b ∷ [])) ≡ suc (length h) = simp length-append (omega arith) in
    let x : suc i + (k - 1) ≡ i + (suc k - 1) = omega arith in
    let y : suc i + k ≡ i + suc k = omega arith in
    run_step h i b bs _ (step-held h b (is_held_lem h b p (omega arith)))
    ∙ took_runs t (h ++ (b ∷ [])) (suc i) (omega arith)
    ∙ (λ j. on_step (on_vint (read_vint (append_assoc h (b ∷ []) (take k bs) j))) (x j) (λ g. run_of g (y j) (drop k bs)))

-- from nothing held: as the reader answers
ended_runs : (i : ℕ) (bs : List ℕ) (v k : ℕ) → take_vint vint_limit bs ≡ ended v k
    → run_of [] i bs ≡ on_step (on_vint (read_vint bs)) (i + (k - 1)) (λ g. run_of g (i + k) (drop k bs))
ended_runs i bs v k e =
    let t = took vint_limit bs v k e in
    let same : take_vint vint_limit (take k bs) ≡ take_vint vint_limit bs = took_back (took-front t) ∙ sym e in
    took_runs t [] i refl
    ∙ ap (λ (u : Taken). on_step (on_vint (answer_of u)) (i + (k - 1)) (λ g. run_of g (i + k) (drop k bs))) same

-- ---- held bytes, then no end

-- only the first bytes are looked at
take-first : (w : ℕ) (bs : List ℕ) → take_vint w (take w bs) ≡ take_vint w bs
unfolding take_vint
take-first zero bs = refl
take-first (suc w) [] = refl
take-first (suc w) (b ∷ bs) = ap (λ (t : Taken). cond (leb 128 b) (ended (b - 128) 1) (grouped b t)) (take-first w bs)

grouped_un : (b : ℕ) (t : Taken) → grouped b t ≡ unended → t ≡ unended
grouped_un b (ended v k) e = let z : ◌≡◌ {A = ℕ} 0 1 = cc in absurd (omega arith)
grouped_un b unended e = refl

-- a byte of an unended vint is low, and so are those behind it
low_first : (w b : ℕ) (bs : List ℕ) → take_vint (suc w) (b ∷ bs) ≡ unended → b < 128
low_first w b bs u =
    ⊎_elim
    (λ (l : b < 128). l)
    (λ (l : 128 ≤ b). let f = take_last w b bs l in let z : ◌≡◌ {A = ℕ} 0 1 = cc in absurd (omega arith))
    (below_or b 128)

low_rest : (w b : ℕ) (bs : List ℕ) → take_vint (suc w) (b ∷ bs) ≡ unended → take_vint w bs ≡ unended
low_rest w b bs u = grouped_un b (take_vint w bs) (sym (take_on w b bs (low_first w b bs u)) ∙ u)

unended_11 : (bs : List ℕ) → take_vint vint_limit bs ≡ unended → read_vint bs ≡ Err NoEnd
unfolding answer_of
unended_11 bs u = ap answer_of u

record Unended (w : ℕ) (bs h : List ℕ) (i : ℕ) : Type 0 where
  full : w ≤ length bs → run_of h i bs ≡ ran [] (stops NoEnd (i + (w - 1)))
  few : length bs < w → run_of h i bs ≡ ran [] (waits (h ++ bs))

unended_runs : (w : ℕ) (bs h : List ℕ) (i : ℕ) → length h + suc w ≡ vint_limit → take_vint vint_limit (h ++ bs) ≡ unended
    → take_vint (suc w) bs ≡ unended → Unended (suc w) bs h i
unended_runs w [] h i e a u = record {
  full = λ l. absurd (omega arith);
  few = λ l. run_none h i ∙ ap (λ (x : List ℕ). ran [] (waits x)) (sym (append-nil h));
}
unended_runs zero (b ∷ bs) h i e a u =
    let n : length (h ++ (b ∷ [])) ≡ 5 = simp length-append (omega arith) in
    let f : take 5 (h ++ (b ∷ bs)) ≡ h ++ (b ∷ []) =
    ap (take 5) (sym (append_snoc h b bs)) ∙ take_at (h ++ (b ∷ [])) bs 5 n in
    let u5 : take_vint vint_limit (h ++ (b ∷ [])) ≡ unended =
    ap (take_vint vint_limit) (sym f) ∙ take-first vint_limit (h ++ (b ∷ bs)) ∙ a in
    let z : i ≡ i + (1 - 1) = omega arith in
    record {
      full = λ k. run_step h i b bs _
          (step_asks h b (not_held_fifth h b (omega arith)) ∙ ap on_vint (unended_11 (h ++ (b ∷ [])) u5))
          ∙ ap (λ (x : ℕ). ran [] (stops NoEnd x)) z;
      few = λ k. absurd (omega arith);
    }
unended_runs (suc w) (b ∷ bs) h i e a u =
    let l = low_first (suc w) b bs u in
    let n : length (h ++ (b ∷ [])) ≡ suc (length h) = simp length-append (omega arith) in
    let s = run_step h i b bs _ (step-held h b (is_held_lem h b l (omega arith))) in
    let r = unended_runs w bs (h ++ (b ∷ [])) (suc i) (omega arith) (ap (take_vint vint_limit) (append_snoc h b bs) ∙ a)
    (low_rest (suc w) b bs u) in
    let z : suc i + (suc w - 1) ≡ i + (suc (suc w) - 1) = omega arith in
    record {
      full = λ k. s ∙ r.full (omega arith) ∙ ap (λ (x : ℕ). ran [] (stops NoEnd x)) z;
      few = λ k. s ∙ r.few (omega arith) ∙ ap (λ (x : List ℕ). ran [] (waits x)) (append_snoc h b bs);
    }

-- ---- the reader's answers, one by one

-- what is taken, by what is answered
answered_number : (bs : List ℕ) (n k : ℕ) → read_vint bs ≡ number n k → take_vint vint_limit bs ≡ ended n k
unfolding answer_of
answered_number bs n k e = go (take_vint vint_limit bs) refl e
  where
    either : (c : Bool) (v j : ℕ) → take_vint vint_limit bs ≡ ended v j → ◌≡◌ {A = Unvint} (cond c (Err AnotherForm) (number v j)) (number n k)
        → take_vint vint_limit bs ≡ ended n k
    either true v j p e = cc
    either false v j p e = let (x, y) = same_number v j n k e in p ∙ (λ i. ended (x i) (y i))

    go : (t : Taken) → take_vint vint_limit bs ≡ t → answer_of t ≡ number n k → take_vint vint_limit bs ≡ ended n k
    go (ended v j) p e = either (is_another_form j (last_group v j)) v j p e
    go unended p e = cc

answered_11 : (bs : List ℕ) → read_vint bs ≡ Err NoEnd → take_vint vint_limit bs ≡ unended
unfolding answer_of
answered_11 bs e = go (take_vint vint_limit bs) refl e
  where
    either : (c : Bool) (v j : ℕ) → ◌≡◌ {A = Unvint} (cond c (Err AnotherForm) (number v j)) (Err NoEnd) → take_vint vint_limit bs ≡ unended
    either true v j e = cc
    either false v j e = cc

    go : (t : Taken) → take_vint vint_limit bs ≡ t → answer_of t ≡ Err NoEnd → take_vint vint_limit bs ≡ unended
    go (ended v j) p e = either (is_another_form j (last_group v j)) v j e
    go unended p e = p

-- an accepted vint is given out, and the run goes on behind it
pub number_given : (i : ℕ) (bs : List ℕ) (n k : ℕ) → read_vint bs ≡ number n k
    → run_of [] i bs ≡ in_front n (run_of [] (i + k) (drop k bs))
number_given i bs n k e =
    ended_runs i bs n k (answered_number bs n k e)
    ∙ ap (λ (r : Unvint). on_step (on_vint r) (i + (k - 1)) (λ g. run_of g (i + k) (drop k bs))) e

-- another form stops it at the vint's last byte
pub fault_12 : (i : ℕ) (bs : List ℕ) (v k : ℕ) → take_vint vint_limit bs ≡ ended v k → read_vint bs ≡ Err AnotherForm
    → run_of [] i bs ≡ ran [] (stops AnotherForm (i + (k - 1)))
fault_12 i bs v k t e =
    ended_runs i bs v k t ∙ ap (λ (r : Unvint). on_step (on_vint r) (i + (k - 1)) (λ g. run_of g (i + k) (drop k bs))) e

-- no end stops it at the fifth byte; fewer bytes wait
pub fault_11 : (i : ℕ) (bs : List ℕ) → read_vint bs ≡ Err NoEnd → vint_limit ≤ length bs
    → run_of [] i bs ≡ ran [] (stops NoEnd (i + (vint_limit - 1)))
fault_11 i bs e l = let u = answered_11 bs e in (unended_runs 4 bs [] i refl u u).full l

pub fewer_wait : (i : ℕ) (bs : List ℕ) → read_vint bs ≡ Err NoEnd → length bs < vint_limit
    → run_of [] i bs ≡ ran [] (waits bs)
fewer_wait i bs e l = let u = answered_11 bs e in (unended_runs 4 bs [] i refl u u).few l

-- written vints give their numbers
pub run_written : (i : ℕ) (ns : List ℕ) → Each32 ns → run_of [] i (vints_of ns) ≡ ran ns (waits [])
run_written i [] h = run_none [] i
run_written i (n ∷ ns) h =
    number_given i (write_vint n ++ vints_of ns) n (length (write_vint n)) (read_back n (vints_of ns) h.0)
    ∙ ap (λ (l : List ℕ). in_front n (run_of [] (i + length (write_vint n)) l))
    (drop-append_seam (write_vint n) (vints_of ns))
    ∙ ap (in_front n) (run_written (i + length (write_vint n)) ns h.1)
