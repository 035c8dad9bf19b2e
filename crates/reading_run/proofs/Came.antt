-- What the code's run over bytes comes to: the readings that the vints make, their count, how the bytes end. Assumes
-- nothing.
use Prim.Native.Nat.{ℕ, suc, ◌+◌, ◌≤◌, ◌<◌}
use mathlib.Core.Path.{◌≡◌, refl, sym, ap, ◌∙◌, subst}
use mathlib.Core.Bool.{Bool, true, false, cond, ◌&&◌}
use mathlib.Core.List.{List, [], ◌∷◌, ◌++◌, append_assoc}
use native.Mathlib.Numerals.{add-one}
use native.Mathlib.Omega.{arith}
use lib.Dec.{ltb, eqb}
use lib.ListN.{length, take, drop, set, length-set, length-append}
use lib.Seq.{take-suc-set, length-take-le}
use lib.IntN.{ℤ, pos}
use borrow.Author.Tests.{ltb-true}
use Rattle.limits.specs.Limits.{vint_limit}
use Rattle.numbers.proofs.Tests.{both}
use Rattle.std.specs.Prelude.{Some, None, Ok, Err}
use Rattle.std.specs.Option.{is_none}
use Rattle.limits.specs.declared.Refusal.TheVariants.{NoEnd}
use Rattle.vint.specs.Vint.{Unvint, read_vint}
use Rattle.signed.specs.Signed.{following, unstored}
use Rattle.reading_run.specs.declared.Run.{Run}
use Rattle.reading_run.specs.Readings.{Split, split, in_front, vints_of, readings_from, readings_in}
use Rattle.reading_run.specs.Run.{Out, out, run_with, on_number, on_read, holding, turn_of, run_of, begun, end_of}
use Rattle.reading_run.proofs.Spread.{spread, on_whole, spread_vints}
use Rattle.reading_run.proofs.Turns.{turn_stopped, turn-held, turn-read, run_step, run_none}

-- readings put one by one from a place on
abbrev put_all : ℕ → List ℤ → List ℤ → List ℤ
put_all at [] o = o
put_all at (r ∷ rs) o = put_all (suc at) rs (set o at r)

run-stopped : (s : Run) (bs : List ℕ) (o : List ℤ) → is_none s.fault ≡ false → run_of s bs o ≡ out s o
run-stopped s [] o h = run_none s o
run-stopped s (b ∷ bs) o h =
    run_step s b bs o
    ∙ ap (λ (t : Out). run_of t.run bs t.output) (turn_stopped s b o h)
    ∙ run-stopped s bs o h

-- a run over bytes that split so
record Came (s : Run) (o : List ℤ) (S : Split) (t : Out) : Type 0 where
  end : end_of t.run ≡ S.refusal
  count : t.run.readings ≡ s.readings + length S.numbers
  output : t.output ≡ put_all s.readings (readings_from s.last S.numbers) o

-- the run behind a whole vint's number
abbrev after_number : Run → ℕ → ℕ → List ℤ → Out
after_number s b u o = on_number u (holding s b) o

came : (bs : List ℕ) (s : Run) (o : List ℤ) → is_none s.fault ≡ true → s.count < vint_limit → length s.held ≡ vint_limit
    → Came s o (spread (take s.count s.held) bs) (run_of s bs o)
unfolding spread
came [] s o f c l =
    let n : length (take s.count s.held) ≡ s.count = length-take-le s.count s.held (omega arith) in
    subst (Came s o (spread (take s.count s.held) [])) (sym (run_none s o)) (record {
      end = rw f (ap (λ (m : ℕ). cond (eqb m 0) None (Some NoEnd)) (sym n));
      count = omega arith;
      output = refl;
    })
came (b ∷ bs) s o f c l =
    go (ltb b 128 && ltb (s.count + 1) vint_limit) refl (read_vint (take (s.count + 1) (holding s b).held)) refl
    (came bs (holding s b) o refl)
    (λ u. came bs (after_number s b u o).run (after_number s b u o).output refl (omega arith) long)
  where
    h : List ℕ
    h = take s.count s.held

    n : length h ≡ s.count
    n = length-take-le s.count s.held (omega arith)

    long : length (set s.held s.count b) ≡ vint_limit
    long = length-set s.held s.count b ∙ l

    same : take (s.count + 1) (holding s b).held ≡ h ++ (b ∷ [])
    same = rw (add-one s.count) (take-suc-set s.held s.count b (omega arith))

    test : (ltb b 128 && ltb (length h + 1) vint_limit) ≡ (ltb b 128 && ltb (s.count + 1) vint_limit)
    test = ap (λ (m : ℕ). ltb b 128 && ltb (m + 1) vint_limit) n

    goes_on : (t : Out) → turn_of s b o ≡ t → run_of s (b ∷ bs) o ≡ run_of t.run bs t.output
    goes_on t e = run_step s b bs o ∙ ap (λ (t : Out). run_of t.run bs t.output) e

    read : (r : Unvint) → read_vint (take (s.count + 1) (holding s b).held) ≡ r
        → (ltb b 128 && ltb (s.count + 1) vint_limit) ≡ false
        → ((u : ℕ) → Came (after_number s b u o).run (after_number s b u o).output (spread [] bs)
        (run_of (after_number s b u o).run bs (after_number s b u o).output))
        → Came s o (on_whole r (spread [] bs)) (run_of s (b ∷ bs) o)
    read (Ok r) e q rest =
        let C = rest r.number in
        let x : ℤ = following s.last (unstored r.number) in
        subst (Came s o (in_front r.number (spread [] bs)))
        (sym (goes_on (on_read (Ok r) (holding s b) o)
        (turn-read s b o f q ∙ ap (λ (r : Unvint). on_read r (holding s b) o) e)))
        (record {
          end = C.end;
          count = omega (arith, C.count);
          output =
              C.output
              ∙ ap (λ (m : ℕ). put_all m (readings_from x (spread [] bs).numbers) (set o s.readings x))
              (add-one s.readings);
        })
    read (Err r) e q rest =
        subst (Came s o (split [] (Some r)))
        (sym (goes_on (on_read (Err r) (holding s b) o)
        (turn-read s b o f q ∙ ap (λ (r : Unvint). on_read r (holding s b) o) e)
        ∙ run-stopped (run_with (holding s b).held 0 s.last s.readings (Some r)) bs o refl))
        (record { end = refl; count = omega arith; output = refl })

    go : (c : Bool) → (ltb b 128 && ltb (s.count + 1) vint_limit) ≡ c
        → (r : Unvint) → read_vint (take (s.count + 1) (holding s b).held) ≡ r
        → (s.count + 1 < vint_limit → length (set s.held s.count b) ≡ vint_limit
        → Came (holding s b) o (spread (take (s.count + 1) (holding s b).held) bs) (run_of (holding s b) bs o))
        → ((u : ℕ) → Came (after_number s b u o).run (after_number s b u o).output (spread [] bs)
        (run_of (after_number s b u o).run bs (after_number s b u o).output))
        → Came s o (cond (ltb b 128 && ltb (length h + 1) vint_limit) (spread (h ++ (b ∷ [])) bs)
        (on_whole (read_vint (h ++ (b ∷ []))) (spread [] bs))) (run_of s (b ∷ bs) o)
    go true q r e on rest =
        let C = on (ltb-true (s.count + 1) vint_limit (both (ltb b 128) (ltb (s.count + 1) vint_limit) q).1) long in
        rw (test ∙ q)
        (subst (λ (x : List ℕ). Came s o (spread x bs) (run_of s (b ∷ bs) o)) same
        (subst (Came s o (spread (take (s.count + 1) (holding s b).held) bs))
        (sym (goes_on (out (holding s b) o) (turn-held s b o f q)))
        (record { end = C.end; count = C.count; output = C.output })))
    go false q r e on rest = rw (test ∙ q, ← same, e) (read r e q rest)

-- all bytes of a lane
came_vints : (bs : List ℕ) (o : List ℤ) → Came begun o (vints_of bs) (run_of begun bs o)
came_vints bs o =
    subst (λ (S : Split). Came begun o S (run_of begun bs o)) (spread_vints bs)
    (came bs begun o refl (omega arith) refl)

-- ---- over an output that has the places, they stand at its front

set_mid : (xs : List ℤ) (y : ℤ) (ys : List ℤ) (r : ℤ) → set (xs ++ (y ∷ ys)) (length xs) r ≡ xs ++ (r ∷ ys)
set_mid [] y ys r = refl
set_mid (x ∷ xs) y ys r = ap (λ (l : List ℤ). x ∷ l) (set_mid xs y ys r)

put_mid_lem : (rs xs ys : List ℤ) → length rs ≤ length ys
    → put_all (length xs) rs (xs ++ ys) ≡ xs ++ (rs ++ drop (length rs) ys)
put_mid_lem [] xs ys h = refl
put_mid_lem (r ∷ rs) xs [] h = absurd (omega arith)
put_mid_lem (r ∷ rs) xs (y ∷ ys) h =
    let n : suc (length xs) ≡ length (xs ++ (r ∷ [])) = rw length-append (omega arith) in
    ap (put_all (suc (length xs)) rs) (set_mid xs y ys r ∙ sym (append_assoc xs (r ∷ []) ys))
    ∙ ap (λ (k : ℕ). put_all k rs ((xs ++ (r ∷ [])) ++ ys)) n
    ∙ put_mid_lem rs (xs ++ (r ∷ [])) ys (omega arith)
    ∙ append_assoc xs (r ∷ []) (rs ++ drop (length rs) ys)

pub readings_count : (last : ℤ) (us : List ℕ) → length (readings_from last us) ≡ length us
readings_count last [] = refl
readings_count last (u ∷ us) = ap suc (readings_count (following last (unstored u)) us)

-- THE RUN OVER A LANE'S BYTES, by what they split into
pub record Ran (bs : List ℕ) (o : List ℤ) (t : Out) : Type 0 where
  pub count : t.run.readings ≡ length (vints_of bs).numbers
  pub end : end_of t.run ≡ (vints_of bs).refusal
  pub output : length (vints_of bs).numbers ≤ length o
      → t.output ≡ readings_in (vints_of bs) ++ drop (length (readings_in (vints_of bs))) o

pub ran : (bs : List ℕ) (o : List ℤ) → Ran bs o (run_of begun bs o)
ran bs o =
    let C = came_vints bs o in
    record {
      count = omega (arith, C.count);
      end = C.end;
      output = λ h.
          C.output
          ∙ put_mid_lem (readings_in (vints_of bs)) [] o (omega (arith, readings_count (pos 0) (vints_of bs).numbers));
    }
