-- The run, turn by turn: what a byte does by its tests, what it keeps, and the loop over bytes. Assumes nothing.
use Prim.Native.Nat.{ℕ, suc, ◌+◌, ◌-◌, ◌≤◌, ◌<◌}
use mathlib.Core.Path.{◌≡◌, refl, sym, ap, ◌∙◌, subst}
use mathlib.Core.Bool.{Bool, true, false, cond, ◌&&◌}
use mathlib.Core.List.{List, [], ◌∷◌, ◌++◌}
use native.Mathlib.Omega.{arith}
use lib.Dec.{ltb}
use lib.ListN.{length, take, drop, get_or, length-set, drop_of_length-le}
use lib.Seq.{drop-cons}
use lib.IntN.{ℤ}
use borrow.Author.Tests.{ltb-true}
use Rattle.limits.specs.Limits.{vint_limit}
use Rattle.std.specs.Prelude.{Ok, Err}
use Rattle.std.specs.Option.{is_none}
use Rattle.vint.specs.Vint.{Unvint, read_vint}
use Rattle.reading_run.specs.declared.Run.{Run}
use Rattle.reading_run.specs.Run.{Out, out, on_read, holding, turn_of, run_of}

-- ---- a turn, by its tests

module _ (s : Run) (b : ℕ) (o : List ℤ) where
  pub turn_stopped : is_none s.fault ≡ false → turn_of s b o ≡ out s o
  unfolding turn_of
  turn_stopped h = rw h

  module _ (h : is_none s.fault ≡ true) where
    pub turn-held : (ltb b 128 && ltb (s.count + 1) vint_limit) ≡ true → turn_of s b o ≡ out (holding s b) o
    unfolding turn_of
    turn-held e = rw (h, e)

    pub turn-read : (ltb b 128 && ltb (s.count + 1) vint_limit) ≡ false
        → turn_of s b o ≡ on_read (read_vint (take (s.count + 1) (holding s b).held)) (holding s b) o
    unfolding turn_of
    turn-read e = rw (h, e)

-- ---- the fold

pub run-append : (s : Run) (xs ys : List ℕ) (o : List ℤ)
    → run_of s (xs ++ ys) o ≡ run_of (run_of s xs o).run ys (run_of s xs o).output
unfolding run_of
run-append s [] ys o = refl
run-append s (x ∷ xs) ys o = run-append (turn_of s x o).run xs ys (turn_of s x o).output

pub run_none : (s : Run) (o : List ℤ) → run_of s [] o ≡ out s o
unfolding run_of
run_none s o = refl

pub run_step : (s : Run) (b : ℕ) (bs : List ℕ) (o : List ℤ)
    → run_of s (b ∷ bs) o ≡ run_of (turn_of s b o).run bs (turn_of s b o).output
unfolding run_of
run_step s b bs o = refl

-- ---- what n bytes keep: the held places, that fewer are held than a vint has, at most a reading a byte, the output's
-- length

pub record Kept (s : Run) (n : ℕ) (o : List ℤ) (t : Out) : Type 0 where
  pub places : length t.run.held ≡ length s.held
  pub few : t.run.count < vint_limit
  pub more : t.run.readings ≤ s.readings + n
  pub long : length t.output ≡ length o

kept_read : (s : Run) (b : ℕ) (o : List ℤ) (r : Unvint) → Kept s 1 o (on_read r (holding s b) o)
kept_read s b o (Ok r) = record {
  places = length-set s.held s.count b;
  few = omega arith;
  more = omega arith;
  long = length-set o s.readings _;
}
kept_read s b o (Err r) = record {
  places = length-set s.held s.count b;
  few = omega arith;
  more = omega arith;
  long = refl;
}

turn-keeps : (s : Run) (b : ℕ) (o : List ℤ) → s.count < vint_limit → Kept s 1 o (turn_of s b o)
unfolding turn_of
turn-keeps s b o h = go (is_none s.fault) (ltb b 128) (ltb (s.count + 1) vint_limit) refl
  where
    go : (f c d : Bool) → ltb (s.count + 1) vint_limit ≡ d
        → Kept s 1 o (cond f (cond (c && d) (out (holding s b) o)
        (on_read (read_vint (take (s.count + 1) (holding s b).held)) (holding s b) o)) (out s o))
    go true true true e = record {
      places = length-set s.held s.count b;
      few = omega (arith, ltb-true (s.count + 1) vint_limit e);
      more = omega arith;
      long = refl;
    }
    go true true false e = kept_read s b o (read_vint (take (s.count + 1) (holding s b).held))
    go true false d e = kept_read s b o (read_vint (take (s.count + 1) (holding s b).held))
    go false c d e = record { places = refl; few = h; more = omega arith; long = refl }

pub run-keeps : (s : Run) (bs : List ℕ) (o : List ℤ) → s.count < vint_limit → Kept s (length bs) o (run_of s bs o)
unfolding run_of
run-keeps s [] o h = record { places = refl; few = h; more = omega arith; long = refl }
run-keeps s (b ∷ bs) o h =
    let K = turn-keeps s b o h in
    let R = run-keeps (turn_of s b o).run bs (turn_of s b o).output K.few in
    record {
      places = R.places ∙ K.places;
      few = R.few;
      more = omega (arith, R.more, K.more);
      long = R.long ∙ K.long;
    }

-- ---- the loop over bytes

pub record Taking (s : Run) (bytes : List ℕ) (o₀ : List ℤ) (t : Run) (o : List ℤ) (i : ℕ) : Type 0 where
  pub whole : run_of s bytes o₀ ≡ run_of t (drop i bytes) o
  pub there : i ≤ length bytes
  pub places : length t.held ≡ length s.held
  pub few : t.count < vint_limit
  pub room : t.readings + (length bytes - i) ≤ s.readings + length bytes
  pub long : length o ≡ length o₀

-- before the first byte
pub taking-begun : (s : Run) (bytes : List ℕ) (o : List ℤ) → s.count < vint_limit → Taking s bytes o s o 0
taking-begun s bytes o h = record {
  whole = refl;
  there = omega arith;
  places = refl;
  few = h;
  room = omega arith;
  long = refl;
}

module _ {s : Run} {bytes : List ℕ} {o₀ : List ℤ} {t : Run} {o : List ℤ} {i : ℕ} (T : Taking s bytes o₀ t o i) where
  pub taking-on : i < length bytes → (t' : Run) (o' : List ℤ) → out t' o' ≡ turn_of t (get_or bytes i 0) o
      → Taking s bytes o₀ t' o' (suc i)
  taking-on l t' o' e =
      let b = get_or bytes i 0 in
      let K : Kept t 1 o (out t' o') = subst (Kept t 1 o) (sym e) (turn-keeps t b o T.few) in
      record {
        whole =
            T.whole
            ∙ ap (λ (bs : List ℕ). run_of t bs o) (drop-cons bytes i 0 l)
            ∙ run_step t b (drop (suc i) bytes) o
            ∙ ap (λ (x : Out). run_of x.run (drop (suc i) bytes) x.output) (sym e);
        there = l;
        places = K.places ∙ T.places;
        few = K.few;
        room = omega (arith, K.more, T.room);
        long = K.long ∙ T.long;
      }

  pub taking-end : length bytes ≤ i → out t o ≡ run_of s bytes o₀
  taking-end l =
      sym (T.whole ∙ ap (λ (bs : List ℕ). run_of t bs o) (drop_of_length-le bytes l) ∙ run_none t o)
