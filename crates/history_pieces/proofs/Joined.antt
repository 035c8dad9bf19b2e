-- The theorems, from demand 3 and what a piece of good blocks is. Assumes nothing.
use Prim.Native.Nat.{ℕ, zero, suc, ◌-◌, ◌≤◌, ◌<◌, min}
use mathlib.Core.Path.{◌≡◌, refl, sym, ap, ◌∙◌, subst}
use mathlib.Core.Bool.{Bool, true, false, cond}
use mathlib.Core.Option.{Option, none, some}
use mathlib.Core.List.{List, [], ◌∷◌, ◌++◌, append_assoc, append-nil}
use native.Mathlib.Omega.{arith}
use lib.Dec.{leb}
use lib.ListN.{length, take, drop, length-append, take-append-drop}
use lib.Seq.{length-take-le, take-nil, take_all, take-length, drop-append_seam}
use borrow.Author.Tests.{leb-true, leb-false}
use Rattle.fastcmp.specs.Equal.{equal_bytes}
use Rattle.spans.specs.Span.{read_span, overwrite}
use Rattle.spans.proofs.Laws.{read_written}
use Rattle.store_look.specs.declared.Lookup.TheVariants.{Missing, Failed}
use Rattle.store_state.specs.Name.{name_limit_of}
use Rattle.store_look.specs.Look.{lookup_of}
use Rattle.lane_pieces.specs.declared.Pieced.TheVariants.{Given, Refused}
use Rattle.lane_pieces.specs.Piece.{Out, out, piece_of}
use Rattle.lane_pieces.proofs.Pieces.{piece-looked}
use Rattle.lane_pieces.proofs.Readings.{piece_given, piece_above, piece_without}
use Rattle.history.specs.History.{World, Call, Born, after, play, Entry, log_of, joined_on, joined_in, joined}
use Rattle.history.specs.Promises.{ReadsBack, ReadsAs}
use Rattle.history.specs.Demand.{Demand3}
use Rattle.history.proofs.Demand.{demand_3}
use Rattle.history.proofs.Log.{joined-more}
use Rattle.history_pieces.specs.Going.{Turn, does, asks, calls_in, given_by, next_piece, gathered, lane_of}
use Rattle.history_pieces.specs.Promises.{PieceBack, PiecesJoined}

-- ---- lists

-- the front of an output that was written
front_written : (bs output : List ℕ) → length bs ≤ length output → take (length bs) (overwrite 0 bs output) ≡ bs
unfolding read_span
front_written bs output h = read_written 0 bs output (omega arith)

-- a part behind the front
span_behind : (got rest : List ℕ) (n : ℕ) → read_span (length got) n (got ++ rest) ≡ take n rest
unfolding read_span
span_behind got rest n = ap (take n) (drop-append_seam got rest)

-- as many as there are
take_min : (n : ℕ) (l : List ℕ) → take (min n (length l)) l ≡ take n l
take_min n l = go (leb n (length l)) refl
  where
    go : (b : Bool) → leb n (length l) ≡ b → take (min n (length l)) l ≡ take n l
    go true e = let z : min n (length l) ≡ n = omega (arith, leb-true n (length l) e) in ap (λ (k : ℕ). take k l) z
    go false e =
        let z : min n (length l) ≡ length l = omega (arith, leb-false n (length l) e) in
        ap (λ (k : ℕ). take k l) z ∙ take-length l ∙ sym (take_all n l (omega (arith, leb-false n (length l) e)))

-- nothing has no parts
no_front : (xs ys : List ℕ) → [] ≡ xs ++ ys → xs ≡ []
no_front [] ys e = refl
no_front (x ∷ xs) ys e = let z : 0 ≡ suc (length (xs ++ ys)) = ap length e in absurd (omega arith)

no_part : (xs ys : List ℕ) → [] ≡ xs ++ ys → ys ≡ []
no_part [] ys e = sym e
no_part (x ∷ xs) ys e = let z : 0 ≡ suc (length (xs ++ ys)) = ap length e in absurd (omega arith)

none_left : (n : ℕ) (l : List ℕ) → 1 ≤ n → take n l ≡ [] → l ≡ []
none_left zero l h e = absurd (omega arith)
none_left (suc n) [] h e = refl
none_left (suc n) (x ∷ l) h e = let z : suc (length (take n l)) ≡ 0 = ap length e in absurd (omega arith)

-- ---- one piece

-- of a lane that reads back
module _ (w : World) (name bs : List ℕ) (given : ℕ) (output : List ℕ) (R : ReadsBack w name bs) where
  gives_back : given ≤ length bs → 1 ≤ length output
      → piece_of w.state w.memory name given output
      ≡ out (Given (min (length output) (length bs - given)))
      (overwrite 0 (read_span given (min (length output) (length bs - given)) bs) output)
  gives_back l o =
      piece_given w.state w.memory name given R.place output R.found R.blocks-good
      (omega (arith, R.length_rule)) o
      ∙ (λ i. out (Given (min (length output) (R.length_rule i - given)))
      (overwrite 0 (read_span given (min (length output) (R.length_rule i - given)) (R.blocks_hold i)) output))

  too_far : length bs < given → piece_of w.state w.memory name given output ≡ out (Refused 2 0) output
  too_far l =
      piece_above w.state w.memory name given R.place output R.found R.blocks-good
      (omega (arith, R.length_rule))

  no_place : given ≤ length bs → length output ≡ 0
      → piece_of w.state w.memory name given output ≡ out (Refused 8 (length bs)) output
  no_place l o =
      piece_without w.state w.memory name given R.place output R.found R.blocks-good
      (omega (arith, R.length_rule)) o
      ∙ ap (λ (n : ℕ). out (Refused 8 n) output) R.length_rule

-- the number of a name over the limit
too_long : (w : World) (name : List ℕ) (given : ℕ) (output : List ℕ)
    → lookup_of w.state w.memory name ≡ Failed 3
    → piece_of w.state w.memory name given output ≡ out (Refused 3 0) output
too_long w name given output e = piece-looked w.state w.memory name given output (Failed 3) e

module _ (w : World) (calls : List Call) (D : Demand3 w calls) (name : List ℕ) where
  abbrev now : World
  now = play calls w

  -- a name that accepted appends brought is within the limit, and reads back
  pub stands : (bs : List ℕ) → joined name calls w ≡ some bs → ReadsBack now name bs
  stands bs e = go (leb (length name) (name_limit_of w.state)) refl
    where
      go : (b : Bool) → leb (length name) (name_limit_of w.state) ≡ b → ReadsBack now name bs
      go true f = subst (ReadsAs now name) e (D.reads_back name (leb-true _ _ f))
      go false f =
          let p = (D.long_never name (leb-false _ _ f)).0 in
          let z : ◌≡◌ {A = ℕ} 0 1 = cc in absurd (omega arith)

  pub missing : joined name calls w ≡ none → length name ≤ name_limit_of w.state
      → lookup_of now.state now.memory name ≡ Missing
  missing e s = go (joined name calls w) e (D.reads_back name s)
    where
      go : (o : Option (List ℕ)) → o ≡ none → ReadsAs now name o → lookup_of now.state now.memory name ≡ Missing
      go none p R = R.missed
      go (some bs) p R = let z : ◌≡◌ {A = ℕ} 0 1 = cc in absurd (omega arith)

  pub piece_back : (given : ℕ) (output : List ℕ) → PieceBack w calls name given output
  piece_back given output = record {
    gives = λ bs e. gives_back now name bs given output (stands bs e);
    too_far = λ bs e. too_far now name bs given output (stands bs e);
    no_place = λ bs e. no_place now name bs given output (stands bs e);
    none_there = λ e s. piece-looked now.state now.memory name given output Missing (missing e s);
    long_name = λ l. too_long now name given output (D.long_never name l).1;
  }

  -- ---- a piece behind those that were given

  abbrev given_of : Out → List ℕ
  given_of o = given_by o.answer o.output

  next-standing : (got rest output : List ℕ) → joined name calls w ≡ some (got ++ rest)
      → next_piece now name got output ≡ take (length output) rest
  next-standing got rest [] e =
      ap given_of (no_place now name (got ++ rest) (length got) [] (stands (got ++ rest) e)
      (omega (arith, length-append got rest)) refl)
  next-standing got rest (x ∷ o) e =
      let n : ℕ = min (length (x ∷ o)) (length rest) in
      let bs : List ℕ = got ++ rest in
      let many : min (length (x ∷ o)) (length bs - length got) ≡ n = omega (arith, length-append got rest) in
      let part : List ℕ = take n rest in
      let wide : length part ≡ n = length-take-le n rest (omega arith) in
      ap given_of
      (gives_back now name bs (length got) (x ∷ o) (stands bs e) (omega (arith, length-append got rest)) (omega arith)
      ∙ (λ i. out (Given (many i)) (overwrite 0 (read_span (length got) (many i) bs) (x ∷ o)))
      ∙ ap (λ (l : List ℕ). out (Given n) (overwrite 0 l (x ∷ o))) (span_behind got rest n))
      ∙ ap (λ (k : ℕ). take k (overwrite 0 part (x ∷ o))) (sym wide)
      ∙ front_written part (x ∷ o) (omega arith)
      ∙ take_min (length (x ∷ o)) rest

  next_absent : (got output : List ℕ) → joined name calls w ≡ none → next_piece now name got output ≡ []
  next_absent got output e = go (leb (length name) (name_limit_of w.state)) refl
    where
      go : (b : Bool) → leb (length name) (name_limit_of w.state) ≡ b → next_piece now name got output ≡ []
      go true f = ap given_of ((piece_back (length got) output).none_there e (leb-true _ _ f))
      go false f = ap given_of ((piece_back (length got) output).long_name (leb-false _ _ f))

  pub next_is : (got rest output : List ℕ) → lane_of (joined name calls w) ≡ got ++ rest
      → next_piece now name got output ≡ take (length output) rest
  next_is got rest output e = go (joined name calls w) refl e
    where
      go : (o : Option (List ℕ)) → joined name calls w ≡ o → lane_of o ≡ got ++ rest
          → next_piece now name got output ≡ take (length output) rest
      go none f g =
          let z : rest ≡ [] = no_part got rest g in
          next_absent got output f ∙ sym (ap (take (length output)) z ∙ take-nil (length output))
      go (some bs) f g = next-standing got rest output (f ∙ ap some g)

-- ---- what calls add to a lane comes behind it

-- bytes that a lane begins with
pub record Front (got lane : List ℕ) : Type 0 where
  pub rest : List ℕ
  pub is : lane ≡ got ++ rest

front-on : (got : List ℕ) (stood : Option (List ℕ)) (bytes : List ℕ) → Front got (lane_of stood)
    → Front got (lane_of (joined_on stood bytes))
front-on got none bytes F =
    let z : got ≡ [] = no_front got F.rest F.is in
    record { rest = bytes; is = ap (λ (l : List ℕ). l ++ bytes) (sym z) }
front-on got (some bs) bytes F = record {
  rest = F.rest ++ bytes;
  is = ap (λ (l : List ℕ). l ++ bytes) F.is ∙ append_assoc got F.rest bytes;
}

front-log : (name got : List ℕ) (log : List Entry) (stood : Option (List ℕ)) → Front got (lane_of stood)
    → Front got (lane_of (joined_in name log stood))
unfolding joined_in
front-log name got [] stood F = F
front-log name got (e ∷ log) stood F = front-log name got log _ (go (equal_bytes name e.name))
  where
    go : (b : Bool) → Front got (lane_of (cond b (joined_on stood e.bytes) stood))
    go true = front-on got stood e.bytes F
    go false = F

-- ---- all of them

module _ (capacity seed size : ℕ) (table keys lists : List ℕ) (w : World)
    (B : Born capacity seed size table keys lists w) (name : List ℕ) where
  demand : (calls : List Call) → Demand3 w calls
  demand = demand_3 capacity seed size table keys lists w B

  -- calls more
  pub front-calls : (done more : List Call) (got : List ℕ) → Front got (lane_of (joined name done w))
      → Front got (lane_of (joined name (done ++ more) w))
  front-calls done more got F =
      let e : joined name (done ++ more) w ≡ joined_in name (log_of more (play done w)) (joined name done w) =
      ap (λ (log : List Entry). joined_in name log none) ((demand done).log-more more)
      ∙ joined-more name (log_of done w) (log_of more (play done w)) none in
      subst (λ (o : Option (List ℕ)). Front got (lane_of o)) (sym e)
      (front-log name got (log_of more (play done w)) (joined name done w) F)

  -- a piece more
  pub front-piece : (done : List Call) (got output : List ℕ) → Front got (lane_of (joined name done w))
      → Front (got ++ next_piece (play done w) name got output) (lane_of (joined name done w))
  front-piece done got output F =
      let n : ℕ = length output in
      let e = next_is w done (demand done) name got F.rest output F.is in
      record {
        rest = drop n F.rest;
        is =
            F.is
            ∙ ap (λ (l : List ℕ). got ++ l) (sym (take-append-drop n F.rest))
            ∙ sym (append_assoc got (take n F.rest) (drop n F.rest))
            ∙ ap (λ (l : List ℕ). got ++ l ++ drop n F.rest) (sym e);
      }

  gathering : (ts : List Turn) (done : List Call) (got : List ℕ) → Front got (lane_of (joined name done w))
      → Front (gathered name ts (play done w) got) (lane_of (joined name (done ++ calls_in ts) w))
  unfolding gathered play
  gathering [] done got F =
      subst (λ (l : List Call). Front got (lane_of (joined name l w))) (sym (append-nil done)) F
  gathering (does c ∷ ts) done got F =
      let H = gathering ts (done ++ (c ∷ [])) got (front-calls done (c ∷ []) got F) in
      subst (λ (l : List Call). Front (gathered name ts (after c (play done w)) got) (lane_of (joined name l w)))
      (append_assoc done (c ∷ []) (calls_in ts))
      (subst (λ (v : World). Front (gathered name ts v got) (lane_of (joined name ((done ++ (c ∷ [])) ++ calls_in ts) w)))
      ((demand done).play-more (c ∷ [])) H)
  gathering (asks output ∷ ts) done got F =
      gathering ts done (got ++ next_piece (play done w) name got output) (front-piece done got output F)

  -- SIX: pieces of any sizes, with any calls in between, joined
  pub pieces-joined : (ts : List Turn) → PiecesJoined w name ts
  unfolding play log_of joined_in
  pieces-joined ts =
      let F : Front (gathered name ts w []) (lane_of (joined name (calls_in ts) w)) =
      gathering ts [] [] (record { rest = []; is = refl }) in
      let next = next_is w (calls_in ts) (demand (calls_in ts)) name (gathered name ts w []) F.rest in
      record {
        rest = F.rest;
        front = F.is;
        next = λ output. next output F.is;
        whole = λ output l e.
            let z : F.rest ≡ [] = none_left (length output) F.rest l (sym (next output F.is) ∙ e) in
            sym (F.is ∙ ap (λ (l : List ℕ). gathered name ts w [] ++ l) z ∙ append-nil (gathered name ts w []));
      }
