-- Laws of the code: one byte, the loop over a piece, the end of a call. What the code's run comes to is what the bytes
-- come to. Assumes nothing.
use Prim.Native.Nat.{ℕ, suc, ◌+◌, ◌-◌, ◌≤◌, ◌<◌}
use mathlib.Core.Path.{◌≡◌, refl, sym, ap, ◌∙◌, subst}
use mathlib.Core.Bool.{Bool, true, false, cond, ◌&&◌}
use mathlib.Core.List.{List, [], ◌∷◌, ◌++◌}
use native.Mathlib.Numerals.{add-one}
use native.Mathlib.Omega.{arith}
use lib.Dec.{leb, ltb, eqb}
use lib.ListN.{length, take, drop, get_or, set, replicate, length-set, drop_of_length-le}
use lib.Seq.{length-take-le, take-suc-set, drop-cons}
use borrow.Author.Tests.{le-leb, lt-leb, lt-ltb, ne_eqb, leb-true, ltb-true}
use Rattle.limits.specs.Limits.{held_limit, fed_limit}
use Rattle.numbers.proofs.Tests.{both, same_test}
use Rattle.spans.specs.Span.{overwrite}
use Rattle.spans.proofs.Laws.{store-one, overwrite_none, overwrite-append}
use Rattle.std.specs.Prelude.{Option, Some, None, Ok, Err}
use Rattle.std.specs.Option.{is_none, is_some}
use Rattle.limits.specs.declared.Refusal.{Refusal}
use Rattle.limits.specs.declared.Refusal.TheVariants.{NoEnd}
use Rattle.vint.specs.Vint.{Unvint, read_vint}
use Rattle.number_pieces.specs.declared.Pieces.{Pieces}
use Rattle.number_pieces.specs.declared.Run.{Run}
use Rattle.number_pieces.specs.declared.Fed.{Fed}
use Rattle.number_pieces.specs.Run.{Step, holds, gives, faults, on_vint, step_of, End, waits, stops, Ran, ran}
use Rattle.number_pieces.specs.Run.{in_front, run_of, at_end}
use Rattle.number_pieces.specs.Feed.{held_of, holding, no_top, takes, out, fed, stopped, on_end, on_run}
use Rattle.number_pieces.specs.Turn.{Turned, turned, run, begun, on_turn, turn_of, turns_of, finish_by, finish_of}
use Rattle.number_pieces.proofs.Runs.{is_held, step-held, step_asks, run_step, end_stops}

-- ---- whether a piece is taken

pub takes_many : (st : Pieces) (n : ℕ) → held_limit < st.count → takes st n ≡ false
unfolding takes
takes_many st n h = rw (lt-leb st.count held_limit h)

pub takes_top : (st : Pieces) (n : ℕ) → st.count ≤ held_limit → no_top (held_of st) ≡ false → takes st n ≡ false
unfolding takes
takes_top st n h e = rw (le-leb st.count held_limit h, e)

pub takes-room : (st : Pieces) (n : ℕ) → st.count ≤ held_limit → no_top (held_of st) ≡ true → st.fed ≤ fed_limit
    → leb n (fed_limit - st.fed) ≡ takes st n
unfolding takes
takes-room st n h e k =
    rw (le-leb st.count held_limit h, e)
    (same_test (leb n (fed_limit - st.fed)) (leb (st.fed + n) fed_limit)
    (λ z. le-leb (st.fed + n) fed_limit (omega (arith, leb-true n (fed_limit - st.fed) z)))
    (λ z. le-leb n (fed_limit - st.fed) (omega (arith, leb-true (st.fed + n) fed_limit z))))

-- ---- one byte

-- bytes held by the code
abbrev pub held_in : Run → List ℕ
held_in s = take s.count s.held

turn_is : (s : Run) (b : ℕ) (o : List ℕ) (x : Step) → step_of (held_in s) b ≡ x → turn_of s b o ≡ on_turn x s b o
unfolding turn_of
turn_is s b o x e = rw e

-- what a byte may do
data Turning (s : Run) (b : ℕ) : Type 0 where
  held_too : s.count < held_limit → step_of (held_in s) b ≡ holds (held_in s ++ (b ∷ [])) → Turning s b
  given : (n : ℕ) → step_of (held_in s) b ≡ gives n → Turning s b
  faulty : (r : Refusal) → step_of (held_in s) b ≡ faults r → Turning s b

module _ (s : Run) (b : ℕ) (long : length s.held ≡ held_limit) (few : s.count ≤ held_limit) where
  -- the code tests the count
  same_tests : (ltb b 128 && ltb s.count held_limit) ≡ is_held (held_in s) b
  same_tests =
      ap (λ (n : ℕ). ltb b 128 && ltb n held_limit) (sym (length-take-le s.count s.held (omega arith)))

  pub turn_holds : (o : List ℕ) → (ltb b 128 && ltb s.count held_limit) ≡ true
      → turned (run (set s.held s.count b) (s.count + 1) s.numbers (s.taken + 1) None) o ≡ turn_of s b o
  turn_holds o e = sym (turn_is s b o _ (step-held (held_in s) b (sym same_tests ∙ e)))

  asks : (ltb b 128 && ltb s.count held_limit) ≡ false → (r : Unvint) → read_vint (held_in s ++ (b ∷ [])) ≡ r
      → step_of (held_in s) b ≡ on_vint r
  asks e r f = step_asks (held_in s) b (sym same_tests ∙ e) ∙ ap on_vint f

  pub turn_asks : (o : List ℕ) (r : Unvint) → (ltb b 128 && ltb s.count held_limit) ≡ false
      → read_vint (held_in s ++ (b ∷ [])) ≡ r → on_turn (on_vint r) s b o ≡ turn_of s b o
  turn_asks o r e f = sym (turn_is s b o _ (asks e r f))

  turning : Turning s b
  turning = go (ltb b 128 && ltb s.count held_limit) refl (read_vint (held_in s ++ (b ∷ []))) refl
    where
      go : (t : Bool) → (ltb b 128 && ltb s.count held_limit) ≡ t → (r : Unvint) → read_vint (held_in s ++ (b ∷ [])) ≡ r
          → Turning s b
      go true e r f =
          held_too (ltb-true s.count held_limit (both (ltb b 128) (ltb s.count held_limit) e).1)
          (step-held (held_in s) b (sym same_tests ∙ e))
      go false e (Ok n) f = given n.number (asks e (Ok n) f)
      go false e (Err r) f = faulty r (asks e (Err r) f)

-- ---- some bytes

turns_none : (s : Run) (o : List ℕ) → turns_of s [] o ≡ turned s o
unfolding turns_of
turns_none s o = refl

turns_on : (s : Run) (b : ℕ) (bs o : List ℕ) (t : Turned) → t ≡ turn_of s b o → is_none t.run.fault ≡ true
    → turns_of s (b ∷ bs) o ≡ turns_of t.run bs t.output
unfolding turns_of
turns_on s b bs o t e z = rw (← e, z)

turns_off : (s : Run) (b : ℕ) (bs o : List ℕ) (t : Turned) → t ≡ turn_of s b o → is_none t.run.fault ≡ false
    → turns_of s (b ∷ bs) o ≡ t
unfolding turns_of
turns_off s b bs o t e z = rw (← e, z)

-- what some bytes, the first of them at place i, come to in the code
pub record Came (s : Run) (o bs : List ℕ) (i : ℕ) (t : Turned) : Type 0 where
  pub long : length t.run.held ≡ held_limit
  pub few : t.run.count ≤ held_limit
  pub least : s.taken ≤ t.run.taken
  pub within : t.run.taken ≤ s.taken + length bs
  pub counted : t.run.numbers ≡ s.numbers + length (run_of (held_in s) i bs).numbers
  pub output : t.output ≡ overwrite s.numbers (run_of (held_in s) i bs).numbers o
  pub all-taken : t.run.fault ≡ None → t.run.taken ≡ s.taken + length bs
  pub waiting : t.run.fault ≡ None → (run_of (held_in s) i bs).end ≡ waits (held_in t.run)
  pub stopping : (r : Refusal) → t.run.fault ≡ Some r
      → (run_of (held_in s) i bs).end ≡ stops r (i + (t.run.taken - s.taken))

-- none
came_none : (s : Run) (o : List ℕ) (i : ℕ) → length s.held ≡ held_limit → s.count ≤ held_limit → s.fault ≡ None
    → Came s o [] i (turned s o)
unfolding run_of
came_none s o i long few z = record {
  long = long;
  few = few;
  least = omega arith;
  within = omega arith;
  counted = omega arith;
  output = sym (overwrite_none s.numbers o);
  all-taken = λ e. omega arith;
  waiting = λ e. refl;
  stopping = λ r f. cc;
}

-- a byte that is held, and those behind it
came_held : (s : Run) (b : ℕ) (o bs : List ℕ) (i : ℕ) (t : Turned) → s.count < held_limit → length s.held ≡ held_limit
    → step_of (held_in s) b ≡ holds (held_in s ++ (b ∷ []))
    → Came (run (set s.held s.count b) (s.count + 1) s.numbers (s.taken + 1) None) o bs (suc i) t
    → Came s o (b ∷ bs) i t
came_held s b o bs i t l long e C =
    let h : take (s.count + 1) (set s.held s.count b) ≡ held_in s ++ (b ∷ []) =
    ap (λ (n : ℕ). take n (set s.held s.count b)) (add-one s.count)
    ∙ take-suc-set s.held s.count b (omega arith) in
    let r : run_of (take (s.count + 1) (set s.held s.count b)) (suc i) bs ≡ run_of (held_in s) i (b ∷ bs) =
    ap (λ (x : List ℕ). run_of x (suc i) bs) h ∙ sym (run_step (held_in s) i b bs _ e) in
    record {
      long = C.long;
      few = C.few;
      least = omega (arith, C.least);
      within = omega (arith, C.within);
      counted = C.counted ∙ ap (λ (x : Ran). s.numbers + length x.numbers) r;
      output = C.output ∙ ap (λ (x : Ran). overwrite s.numbers x.numbers o) r;
      all-taken = λ z. C.all-taken z ∙ omega arith;
      waiting = λ z. sym (ap (λ (x : Ran). x.end) r) ∙ C.waiting z;
      stopping = λ f z. sym (ap (λ (x : Ran). x.end) r) ∙ C.stopping f z ∙ ap (stops f) (omega (arith, C.least));
    }

-- one that gives a number
came_given : (s : Run) (b : ℕ) (o bs : List ℕ) (i n : ℕ) (t : Turned) → step_of (held_in s) b ≡ gives n
    → Came (run s.held 0 (s.numbers + 1) (s.taken + 1) None) (set o s.numbers n) bs (suc i) t
    → Came s o (b ∷ bs) i t
came_given s b o bs i n t e C =
    let ms = (run_of [] (suc i) bs).numbers in
    let r : in_front n (run_of [] (suc i) bs) ≡ run_of (held_in s) i (b ∷ bs) = sym (run_step (held_in s) i b bs _ e) in
    let w : overwrite (s.numbers + 1) ms (set o s.numbers n) ≡ overwrite s.numbers (n ∷ ms) o =
    ap (overwrite (s.numbers + 1) ms) (store-one s.numbers n o)
    ∙ sym (overwrite-append s.numbers (n ∷ []) ms o) in
    record {
      long = C.long;
      few = C.few;
      least = omega (arith, C.least);
      within = omega (arith, C.within);
      counted = C.counted ∙ omega arith ∙ ap (λ (x : Ran). s.numbers + length x.numbers) r;
      output = C.output ∙ w ∙ ap (λ (x : Ran). overwrite s.numbers x.numbers o) r;
      all-taken = λ z. C.all-taken z ∙ omega arith;
      waiting = λ z. sym (ap (λ (x : Ran). x.end) r) ∙ C.waiting z;
      stopping = λ f z. sym (ap (λ (x : Ran). x.end) r) ∙ C.stopping f z ∙ ap (stops f) (omega (arith, C.least));
    }

-- one that shows a fault
came_faulty : (s : Run) (b : ℕ) (o bs : List ℕ) (i : ℕ) (n : Refusal) → length s.held ≡ held_limit
    → s.count ≤ held_limit → step_of (held_in s) b ≡ faults n
    → Came s o (b ∷ bs) i (turned (run s.held s.count s.numbers s.taken (Some n)) o)
came_faulty s b o bs i n long few e =
    let r : run_of (held_in s) i (b ∷ bs) ≡ ran [] (stops n i) = run_step (held_in s) i b bs _ e in
    record {
      long = long;
      few = few;
      least = omega arith;
      within = omega arith;
      counted = rw r (omega arith);
      output = rw r (sym (overwrite_none s.numbers o));
      all-taken = λ y. cc;
      waiting = λ y. cc;
      stopping = λ f y.
          let same : n ≡ f = cc in
          ap (λ (x : Ran). x.end) r ∙ ap (stops n) (omega arith)
          ∙ ap (λ (x : Refusal). stops x (i + (s.taken - s.taken))) same;
    }

came : (bs : List ℕ) (s : Run) (o : List ℕ) (i : ℕ) → length s.held ≡ held_limit → s.count ≤ held_limit → s.fault ≡ None
    → Came s o bs i (turns_of s bs o)
came [] s o i long few z = subst (Came s o [] i) (sym (turns_none s o)) (came_none s o i long few z)
came (b ∷ bs) s o i long few z =
    go (turning s b long few)
    (λ l. came bs (run (set s.held s.count b) (s.count + 1) s.numbers (s.taken + 1) None) o (suc i)
    (length-set s.held s.count b ∙ long) l refl)
    (λ n. came bs (run s.held 0 (s.numbers + 1) (s.taken + 1) None) (set o s.numbers n) (suc i) long (omega arith)
    refl)
  where
    Rest : Run → List ℕ → Type 0
    Rest r x = Came r x bs (suc i) (turns_of r bs x)

    go : Turning s b
        → (s.count + 1 ≤ held_limit
        → Rest (run (set s.held s.count b) (s.count + 1) s.numbers (s.taken + 1) None) o)
        → ((n : ℕ) → Rest (run s.held 0 (s.numbers + 1) (s.taken + 1) None) (set o s.numbers n))
        → Came s o (b ∷ bs) i (turns_of s (b ∷ bs) o)
    go (held_too l e) f g =
        subst (Came s o (b ∷ bs) i) (sym (turns_on s b bs o _ (sym (turn_is s b o _ e)) refl))
        (came_held s b o bs i _ l long e (f (omega arith)))
    go (given n e) f g =
        subst (Came s o (b ∷ bs) i) (sym (turns_on s b bs o _ (sym (turn_is s b o _ e)) refl))
        (came_given s b o bs i n _ e (g n))
    go (faulty n e) f g =
        subst (Came s o (b ∷ bs) i) (sym (turns_off s b bs o _ (sym (turn_is s b o _ e)) refl))
        (came_faulty s b o bs i n long few e)

-- a whole piece
pub came-piece : (st : Pieces) (piece output : List ℕ) (t : Turned) → length st.held ≡ held_limit
    → st.count ≤ held_limit
    → t ≡ turns_of (begun st) piece output → Came (begun st) output piece st.fed t
came-piece st piece output t l f e =
    subst (Came (begun st) output piece st.fed) (sym e) (came piece (begun st) output st.fed l f refl)

-- ---- the loop over a piece

-- the code tests for a fault
pub faultless : (o : Option Refusal) → is_some o ≡ false → is_none o ≡ true
faultless None e = refl
faultless (Some r) e = sym e

pub is_fault : (o : Option Refusal) → is_some o ≡ true → is_none o ≡ false
is_fault None e = sym e
is_fault (Some r) e = refl

-- what the whole piece comes to is what the rest comes to from place i
pub record Taking (first : Run) (piece before : List ℕ) (s : Run) (o : List ℕ) (i : ℕ) : Type 0 where
  pub at : s.taken ≡ i
  pub within : i ≤ length piece
  pub long : length s.held ≡ held_limit
  pub few : s.count ≤ held_limit
  pub no_more : s.numbers ≤ i
  pub same : length o ≡ length before
  pub whole : turns_of s (drop i piece) o ≡ turns_of first piece before

-- before the first byte
pub taking_starts : (st : Pieces) (piece before : List ℕ) → length st.held ≡ held_limit → st.count ≤ held_limit
    → Taking (begun st) piece before (begun st) before 0
taking_starts st piece before l f = record {
  at = refl;
  within = omega arith;
  long = l;
  few = f;
  no_more = omega arith;
  same = refl;
  whole = refl;
}

module _ {first : Run} {piece before : List ℕ} {s : Run} {o : List ℕ} {i : ℕ}
    (T : Taking first piece before s o i) (l : i < length piece) where
  abbrev b : ℕ
  b = get_or piece i 0

  abbrev rest : List ℕ
  rest = drop (suc i) piece

  cut : turns_of s (b ∷ rest) o ≡ turns_of first piece before
  cut = ap (λ (x : List ℕ). turns_of s x o) (sym (drop-cons piece i 0 l)) ∙ T.whole

  -- a turn without a fault
  record Turn (r : Run) (o' : List ℕ) : Type 0 where
    long : length r.held ≡ held_limit
    few : r.count ≤ held_limit
    next : is_none r.fault ≡ true → r.taken ≡ suc i
    no_more : is_none r.fault ≡ true → r.numbers ≤ suc i
    same : length o' ≡ length o

  turned_so : Turn (turn_of s b o).run (turn_of s b o).output
  turned_so = go (turning s b T.long T.few)
    where
      P : Turned → Type 0
      P t = Turn t.run t.output

      go : Turning s b → Turn (turn_of s b o).run (turn_of s b o).output
      go (held_too k e) =
          subst P (sym (turn_is s b o _ e))
          (record {
            long = length-set s.held s.count b ∙ T.long;
            few = omega arith;
            next = λ z. omega (arith, T.at);
            no_more = λ z. omega (arith, T.no_more);
            same = refl;
          })
      go (given n e) =
          subst P (sym (turn_is s b o _ e))
          (record {
            long = T.long;
            few = omega arith;
            next = λ z. omega (arith, T.at);
            no_more = λ z. omega (arith, T.no_more);
            same = length-set o s.numbers n;
          })
      go (faulty n e) =
          subst P (sym (turn_is s b o _ e))
          (record { long = T.long; few = T.few; next = λ z. cc; no_more = λ z. absurd cc; same = refl })

  module _ (r : Run) (o' : List ℕ) (e : turned r o' ≡ turn_of s b o) where
    turn_here : Turn r o'
    turn_here = subst (λ (t : Turned). Turn t.run t.output) (sym e) turned_so

    -- the output is as long, at a fault too
    pub taking-same : length o' ≡ length before
    taking-same = turn_here.same ∙ T.same

    pub taking-on : is_none r.fault ≡ true → Taking first piece before r o' (suc i)
    taking-on z = record {
      at = turn_here.next z;
      within = omega arith;
      long = turn_here.long;
      few = turn_here.few;
      no_more = turn_here.no_more z;
      same = taking-same;
      whole = sym (turns_on s b rest o (turned r o') e z) ∙ cut;
    }

    pub taking_off : is_none r.fault ≡ false → turned r o' ≡ turns_of first piece before
    taking_off z = sym (turns_off s b rest o (turned r o') e z) ∙ cut

pub taking-ends : {first : Run} {piece before : List ℕ} {s : Run} {o : List ℕ} {i : ℕ}
    → Taking first piece before s o i → length piece ≤ i → turned s o ≡ turns_of first piece before
taking-ends {piece = piece} {s = s} {o = o} T l =
    sym (turns_none s o) ∙ ap (λ (x : List ℕ). turns_of s x o) (sym (drop_of_length-le piece l)) ∙ T.whole

-- ---- the end of a call

-- held bytes and zeros behind them, as the state has them
pub held_padded : (s : Run) (n : ℕ) → length s.held ≡ held_limit → s.count ≤ held_limit
    → record { held = held_in s ++ replicate (held_limit - s.count) 0; count = s.count; fed = n } ≡ holding (held_in s) n
held_padded s n l f =
    let c = sym (length-take-le s.count s.held (omega arith)) in
    λ j. record { held = held_in s ++ replicate (held_limit - c j) 0; count = c j; fed = n }

-- all bytes taken: by what is held and whether there were any
ends : (st : Pieces) (last : Bool) (h p ns o : List ℕ)
    → cond (last && ltb 0 (length h)) (stopped st (length ns) NoEnd (st.fed + length p))
    (cond (eqb (length p) 0) (fed st (length ns) None) (fed (holding h (st.fed + length p)) (length ns) None))
    ≡ (on_end (at_end last (st.fed + length p) (waits h)) st p ns o).answer
ends st true [] [] ns o = refl
ends st true [] (x ∷ p) ns o = rw (ne_eqb (length (x ∷ p)) 0 (λ z. omega arith))
ends st true (y ∷ h) p ns o = rw (lt-ltb 0 (length (y ∷ h)) (omega arith))
ends st false h [] ns o = refl
ends st false h (x ∷ p) ns o = rw (ne_eqb (length (x ∷ p)) 0 (λ z. omega arith))

same_output : (e : End) (st : Pieces) (p ns o : List ℕ) → (on_end e st p ns o).output ≡ overwrite 0 ns o
same_output (waits h) st p ns o = refl
same_output (stops n i) st p ns o = refl

-- what the code answers is what the call answers
pub finish_is : (st : Pieces) (piece : List ℕ) (last : Bool) (output : List ℕ) (t : Turned)
    → Came (begun st) output piece st.fed t
    → out (finish_of st t.run last) t.output ≡ on_run (run_of (held_of st) st.fed piece) st piece last output
unfolding finish_of
finish_is st piece last output t C = go t.run.fault refl
  where
    R : Ran
    R = run_of (held_of st) st.fed piece

    n : t.run.numbers ≡ length R.numbers
    n = omega (arith, C.counted)

    with_output : (r : Fed)
        → r ≡ (on_end (at_end last (st.fed + length piece) R.end) st piece R.numbers output).answer
        → out r t.output ≡ on_run R st piece last output
    with_output r e =
        let o = same_output (at_end last (st.fed + length piece) R.end) st piece R.numbers output in
        λ j. out (e j) ((C.output ∙ sym o) j)

    stopped-so : (r : Refusal) → t.run.fault ≡ Some r
        → stopped st t.run.numbers r (st.fed + t.run.taken)
        ≡ (on_end (at_end last (st.fed + length piece) R.end) st piece R.numbers output).answer
    stopped-so r z =
        let k : t.run.taken ≡ t.run.taken - 0 = omega arith in
        (λ j. stopped st (n j) r (st.fed + k j))
        ∙ ap (λ (e : End). (on_end e st piece R.numbers output).answer)
        (sym (ap (at_end last (st.fed + length piece)) (C.stopping r z) ∙ end_stops last (st.fed + length piece) _ _))

    gone : t.run.fault ≡ None
        → finish_by None st t.run last
        ≡ (on_end (at_end last (st.fed + length piece) R.end) st piece R.numbers output).answer
    gone z =
        let k : t.run.taken ≡ length piece = omega (arith, C.all-taken z) in
        let c : t.run.count ≡ length (held_in t.run) =
        sym (length-take-le t.run.count t.run.held (omega (arith, C.long, C.few))) in
        (λ j. cond (last && ltb 0 (c j)) (stopped st (n j) NoEnd (st.fed + k j))
        (cond (eqb (k j) 0) (fed st (n j) None) (fed (holding (held_in t.run) (st.fed + k j)) (n j) None)))
        ∙ ends st last (held_in t.run) piece R.numbers output
        ∙ ap (λ (e : End). (on_end (at_end last (st.fed + length piece) e) st piece R.numbers output).answer)
        (sym (C.waiting z))

    go : (f : Option Refusal) → t.run.fault ≡ f
        → out (finish_by f st t.run last) t.output ≡ on_run R st piece last output
    go None e = with_output _ (gone e)
    go (Some r) e = with_output _ (stopped-so r e)
