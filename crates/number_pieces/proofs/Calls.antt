-- However a lane's bytes are cut into calls: numbers, refusal, place and state are those of one call with the whole.
-- Assumes nothing.
use Prim.Native.Nat.{ℕ, ◌+◌, ◌-◌, ◌≤◌, ◌<◌}
use mathlib.Core.Path.{◌≡◌, refl, sym, ap, ◌∙◌, subst}
use mathlib.Core.Logic.{◌⊎◌, inl, ⊎_elim}
use mathlib.Core.Bool.{Bool, true, false, ◌&&◌}
use mathlib.Core.List.{List, [], ◌∷◌, ◌++◌, append_assoc, append-nil}
use native.Mathlib.Omega.{arith}
use lib.Dec.{leb}
use lib.ListN.{length, take, replicate, length-append, length-take}
use lib.Seq.{take-append_seam}
use borrow.Author.Tests.{le-leb, leb-true}
use Rattle.limits.specs.Limits.{held_limit, fed_limit}
use Rattle.limits.specs.Refusals.{feeding_piece, permitted}
use Rattle.std.specs.Prelude.{Option, Some, None}
use Rattle.limits.specs.Refusals.{number_of}
use Rattle.limits.specs.declared.Refusal.{Refusal}
use Rattle.limits.specs.declared.Refusal.TheVariants.{NotWhole, OutputTooShort, NoEnd, AnotherForm}
use Rattle.numbers.proofs.Tests.{both}
use Rattle.spans.specs.Span.{read_span, overwrite}
use Rattle.spans.proofs.Laws.{read_written, overwrite_none}
use Rattle.number_pieces.specs.declared.Pieces.{Pieces}
use Rattle.number_pieces.specs.declared.Fed.{Fed}
use Rattle.number_pieces.specs.declared.Stop.{Stop}
use Rattle.number_pieces.specs.Run.{End, waits, stops, Ran, ran, run_of, at_end}
use Rattle.number_pieces.specs.Feed.{held_of, holding, fresh, no_top, takes, Out, out, fed, stopped as stops_with, after, on_end, on_run}
use Rattle.number_pieces.specs.Feed.{feed_of}
use Rattle.number_pieces.specs.Said.{said_fed}
use Rattle.number_pieces.specs.Cut.{Piece, HasPlaces, EachHasPlaces, joined, goes_on, stopped, Got, got}
use Rattle.number_pieces.specs.Cut.{got_of, call_of, going_on, calls_of}
use Rattle.number_pieces.specs.Promises.{vints_of, Each32}
use Rattle.number_pieces.proofs.Runs.{then, run_none, end_stops, run-append, Holdable, FairEnd, Fair, run-fair}
use Rattle.number_pieces.proofs.Vints.{run_written}

-- ---- which pieces are taken

-- what 2 doesn't name
pub record Takes (st : Pieces) (n : ℕ) : Type 0 where
  pub few : st.count ≤ held_limit
  pub low : no_top (held_of st) ≡ true
  pub fits : st.fed + n ≤ fed_limit

pub takes_is : (st : Pieces) (n : ℕ) → takes st n ≡ true → Takes st n
unfolding takes
takes_is st n e =
    let p = both (leb st.count held_limit) (no_top (held_of st) && leb (st.fed + n) fed_limit) e in
    let q = both (no_top (held_of st)) (leb (st.fed + n) fed_limit) p.1 in
    record { few = leb-true st.count held_limit p.0; low = q.0; fits = leb-true (st.fed + n) fed_limit q.1 }

is_takes : (st : Pieces) (n : ℕ) → Takes st n → takes st n ≡ true
unfolding takes
is_takes st n T = rw (le-leb st.count held_limit T.few, T.low, le-leb (st.fed + n) fed_limit T.fits)

pub fresh-takes : (n : ℕ) → n ≤ fed_limit → takes fresh n ≡ true
unfolding no_top
fresh-takes n h = is_takes fresh n (record { few = omega arith; low = refl; fits = omega arith })

holds-now : (st : Pieces) (n : ℕ) → Takes st n → Holdable (held_of st)
holds-now st n T = record { few = simp length-take (omega (arith, T.few)); low = T.low }

-- ---- a call, by what is asked of it

pub feed_2 : (st : Pieces) (piece : List ℕ) (last : Bool) (output : List ℕ) → takes st (length piece) ≡ false
    → feed_of st piece last output ≡ out (stops_with st 0 NotWhole 0) output
unfolding feed_of
feed_2 st piece last output e = rw e

pub feed_8 : (st : Pieces) (piece : List ℕ) (last : Bool) (output : List ℕ) → takes st (length piece) ≡ true
    → leb (length piece) (length output) ≡ false
    → feed_of st piece last output ≡ out (stops_with st 0 OutputTooShort (length piece)) output
unfolding feed_of
feed_8 st piece last output e l = rw (e, l)

pub feed_run : (st : Pieces) (piece : List ℕ) (last : Bool) (output : List ℕ) → takes st (length piece) ≡ true
    → leb (length piece) (length output) ≡ true
    → feed_of st piece last output ≡ on_run (run_of (held_of st) st.fed piece) st piece last output
unfolding feed_of
feed_run st piece last output e l = rw (e, l)

-- ---- one call's numbers and where it leaves its caller

abbrev got_end : End → Pieces → List ℕ → List ℕ → Got
got_end (waits h) st piece ns = got ns (goes_on (after st piece h))
got_end (stops n i) st piece ns = got ns (stopped n i)

abbrev result : Pieces → List ℕ → Bool → Ran → Got
result st piece last r = got_end (at_end last (st.fed + length piece) r.end) st piece r.numbers

front_back : (ns output : List ℕ) → length ns ≤ length output → take (length ns) (overwrite 0 ns output) ≡ ns
unfolding read_span
front_back ns output l = read_written 0 ns output (omega arith)

end-got : (e : End) (st : Pieces) (piece ns output : List ℕ) → length ns ≤ length output
    → got_of (on_end e st piece ns output) ≡ got_end e st piece ns
end-got (waits h) st piece ns output l = ap (λ (x : List ℕ). got x (goes_on (after st piece h))) (front_back ns output l)
end-got (stops n i) st piece ns output l = ap (λ (x : List ℕ). got x (stopped n i)) (front_back ns output l)

call_is : (st : Pieces) (p : Piece) (last : Bool) → Takes st (length p.bytes) → HasPlaces p
    → call_of st p last ≡ result st p.bytes last (run_of (held_of st) st.fed p.bytes)
call_is st p last T l =
    let R = run_of (held_of st) st.fed p.bytes in
    ap got_of
    (feed_run st p.bytes last p.output (is_takes st (length p.bytes) T)
    (le-leb (length p.bytes) (length p.output) l))
    ∙ end-got (at_end last (st.fed + length p.bytes) R.end) st p.bytes R.numbers p.output
    (omega (arith, l, (run-fair (held_of st) st.fed p.bytes (holds-now st (length p.bytes) T)).no_more))

-- ---- the state after a piece, and after one more

held_after : (st : Pieces) (p h : List ℕ) → (run_of (held_of st) st.fed p).end ≡ waits h → held_of (after st p h) ≡ h
unfolding run_of
held_after st [] h e = cc
held_after st (b ∷ p) h e = take-append_seam h (replicate (held_limit - length h) 0)

fed-after : (st : Pieces) (p h : List ℕ) → (after st p h).fed ≡ st.fed + length p
fed-after st [] h = omega arith
fed-after st (b ∷ p) h = refl

few-after : (st : Pieces) (p h : List ℕ) → st.count ≤ held_limit → length h ≤ held_limit
    → (after st p h).count ≤ held_limit
few-after st [] h a b = a
few-after st (x ∷ p) h a b = b

after_both : (st : Pieces) (p q h g : List ℕ) (i : ℕ) → (run_of h i q).end ≡ waits g
    → after (after st p h) q g ≡ after st (p ++ q) g
unfolding run_of
after_both st [] q h g i e = refl
after_both st (x ∷ p) [] h g i e =
    let s : h ≡ g = cc in
    let n : length (x ∷ p) ≡ length ((x ∷ p) ++ []) = ap length (sym (append-nil (x ∷ p))) in
    λ j. holding (s j) (st.fed + n j)
after_both st (x ∷ p) (y ∷ q) h g i e = ap (holding g) (omega (arith, length-append (x ∷ p) (y ∷ q)))

-- held bytes at a lane's end are no waiting bytes
end_waits : (last : Bool) (i : ℕ) (e : End) (h : List ℕ) → at_end last i e ≡ waits h → e ≡ waits h
end_waits false i e h p = p
end_waits true i (waits []) h p = p
end_waits true i (waits (b ∷ g)) h p = cc
end_waits true i (stops n j) h p = p

-- numbers in front of what one more piece comes to
joins : (st : Pieces) (p q h : List ℕ) (ns : List ℕ) (i : ℕ) (r : Ran) → run_of h i q ≡ r
    → (e : End) (l : Bool) (j : ℕ) → at_end l j r.end ≡ e
    → got (ns ++ (got_end e (after st p h) q r.numbers).numbers) (got_end e (after st p h) q r.numbers).stands
    ≡ got_end e st (p ++ q) (ns ++ r.numbers)
joins st p q h ns i r x (waits g) l j y =
    ap (λ (s : Pieces). got (ns ++ r.numbers) (goes_on s))
    (after_both st p q h g i (ap (λ (t : Ran). t.end) x ∙ end_waits l j r.end g y))
joins st p q h ns i r x (stops n k) l j y = refl

-- ---- all calls

-- one piece, and what its caller gets from those behind it
turn : (st : Pieces) (p : Piece) (q : List ℕ) (last : Bool) (rest : Pieces → Got) → Takes st (length p.bytes)
    → HasPlaces p
    → ((h : List ℕ) → Holdable h → held_of (after st p.bytes h) ≡ h
    → rest (after st p.bytes h) ≡ result (after st p.bytes h) q last (run_of h (st.fed + length p.bytes) q))
    → (ns : List ℕ) (e : End) → run_of (held_of st) st.fed p.bytes ≡ ran ns e → Fair (length p.bytes) (ran ns e)
    → going_on (call_of st p false).numbers (call_of st p false).stands rest
    ≡ result st (p.bytes ++ q) last (then (ran ns e) (λ h. run_of h (st.fed + length p.bytes) q))
turn st p q last rest T l f ns (waits h) r F =
    let bs = p.bytes in
    let R = run_of h (st.fed + length bs) q in
    let z : (after st bs h).fed + length q ≡ st.fed + length (bs ++ q) =
    omega (arith, fed-after st bs h, length-append bs q) in
    ap (λ (g : Got). going_on g.numbers g.stands rest)
    (call_is st p false T l ∙ ap (result st bs false) r)
    ∙ ap (λ (g : Got). got (ns ++ g.numbers) g.stands)
    (f h F.end_fair (held_after st bs h (ap (λ (t : Ran). t.end) r)))
    ∙ joins st bs q h ns (st.fed + length bs) R refl (at_end last ((after st bs h).fed + length q) R.end) last
    ((after st bs h).fed + length q) refl
    ∙ ap (λ (n : ℕ). got_end (at_end last n R.end) st (bs ++ q) (ns ++ R.numbers)) z
turn st p q last rest T l f ns (stops n i) r F =
    let bs = p.bytes in
    ap (λ (g : Got). going_on g.numbers g.stands rest)
    (call_is st p false T l ∙ ap (result st bs false) r)
    ∙ ap (λ (x : List ℕ). got x (stopped n i)) (sym (append-nil ns))
    ∙ sym (ap (λ (e : End). got_end e st (bs ++ q) (ns ++ [])) (end_stops last (st.fed + length (bs ++ q)) n i))

calls_are : (st : Pieces) (ps : List Piece) (p : Piece) (last : Bool) → Takes st (length (joined ps ++ p.bytes))
    → EachHasPlaces ps → HasPlaces p
    → calls_of st ps p last
    ≡ result st (joined ps ++ p.bytes) last (run_of (held_of st) st.fed (joined ps ++ p.bytes))
unfolding calls_of
calls_are st [] p last T E l = call_is st p last T l
calls_are st (q ∷ qs) p last T E l =
    let bs = q.bytes in
    let rest = joined qs ++ p.bytes in
    let same : joined (q ∷ qs) ++ p.bytes ≡ bs ++ rest = append_assoc bs (joined qs) p.bytes in
    let n : length (joined (q ∷ qs) ++ p.bytes) ≡ length bs + length rest = ap length same ∙ length-append bs rest in
    let Q : Takes st (length bs) = record { few = T.few; low = T.low; fits = omega (arith, T.fits) } in
    let R = run_of (held_of st) st.fed bs in
    turn st q rest last (λ s. calls_of s qs p last) Q E.0
    (λ h H e.
    let U : Takes (after st bs h) (length rest) =
    record {
      few = few-after st bs h T.few H.few;
      low = ap no_top e ∙ H.low;
      fits = omega (arith, fed-after st bs h, T.fits);
    } in
    calls_are (after st bs h) qs p last U E.1 l
    ∙ (λ i. result (after st bs h) rest last (run_of (e i) (fed-after st bs h i) rest)))
    R.numbers R.end refl (run-fair (held_of st) st.fed bs (holds-now st (length bs) Q))
    ∙ ap (result st (bs ++ rest) last) (sym (run-append (held_of st) st.fed bs rest))
    ∙ ap (λ (x : List ℕ). result st x last (run_of (held_of st) st.fed x)) (sym same)

-- CUT ANYWHERE
pub cut_anywhere : (st : Pieces) (ps : List Piece) (p whole : Piece) (last : Bool)
    → whole.bytes ≡ joined ps ++ p.bytes
    → takes st (length whole.bytes) ≡ true → EachHasPlaces ps → HasPlaces p → HasPlaces whole
    → calls_of st ps p last ≡ call_of st whole last
cut_anywhere st ps p whole last w t E l m =
    let T = takes_is st (length whole.bytes) t in
    calls_are st ps p last (subst (λ (x : List ℕ). Takes st (length x)) w T) E l
    ∙ ap (λ (x : List ℕ). result st x last (run_of (held_of st) st.fed x)) (sym w)
    ∙ sym (call_is st whole last T m)

-- ---- an empty piece, a refusal, written vints

-- what a call may leave: nothing changed before its first byte; else by the run's end
feed_cases : (P : Out → Type 0) (st : Pieces) (piece : List ℕ) (last : Bool) (output : List ℕ)
    → P (out (stops_with st 0 NotWhole 0) output)
    → P (out (stops_with st 0 OutputTooShort (length piece)) output)
    → (Takes st (length piece) → P (on_run (run_of (held_of st) st.fed piece) st piece last output))
    → P (feed_of st piece last output)
feed_cases P st piece last output two eight runs =
    go (takes st (length piece)) refl (leb (length piece) (length output)) refl
  where
    go : (a : Bool) → takes st (length piece) ≡ a → (b : Bool) → leb (length piece) (length output) ≡ b
        → P (feed_of st piece last output)
    go true e true f = subst P (sym (feed_run st piece last output e f)) (runs (takes_is st (length piece) e))
    go true e false f = subst P (sym (feed_8 st piece last output e f)) eight
    go false e b f = subst P (sym (feed_2 st piece last output e)) two

pub empty_piece : (st : Pieces) (last : Bool) (output : List ℕ)
    → feed_of st [] last output ≡ out (fed st 0 (feed_of st [] last output).answer.stop) output
empty_piece st last output =
    feed_cases (λ (o : Out). o ≡ out (fed st 0 o.answer.stop) output) st [] last output refl refl
    (λ T. subst
    (λ (r : Ran). on_run r st [] last output ≡ out (fed st 0 (on_run r st [] last output).answer.stop) output)
    (sym (run_none (held_of st) st.fed)) (ends (at_end last (st.fed + 0) (waits (held_of st)))))
  where
    ends : (e : End) → on_end e st [] [] output ≡ out (fed st 0 (on_end e st [] [] output).answer.stop) output
    ends (waits h) = ap (out (fed st 0 None)) (overwrite_none 0 output)
    ends (stops n i) = ap (out (stops_with st 0 n i)) (overwrite_none 0 output)

pub empty_goes_on : (st : Pieces) (output : List ℕ) → takes st 0 ≡ true
    → (feed_of st [] false output).answer.stop ≡ None
empty_goes_on st output e =
    ap (λ (o : Out). o.answer.stop)
    (feed_run st [] false output e (le-leb 0 (length output) (omega arith))
    ∙ ap (λ (r : Ran). on_run r st [] false output) (run_none (held_of st) st.fed))

pub state_back : (st : Pieces) (piece : List ℕ) (last : Bool) (output : List ℕ) (s : Stop)
    → (feed_of st piece last output).answer.stop ≡ Some s → (feed_of st piece last output).answer.state ≡ st
state_back st piece last output s =
    feed_cases (λ (o : Out). o.answer.stop ≡ Some s → o.answer.state ≡ st) st piece last output (λ e. refl)
    (λ e. refl)
    (λ T. ends (at_end last (st.fed + length piece) (run_of (held_of st) st.fed piece).end)
    (run_of (held_of st) st.fed piece).numbers)
  where
    ends : (e : End) (ns : List ℕ) → (on_end e st piece ns output).answer.stop ≡ Some s
        → (on_end e st piece ns output).answer.state ≡ st
    ends (waits h) ns e = cc
    ends (stops k i) ns e = refl

pub output_back : (st : Pieces) (piece : List ℕ) (last : Bool) (output : List ℕ) (s : Stop)
    → (feed_of st piece last output).answer.stop ≡ Some s → number_of s.refusal < 11
    → (feed_of st piece last output).output ≡ output
output_back st piece last output s =
    feed_cases (λ (o : Out). o.answer.stop ≡ Some s → number_of s.refusal < 11 → o.output ≡ output) st piece last output
    (λ e l. refl) (λ e l. refl)
    (λ T. at-end last (run_of (held_of st) st.fed piece).end
    (run-fair (held_of st) st.fed piece (holds-now st (length piece) T)).end_fair)
  where
    i : ℕ
    i = st.fed + length piece

    ns : List ℕ
    ns = (run_of (held_of st) st.fed piece).numbers

    not_so : {A : Type 0} (r : Refusal) (j : ℕ) → (r ≡ NoEnd) ⊎ (r ≡ AnotherForm)
        → ◌≡◌ {A = Option Stop} (Some (record { refusal = r; told = j })) (Some s) → number_of s.refusal < 11 → A
    not_so r j f e l =
        let z : record { refusal = r; told = j } ≡ s = cc in
        let q : number_of r ≡ number_of s.refusal = ap (λ (x : Stop). number_of x.refusal) z in
        absurd (⊎_elim (λ (x : r ≡ NoEnd). omega (arith, ap number_of x)) (λ (x : r ≡ AnotherForm). omega (
          arith,
          ap
              number_of x,
        )) f)

    at-end : (t : Bool) (e : End) → FairEnd e → (on_end (at_end t i e) st piece ns output).answer.stop ≡ Some s
        → number_of s.refusal < 11
        → (on_end (at_end t i e) st piece ns output).output ≡ output
    at-end false (waits h) f e l = cc
    at-end true (waits []) f e l = cc
    at-end true (waits (b ∷ h)) f e l = not_so NoEnd i (inl refl) e l
    at-end false (stops k j) f e l = not_so k j f e l
    at-end true (stops k j) f e l = not_so k j f e l

pub written_back : (ns : List ℕ) (p : Piece) (last : Bool) → Each32 ns → p.bytes ≡ vints_of ns
    → length p.bytes ≤ fed_limit
    → HasPlaces p → call_of fresh p last ≡ got ns (goes_on (holding [] (length p.bytes)))
written_back ns p last h e l m =
    let run : run_of (held_of fresh) fresh.fed p.bytes ≡ ran ns (waits []) =
    ap (run_of [] 0) e ∙ run_written 0 ns h in
    call_is fresh p last (takes_is fresh (length p.bytes) (fresh-takes (length p.bytes) l)) m
    ∙ ap (result fresh p.bytes last) run
    ∙ ends last
    ∙ ap (λ (s : Pieces). got ns (goes_on s)) (left p.bytes)
  where
    ends : (t : Bool) → result fresh p.bytes t (ran ns (waits [])) ≡ got ns (goes_on (after fresh p.bytes []))
    ends true = refl
    ends false = refl

    left : (bs : List ℕ) → after fresh bs [] ≡ holding [] (length bs)
    left [] = refl
    left (b ∷ bs) = ap (holding []) (omega arith)

-- ---- a listed number

numbered_of : (st : Pieces) (piece : List ℕ) (last : Bool) (output : List ℕ)
    → permitted feeding_piece (said_fed (feed_of st piece last output).answer) ≡ true
numbered_of st piece last output =
    feed_cases (λ (o : Out). permitted feeding_piece (said_fed o.answer) ≡ true) st piece last output refl refl
    (λ T. at-end last (run_of (held_of st) st.fed piece).end
    (run-fair (held_of st) st.fed piece (holds-now st (length piece) T)).end_fair)
  where
    i : ℕ
    i = st.fed + length piece

    ns : List ℕ
    ns = (run_of (held_of st) st.fed piece).numbers

    at-end : (t : Bool) (e : End) → FairEnd e
        → permitted feeding_piece (said_fed (on_end (at_end t i e) st piece ns output).answer) ≡ true
    at-end false (waits h) f = refl
    at-end true (waits []) f = refl
    at-end true (waits (b ∷ h)) f = refl
    at-end false (stops n j) f = ⊎_elim (λ (e : n ≡ NoEnd). rw e) (λ (e : n ≡ AnotherForm). rw e) f
    at-end true (stops n j) f = ⊎_elim (λ (e : n ≡ NoEnd). rw e) (λ (e : n ≡ AnotherForm). rw e) f

-- and so is the code's
pub feed_numbered : (st : Pieces) (piece : List ℕ) (last : Bool) (output : List ℕ) (r : Fed) (o : List ℕ)
    → out r o ≡ feed_of st piece last output → permitted feeding_piece (said_fed r) ≡ true
feed_numbered st piece last output r o e =
    ap (λ (x : Out). permitted feeding_piece (said_fed x.answer)) e ∙ numbered_of st piece last output
