-- A join, on any two memories: the first store afterwards is the appends brought, played; each of them was accepted.
-- Assumes nothing.
use Prim.Native.Nat.{ℕ, suc, ◌+◌, ◌≤◌}
use mathlib.Core.Path.{◌≡◌, refl, sym, ap, ◌∙◌, subst}
use mathlib.Core.Logic.{inl, inr}
use mathlib.Core.Bool.{Bool, true, false, cond, ◌&&◌, false≢true}
use mathlib.Core.List.{List, [], ◌∷◌}
use native.Mathlib.Nat.{suc-add}
use native.Mathlib.Omega.{arith}
use lib.Dec.{leb}
use lib.ListN.{length, take, drop}
use borrow.Author.Tests.{leb-true, leb-false}
use Rattle.limits.specs.Refusals.{appending, refusal_numbers, is_among, permitted, number_in}
use Rattle.spans.specs.Span.{overwrite}
use Rattle.spans.proofs.Laws.{length-overwrite}
use Rattle.store_state.specs.declared.State.{State}
use Rattle.store_append.specs.declared.Appended.{Appended}
use Rattle.store_append.specs.declared.Appended.TheVariants.{Accepted, Declined}
use Rattle.store_append.specs.Said.{said_appended}
use Rattle.store_look.specs.Look.{checked}
use Rattle.store_append.specs.Append.{declined}
use Rattle.store_append.proofs.Fair.{fair-append}
use Rattle.report_text.specs.Text.{Lane}
use Rattle.history.specs.History.{World, append_in, is_accepted, accepts, left, state_after, play, Entry, entry, log_of}
use Rattle.join.specs.Join.{store, Told, lane, broken, told_by, Out, stopped, on_appended, join_lanes, join_of}
use Rattle.join.specs.Join.{lanes_in, appends_of}
use Rattle.join.specs.Said.{said_joined}
use Rattle.join_history.specs.Promises.{state_in, entries_of, overlaid, Ends, JoinsAny}

-- ---- a refused append

-- it leaves everything as it was
refused_so : (w : World) (name bytes : List ℕ) (st : State) (n : ℕ) → (append_in w name bytes).answer ≡ Declined st n
    → append_in w name bytes ≡ declined w.state w.memory n
refused_so w name bytes st n p =
    let q = (fair-append w.state w.memory name bytes).kept st n p in
    λ i. record { answer = (p ∙ ap (λ (s : State). Declined s n) q.0) i; memory = q.1 i }

-- and its number isn't 0
pub numbered : (w : World) (name bytes : List ℕ) (st : State) (n : ℕ) → (append_in w name bytes).answer ≡ Declined st n
    → n ≡ 0
    → ⊥
numbered w name bytes st n p z =
    false≢true (ap (λ (k : ℕ). is_among k (refusal_numbers appending)) (sym z)
    ∙ subst (λ (r : Appended). permitted appending (said_appended r) ≡ true) p
    (fair-append w.state w.memory name bytes).numbered)

-- ---- lanes, from so many across on

abbrev left_by : Out → World
left_by o = store (state_in o.answer) o.memory

abbrev number_of : Out → ℕ
number_of o = number_in (said_joined o.answer)

record Brings (ls : List Told) (w : World) (k : ℕ) (s : List ℕ) (o : Out) : Type 0 where
  many : ℕ
  counted : lanes_in o.answer ≡ k + many
  front : many ≤ length ls
  played : left_by o ≡ play (appends_of (take many ls)) w
  accepted : log_of (appends_of (take many ls)) w ≡ entries_of (take many ls)
  more : ℕ
  ends : Ends (drop many ls) (left_by o) (length s) (number_of o) more
  overlay : o.scratch ≡ overlaid (take (many + more) ls) s

stops : (ls : List Told) (w : World) (k : ℕ) (s : List ℕ) (o : Out) → lanes_in o.answer ≡ k → left_by o ≡ w
    → (x : ℕ) → Ends ls w (length s) (number_of o) x → o.scratch ≡ overlaid (take x ls) s → Brings ls w k s o
unfolding appends_of play log_of entries_of
stops ls w k s o c l x d e = record {
  many = 0;
  counted = omega (arith, c);
  front = omega arith;
  played = l;
  accepted = refl;
  more = x;
  ends = subst (λ (v : World). Ends ls v (length s) (number_of o) x) (sym l) d;
  overlay = e ∙ ap (λ (n : ℕ). overlaid (take n ls) s) (let z : x ≡ 0 + x = omega arith in z);
}

goes : (a : Lane) (ls : List Told) (w : World) (k : ℕ) (s : List ℕ) (o : Out) → accepts w a.name a.bytes ≡ true
    → Brings ls (left (append_in w a.name a.bytes)) (k + 1) (overwrite 0 a.bytes s) o
    → Brings (lane a ∷ ls) w k s o
unfolding appends_of play log_of entries_of overlaid
goes a ls w k s o e B = record {
  many = suc B.many;
  counted = omega (arith, B.counted);
  front = omega (arith, B.front);
  played = B.played;
  accepted = rw e (ap (λ (l : List Entry). entry a.name a.bytes ∷ l) B.accepted);
  more = B.more;
  ends =
      subst (λ (n : ℕ). Ends (drop B.many ls) (left_by o) n (number_of o) B.more)
      (length-overwrite 0 a.bytes s) B.ends;
  overlay = B.overlay ∙ ap (λ (n : ℕ). overlaid (take n (lane a ∷ ls)) s) (sym (suc-add B.many B.more));
}

joins : (ls : List Told) (w : World) (k : ℕ) (s : List ℕ) → Brings ls w k s (join_lanes ls w k s)
unfolding join_lanes overlaid
joins [] w k s = stops [] w k s _ refl refl 0 (refl, refl) refl
joins (broken n ∷ ls) w k s = stops (broken n ∷ ls) w k s _ refl refl 0 (refl, refl) refl
joins (lane a ∷ ls) w k s =
    fit (leb (length a.bytes) (length s)) refl (append_in w a.name a.bytes).answer refl
    (joins ls (left (append_in w a.name a.bytes)) (k + 1) (overwrite 0 a.bytes s))
  where
    fit : (b : Bool) → leb (length a.bytes) (length s) ≡ b → (r : Appended)
        → (append_in w a.name a.bytes).answer ≡ r
        → Brings ls (left (append_in w a.name a.bytes)) (k + 1) (overwrite 0 a.bytes s)
        (join_lanes ls (left (append_in w a.name a.bytes)) (k + 1) (overwrite 0 a.bytes s))
        → Brings (lane a ∷ ls) w k s
        (cond b
        (on_appended r (append_in w a.name a.bytes).memory k (overwrite 0 a.bytes s)
        (λ next. join_lanes ls next (k + 1) (overwrite 0 a.bytes s)))
        (stopped 8 w k s))
    fit false t r p B = stops (lane a ∷ ls) w k s _ refl refl 0 (inl (leb-false _ _ t, refl, refl)) refl
    fit true t (Accepted st) p B =
        subst (λ (x : World). Brings (lane a ∷ ls) w k s (join_lanes ls x (k + 1) (overwrite 0 a.bytes s)))
        (λ i. store (state_after (p i)) (append_in w a.name a.bytes).memory)
        (goes a ls w k s _ (ap is_accepted p) B)
    fit true t (Declined st n) p B =
        let q = refused_so w a.name a.bytes st n p in
        let e : store st (append_in w a.name a.bytes).memory ≡ w =
        (λ i. store (state_after (sym p i)) (append_in w a.name a.bytes).memory) ∙ ap left q in
        stops (lane a ∷ ls) w k s _ refl e 1 (inr (leb-true _ _ t, q, refl)) refl

-- ---- the call

module _ (w v : World) (s : List ℕ) where
  abbrev front : ℕ → List Told
  front n = take n (told_by v)

  record Plays (o : Out) : Type 0 where
    within : lanes_in o.answer ≤ length (told_by v)
    played : left_by o ≡ play (appends_of (front (lanes_in o.answer))) w
    accepted : log_of (appends_of (front (lanes_in o.answer))) w ≡ entries_of (front (lanes_in o.answer))

  plays : (o : Out) → Brings (told_by v) w 0 s o → Plays o
  plays o B =
      let n : B.many ≡ lanes_in o.answer = omega (arith, B.counted) in
      record {
        within = omega (arith, n, B.front);
        played = subst (λ (n : ℕ). left_by o ≡ play (appends_of (front n)) w) n B.played;
        accepted = subst (λ (n : ℕ). log_of (appends_of (front n)) w ≡ entries_of (front n)) n B.accepted;
      }

  plays_any : Plays (join_of w v s)
  unfolding join_of play appends_of log_of entries_of
  plays_any = go (checked w.state w.memory && checked v.state v.memory)
    where
      go : (b : Bool) → Plays (cond b (join_lanes (told_by v) w 0 s) (stopped 2 w 0 s))
      go true = plays (join_lanes (told_by v) w 0 s) (joins (told_by v) w 0 s)
      go false = record { within = omega arith; played = refl; accepted = refl }

  -- why it ended
  EndsBy : Out → Type 0
  EndsBy o = (more : ℕ) × Ends (drop (lanes_in o.answer) (told_by v)) (left_by o) (length s) (number_of o) more
      × (o.scratch ≡ overlaid (front (lanes_in o.answer + more)) s)

  ends_by : (o : Out) → Brings (told_by v) w 0 s o → EndsBy o
  unfolding EndsBy
  ends_by o B =
      let n : B.many ≡ lanes_in o.answer = omega (arith, B.counted) in (
        B.more,
        subst (λ (n : ℕ). Ends (drop n (told_by v)) (left_by o) (length s) (number_of o) B.more) n B.ends,
        B.overlay ∙ ap (λ (n : ℕ). overlaid (front (n + B.more)) s) n,
      )

  ends_any : checked w.state w.memory ≡ true → checked v.state v.memory ≡ true → EndsBy (join_of w v s)
  unfolding join_of
  ends_any p q = rw (p, q) (ends_by (join_lanes (told_by v) w 0 s) (joins (told_by v) w 0 s))

  unchecked : (checked w.state w.memory && checked v.state v.memory) ≡ false
      → join_of w v s ≡ stopped 2 w 0 s
  unfolding join_of
  unchecked e = rw e

  -- THIRTEEN, on any two memories
  pub joins_any : JoinsAny w v s
  unfolding EndsBy
  joins_any = record {
    front = plays_any.within;
    played = plays_any.played;
    accepted = plays_any.accepted;
    unchecked = unchecked;
    ended = λ p q. let E = ends_any p q in record { more = E.0; why = E.1; overlay = E.2 };
  }
