-- Fourteen of a joined store: it counts what it brought, and a store that was lent enough for both halves is joined
-- whole. Assumes nothing.
use Prim.Native.Nat.{ℕ, ◌+◌, ◌*◌, ◌≤◌, ◌<◌}
use mathlib.Core.Path.{◌≡◌, refl, sym, ap, ◌∙◌, subst}
use mathlib.Core.Logic.{◌⊎◌, inl, inr}
use mathlib.Core.Bool.{Bool, true, false, cond, false≢true}
use mathlib.Core.Option.{Option, none, some}
use mathlib.Core.List.{List, [], ◌∷◌, ◌++◌, map, append_assoc}
use native.Mathlib.Omega.{arith}
use lib.ListN.{length, take, drop, take-append-drop}
use Rattle.fastcmp.specs.Equal.{equal_bytes}
use Rattle.fastcmp.proofs.Laws.{equal_refl}
use Rattle.store_append.specs.declared.Appended.{Appended}
use Rattle.store_append.specs.declared.Appended.TheVariants.{Accepted, Declined}
use Rattle.history_lanes.specs.Lane.{used_end}
use Rattle.history.specs.History.{World, Call, appends, Born, append_in, is_accepted, accepts, play, Entry, entry, log_of}
use Rattle.history.specs.History.{asked_for, joined, among, bytes_in, accepted_bytes}
use Rattle.history.specs.Due.{due}
use Rattle.history.specs.Promises.{listed_names}
use Rattle.history.specs.Numbers.{appended_number}
use Rattle.history.proofs.Demand.{refusals_exact}
use Rattle.lending.specs.Lending.{block_tail}
use Rattle.shift_cost.specs.Shift.{sum_of, length_in, lanes_with_bytes, blocks_of_all}
use Rattle.shift_cost.specs.Promises.{StaysWithin, LentFor}
use Rattle.shift_cost.proofs.Spent.{bytes-more}
use Rattle.shift_cost.proofs.Costs.{asked-more, within_less, shift_costs, never_refused}
use Rattle.join.specs.Join.{brought_by}
use Rattle.join_history.specs.Promises.{first_after, join_number, lanes_across, bytes_or, crossed, HalvesJoined}
use Rattle.join_cost.specs.Promises.{joined_calls, JoinCosts, lanes_of, NeverStops}
use Rattle.join_history.proofs.Halves.{halves-joined, halves-logged}

length_or : (o : Option (List ℕ)) → length (bytes_or o) ≡ length_in o
length_or none = refl
length_or (some bs) = refl

each-bytes : (g : List ℕ → Option (List ℕ)) (ns : List (List ℕ))
    → bytes_in (map (λ k. entry k (bytes_or (g k))) ns) ≡ sum_of (λ k. length_in (g k)) ns
unfolding bytes_in sum_of
each-bytes g [] = refl
each-bytes g (n ∷ ns) = omega (arith, each-bytes g ns, length_or (g n))

asked-each : (g : List ℕ → List ℕ) (ns : List (List ℕ)) → asked_for (map (λ k. appends k (g k)) ns)
    ≡ map (λ k. entry k (g k)) ns
unfolding asked_for
asked-each g [] = refl
asked-each g (n ∷ ns) = ap (λ (l : List Entry). entry n (g n) ∷ l) (asked-each g ns)

map_more : {A B : Type 0} (f : A → B) (xs ys : List A) → map f (xs ++ ys) ≡ map f xs ++ map f ys
map_more f [] ys = refl
map_more f (x ∷ xs) ys = ap (λ (l : List _). f x ∷ l) (map_more f xs ys)

among-at : (name : List ℕ) (xs ys : List (List ℕ)) → among name (xs ++ (name ∷ ys)) ≡ true
unfolding among
among-at name [] ys = rw (equal_refl name)
among-at name (x ∷ xs) ys = go (equal_bytes name x) (among-at name xs ys)
  where
    go : (b : Bool) {c : Bool} → c ≡ true → cond b true c ≡ true
    go true e = refl
    go false e = e

accepted_zero : (r : Appended) → is_accepted r ≡ true → appended_number r ≡ 0
accepted_zero (Accepted st) e = refl
accepted_zero (Declined st n) e = absurd (false≢true e)

module _ (capacity seed size : ℕ) (table keys lists : List ℕ) (w : World)
    (B : Born capacity seed size table keys lists w) (capacity₂ seed₂ size₂ : ℕ) (table₂ keys₂ lists₂ : List ℕ)
    (v : World) (B₂ : Born capacity₂ seed₂ size₂ table₂ keys₂ lists₂ v)
    (calls calls₂ : List Call) (s : List ℕ) where
  abbrev first : World
  first = play calls w

  abbrev second : World
  second = play calls₂ v

  abbrev now : List Call
  now = joined_calls w v calls calls₂ s

  abbrev theirs : List ℕ → List ℕ
  theirs k = bytes_or (joined k calls₂ v)

  H : HalvesJoined w v calls calls₂ s
  H =
      halves-joined capacity seed size table keys lists w B capacity₂ seed₂ size₂ table₂ keys₂ lists₂ v B₂ calls
      calls₂ s

  bytes-brought : accepted_bytes now w ≡ accepted_bytes calls w + sum_of (λ k. length_in (joined k calls₂ v))
      (crossed first second s)
  bytes-brought =
      ap bytes_in (halves-logged capacity seed size table keys lists w B capacity₂ seed₂ size₂ table₂ keys₂ lists₂ v B₂
      calls calls₂ s)
      ∙ bytes-more (log_of calls w) (map (λ k. entry k (theirs k)) (crossed first second s))
      ∙ ap (λ (n : ℕ). bytes_in (log_of calls w) + n) (each-bytes (λ k. joined k calls₂ v) (crossed first second s))

  -- FOURTEEN of a joined store
  pub join_costs : JoinCosts w v calls calls₂ s
  join_costs = record {
    bytes-brought = bytes-brought;
    costs = shift_costs capacity seed size table keys lists w B now;
    used_at_most =
        subst (λ (x : World). used_end x.state.list_arena
        ≤ 2 * (accepted_bytes calls w + sum_of (λ k. length_in (joined k calls₂ v)) (crossed first second s))
        + 6 * lanes_with_bytes (log_of now w) + 4 * blocks_of_all (log_of now w) + block_tail * x.state.list_arena.page)
        (sym H.played)
        (omega (arith, (shift_costs capacity seed size table keys lists w B now).used_at_most, bytes-brought));
  }

  -- a store that was lent enough for both halves is joined whole
  pub join_never_stops : (lanes bytes longest : ℕ)
      → LentFor size lanes bytes longest capacity (length table) (length keys) (length lists)
      → NeverStops lanes bytes longest w v calls calls₂ s
  join_never_stops lanes bytes longest L W fits = go (drop k (listed_names second)) refl
    where
      k : ℕ
      k = lanes_across first second s

      went : List (List ℕ)
      went = take k (listed_names second)

      go : (ns : List (List ℕ)) → drop k (listed_names second) ≡ ns → join_number first second s ≡ 0
      go [] e = H.none_left e
      go (name ∷ rest) e = at (H.stopped_at name rest e)
        where
          names : listed_names second ≡ went ++ (name ∷ rest)
          names = sym (take-append-drop k (listed_names second)) ∙ ap (λ (l : List (List ℕ)). went ++ l) e

          asked : asked_for now ≡ asked_for calls ++ map (λ k. entry k (theirs k)) went
          asked =
              asked-more calls (brought_by first second s)
              ∙ ap (λ (l : List Entry). asked_for calls ++ l) (ap asked_for H.brought ∙ asked-each theirs went)

          all : asked_for calls ++ lanes_of v calls₂
              ≡ (asked_for now ++ (entry name (theirs name) ∷ [])) ++ map (λ k. entry k (theirs k)) rest
          all =
              ap (λ (l : List (List ℕ)). asked_for calls ++ map (λ k. entry k (theirs k)) l) names
              ∙ ap (λ (l : List Entry). asked_for calls ++ l) (map_more (λ k. entry k (theirs k)) went (name ∷ rest))
              ∙ sym (append_assoc (asked_for calls) (map (λ k. entry k (theirs k)) went)
              (entry name (theirs name) ∷ map (λ k. entry k (theirs k)) rest))
              ∙ ap (λ (l : List Entry). l ++ (entry name (theirs name) ∷ map (λ k. entry k (theirs k)) rest))
              (sym asked)
              ∙ sym (append_assoc (asked_for now) (entry name (theirs name) ∷ []) (map (λ k. entry k (theirs k)) rest))

          within : StaysWithin lanes bytes longest (asked_for now ++ (entry name (theirs name) ∷ []))
          within =
              within_less capacity seed size table keys lists w B lanes bytes longest L
              (asked_for now ++ (entry name (theirs name) ∷ [])) (map (λ k. entry k (theirs k)) rest)
              (subst (StaysWithin lanes bytes longest) all W)

          accepted : accepts (play now w) name (theirs name) ≡ true
          accepted =
              (never_refused capacity seed size table keys lists w B lanes bytes longest L now).next_accepted name
              (theirs name) within

          at : ((length s < length (theirs name)) × (join_number first second s ≡ 8))
              ⊎ ((length (theirs name) ≤ length s) × (join_number first second s
              ≡ due (first_after first second s).state (first_after first second s).memory name (joined name now w)
              (length (theirs name)))) → join_number first second s ≡ 0
          at (inl r) =
              absurd (omega (
                arith,
                r.0,
                length_or (joined name calls₂ v),
                fits name (ap (among name) names ∙ among-at name went rest),
              ))
          at (inr r) =
              r.1
              ∙ ap (λ (x : World). due x.state x.memory name (joined name now w) (length (theirs name)))
              H.played
              ∙ sym (refusals_exact capacity seed size table keys lists w B now name (theirs name)).said
              ∙ accepted_zero (append_in (play now w) name (theirs name)).answer accepted
