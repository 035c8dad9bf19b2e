-- A join of two stores that histories left: each lane that went across reads as its own bytes and then the other
-- half's. Assumes nothing.
use Prim.Native.Nat.{ℕ, zero, suc, ◌+◌, ◌≤◌, ◌<◌}
use mathlib.Core.Path.{◌≡◌, refl, sym, ap, ◌∙◌, subst}
use mathlib.Core.Logic.{◌⊎◌, inl, inr}
use mathlib.Core.Bool.{Bool, true, false, cond, false≢true}
use mathlib.Core.Option.{Option, none, some}
use mathlib.Core.List.{List, [], ◌∷◌, ◌++◌, map}
use native.Mathlib.Omega.{arith}
use lib.ListN.{length, take, drop}
use lib.Seq.{take_all}
use Rattle.fastcmp.specs.Equal.{equal_bytes}
use Rattle.fastcmp.proofs.Laws.{equal_true}
use Rattle.records.specs.Record.{key_length, header_of}
use Rattle.expull_header.specs.Header.{lane_length}
use Rattle.store_look.specs.declared.Listed.{Listed}
use Rattle.store_look.specs.declared.Listed.TheVariants.{Bucket, NoMore, Stopped}
use Rattle.store_state.specs.Name.{name_limit_of}
use Rattle.store_look.specs.Look.{blocks_sound, next_of}
use Rattle.store_append.specs.Append.{Out as AppendOut}
use Rattle.history_names.specs.Listing.{times}
use Rattle.history.specs.History.{World, Call, appends, Born, append_in, play, Entry, entry, log_of, joined_on, joined_in}
use Rattle.history.specs.History.{joined, is_joined, among}
use Rattle.history.specs.Due.{due}
use Rattle.history.specs.Numbers.{appended_number}
use Rattle.history.specs.Promises.{ReadsAs, listed_places, listed_names}
use Rattle.history.specs.Demand.{Demand3}
use Rattle.history.proofs.Log.{play-more, log-more, joined-more}
use Rattle.history.proofs.Told.{times_none}
use Rattle.history.proofs.Demand.{demand_3}
use Rattle.report_text.specs.Text.{Lane, lane as lane_of}
use Rattle.std.specs.Prelude.{Ok, Err}
use Rattle.limits.specs.declared.Refusal.TheVariants.{Damage}
use Rattle.report_lanes.specs.Lanes.{Gathered, gathered, halted, lane_before, lane_at, on_listed, gather_from}
use Rattle.report_lanes.specs.Measure.{met_lane, some_lane, met_of, on_next_lane, next_lane_of}
use Rattle.report_history.specs.Promises.{EachJoined}
use Rattle.report_history.proofs.Names.{names_of}
use Rattle.report_history.proofs.Demand.{all, gathers, each-joined, names_are}
use Rattle.join.specs.Join.{Told, lane, told_on, told_from, told_by, appends_of, brought_by}
use Rattle.join_history.specs.Promises.{first_after, join_number, lanes_across, entries_of, Ends, JoinEnds, JoinsAny}
use Rattle.join_history.specs.Promises.{halves, bytes_or, crossed, halves_of, HalvesJoined}
use Rattle.join_history.proofs.Brought.{numbered, joins_any}

-- ---- what is told where no damage is met: the lanes of a report

told-gathered : (v : World) (n i : ℕ) (ls : List Lane) → gather_from v.state v.memory n i ≡ gathered ls
    → told_from v n i ≡ map (λ a. lane a) ls
unfolding gather_from told_from next_lane_of met_of
told-gathered v zero i ls e = let q : [] ≡ ls = cc in rw (← q)
told-gathered v (suc n) i ls e =
    go (next_of v.state v.memory i) (λ j. gather_from v.state v.memory n j)
    (λ j ks f. told-gathered v n j ks f) ls e
  where
    found : (at : ℕ) (g : Gathered) (rest : List Told) → ((ks : List Lane) → g ≡ gathered ks → rest
        ≡ map (λ a. lane a) ks)
        → (ls : List Lane) → lane_before (lane_at v.memory at) g ≡ gathered ls
        → lane (lane_at v.memory at) ∷ rest ≡ map (λ a. lane a) ls
    found at (gathered ks) rest f ls e =
        let q : lane_at v.memory at ∷ ks ≡ ls = cc in
        rw (← q) (ap (λ (l : List Told). lane (lane_at v.memory at) ∷ l) (f ks refl))
    found at (halted k) rest f ls e = let z : ◌≡◌ {A = ℕ} 0 1 = cc in absurd (omega arith)

    met : (j at : ℕ) (b : Bool) (g : ℕ → Gathered)
        → ((j : ℕ) (ks : List Lane) → g j ≡ gathered ks → told_from v n j ≡ map (λ a. lane a) ks)
        → (ls : List Lane) → cond b (lane_before (lane_at v.memory at) (g (j + 1))) (halted Damage) ≡ gathered ls
        → told_on (some_lane (cond b (Ok (met_lane j at (key_length v.memory.keys at)
        (lane_length (header_of v.memory.keys at)))) (Err Damage)))
        v.memory (λ j. told_from v n j) ≡ map (λ a. lane a) ls
    met j at true g f ls e = found at (g (j + 1)) (told_from v n (j + 1)) (f (j + 1)) ls e
    met j at false g f ls e = let z : ◌≡◌ {A = ℕ} 0 1 = cc in absurd (omega arith)

    go : (x : Listed) (g : ℕ → Gathered)
        → ((j : ℕ) (ks : List Lane) → g j ≡ gathered ks → told_from v n j ≡ map (λ a. lane a) ks)
        → (ls : List Lane) → on_listed x v.state v.memory g ≡ gathered ls
        → told_on (on_next_lane x v.state v.memory) v.memory (λ j. told_from v n j) ≡ map (λ a. lane a) ls
    go (Bucket j at) g f ls e = met j at (blocks_sound v.state v.memory at) g f ls e
    go NoMore g f ls e = let q : [] ≡ ls = cc in rw (← q)
    go (Stopped k) g f ls e = let z : ◌≡◌ {A = ℕ} 0 1 = cc in absurd (omega arith)

-- ---- lanes by their names

module _ (w : World) (calls : List Call) (D : Demand3 w calls) where
  abbrev bytes : List ℕ → List ℕ
  bytes k = bytes_or (joined k calls w)

  by_name : (ls : List Lane) → EachJoined calls w ls
      → map (λ a. lane a) ls ≡ map (λ k. lane (lane_of k (bytes k))) (names_of ls)
  by_name [] e = refl
  by_name (a ∷ ls) e =
      let q : a.bytes ≡ bytes a.name = ap bytes_or (sym e.0) in
      λ i. lane (lane_of a.name (q i)) ∷ by_name ls e.1 i

  -- the names that are listed, each with its accepted appends joined
  told_names : told_by (play calls w) ≡ map (λ k. lane (lane_of k (bytes k))) (listed_names (play calls w))
  told_names =
      told-gathered (play calls w) (play calls w).state.buckets 0 (all w calls D)
      (gathers w calls D (play calls w).state.buckets 0)
      ∙ by_name (all w calls D) (each-joined w calls D)
      ∙ ap (map (λ k. lane (lane_of k (bytes k)))) (names_are w calls D (listed_places (play calls w)))

-- ---- fronts of lists

take-map : {A B : Type 0} (f : A → B) (n : ℕ) (xs : List A) → take n (map f xs) ≡ map f (take n xs)
take-map f zero xs = refl
take-map f (suc n) [] = refl
take-map f (suc n) (x ∷ xs) = ap (λ (l : List _). f x ∷ l) (take-map f n xs)

drop-map : {A B : Type 0} (f : A → B) (n : ℕ) (xs : List A) → drop n (map f xs) ≡ map f (drop n xs)
drop-map f zero xs = refl
drop-map f (suc n) [] = refl
drop-map f (suc n) (x ∷ xs) = drop-map f n xs

drop_none : {A : Type 0} (n : ℕ) (xs : List A) → drop n xs ≡ [] → length xs ≤ n
drop_none zero [] e = omega arith
drop_none zero (x ∷ xs) e = let z : ◌≡◌ {A = ℕ} 0 1 = cc in absurd (omega arith)
drop_none (suc n) [] e = omega arith
drop_none (suc n) (x ∷ xs) e = omega (arith, drop_none n xs e)

times-front : (j : List ℕ) (n : ℕ) (ns : List (List ℕ)) → times j (take n ns) ≤ times j ns
unfolding times
times-front j zero ns = omega arith
times-front j (suc n) [] = omega arith
times-front j (suc n) (m ∷ ns) = go (equal_bytes j m) (times-front j n ns)
  where
    go : (b : Bool) → times j (take n ns) ≤ times j ns
        → cond b (suc (times j (take n ns))) (times j (take n ns)) ≤ cond b (suc (times j ns)) (times j ns)
    go true l = omega arith
    go false l = l

times_some : (j : List ℕ) (ns : List (List ℕ)) → among j ns ≡ true → 1 ≤ times j ns
unfolding times among
times_some j [] e = absurd (false≢true e)
times_some j (m ∷ ns) e = go (equal_bytes j m) e (times_some j ns)
  where
    go : (b : Bool) → cond b true (among j ns) ≡ true → (among j ns ≡ true → 1 ≤ times j ns)
        → 1 ≤ cond b (suc (times j ns)) (times j ns)
    go true e f = omega arith
    go false e f = f e

-- ---- what names, each with one entry, make of a lane

module _ (j : List ℕ) (g : List ℕ → List ℕ) where
  abbrev each : List (List ℕ) → List Entry
  each ns = map (λ k. entry k (g k)) ns

  each_none : (ns : List (List ℕ)) (o : Option (List ℕ)) → times j ns ≡ 0 → joined_in j (each ns) o ≡ o
  unfolding joined_in times
  each_none [] o e = refl
  each_none (n ∷ ns) o e = go (equal_bytes j n) e (each_none ns)
    where
      go : (b : Bool) → cond b (suc (times j ns)) (times j ns) ≡ 0
          → ((o : Option (List ℕ)) → times j ns ≡ 0 → joined_in j (each ns) o ≡ o)
          → joined_in j (each ns) (cond b (joined_on o (g n)) o) ≡ o
      go true e f = absurd (omega arith)
      go false e f = f o e

  each_once : (ns : List (List ℕ)) (o : Option (List ℕ)) → times j ns ≤ 1
      → joined_in j (each ns) o ≡ cond (among j ns) (joined_on o (g j)) o
  unfolding joined_in times among
  each_once [] o e = refl
  each_once (n ∷ ns) o e = go (equal_bytes j n) refl e (each_once ns o)
    where
      go : (b : Bool) → equal_bytes j n ≡ b → cond b (suc (times j ns)) (times j ns) ≤ 1
          → (times j ns ≤ 1 → joined_in j (each ns) o ≡ cond (among j ns) (joined_on o (g j)) o)
          → joined_in j (each ns) (cond b (joined_on o (g n)) o) ≡ cond (cond b true (among j ns)) (joined_on o (g j)) o
      go true p e f =
          each_none ns (joined_on o (g n)) (omega arith) ∙ ap (λ (k : List ℕ). joined_on o (g k)) (sym (equal_true j n p))
      go false p e f = f e

entries-each : (g : List ℕ → List ℕ) (ns : List (List ℕ))
    → entries_of (map (λ k. lane (lane_of k (g k))) ns) ≡ map (λ k. entry k (g k)) ns
unfolding entries_of
entries-each g [] = refl
entries-each g (n ∷ ns) = ap (λ (l : List Entry). entry n (g n) ∷ l) (entries-each g ns)

appends_each : (g : List ℕ → List ℕ) (ns : List (List ℕ))
    → appends_of (map (λ k. lane (lane_of k (g k))) ns) ≡ map (λ k. appends k (g k)) ns
unfolding appends_of
appends_each g [] = refl
appends_each g (n ∷ ns) = ap (λ (l : List Call). appends n (g n) ∷ l) (appends_each g ns)

-- a lane that stands has its bytes
halves_some : (own other : Option (List ℕ)) → is_joined other ≡ true → joined_on own (bytes_or other) ≡ halves own other
halves_some own none e = absurd (false≢true e)
halves_some own (some bs) e = refl

halves_none : (own other : Option (List ℕ)) → is_joined other ≡ false → own ≡ halves own other
halves_none own none e = refl
halves_none own (some bs) e = absurd (false≢true (sym e))

-- ---- the theorems

module _ (w v : World) (calls calls₂ : List Call) (s : List ℕ) (D : Demand3 w calls) (D₂ : Demand3 v calls₂)
    (after : (more : List Call) → Demand3 w (calls ++ more)) where
  abbrev first : World
  first = play calls w

  abbrev second : World
  second = play calls₂ v

  abbrev went : List (List ℕ)
  went = crossed first second s

  abbrev theirs : List ℕ → List ℕ
  theirs k = bytes_or (joined k calls₂ v)

  any : JoinsAny first second s
  any = joins_any first second s

  front_is : take (lanes_across first second s) (told_by second) ≡ map (λ k. lane (lane_of k (theirs k))) went
  front_is =
      ap (take (lanes_across first second s)) (told_names v calls₂ D₂)
      ∙ take-map (λ k. lane (lane_of k (theirs k))) (lanes_across first second s) (listed_names second)

  brought_is : brought_by first second s ≡ map (λ k. appends k (theirs k)) went
  brought_is = ap appends_of front_is ∙ appends_each theirs went

  played_is : first_after first second s ≡ play (calls ++ brought_by first second s) w
  played_is = any.played ∙ sym (play-more calls (brought_by first second s) w)

  -- a listed name was joined, once; and one that wasn't joined isn't listed
  listed_as : (j : List ℕ) → ((is_joined (joined j calls₂ v) ≡ true) × (times j (listed_names second) ≡ 1))
      ⊎ ((is_joined (joined j calls₂ v) ≡ false) × (times j (listed_names second) ≡ 0))
  listed_as j = go (is_joined (joined j calls₂ v)) refl
    where
      go : (b : Bool) → is_joined (joined j calls₂ v) ≡ b
          → ((is_joined (joined j calls₂ v) ≡ true) × (times j (listed_names second) ≡ 1))
          ⊎ ((is_joined (joined j calls₂ v) ≡ false) × (times j (listed_names second) ≡ 0))
      go true e = inl (e, D₂.names-exact.each_once j (D₂.names-joined j ∙ e))
      go false e = inr (e, D₂.names-exact.no_other j (D₂.names-joined j ∙ e))

  went_once : (j : List ℕ) → times j went ≤ 1
  went_once j = go (listed_as j)
    where
      go : ((is_joined (joined j calls₂ v) ≡ true) × (times j (listed_names second) ≡ 1))
          ⊎ ((is_joined (joined j calls₂ v) ≡ false) × (times j (listed_names second) ≡ 0)) → times j went ≤ 1
      go (inl r) = omega (arith, times-front j (lanes_across first second s) (listed_names second), r.1)
      go (inr r) = omega (arith, times-front j (lanes_across first second s) (listed_names second), r.1)

  went-joined : (j : List ℕ) → among j went ≡ true → is_joined (joined j calls₂ v) ≡ true
  went-joined j e = go (listed_as j)
    where
      go : ((is_joined (joined j calls₂ v) ≡ true) × (times j (listed_names second) ≡ 1))
          ⊎ ((is_joined (joined j calls₂ v) ≡ false) × (times j (listed_names second) ≡ 0))
          → is_joined (joined j calls₂ v) ≡ true
      go (inl r) = r.0
      go (inr r) =
          absurd (omega (
            arith,
            times_some j went e,
            times-front j (lanes_across first second s) (listed_names second),
            r.1,
          ))

  pub log_is : log_of (calls ++ brought_by first second s) w ≡ log_of calls w ++ map (λ k. entry k (theirs k)) went
  log_is =
      log-more calls (brought_by first second s) w
      ∙ ap (λ (l : List Entry). log_of calls w ++ l) (any.accepted ∙ ap entries_of front_is ∙ entries-each theirs went)

  lane_is : (j : List ℕ) → joined j (calls ++ brought_by first second s) w
      ≡ halves_of j went (joined j calls w) (joined j calls₂ v)
  lane_is j =
      ap (λ (l : List Entry). joined_in j l none) log_is
      ∙ joined-more j (log_of calls w) (map (λ k. entry k (theirs k)) went) none
      ∙ each_once j theirs went (joined j calls w) (went_once j)
      ∙ go (among j went) refl
    where
      go : (b : Bool) → among j went ≡ b → cond b (joined_on (joined j calls w) (theirs j)) (joined j calls w)
          ≡ cond b (halves (joined j calls w) (joined j calls₂ v)) (joined j calls w)
      go true e = halves_some (joined j calls w) (joined j calls₂ v) (went-joined j e)
      go false e = refl

  reads_so : (j : List ℕ) → length j ≤ name_limit_of w.state → (o : Option (List ℕ))
      → joined j (calls ++ brought_by first second s) w ≡ o → ReadsAs (first_after first second s) j o
  reads_so j short o e =
      subst (λ (x : World). ReadsAs x j o) (sym played_is)
      (subst (ReadsAs (play (calls ++ brought_by first second s) w) j) e
      ((after (brought_by first second s)).reads_back j short))

  -- why it ended: no damage is met
  ends : JoinEnds first second s
  ends = any.ended D.whole D₂.whole

  refused_whole : (ns : List (List ℕ)) (more : ℕ)
      → Ends (map (λ k. lane (lane_of k (theirs k))) ns) (first_after first second s) (length s)
      (join_number first second s) more
      → join_number first second s ≡ 0 → ns ≡ []
  refused_whole [] more E z = refl
  refused_whole (n ∷ ns) more (inl E) z = absurd (omega (arith, E.1))
  refused_whole (n ∷ ns) more (inr E) z =
      absurd (numbered (first_after first second s) n (theirs n) _ _ (ap (λ (o : AppendOut). o.answer) E.1) z)

  left_are : drop (lanes_across first second s) (told_by second)
      ≡ map (λ k. lane (lane_of k (theirs k))) (drop (lanes_across first second s) (listed_names second))
  left_are =
      ap (drop (lanes_across first second s)) (told_names v calls₂ D₂)
      ∙ drop-map (λ k. lane (lane_of k (theirs k))) (lanes_across first second s) (listed_names second)

  why : Ends (map (λ k. lane (lane_of k (theirs k))) (drop (lanes_across first second s) (listed_names second)))
      (first_after first second s) (length s) (join_number first second s) ends.more
  why =
      subst (λ (ls : List Told). Ends ls (first_after first second s) (length s) (join_number first second s)
      ends.more)
      left_are ends.why

  all-crossed : join_number first second s ≡ 0 → went ≡ listed_names second
  all-crossed z =
      let n : List (List ℕ) = drop (lanes_across first second s) (listed_names second) in
      take_all (lanes_across first second s) (listed_names second)
      (drop_none (lanes_across first second s) (listed_names second) (refused_whole n ends.more why z))

  whole-lane : join_number first second s ≡ 0 → (j : List ℕ) → joined j (calls ++ brought_by first second s) w
      ≡ halves (joined j calls w) (joined j calls₂ v)
  whole-lane z j = lane_is j ∙ go (among j went) refl (listed_as j)
    where
      go : (b : Bool) → among j went ≡ b → ((is_joined (joined j calls₂ v) ≡ true) × (times j (listed_names second) ≡ 1))
          ⊎ ((is_joined (joined j calls₂ v) ≡ false) × (times j (listed_names second) ≡ 0))
          → cond b (halves (joined j calls w) (joined j calls₂ v)) (joined j calls w)
          ≡ halves (joined j calls w) (joined j calls₂ v)
      go true e l = refl
      go false e (inl r) = absurd (omega (arith, times_none j went e, ap (times j) (all-crossed z), r.1))
      go false e (inr r) = halves_none (joined j calls w) (joined j calls₂ v) r.0

  none_left : (ns : List (List ℕ)) (more : ℕ)
      → Ends (map (λ k. lane (lane_of k (theirs k))) ns) (first_after first second s) (length s)
      (join_number first second s) more
      → ns ≡ [] → join_number first second s ≡ 0
  none_left [] more E e = E.0
  none_left (n ∷ ns) more E e = let z : ◌≡◌ {A = ℕ} 0 1 = cc in absurd (omega arith)

  -- the lane at which it stopped
  stopped_by : (ns : List (List ℕ)) (more : ℕ)
      → Ends (map (λ k. lane (lane_of k (theirs k))) ns) (first_after first second s) (length s)
      (join_number first second s) more
      → (name : List ℕ) (rest : List (List ℕ)) → ns ≡ name ∷ rest
      → ((length s < length (theirs name)) × (join_number first second s ≡ 8))
      ⊎ ((length (theirs name) ≤ length s) × (join_number first second s
      ≡ due (first_after first second s).state (first_after first second s).memory name
      (joined name (calls ++ brought_by first second s) w) (length (theirs name))))
  stopped_by [] more E name rest e = let z : ◌≡◌ {A = ℕ} 0 1 = cc in absurd (omega arith)
  stopped_by (k ∷ ns) more (inl E) name rest e =
      let q : k ≡ name = cc in
      inl (subst (λ (n : List ℕ). length s < length (theirs n)) q E.0, E.1)
  stopped_by (k ∷ ns) more (inr E) name rest e =
      let q : k ≡ name = cc in
      let A = (after (brought_by first second s)).refusals_exact name (theirs name) in
      inr (
        subst (λ (n : List ℕ). length (theirs n) ≤ length s) q E.0,
        sym (ap (λ (o : AppendOut). appended_number o.answer) E.1)
            ∙ (λ i. appended_number (append_in (played_is i) (q i) (theirs (q i))).answer)
            ∙ A.said
            ∙ ap (λ (x : World). due x.state x.memory name (joined name (calls ++ brought_by first second s) w)
            (length (theirs name))) (sym played_is),
      )

  never : (ns : List (List ℕ)) (n more : ℕ)
      → Ends (map (λ k. lane (lane_of k (theirs k))) ns) (first_after first second s) (length s) n more
      → (n ≡ 2 → ⊥) × (n ≡ 4 → ⊥)
  never [] n more E = ((λ e. omega (arith, E.0)), λ e. omega (arith, E.0))
  never (k ∷ ns) n more (inl E) = ((λ e. omega (arith, E.1)), λ e. omega (arith, E.1))
  never (k ∷ ns) n more (inr E) =
      let N = (after (brought_by first second s)).never_2_or_4 (appends k (theirs k)) in
      let p : appended_number (append_in (play (calls ++ brought_by first second s) w) k (theirs k)).answer ≡ n =
      ap (λ (x : World). appended_number (append_in x k (theirs k)).answer) (sym played_is)
      ∙ ap (λ (o : AppendOut). appended_number o.answer) E.1 in
      ((λ e. N.0 (p ∙ e)), λ e. N.1 (p ∙ e))

  pub joined_halves : HalvesJoined w v calls calls₂ s
  joined_halves = record {
    brought = brought_is;
    played = played_is;
    demand_3 = after (brought_by first second s);
    lanes = lane_is;
    reads = λ j short. reads_so j short _ (lane_is j);
    none_left = none_left (drop (lanes_across first second s) (listed_names second)) ends.more why;
    all-crossed = all-crossed;
    reads_whole = λ z j short. reads_so j short _ (whole-lane z j);
    stopped_at = stopped_by (drop (lanes_across first second s) (listed_names second)) ends.more why;
    never_2_or_4 = never (drop (lanes_across first second s) (listed_names second)) (join_number first second s)
        ends.more why;
  }

-- THIRTEEN: two halves of a shift
pub halves-joined : (capacity seed size : ℕ) (table keys lists : List ℕ) (w : World)
    → Born capacity seed size table keys lists w → (capacity₂ seed₂ size₂ : ℕ) (table₂ keys₂ lists₂ : List ℕ)
    (v : World) → Born capacity₂ seed₂ size₂ table₂ keys₂ lists₂ v
    → (calls calls₂ : List Call) (s : List ℕ) → HalvesJoined w v calls calls₂ s
halves-joined capacity seed size table keys lists w B capacity₂ seed₂ size₂ table₂ keys₂ lists₂ v B₂ calls calls₂ s =
    joined_halves w v calls calls₂ s (demand_3 capacity seed size table keys lists w B calls)
    (demand_3 capacity₂ seed₂ size₂ table₂ keys₂ lists₂ v B₂ calls₂)
    (λ more. demand_3 capacity seed size table keys lists w B (calls ++ more))

-- its log: its own, and the lanes that went across
pub halves-logged : (capacity seed size : ℕ) (table keys lists : List ℕ) (w : World)
    → Born capacity seed size table keys lists w → (capacity₂ seed₂ size₂ : ℕ) (table₂ keys₂ lists₂ : List ℕ)
    (v : World) → Born capacity₂ seed₂ size₂ table₂ keys₂ lists₂ v
    → (calls calls₂ : List Call) (s : List ℕ)
    → log_of (calls ++ brought_by (play calls w) (play calls₂ v) s) w
    ≡ log_of calls w ++ map (λ k. entry k (bytes_or (joined k calls₂ v))) (crossed (play calls w) (play calls₂ v) s)
halves-logged capacity seed size table keys lists w B capacity₂ seed₂ size₂ table₂ keys₂ lists₂ v B₂ calls calls₂ s =
    log_is w v calls calls₂ s (demand_3 capacity seed size table keys lists w B calls)
    (demand_3 capacity₂ seed₂ size₂ table₂ keys₂ lists₂ v B₂ calls₂)
    (λ more. demand_3 capacity seed size table keys lists w B (calls ++ more))
