-- The theorems: of every store that was born by an accepted creation, and of every list of calls on it. Assumes
-- nothing.
use Prim.Native.Nat.{ℕ, ◌+◌, ◌≤◌, ◌<◌}
use mathlib.Core.Path.{◌≡◌, refl, sym, ap, ◌∙◌, subst}
use mathlib.Core.Logic.{inl, inr, ◌≢◌}
use mathlib.Core.Bool.{Bool, true, false, false≢true}
use mathlib.Core.Option.{Option, none, some}
use mathlib.Core.List.{List, [], ◌++◌}
use native.Mathlib.Omega.{arith}
use lib.Dec.{leb}
use lib.ListN.{length}
use borrow.Author.Tests.{leb-true, leb-false}
use Rattle.limits.specs.Limits.{name_limit_for}
use Rattle.numbers.proofs.Tests.{same_test}
use Rattle.murmurhash2.specs.Murmur.{murmur_hash2}
use Rattle.shared_arena_hashmap.specs.Power.{rounded_down}
use Rattle.store_state.specs.declared.Name.{Name}
use Rattle.store_state.specs.declared.Name.TheVariants.{TooLong, Nameless, Proper}
use Rattle.store_look.specs.declared.Lookup.TheVariants.{Failed}
use Rattle.store_look.specs.declared.Answer.TheVariants.{Found}
use Rattle.store_look.specs.declared.Outcome.TheVariants.{Block}
use Rattle.store_state.specs.Name.{name_limit_of, name_kind, by_kind}
use Rattle.store_look.specs.Look.{walk_of, lookup_of, find_block_of}
use Rattle.store_append.specs.Append.{Out}
use Rattle.store_state.proofs.Guard.{kind-long}
use Rattle.store_look.proofs.Found.{lookup_3}
use Rattle.history_names.proofs.Grow.{clears_count}
use Rattle.history_names.proofs.Lookup.{looks_few}
use Rattle.history.specs.History.{World, Call, appends, looks_up, asks_length, reads, finds_block, shows_block}
use Rattle.history.specs.History.{lists_from, counts_keys, Born, is_accepted, accepts, left, after, play}
use Rattle.history.specs.History.{joined, is_joined, among, accepted_names}
use Rattle.history.specs.Due.{shape_of, due_list, due_by, due}
use Rattle.history.specs.Numbers.{appended_number, number_of, due_of, numbers_of, is_one_of}
use Rattle.history.specs.Promises.{ReadsAs, AnswersDue, HasNames}
use Rattle.history.specs.Frames.{LeavesAlone}
use Rattle.history.specs.Demand.{Demand3}
use Rattle.history.specs.Sound.{Ghosts, Stands, Sound}
use Rattle.history.proofs.Log.{play-more, log-more, play_size}
use Rattle.history.proofs.Answers.{Declines, Accepts, Answers, answers-long, answers-nameless, answers-standing}
use Rattle.history.proofs.Answers.{answers-new, answers_any}
use Rattle.history.proofs.Born.{nobody, born-sound, born_empty}
use Rattle.history.proofs.Told.{Says, Counts, Played, played}
use Rattle.history.proofs.Shape.{lane-due}
use Rattle.history.proofs.Records.{record_short}
use Rattle.history.proofs.Readings.{reads_as}
use Rattle.history.proofs.Stays.{found-stays, failed_block}
use Rattle.history.proofs.Listed.{has_names}
use Rattle.history.proofs.Numbers.{due_of_listed, never_these, number_due}
use Rattle.history.proofs.Frames.{leaves_alone}

-- ---- an append to a sound store, by the number that it is due

due-declines : (w : World) (name bytes : List ℕ) (n : ℕ) → Declines w name bytes n → AnswersDue w name bytes n
due-declines w name bytes n D = record {
  said = ap (λ (o : Out). appended_number o.answer) D.said;
  accepted = λ z. absurd (D.some_number z);
  refused = λ f. D.said;
}

due-answers : (w : World) (G : Ghosts) (name bytes : List ℕ) (n : ℕ) → Answers w G name bytes n
    → AnswersDue w name bytes n
due-answers w G name bytes n (inl D) = due-declines w name bytes n D
due-answers w G name bytes n (inr A) = record {
  said = ap (λ (o : Out). appended_number o.answer) A.said ∙ sym A.no_number;
  accepted = λ z. ap (λ (o : Out). is_accepted o.answer) A.said;
  refused = λ f. absurd (f A.no_number);
}

due-stood : {w : World} {G : Ghosts} → Sound w G → (name bytes : List ℕ) → name_kind w.state (length name) ≡ Proper
    → (o : Option (List ℕ)) → Says w G name o
    → AnswersDue w name bytes (due_by w.state w.memory name o (length bytes))
due-stood {w} {G} S name bytes proper none s = due-answers w G name bytes _ (answers-new S name bytes proper s)
due-stood {w} {G} S name bytes proper (some bs) s =
    let e : due_list w.state w.memory (G.header name) (length bytes)
    ≡ due_list w.state w.memory (shape_of (length bs)) (length bytes) =
    lane-due w.memory.lists w.state.list_arena (G.header name) (G.blocks name) (S.lanes name s.0)
    w.state w.memory (length bytes)
    ∙ ap (λ (l : List ℕ). due_list w.state w.memory (shape_of (length l)) (length bytes)) s.1 in
    subst (AnswersDue w name bytes) e (due-answers w G name bytes _ (answers-standing S name bytes proper s.0))

due-said : {w : World} {G : Ghosts} → Sound w G → (name bytes : List ℕ) (o : Option (List ℕ)) → Says w G name o
    → AnswersDue w name bytes (due w.state w.memory name o (length bytes))
unfolding due
due-said {w} {G} S name bytes o s = go (name_kind w.state (length name)) refl
  where
    go : (k : Name) → name_kind w.state (length name) ≡ k
        → AnswersDue w name bytes (by_kind k 3 13 (due_by w.state w.memory name o (length bytes)))
    go TooLong e = due-declines w name bytes 3 (answers-long S name bytes e)
    go Nameless e = due-declines w name bytes 13 (answers-nameless S name bytes e)
    go Proper e = due-stood S name bytes e o s

-- an append that is accepted
accepted_took : (w : World) (G : Ghosts) (name bytes : List ℕ) (n : ℕ) → Answers w G name bytes n
    → accepts w name bytes ≡ true → Accepts w G name bytes n
accepted_took w G name bytes n (inl D) e =
    absurd (false≢true (sym (ap (λ (o : Out). is_accepted o.answer) D.said) ∙ e))
accepted_took w G name bytes n (inr A) e = A

-- ---- the theorems

module _ (capacity seed size : ℕ) (table keys lists : List ℕ) (w : World)
    (B : Born capacity seed size table keys lists w) where
  -- what a history leaves: a sound store, in which stands what the log says
  pub history : (calls : List Call) → Played w (nobody (rounded_down capacity)) calls
  history calls = played (born-sound capacity seed size table keys lists w B) calls

  pub says : (calls : List Call) (name : List ℕ)
      → Says (play calls w) (history calls).ghosts name (joined name calls w)
  says calls name = (history calls).says name none (born_empty capacity seed size table keys lists name)

  -- no call changes the page size, nor with it the limit of names
  pub size_kept : (calls : List Call) → (play calls w).state.key_arena.size ≡ w.state.key_arena.size
  size_kept calls = play_size calls w

  limit_kept : (calls : List Call) → name_limit_of (play calls w).state ≡ name_limit_of w.state
  limit_kept calls = ap name_limit_for (size_kept calls)

  -- after any calls, every name reads as its accepted appends joined in order, and as absent where there was none
  reads_now : (calls : List Call) (name : List ℕ) → length name ≤ name_limit_of (play calls w).state
      → ReadsAs (play calls w) name (joined name calls w)
  reads_now calls name short = reads_as (history calls).sound name short (joined name calls w) (says calls name)

  pub reads_back : (calls : List Call) (name : List ℕ) → length name ≤ name_limit_of w.state
      → ReadsAs (play calls w) name (joined name calls w)
  reads_back calls name short =
      reads_now calls name (subst (λ (n : ℕ). length name ≤ n) (sym (limit_kept calls)) short)

  -- a name that doesn't stand was never accepted
  never : (calls : List Call) (name : List ℕ) → (Stands (history calls).ghosts name → ⊥) → joined name calls w ≡ none
  never calls name f = go (joined name calls w) refl (says calls name)
    where
      go : (o : Option (List ℕ)) → joined name calls w ≡ o → Says (play calls w) (history calls).ghosts name o
          → joined name calls w ≡ none
      go none e s = e
      go (some bs) e s = absurd (f s.0)

  -- a name over the limit is never accepted, and each lookup of it is refusal 3
  refused_now : (calls : List Call) (name : List ℕ) → name_limit_of (play calls w).state < length name
      → lookup_of (play calls w).state (play calls w).memory name ≡ Failed 3
  refused_now calls name long =
      lookup_3 (play calls w).state (play calls w).memory name (history calls).sound.whole
      (kind-long (play calls w).state (length name) long)

  pub long_never : (calls : List Call) (name : List ℕ) → name_limit_of w.state < length name
      → (joined name calls w ≡ none) × (lookup_of (play calls w).state (play calls w).memory name ≡ Failed 3)
  long_never calls name long = (
    never calls name (λ m. omega (arith, limit_kept calls, record_short ((history calls).sound.records name m))),
    refused_now calls name (subst (λ (n : ℕ). n < length name) (sym (limit_kept calls)) long),
  )

  -- nor is the empty name
  pub nameless_never : (calls : List Call) → joined [] calls w ≡ none
  nameless_never calls = never calls [] (λ m. omega (arith, ((history calls).sound.records [] m).some))

  -- an append is accepted or refused exactly as it is due
  pub refusals_exact : (calls : List Call) (name bytes : List ℕ)
      → AnswersDue (play calls w) name bytes
      (due (play calls w).state (play calls w).memory name (joined name calls w) (length bytes))
  refusals_exact calls name bytes = due-said (history calls).sound name bytes (joined name calls w) (says calls name)

  pub counts : (calls : List Call) → Counts (play calls w) (history calls).ghosts (accepted_names calls w)
  unfolding among
  counts calls =
      (history calls).counts [] (record {
        many = (born-sound capacity seed size table keys lists w B).counted ∙ clears_count (rounded_down capacity);
        all = λ j m. absurd (born_empty capacity seed size table keys lists j m);
        only = λ j m. absurd (false≢true m);
        once = λ j m. absurd (false≢true m);
      })

  -- the number of keys is the number of distinct accepted names, and listing tells each of them once and no other
  pub names-exact : (calls : List Call) → HasNames (play calls w) (accepted_names calls w)
  names-exact calls = has_names (history calls).sound (accepted_names calls w) (counts calls)

  -- they are the names to which some append was accepted
  pub names-joined : (calls : List Call) (name : List ℕ)
      → among name (accepted_names calls w) ≡ is_joined (joined name calls w)
  names-joined calls name = go (joined name calls w) (says calls name)
    where
      go : (o : Option (List ℕ)) → Says (play calls w) (history calls).ghosts name o
          → among name (accepted_names calls w) ≡ is_joined o
      go none s = same_test _ _ (λ e. absurd (s ((counts calls).only name e))) (λ e. absurd (false≢true e))
      go (some bs) s = (counts calls).all name s.0

  -- an accepted append leaves everything else alone
  pub frames : (calls : List Call) (name bytes : List ℕ) → accepts (play calls w) name bytes ≡ true
      → (at : ℕ) × LeavesAlone (play calls w) (after (appends name bytes) (play calls w)) name (joined name calls w) at
  frames calls name bytes e =
      let A = accepted_took (play calls w) (history calls).ghosts name bytes
      (answers_any (history calls).sound name bytes).0
      (answers_any (history calls).sound name bytes).1 e in (
        A.took.ghosts.place name,
        subst (λ (o : Out). LeavesAlone (play calls w) (left o) name (joined name calls w)
            (A.took.ghosts.place name)) (sym A.said)
            (leaves_alone (history calls).sound name bytes A.world A.took (joined name calls w)
            (says calls name)),
      )

  -- the calls' numbers
  pub numbers_exact : (calls : List Call) (c : Call)
      → number_of c (play calls w) ≡ due_of c (play calls w) (λ name. joined name calls w)
  numbers_exact calls =
      number_due (play calls w) (λ name. joined name calls w) (history calls).sound.whole (reads_now calls)
      (refusals_exact calls) (accepted_names calls w) (names-exact calls)

  pub numbers_listed : (calls : List Call) (c : Call) → is_one_of (numbers_of c) (number_of c (play calls w)) ≡ true
  numbers_listed calls c =
      ap (is_one_of (numbers_of c)) (numbers_exact calls c)
      ∙ due_of_listed c (play calls w) (λ name. joined name calls w)

  -- a call that is refused leaves everything
  pub refused_unchanged : (calls : List Call) (c : Call) → number_of c (play calls w) ≢ 0
      → after c (play calls w) ≡ play calls w
  refused_unchanged calls (appends name bytes) f =
      let A = refusals_exact calls name bytes in
      ap left (A.refused (λ z. f (A.said ∙ z)))
  refused_unchanged calls (looks_up name) f = refl
  refused_unchanged calls (asks_length name) f = refl
  refused_unchanged calls (reads name output) f = refl
  refused_unchanged calls (finds_block name i) f = refl
  refused_unchanged calls (shows_block at n) f = refl
  refused_unchanged calls (lists_from i) f = refl
  refused_unchanged calls counts_keys f = refl

  -- a block stays where it is
  pub blocks_stay : (calls more : List Call) (name : List ℕ) (i at n : ℕ)
      → find_block_of (play calls w).state (play calls w).memory name i ≡ Found (Block at n)
      → (k : ℕ) × (find_block_of (play (calls ++ more) w).state (play (calls ++ more) w).memory name i
      ≡ Found (Block at k))
  blocks_stay calls more name i at n e = go (joined name calls w) refl (says calls name)
    where
      H : Played w (nobody (rounded_down capacity)) calls
      H = history calls

      v : World
      v = play calls w

      Later : World → Type 0
      Later u = (k : ℕ) × (find_block_of u.state u.memory name i ≡ Found (Block at k))

      go : (o : Option (List ℕ)) → joined name calls w ≡ o → Says v H.ghosts name o → Later (play (calls ++ more) w)
      go none q s = absurd (nowhere (leb (length name) (name_limit_of w.state)) refl)
        where
          nowhere : (b : Bool) → leb (length name) (name_limit_of w.state) ≡ b → ⊥
          nowhere true f =
              let p = (subst (ReadsAs v name) q (reads_back calls name (leb-true _ _ f))).no_block i in
              let z : ◌≡◌ {A = ℕ} 0 1 = cc in omega arith
          nowhere false f =
              let p = failed_block v name i 3 (long_never calls name (leb-false _ _ f)).1 in
              let z : ◌≡◌ {A = ℕ} 0 1 = cc in omega arith
      go (some bs) q s =
          let P = played H.sound more in
          subst Later (sym (play-more calls more w))
          (found-stays H.sound P.sound P.stays name s.0 i at n e)

  -- a lookup looks at no more than one bucket more than there are names, in a table of any length
  pub walk_few : (calls : List Call) (name : List ℕ)
      → (walk_of (play calls w).state (play calls w).memory name).looked ≤ (play calls w).state.keys + 1
  unfolding walk_of
  walk_few calls name =
      let v : World = play calls w in
      let S = (history calls).sound in
      omega (
        arith,
        looks_few S.table v.memory.keys v.state.key_arena (murmur_hash2 v.state.seed name) name,
        S.counted,
      )

  -- DEMAND 3
  pub demand_3 : (calls : List Call) → Demand3 w calls
  demand_3 calls = record {
    reads_back = reads_back calls;
    long_never = long_never calls;
    nameless_never = nameless_never calls;
    size_kept = size_kept calls;
    frames = frames calls;
    refusals_exact = refusals_exact calls;
    refused_unchanged = refused_unchanged calls;
    numbers_exact = numbers_exact calls;
    numbers_listed = numbers_listed calls;
    never_2_or_4 = λ c. never_these c (number_of c (play calls w)) (numbers_listed calls c);
    whole = (history calls).sound.whole;
    names-exact = names-exact calls;
    names-joined = names-joined calls;
    blocks_stay = blocks_stay calls;
    play-more = λ more. play-more calls more w;
    log-more = λ more. log-more calls more w;
  }
