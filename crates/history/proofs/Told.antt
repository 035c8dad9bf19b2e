-- A history keeps a store sound, and what stands in it is what the history says: of each name its accepted appends
-- joined in order, and of all names those of accepted appends. Assumes nothing.
use Prim.Native.Nat.{ℕ, suc, ◌+◌}
use mathlib.Core.Path.{◌≡◌, refl, sym, ap, ◌∙◌, subst}
use mathlib.Core.Logic.{inl, inr, ⊎_elim}
use mathlib.Core.Bool.{Bool, true, false, cond, false≢true}
use mathlib.Core.Option.{Option, none, some}
use mathlib.Core.List.{List, [], ◌∷◌, ◌++◌, append_assoc}
use native.Mathlib.Omega.{arith}
use lib.ListN.{length, length-append}
use Rattle.fastcmp.specs.Equal.{equal_bytes}
use Rattle.fastcmp.proofs.Laws.{equal_same, equal_not, equal_true}
use Rattle.store_append.specs.declared.Appended.TheVariants.{Accepted}
use Rattle.store_append.specs.Append.{Out, out, declined}
use Rattle.history_names.specs.Listing.{times}
use Rattle.history_names.proofs.Lookup.{decide_name}
use Rattle.history.specs.History.{World, Call, appends, looks_up, asks_length, reads, finds_block, shows_block}
use Rattle.history.specs.History.{lists_from, counts_keys, append_in, is_accepted, left, after, play}
use Rattle.history.specs.History.{Entry, entry, logged, log_of, joined_on, joined_in, among, with_name, names_in}
use Rattle.history.specs.Sound.{Ghosts, Stands, Sound, bytes_of}
use Rattle.history.proofs.Log.{joined-more, names_more}
use Rattle.history.proofs.Kept.{Took}
use Rattle.history.proofs.Answers.{Answers, answers_any}

-- ---- names among names

pub among-end : (j n : List ℕ) (ns : List (List ℕ)) → among j (ns ++ (n ∷ [])) ≡ cond (among j ns) true (equal_bytes j n)
unfolding among
among-end j n [] = go (equal_bytes j n)
  where
    go : (b : Bool) → cond b true false ≡ b
    go true = refl
    go false = refl
among-end j n (m ∷ ns) = go (equal_bytes j m) (among-end j n ns)
  where
    go : (b : Bool) → among j (ns ++ (n ∷ [])) ≡ cond (among j ns) true (equal_bytes j n)
        → cond b true (among j (ns ++ (n ∷ []))) ≡ cond (cond b true (among j ns)) true (equal_bytes j n)
    go true e = refl
    go false e = e

times-end : (j n : List ℕ) (ns : List (List ℕ)) → times j (ns ++ (n ∷ [])) ≡ times j ns + cond (equal_bytes j n) 1 0
unfolding times
times-end j n [] = go (equal_bytes j n)
  where
    go : (b : Bool) → cond b 1 0 ≡ 0 + cond b 1 0
    go true = refl
    go false = refl
times-end j n (m ∷ ns) = go (equal_bytes j m) (times-end j n ns)
  where
    go : (b : Bool) → times j (ns ++ (n ∷ [])) ≡ times j ns + cond (equal_bytes j n) 1 0
        → cond b (suc (times j (ns ++ (n ∷ [])))) (times j (ns ++ (n ∷ [])))
        ≡ cond b (suc (times j ns)) (times j ns) + cond (equal_bytes j n) 1 0
    go true e = omega arith
    go false e = e

pub times_none : (j : List ℕ) (ns : List (List ℕ)) → among j ns ≡ false → times j ns ≡ 0
unfolding times among
times_none j [] e = refl
times_none j (n ∷ ns) e = go (equal_bytes j n) e (times_none j ns)
  where
    go : (b : Bool) → cond b true (among j ns) ≡ false → (among j ns ≡ false → times j ns ≡ 0)
        → cond b (suc (times j ns)) (times j ns) ≡ 0
    go true e f = absurd (false≢true (sym e))
    go false e f = f e

-- ---- what stands in a store

-- a name doesn't stand, or stands with these bytes
abbrev pub Says : World → Ghosts → List ℕ → Option (List ℕ) → Type 0
Says w G j none = Stands G j → ⊥
Says w G j (some bs) = Stands G j × (bytes_of w G j ≡ bs)

-- these are the names that stand, each once
pub record Counts (w : World) (G : Ghosts) (ns : List (List ℕ)) : Type 0 where
  pub many : w.state.keys ≡ length ns
  pub all : (j : List ℕ) → Stands G j → among j ns ≡ true
  pub only : (j : List ℕ) → among j ns ≡ true → Stands G j
  pub once : (j : List ℕ) → among j ns ≡ true → times j ns ≡ 1

-- a list's blocks before, and later: they are the oldest of those then
abbrev pub Grown : List ℕ → List ℕ → Type 0
Grown ks ks' = (newer : List ℕ) × (ks' ≡ newer ++ ks)

-- each name that stood stands, and its blocks are where they were
abbrev pub Stays : Ghosts → Ghosts → Type 0
Stays G G' = (j : List ℕ) → Stands G j → Stands G' j × Grown (G.blocks j) (G'.blocks j)

stays_same : (G : Ghosts) → Stays G G
stays_same G j m = (m, ([], refl))

stays_on : (G G' G'' : Ghosts) → Stays G G' → Stays G' G'' → Stays G G''
stays_on G G' G'' A B j m =
    let a = A j m in
    let b = B j a.0 in
    let x : List ℕ = a.1.0 in
    let y : List ℕ = b.1.0 in
    (b.0, (y ++ x, b.1.1 ∙ ap (λ (l : List ℕ). y ++ l) a.1.1 ∙ sym (append_assoc y x (G.blocks j))))

-- ---- an append

-- what it leaves: a sound store, in which stands what had stood and what it adds to the log
record Step (w : World) (G : Ghosts) (name bytes : List ℕ) (o : Out) : Type 0 where
  ghosts : Ghosts
  sound : Sound (left o) ghosts
  says : (j : List ℕ) (x : Option (List ℕ)) → Says w G j x
      → Says (left o) ghosts j (joined_in j (cond (is_accepted o.answer) (entry name bytes ∷ []) []) x)
  counts : (ns : List (List ℕ)) → Counts w G ns
      → Counts (left o) ghosts (names_in (cond (is_accepted o.answer) (entry name bytes ∷ []) []) ns)
  stays : Stays G ghosts

step-declined : {w : World} {G : Ghosts} → Sound w G → (name bytes : List ℕ) (n : ℕ)
    → Step w G name bytes (declined w.state w.memory n)
unfolding joined_in names_in
step-declined {w} {G} S name bytes n =
    record { ghosts = G; sound = S; says = λ j x s. s; counts = λ ns c. c; stays = stays_same G }

module _ {w : World} {G : Ghosts} (S : Sound w G) (name bytes : List ℕ) (w' : World) (T : Took w G name bytes w') where
  own-says : (x : Option (List ℕ)) → Says w G name x → Says w' T.ghosts name (joined_on x bytes)
  own-says none s = (T.new, (T.fresh_one s).0)
  own-says (some bs) s = (T.new, (T.stood s.0).0 ∙ ap (λ (l : List ℕ). l ++ bytes) s.1)

  other_says : (j : List ℕ) → (j ≡ name → ⊥) → (x : Option (List ℕ)) → Says w G j x → Says w' T.ghosts j x
  other_says j f none s = λ m. ⊎_elim f s (T.only j m)
  other_says j f (some bs) s = (T.kept j s.0, T.others j f s.0 ∙ s.1)

  took-says : (j : List ℕ) (x : Option (List ℕ)) → Says w G j x
      → Says w' T.ghosts j (cond (equal_bytes j name) (joined_on x bytes) x)
  took-says j x s = go (decide_name j name)
    where
      go : Dec (j ≡ name) → Says w' T.ghosts j (cond (equal_bytes j name) (joined_on x bytes) x)
      go (yes e) =
          rw (equal_same j name e)
          (subst (λ (j : List ℕ). Says w G j x → Says w' T.ghosts j (joined_on x bytes)) (sym e) (own-says x) s)
      go (no e) = rw (equal_not j name e) (other_says j e x s)

  took-stays : Stays G T.ghosts
  took-stays j m = go (decide_name j name)
    where
      own : Stands G name → Stands T.ghosts name × Grown (G.blocks name) (T.ghosts.blocks name)
      own n =
          let L = T.leaves in
          (T.new, (L.list.newer, L.list.grown ∙ ap (λ (l : List ℕ). L.list.newer ++ l) (L.list_standing n).1))

      go : Dec (j ≡ name) → Stands T.ghosts j × Grown (G.blocks j) (T.ghosts.blocks j)
      go (yes e) =
          subst (λ (j : List ℕ). Stands G j → Stands T.ghosts j × Grown (G.blocks j) (T.ghosts.blocks j))
          (sym e) own m
      go (no e) = (T.kept j m, ([], T.others_blocks j e m))

  took-counts : (ns : List (List ℕ)) → Counts w G ns → Counts w' T.ghosts (with_name name ns)
  took-counts ns C = go (among name ns) refl
    where
      go : (b : Bool) → among name ns ≡ b → Counts w' T.ghosts (cond b ns (ns ++ (name ∷ [])))
      go true e = record {
        many = (T.stood (C.only name e)).1 ∙ C.many;
        all = λ j m. ⊎_elim (λ (q : j ≡ name). rw q e) (C.all j) (T.only j m);
        only = λ j m. T.kept j (C.only j m);
        once = C.once;
      }
      go false e = record {
        many = omega (arith, (T.fresh_one strange).1, C.many, length-append ns (name ∷ []));
        all =
            λ j m. rw (among-end j name ns) (⊎_elim (λ q. named j (among j ns) q) (λ o. rw (C.all j o)) (T.only j m));
        only = λ j m. back j (among j ns) refl (equal_bytes j name) refl (sym (among-end j name ns) ∙ m);
        once =
            λ j m. rw (times-end j name ns)
            (one j (among j ns) refl (equal_bytes j name) refl (sym (among-end j name ns) ∙ m));
      }
        where
          strange : Stands G name → ⊥
          strange m = false≢true (sym e ∙ C.all name m)

          named : (j : List ℕ) (b : Bool) → j ≡ name → cond b true (equal_bytes j name) ≡ true
          named j true q = refl
          named j false q = equal_same j name q

          back : (j : List ℕ) (b : Bool) → among j ns ≡ b → (c : Bool) → equal_bytes j name ≡ c → cond b true c ≡ true
              → Stands T.ghosts j
          back j true p c q r = T.kept j (C.only j p)
          back j false p true q r = subst (Stands T.ghosts) (sym (equal_true j name q)) T.new
          back j false p false q r = absurd (false≢true r)

          one : (j : List ℕ) (b : Bool) → among j ns ≡ b → (c : Bool) → equal_bytes j name ≡ c → cond b true c ≡ true
              → times j ns + cond c 1 0 ≡ 1
          one j true p true q r =
              absurd (false≢true (sym e ∙ ap (λ (k : List ℕ). among k ns) (sym (equal_true j name q)) ∙ p))
          one j true p false q r = omega (arith, C.once j p)
          one j false p true q r = omega (arith, times_none j ns p)
          one j false p false q r = absurd (false≢true r)

step-took : {w : World} {G : Ghosts} → Sound w G → (name bytes : List ℕ) (w' : World) → Took w G name bytes w'
    → Step w G name bytes (out (Accepted w'.state) w'.memory)
unfolding joined_in names_in
step-took S name bytes w' T = record {
  ghosts = T.ghosts;
  sound = T.sound;
  says = took-says S name bytes w' T;
  counts = took-counts S name bytes w' T;
  stays = took-stays S name bytes w' T;
}

step : {w : World} {G : Ghosts} → Sound w G → (name bytes : List ℕ) → Step w G name bytes (append_in w name bytes)
step {w} {G} S name bytes = go (answers_any S name bytes).0 (answers_any S name bytes).1
  where
    go : (n : ℕ) → Answers w G name bytes n → Step w G name bytes (append_in w name bytes)
    go n (inl D) = subst (Step w G name bytes) (sym D.said) (step-declined S name bytes n)
    go n (inr A) = subst (Step w G name bytes) (sym A.said) (step-took S name bytes A.world A.took)

-- ---- a call, and all of them

record CallStep (w : World) (G : Ghosts) (c : Call) : Type 0 where
  ghosts : Ghosts
  sound : Sound (after c w) ghosts
  says : (j : List ℕ) (x : Option (List ℕ)) → Says w G j x → Says (after c w) ghosts j (joined_in j (logged c w) x)
  counts : (ns : List (List ℕ)) → Counts w G ns → Counts (after c w) ghosts (names_in (logged c w) ns)
  stays : Stays G ghosts

call_step : {w : World} {G : Ghosts} → Sound w G → (c : Call) → CallStep w G c
unfolding joined_in names_in
call_step S (appends name bytes) =
    let P = step S name bytes in
    record { ghosts = P.ghosts; sound = P.sound; says = P.says; counts = P.counts; stays = P.stays }
call_step {w} {G} S (looks_up name) =
    record { ghosts = G; sound = S; says = λ j x s. s; counts = λ ns c. c; stays = stays_same G }
call_step {w} {G} S (asks_length name) =
    record { ghosts = G; sound = S; says = λ j x s. s; counts = λ ns c. c; stays = stays_same G }
call_step {w} {G} S (reads name output) =
    record { ghosts = G; sound = S; says = λ j x s. s; counts = λ ns c. c; stays = stays_same G }
call_step {w} {G} S (finds_block name i) =
    record { ghosts = G; sound = S; says = λ j x s. s; counts = λ ns c. c; stays = stays_same G }
call_step {w} {G} S (shows_block at n) =
    record { ghosts = G; sound = S; says = λ j x s. s; counts = λ ns c. c; stays = stays_same G }
call_step {w} {G} S (lists_from i) =
    record { ghosts = G; sound = S; says = λ j x s. s; counts = λ ns c. c; stays = stays_same G }
call_step {w} {G} S counts_keys =
    record { ghosts = G; sound = S; says = λ j x s. s; counts = λ ns c. c; stays = stays_same G }

-- what a whole history leaves
pub record Played (w : World) (G : Ghosts) (calls : List Call) : Type 0 where
  pub ghosts : Ghosts
  pub sound : Sound (play calls w) ghosts
  pub says : (j : List ℕ) (x : Option (List ℕ)) → Says w G j x
      → Says (play calls w) ghosts j (joined_in j (log_of calls w) x)
  pub counts : (ns : List (List ℕ)) → Counts w G ns → Counts (play calls w) ghosts (names_in (log_of calls w) ns)
  pub stays : Stays G ghosts

pub played : {w : World} {G : Ghosts} → Sound w G → (calls : List Call) → Played w G calls
unfolding play log_of joined_in names_in
played {w} {G} S [] = record { ghosts = G; sound = S; says = λ j x s. s; counts = λ ns c. c; stays = stays_same G }
played {w} {G} S (c ∷ calls) =
    let P = call_step S c in
    let Q = played {w = after c w} {G = P.ghosts} P.sound calls in
    let later : List Entry = log_of calls (after c w) in
    record {
      ghosts = Q.ghosts;
      sound = Q.sound;
      says = λ j x s.
          rw (joined-more j (logged c w) later x) (Q.says j (joined_in j (logged c w) x) (P.says j x s));
      counts = λ ns n. rw (names_more (logged c w) later ns) (Q.counts (names_in (logged c w) ns) (P.counts ns n));
      stays = stays_on G P.ghosts Q.ghosts P.stays Q.stays;
    }
