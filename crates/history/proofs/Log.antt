-- Histories one behind the other: the world, the log, and what the log comes to; and the page size, which no call
-- changes. Assumes nothing.
use Prim.Native.Nat.{ℕ}
use mathlib.Core.Path.{◌≡◌, refl, sym, ap, ◌∙◌}
use mathlib.Core.Bool.{cond}
use mathlib.Core.Option.{Option}
use mathlib.Core.List.{List, [], ◌∷◌, ◌++◌, append_assoc}
use Rattle.fastcmp.specs.Equal.{equal_bytes}
use Rattle.store_append.specs.declared.Appended.{Appended}
use Rattle.store_append.specs.declared.Appended.TheVariants.{Accepted, Declined}
use Rattle.store_append.specs.Append.{Out}
use Rattle.store.proofs.Promises.{promises}
use Rattle.history.specs.History.{World, Call, appends, looks_up, asks_length, reads, finds_block, shows_block}
use Rattle.history.specs.History.{lists_from, counts_keys, append_in, state_after, after, play}
use Rattle.history.specs.History.{Entry, logged, log_of, joined_on, joined_in, with_name, names_in}

-- ---- of histories

pub play-more : (xs ys : List Call) (w : World) → play (xs ++ ys) w ≡ play ys (play xs w)
unfolding play
play-more [] ys w = refl
play-more (c ∷ xs) ys w = play-more xs ys (after c w)

pub log-more : (xs ys : List Call) (w : World) → log_of (xs ++ ys) w ≡ log_of xs w ++ log_of ys (play xs w)
unfolding log_of play
log-more [] ys w = refl
log-more (c ∷ xs) ys w =
    ap (λ (log : List Entry). logged c w ++ log) (log-more xs ys (after c w))
    ∙ sym (append_assoc (logged c w) (log_of xs (after c w)) (log_of ys (play xs (after c w))))

-- ---- the page size

call_size : (c : Call) (w : World) → (after c w).state.key_arena.size ≡ w.state.key_arena.size
call_size (appends name bytes) w = go (append_in w name bytes).answer refl
  where
    go : (r : Appended) → (append_in w name bytes).answer ≡ r
        → (state_after r).key_arena.size ≡ w.state.key_arena.size
    go (Accepted s) e = promises.append_size w.state w.memory name bytes s e
    go (Declined s n) e =
        ap (λ (r : Appended). (state_after r).key_arena.size) (sym e)
        ∙ ap (λ (o : Out). (state_after o.answer).key_arena.size)
        (promises.append_refused w.state w.memory name bytes s n e)
call_size (looks_up name) w = refl
call_size (asks_length name) w = refl
call_size (reads name output) w = refl
call_size (finds_block name i) w = refl
call_size (shows_block at n) w = refl
call_size (lists_from i) w = refl
call_size counts_keys w = refl

pub play_size : (calls : List Call) (w : World) → (play calls w).state.key_arena.size ≡ w.state.key_arena.size
unfolding play
play_size [] w = refl
play_size (c ∷ calls) w = play_size calls (after c w) ∙ call_size c w

-- ---- of logs

pub joined-more : (j : List ℕ) (xs ys : List Entry) (stood : Option (List ℕ))
    → joined_in j (xs ++ ys) stood ≡ joined_in j ys (joined_in j xs stood)
unfolding joined_in
joined-more j [] ys stood = refl
joined-more j (e ∷ xs) ys stood = joined-more j xs ys (cond (equal_bytes j e.name) (joined_on stood e.bytes) stood)

pub names_more : (xs ys : List Entry) (ns : List (List ℕ)) → names_in (xs ++ ys) ns ≡ names_in ys (names_in xs ns)
unfolding names_in
names_more [] ys ns = refl
names_more (e ∷ xs) ys ns = names_more xs ys (with_name e.name ns)
