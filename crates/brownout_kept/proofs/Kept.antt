-- What the check calls sound stays sound. Assumes nothing.
use Prim.Native.Nat.{ℕ, ◌+◌, ◌-◌, ◌*◌, ◌≤◌, ◌<◌}
use mathlib.Core.Path.{◌≡◌, refl, sym, ap, ◌∙◌, subst}
use mathlib.Core.Logic.{◌⊎◌, inl, inr, ⊎_elim, ◌≢◌}
use mathlib.Core.Bool.{Bool, true, false, cond}
use mathlib.Core.Option.{Option, none, some}
use mathlib.Core.List.{List, [], ◌∷◌}
use native.Mathlib.Omega.{arith}
use lib.Dec.{leb}
use lib.ListN.{length}
use borrow.Author.Tests.{le-leb, eq-eqb, ne_eqb}
use Rattle.limits.specs.Limits.{name_limit, fresh_number, record_extra, link_size}
use Rattle.memory_arena.specs.declared.Arena.{Arena}
use Rattle.memory_arena.specs.Pages.{MaybeRoom, room_at, room_for}
use Rattle.memory_arena.proofs.Laws.{standing_facts, good-below}
use Rattle.shared_arena_hashmap.specs.declared.Met.TheVariants.{Empty, Standing, Lap}
use Rattle.expull_header.specs.declared.Header.{Header}
use Rattle.expull_header.specs.Header.{fresh}
use Rattle.expull_append.specs.Append.{Writing, writing, appended, good_tail}
use Rattle.limits.specs.Refusals.{number_in}
use Rattle.store_look.specs.Said.{said_counted}
use Rattle.store_state.specs.declared.State.{State}
use Rattle.store_append.specs.declared.Appended.{Appended}
use Rattle.store_append.specs.declared.Appended.TheVariants.{Accepted, Declined}
use Rattle.store_look.specs.declared.Counted.TheVariants.{Keys, Unknown}
use Rattle.store_state.specs.declared.Name.{Name}
use Rattle.store_state.specs.declared.Name.TheVariants.{TooLong, Nameless, Proper}
use Rattle.store_state.specs.Name.{name_kind}
use Rattle.records.specs.Record.{header_of}
use Rattle.store_look.specs.Look.{Lent, checked, walk_of, count_of}
use Rattle.store_append.specs.Append.{Out, out, declined, is_saturated, is_crowded, standing_written, new_written}
use Rattle.store_append.specs.Append.{on_key_room, append_new, append_of}
use Rattle.store_state.proofs.Guard.{kind-length, kind_short}
use Rattle.store_append.proofs.Cases.{append_3, append_13, append-met, met-standing, met_empty, met_lap, new_5}
use Rattle.store_append.proofs.Cases.{new-room, standing_on}
use Rattle.store.proofs.Promises.{promises as store_promises}
use Rattle.store.proofs.Kept.{append-whole}
use Rattle.history_lanes.specs.Lane.{size_on, wide_on}
use Rattle.history_lanes.proofs.Blocks.{placed_within}
use Rattle.history_names.proofs.Lookup.{decide_member, finds, misses}
use Rattle.history.specs.History.{World, Call, appends, looks_up, asks_length, reads, finds_block, shows_block, lists_from}
use Rattle.history.specs.History.{counts_keys, left, after, play}
use Rattle.history.specs.Numbers.{number_of}
use Rattle.brownout_faults.specs.declared.Checked.TheVariants.{Sound}
use Rattle.brownout_faults.specs.Check.{marks_needed, check_of}
use Rattle.brownout_faults.specs.Promises.{NoDamage}
use Rattle.brownout_faults.proofs.Faults.{faultless_verdict}
use Rattle.brownout_faults.proofs.Promises.{judged, sound_no_refusal, sound-faultless, sound_never_4}
use Rattle.brownout_kept.specs.Laid.{Chain, Ghosts, Stands, Laid}
use Rattle.brownout_kept.specs.Promises.{SaidSound, Promises}
use Rattle.brownout_kept.proofs.Fine.{laid-faultless}
use Rattle.brownout_kept.proofs.Found.{ghosts, faultless_laid}
use Rattle.brownout_kept.proofs.Took.{Leaves, standing_state, standing_memory, took_standing}
use Rattle.brownout_kept.proofs.Took.{new_state, new_memory, took_new}
use Rattle.std.specs.Prelude.{Some, None}

-- a list's tail is good for an append
chain_tail : (m : List ℕ) (a : Arena) (h : Header) (ks : List ℕ) → Chain m a h ks → good_tail a h ≡ true
unfolding good_tail
chain_tail m a h [] L = rw (eq-eqb h.number fresh_number L.number)
chain_tail m a h (x ∷ ks) L =
    let t : h.tail ≡ x + (size_on ks - h.remaining) = omega (arith, L.ends) in
    rw (ne_eqb h.number fresh_number (λ z. omega (arith, L.number)))
    (good-below a h.tail (h.remaining + link_size) (omega arith)
    (rw t (placed_within a.size x (wide_on ks) (size_on ks - h.remaining) (h.remaining + link_size) (omega arith)
    (omega (arith, L.ends.1)) L.paged.0))
    (omega (arith, L.ends.2, L.below.0)) (standing_facts a (length m) L.stands).in_page)

-- ---- an append

-- what an accepted append with this outcome leaves
abbrev Keeps : Lent → Out → Type 0
Keeps m o = (st' : State) → o.answer ≡ Accepted st' → Leaves m st' o.memory

keeps-declined : (st : State) (m : Lent) (n : ℕ) → Keeps m (declined st m n)
keeps-declined st m n st' e = let z : ◌≡◌ {A = ℕ} 0 1 = cc in absurd (omega arith)

same-state : (s st' : State) → Accepted s ≡ Accepted st' → s ≡ st'
same-state s st' e = cc

keeps_accepted : (m : Lent) (s : State) (m' : Lent) → Leaves m s m' → Keeps m (out (Accepted s) m')
keeps_accepted m s m' L st' e = subst (λ (x : State). Leaves m x m') (same-state s st' e) L

module _ {st : State} {m : Lent} {G : Ghosts} (S : Laid st m G) (name bytes : List ℕ) where
  abbrev head : Header
  head = header_of m.keys (G.place name)

  accepted_whole : (s : State) (m' : Lent) → append_of st m name bytes ≡ out (Accepted s) m' → checked s m' ≡ true
  accepted_whole s m' p =
      subst (λ (x : Lent). checked s x ≡ true) (ap (λ (o : Out). o.memory) p)
      (append-whole st m name bytes s (ap (λ (o : Out). o.answer) p))

  walk_finds : Stands G name → (walk_of st m name).met ≡ Standing (G.place name)
  unfolding walk_of
  walk_finds M = finds S.table m.keys st.key_arena (λ n N. (S.good n N, S.key n N)) name M

  walk-misses : (Stands G name → ⊥)
      → ((walk_of st m name).met ≡ Empty) ⊎ (((walk_of st m name).met ≡ Lap) × (is_saturated st ≡ true))
  unfolding walk_of
  walk-misses M =
      ⊎_elim (λ e. inl e) (λ e. inr (e.0, le-leb st.buckets (2 * st.keys) (omega (arith, e.1, S.counted))))
      (misses S.table m.keys st.key_arena (λ n N. (S.good n N, S.key n N)) name M)

  module _ (proper : name_kind st (length name) ≡ Proper) where
    some_byte : 0 < length name
    some_byte = (kind-length st (length name) Proper proper).0

    short : length name ≤ name_limit
    short = kind_short st (length name) proper

    goes_new : (Stands G name → ⊥) → append_of st m name bytes ≡ append_new st m name bytes
    goes_new M =
        ⊎_elim
        (λ e. append-met st m name bytes Empty S.whole proper e ∙ met_empty st m name bytes)
        (λ e. append-met st m name bytes Lap S.whole proper e.0 ∙ met_lap st m name bytes e.1)
        (walk-misses M)

    keeps_written : (M : Stands G name) (o : Option Writing)
        → appended bytes (writing m.lists st.list_arena head) ≡ o
        → append_of st m name bytes ≡ standing_written o st m (G.place name) → Keeps m (append_of st m name bytes)
    unfolding standing_written
    keeps_written M none e p = subst (Keeps m) (sym p) (keeps-declined st m 7)
    keeps_written M (some v) e p =
        let s : State = standing_state S name bytes M v e in
        let m' : Lent = standing_memory S name bytes M v e in
        subst (Keeps m) (sym p) (keeps_accepted m s m' (took_standing S name bytes M v e (accepted_whole s m' p)))

    keeps-standing : Stands G name → Keeps m (append_of st m name bytes)
    keeps-standing M =
        keeps_written M (appended bytes (writing m.lists st.list_arena head)) refl
        (append-met st m name bytes (Standing (G.place name)) S.whole proper (walk_finds M)
        ∙ met-standing st m name bytes (G.place name)
        ∙ standing_on st m name bytes (G.place name)
        (appended bytes (writing m.lists st.list_arena head)) (S.header name M)
        (chain_tail m.lists st.list_arena head (G.blocks name) (S.chain name M)) refl)

    keeps-entered : (M : Stands G name → ⊥) (loose : is_crowded st ≡ false) (at : ℕ) (ka : Arena)
        → room_for st.key_arena (length m.keys) (length name + record_extra) ≡ room_at at ka
        → (o : Option Writing) → appended bytes (writing m.lists st.list_arena fresh) ≡ o
        → append_of st m name bytes ≡ new_written o st m name at ka → Keeps m (append_of st m name bytes)
    unfolding new_written
    keeps-entered M loose at ka r none e p = subst (Keeps m) (sym p) (keeps-declined st m 7)
    keeps-entered M loose at ka r (some v) e p =
        let s : State = new_state S name bytes M short some_byte loose at ka r v e in
        let m' : Lent = new_memory S name bytes M short some_byte loose at ka r v e in
        subst (Keeps m) (sym p)
        (keeps_accepted m s m' (took_new S name bytes M short some_byte loose at ka r v e (accepted_whole s m' p)))

    keeps_roomed : (M : Stands G name → ⊥) (loose : is_crowded st ≡ false) (r : MaybeRoom)
        → room_for st.key_arena (length m.keys) (length name + record_extra) ≡ r
        → append_of st m name bytes ≡ on_key_room r st m name bytes → Keeps m (append_of st m name bytes)
    unfolding on_key_room
    keeps_roomed M loose (Some found) r p =
        keeps-entered M loose found.at found.after r (appended bytes (writing m.lists st.list_arena fresh)) refl p
    keeps_roomed M loose None r p = subst (Keeps m) (sym p) (keeps-declined st m 6)

    keeps-new : (M : Stands G name → ⊥) → Keeps m (append_of st m name bytes)
    keeps-new M = go (is_crowded st) refl
      where
        new : append_of st m name bytes ≡ append_new st m name bytes
        new = goes_new M

        go : (b : Bool) → is_crowded st ≡ b → Keeps m (append_of st m name bytes)
        go true e = subst (Keeps m) (sym (new ∙ new_5 st m name bytes e)) (keeps-declined st m 5)
        go false e =
            keeps_roomed M e (room_for st.key_arena (length m.keys) (length name + record_extra)) refl
            (new ∙ new-room st m name bytes e
            (room_for st.key_arena (length m.keys) (length name + record_extra)) refl)

  pub append-laid : Keeps m (append_of st m name bytes)
  append-laid = go (name_kind st (length name)) refl (decide_member name G.names)
    where
      go : (k : Name) → name_kind st (length name) ≡ k → Dec (Stands G name) → Keeps m (append_of st m name bytes)
      go TooLong h d = subst (Keeps m) (sym (append_3 st m name bytes S.whole h)) (keeps-declined st m 3)
      go Nameless h d = subst (Keeps m) (sym (append_13 st m name bytes S.whole h)) (keeps-declined st m 13)
      go Proper h (yes M) = keeps-standing h M
      go Proper h (no M) = keeps-new h M

-- ---- the check

-- a memory that lies well, with areas as long as those of one that was called sound
laid-called : (st : State) (m : Lent) (marks : List ℕ) (G : Ghosts) → Laid st m G
    → leb (marks_needed m) (length marks) ≡ true → (check_of st m marks).answer ≡ Sound
unfolding check_of
laid-called st m marks G L e = rw (L.whole, e) (faultless_verdict st m (laid-faultless L))

append-keeps : (st : State) (m : Lent) (marks name bytes : List ℕ) (st' : State)
    → (check_of st m marks).answer ≡ Sound → (append_of st m name bytes).answer ≡ Accepted st'
    → (check_of st' (append_of st m name bytes).memory marks).answer ≡ Sound
append-keeps st m marks name bytes st' e a =
    let J = judged st m marks Sound e (λ k told z. sound_no_refusal z) in
    let L = append-laid (faultless_laid st m J.whole (sound-faultless st m marks e)) name bytes st' a in
    laid-called st' (append_of st m name bytes).memory marks L.ghosts L.laid
    (rw (L.key_length_lem, L.list_length) J.enough)

-- a call
call-keeps : (w : World) (marks : List ℕ) → SaidSound w marks → (c : Call) → SaidSound (after c w) marks
call-keeps w marks e (appends name bytes) = go (append_of w.state w.memory name bytes).answer refl
  where
    go : (r : Appended) → (append_of w.state w.memory name bytes).answer ≡ r
        → SaidSound (after (appends name bytes) w) marks
    go (Accepted st') q =
        rw q (append-keeps w.state w.memory marks name bytes st' e q)
    go (Declined st' k) q =
        subst (λ (o : Out). SaidSound (left o) marks)
        (sym (store_promises.append_refused w.state w.memory name bytes st' k q)) e
call-keeps w marks e (looks_up name) = e
call-keeps w marks e (asks_length name) = e
call-keeps w marks e (reads name output) = e
call-keeps w marks e (finds_block name i) = e
call-keeps w marks e (shows_block at k) = e
call-keeps w marks e (lists_from i) = e
call-keeps w marks e counts_keys = e

shift_keeps : (w : World) (marks : List ℕ) → SaidSound w marks → (calls : List Call) → SaidSound (play calls w) marks
unfolding play
shift_keeps w marks e [] = e
shift_keeps w marks e (c ∷ calls) = shift_keeps (after c w) marks (call-keeps w marks e c) calls

counts : (w : World) → number_of counts_keys w ≢ 4
unfolding count_of
counts w = go (checked w.state w.memory)
  where
    go : (b : Bool) → number_in (said_counted (cond b (Keys w.state.keys) (Unknown 2))) ≢ 4
    go true = λ z. omega arith
    go false = λ z. omega arith

never_4 : (w : World) → NoDamage w.state w.memory → (c : Call) → number_of c w ≢ 4
never_4 w N (appends name bytes) = N.append name bytes
never_4 w N (looks_up name) = N.lookup name
never_4 w N (asks_length name) = N.measured name
never_4 w N (reads name output) = N.read name output
never_4 w N (finds_block name i) = N.block name i
never_4 w N (shows_block at n) = λ z. omega arith
never_4 w N (lists_from i) = N.listing i
never_4 w N counts_keys = counts w

pub promises : Promises
promises = record {
  append-keeps = append-keeps;
  shift_keeps = shift_keeps;
  shift_never_4 = λ w marks e calls c.
      never_4 (play calls w)
      (sound_never_4 (play calls w).state (play calls w).memory marks (shift_keeps w marks e calls)) c;
}
