-- Fourteen: what a shift costs, and that a store which was lent enough for it never refuses it. Assumes nothing.
use Prim.Native.Nat.{ℕ, ◌+◌, ◌-◌, ◌≤◌}
use mathlib.Core.Path.{◌≡◌, refl, sym, ap, ◌∙◌, subst}
use mathlib.Core.Bool.{Bool, true, false, cond, false≢true}
use mathlib.Core.Option.{Option, none, some}
use mathlib.Core.List.{List, [], ◌∷◌, ◌++◌, append_assoc, append-nil}
use native.Mathlib.Nat.{le_refl, le_trans}
use native.Mathlib.Omega.{arith}
use lib.Dec.{leb}
use lib.ListN.{length, length-append}
use borrow.Author.Tests.{leb-true, leb-false}
use Rattle.limits.specs.Limits.{page_taken, page_least, name_limit_for, record_extra}
use Rattle.fastcmp.specs.Equal.{equal_bytes}
use Rattle.memory_arena.specs.declared.Arena.{Arena}
use Rattle.memory_arena.specs.Pages.{MaybeRoom, room_for}
use Rattle.expull_header.specs.declared.Header.{Header}
use Rattle.expull_header.specs.Header.{taken_bytes, fresh}
use Rattle.expull_append.specs.Append.{planned, plan_of, is_some}
use Rattle.store_look.specs.declared.Lookup.{Lookup}
use Rattle.store_state.specs.Name.{name_limit_of}
use Rattle.store_look.specs.Look.{on_lookup, length_at, length_of}
use Rattle.store_append.specs.Append.{is_crowded}
use Rattle.store_state.proofs.Guard.{kind_proper}
use Rattle.store_state.proofs.Whole.{Whole, whole_facts}
use Rattle.store_create.proofs.Creation.{creatable_facts}
use Rattle.history_names.specs.Listing.{times}
use Rattle.history.specs.History.{World, Call, appends, looks_up, asks_length, reads, finds_block, shows_block}
use Rattle.history.specs.History.{lists_from, counts_keys, Born, accepts, play, Entry, entry, logged, log_of, asked_by}
use Rattle.history.specs.History.{asked_for, joined, is_joined, among, with_name, names_in, accepted_names}
use Rattle.history.specs.Due.{shape_of, due_blocks, due_record, due_list, due_new, due_by, due}
use Rattle.history.specs.Promises.{blocks_for, ReadsAs, listed_names}
use Rattle.history.proofs.Log.{names_more}
use Rattle.history.proofs.Born.{born-start}
use Rattle.history.proofs.Told.{times_none, among-end}
use Rattle.history.proofs.Demand.{history, counts, names-exact, names-joined, reads_back, long_never, refusals_exact}
use Rattle.lending.specs.Lending.{block_tail, taken_at_most, key_bytes_for}
use Rattle.shift_cost.specs.Shift.{sum_of, over_lanes, length_in, taken_in, told_length, bytes_of_all, taken_of_all}
use Rattle.shift_cost.specs.Promises.{ShiftCosts, StaysWithin, LentFor, NeverRefused}
use Rattle.shift_cost.proofs.Calls.{log-one, by-calls}
use Rattle.shift_cost.proofs.Pages.{Holds, never_crammed}
use Rattle.shift_cost.proofs.Sums.{sum_same, sum_ordered, name-more}
use Rattle.shift_cost.proofs.Lanes.{shape_number, blocks_more, blocks_wait, plan_fits}
use Rattle.shift_cost.proofs.Spent.{EachName, bytes-more, each_more, joined-long, taken_at, joined-taken}
use Rattle.shift_cost.proofs.Spent.{fresh-shape, Spent, spent, key_size, list_size, sum_more}
use Rattle.shift_cost.proofs.Spent.{lane_most, bytes_one}
use Rattle.shift_cost.proofs.Never.{not_crowded, taken_cost, taken-few}
use Rattle.std.specs.Prelude.{Some, None}

-- ---- no number is due

due_some : (o : Option Arena) → is_some o ≡ true → due_blocks o ≡ 0
due_some none e = absurd (false≢true e)
due_some (some a) e = refl

due-room : (r : MaybeRoom) → (r ≡ None → ⊥) → (n : ℕ) → n ≡ 0 → due_record r n ≡ 0
due-room (Some r) f n e = e
due-room None f n e = absurd (f refl)

-- ---- what is asked for

pub asked-more : (xs ys : List Call) → asked_for (xs ++ ys) ≡ asked_for xs ++ asked_for ys
unfolding asked_for
asked-more [] ys = refl
asked-more (c ∷ xs) ys =
    ap (λ (l : List Entry). asked_by c ++ l) (asked-more xs ys)
    ∙ sym (append_assoc (asked_by c) (asked_for xs) (asked_for ys))

asked-one : (calls : List Call) (c : Call) → asked_for (calls ++ (c ∷ [])) ≡ asked_for calls ++ asked_by c
unfolding asked_for
asked-one calls c = asked-more calls (c ∷ []) ∙ ap (λ (l : List Entry). asked_for calls ++ l) (append-nil (asked_by c))

with_grow : (name : List ℕ) (ns : List (List ℕ)) (b : Bool) → length ns ≤ length (cond b ns (ns ++ (name ∷ [])))
with_grow name ns true = le_refl (length ns)
with_grow name ns false = omega (arith, length-append ns (name ∷ []))

names_grow : (log : List Entry) (ns : List (List ℕ)) → length ns ≤ length (names_in log ns)
unfolding names_in
names_grow [] ns = le_refl (length ns)
names_grow (e ∷ log) ns =
    le_trans (with_grow e.name ns (among e.name ns)) (names_grow log (with_name e.name ns))

names_stay : (log : List Entry) (ns : List (List ℕ)) (j : List ℕ) → among j ns ≡ true → among j (names_in log ns) ≡ true
unfolding names_in
names_stay [] ns j m = m
names_stay (e ∷ log) ns j m = names_stay log (with_name e.name ns) j (go (among e.name ns))
  where
    go : (b : Bool) → among j (cond b ns (ns ++ (e.name ∷ []))) ≡ true
    go true = m
    go false = among-end j e.name ns ∙ ap (λ (b : Bool). cond b true (equal_bytes j e.name)) m

module _ (capacity seed size : ℕ) (table keys lists : List ℕ) (w : World)
    (B : Born capacity seed size table keys lists w) where
  -- ---- what it costs

  module _ (calls : List Call) where
    -- any sum over the names can be taken in listing order
    listed_sum : (f : List ℕ → ℕ) → sum_of f (listed_names (play calls w)) ≡ sum_of f (accepted_names calls w)
    listed_sum f =
        sum_ordered f (listed_names (play calls w)) (accepted_names calls w)
        (λ j. go j (among j (accepted_names calls w)) refl)
      where
        go : (j : List ℕ) (b : Bool) → among j (accepted_names calls w) ≡ b
            → times j (listed_names (play calls w)) ≡ times j (accepted_names calls w)
        go j true e =
            (names-exact capacity seed size table keys lists w B calls).each_once j e
            ∙ sym ((names-exact capacity seed size table keys lists w B calls).distinct j e)
        go j false e =
            (names-exact capacity seed size table keys lists w B calls).no_other j e
            ∙ sym (times_none j (accepted_names calls w) e)

    -- the length call tells the lane's bytes
    told_is : (j : List ℕ) → told_length (length_of (play calls w).state (play calls w).memory j)
        ≡ length_in (joined j calls w)
    unfolding length_of
    told_is j = go (leb (length j) (name_limit_of w.state)) refl
      where
        short : (o : Option (List ℕ)) → ReadsAs (play calls w) j o
            → told_length (length_of (play calls w).state (play calls w).memory j) ≡ length_in o
        short none R = ap told_length R.unmeasured
        short (some bs) R = ap told_length R.measured

        go : (b : Bool) → leb (length j) (name_limit_of w.state) ≡ b
            → told_length (length_of (play calls w).state (play calls w).memory j) ≡ length_in (joined j calls w)
        go true e =
            short (joined j calls w) (reads_back capacity seed size table keys lists w B calls j (leb-true _ _ e))
        go false e =
            let r = long_never capacity seed size table keys lists w B calls j (leb-false _ _ e) in
            ap (λ (l : Lookup). told_length (on_lookup l (length_at (play calls w).memory.keys))) r.1
            ∙ sym (ap length_in r.0)

    -- FOURTEEN: what a shift costs
    pub shift_costs : ShiftCosts w calls
    unfolding over_lanes
    shift_costs = record {
      lengths_add_up = (spent capacity seed size table keys lists w B calls).total;
      lengths_told =
          listed_sum (λ j. told_length (length_of (play calls w).state (play calls w).memory j))
          ∙ sum_same (λ j. told_length (length_of (play calls w).state (play calls w).memory j))
          (λ j. length_in (joined j calls w)) told_is (accepted_names calls w)
          ∙ (spent capacity seed size table keys lists w B calls).total;
      used_at_most =
          omega (
            arith,
            (spent capacity seed size table keys lists w B calls).lists_hold.ends,
            taken_cost (log_of calls w),
            (spent capacity seed size table keys lists w B calls).total,
          );
    }

  -- ---- a shift within what was lent for it

  sized : page_taken size ≡ true
  sized =
      (creatable_facts capacity size (length table) (length keys) (length lists)
      (born-start capacity seed size table keys lists w B).0).sized

  module _ (lanes bytes longest : ℕ)
      (L : LentFor size lanes bytes longest capacity (length table) (length keys) (length lists)) where
    module _ (calls : List Call) (name bs : List ℕ)
        (W : StaysWithin lanes bytes longest (log_of calls w ++ (entry name bs ∷ []))) where
      abbrev v : World
      v = play calls w

      abbrev log : List Entry
      log = log_of calls w

      abbrev more : List Entry
      more = log_of calls w ++ (entry name bs ∷ [])

      abbrev stood : Option (List ℕ)
      stood = joined name calls w

      P : Spent capacity seed size table keys lists w B v log
      P = spent capacity seed size table keys lists w B calls

      facts : Whole v.state (length v.memory.table) (length v.memory.keys) (length v.memory.lists)
      facts = whole_facts v.state _ _ _ (history capacity seed size table keys lists w B calls).sound.whole

      -- the names so far have so many bytes, and this one too
      names_fit : EachName (λ j. (1 ≤ length j) × (length j ≤ longest)) (names_in log [])
          × ((1 ≤ length name) × (length name ≤ longest))
      names_fit =
          each_more (λ j. (1 ≤ length j) × (length j ≤ longest)) name (names_in log [])
          (subst (EachName (λ j. (1 ≤ length j) × (length j ≤ longest))) (name-more log name bs) W.named)

      -- its blocks
      all-bytes : bytes_of_all more ≤ bytes
      all-bytes =
          omega (
            arith,
            sum_more capacity seed size table keys lists w B calls P name bs length_in refl,
            joined-long stood bs,
            P.total,
            W.few_bytes,
            bytes-more log (entry name bs ∷ []),
            bytes_one capacity seed size table keys lists w B calls P name bs,
          )

      list_due : due_list v.state v.memory (shape_of (length_in stood)) (length bs) ≡ 0
      unfolding due_list plan_of
      list_due =
          let o : ℕ = taken_of_all log - taken_in stood in
          let l : ℕ = length_in stood in
          let n : ℕ = length bs - (shape_of l).remaining in
          let h = lane_most capacity seed size table keys lists w B calls P name bs taken_in refl in
          let m = sum_more capacity seed size table keys lists w B calls P name bs taken_in refl in
          let e : o + taken_bytes (blocks_for l) ≡ taken_of_all log = omega (arith, h, taken_at stood) in
          let d : o + taken_bytes (blocks_for (l + length bs)) ≤ taken_at_most lanes bytes =
          omega (
            arith,
            h,
            m,
            taken_at stood,
            joined-taken stood bs,
            taken-few more lanes bytes W.few_lanes all-bytes,
          ) in
          due_some (planned n (length v.memory.lists) v.state.list_arena (shape_of l).number n)
          (rw (shape_number l)
          (plan_fits (length v.memory.lists) (blocks_for (l + length bs)) o size (taken_at_most lanes bytes)
          (omega (arith, page_least size sized)) d (omega (arith, L.lists, P.list_bytes_lem, facts.list_bytes_is)) n
          v.state.list_arena (blocks_for l) n (list_size capacity seed size table keys lists w B calls)
          (blocks_more l (length bs)) (blocks_wait l (length bs))
          (subst (Holds block_tail v.state.list_arena) (sym e) P.lists_hold)))

      -- a new name
      module _ (new : stood ≡ none) where
        unseen : among name (names_in log []) ≡ false
        unseen = names-joined capacity seed size table keys lists w B calls name ∙ ap is_joined new

        one_more : length (names_in log []) + 1 ≤ lanes
        one_more =
            let e : names_in more [] ≡ names_in log [] ++ (name ∷ []) =
            name-more log name bs ∙ ap (λ (b : Bool). cond b (names_in log []) (names_in log [] ++ (name ∷ []))) unseen in
            omega (arith, ap length e, length-append (names_in log []) (name ∷ []), W.few_lanes)

        loose : is_crowded v.state ≡ false
        loose =
            not_crowded v.state capacity lanes (length table) facts.power P.words P.buckets L.table
            L.few
            (omega (arith, one_more, (counts capacity seed size table keys lists w B calls).many))

        fits : longest + record_extra ≤ size
        fits = omega (arith, L.short, page_least size sized)

        no_room : room_for v.state.key_arena (length v.memory.keys) (length name + record_extra)
            ≡ None
            → ⊥
        no_room =
            never_crammed (longest + record_extra) v.state.key_arena (length v.memory.keys)
            (length name + record_extra) (length (names_in log [])) (omega arith) (omega (arith, names_fit.1.1))
            (omega (arith, fits, key_size capacity seed size table keys lists w B calls))
            (P.keys_lay longest fits (λ j m. (names_fit.0 j m).1)) lanes one_more
            (subst (λ (s : ℕ). key_bytes_for s lanes longest ≤ length v.memory.keys)
            (sym (key_size capacity seed size table keys lists w B calls))
            (omega (arith, L.keys, P.key_bytes_lem, facts.key_bytes_is)))

        new-due : due_new v.state v.memory name (length bs) ≡ 0
        unfolding due_new
        new-due =
            rw loose
            (due-room (room_for v.state.key_arena (length v.memory.keys) (length name + record_extra))
            no_room
            (due_list v.state v.memory fresh (length bs))
            (ap (λ (h : Header). due_list v.state v.memory h (length bs))
            (sym (ap (λ (o : Option (List ℕ)). shape_of (length_in o)) new ∙ fresh-shape)) ∙ list_due))

      nothing_due : due v.state v.memory name stood (length bs) ≡ 0
      unfolding due
      nothing_due =
          rw (kind_proper v.state (length name) names_fit.1.0
          (subst (λ (s : ℕ). length name ≤ name_limit_for s)
          (sym (key_size capacity seed size table keys lists w B calls)) (omega (arith, names_fit.1.1, L.short))))
          (go stood refl)
        where
          go : (o : Option (List ℕ)) → stood ≡ o → due_by v.state v.memory name o (length bs) ≡ 0
          go none e = new-due e
          go (some x) e =
              subst (λ (o : Option (List ℕ)). due_list v.state v.memory (shape_of (length_in o)) (length bs) ≡ 0) e
              list_due

      accepted : accepts v name bs ≡ true
      accepted = (refusals_exact capacity seed size table keys lists w B calls name bs).accepted nothing_due

    -- ---- all of it

    pub within_less : (xs ys : List Entry) → StaysWithin lanes bytes longest (xs ++ ys)
        → StaysWithin lanes bytes longest xs
    within_less xs ys W = record {
      few_lanes = omega (arith, ap length (names_more xs ys []), names_grow ys (names_in xs []), W.few_lanes);
      few_bytes = omega (arith, bytes-more xs ys, W.few_bytes);
      named = λ j m. W.named j (ap (among j) (names_more xs ys []) ∙ names_stay ys (names_in xs []) j m);
    }

    AllAccepted : List Call → Type 0
    AllAccepted calls = StaysWithin lanes bytes longest (asked_for calls) → log_of calls w ≡ asked_for calls

    accepted_call : (calls : List Call) (c : Call) → log_of calls w ≡ asked_for calls
        → StaysWithin lanes bytes longest (asked_for calls ++ asked_by c) → logged c (play calls w) ≡ asked_by c
    accepted_call calls (appends name bs) e W =
        ap (λ (b : Bool). cond b (entry name bs ∷ []) [])
        (accepted calls name bs
        (subst (λ (l : List Entry). StaysWithin lanes bytes longest (l ++ (entry name bs ∷ []))) (sym e) W))
    accepted_call calls (looks_up name) e W = refl
    accepted_call calls (asks_length name) e W = refl
    accepted_call calls (reads name output) e W = refl
    accepted_call calls (finds_block name i) e W = refl
    accepted_call calls (shows_block at n) e W = refl
    accepted_call calls (lists_from i) e W = refl
    accepted_call calls counts_keys e W = refl

    one-call : (calls : List Call) (c : Call) → AllAccepted calls → AllAccepted (calls ++ (c ∷ []))
    unfolding AllAccepted
    one-call calls c f W =
        let X = subst (StaysWithin lanes bytes longest) (asked-one calls c) W in
        let e = f (within_less (asked_for calls) (asked_by c) X) in
        log-one calls c w
        ∙ (λ i. e i ++ accepted_call calls c e X i)
        ∙ sym (asked-one calls c)

    all_accepted : (calls : List Call) → AllAccepted calls
    unfolding AllAccepted log_of asked_for
    all_accepted calls = by-calls AllAccepted one-call [] calls (λ W. refl)

    -- FOURTEEN: a controller whose shift stays within what was lent for it is never refused
    pub never_refused : (calls : List Call) → NeverRefused lanes bytes longest w calls
    unfolding AllAccepted
    never_refused calls = record {
      all_accepted = all_accepted calls;
      next_accepted = λ name bs W.
          let e = all_accepted calls (within_less (asked_for calls) (entry name bs ∷ []) W) in
          accepted calls name bs
          (subst (λ (l : List Entry). StaysWithin lanes bytes longest (l ++ (entry name bs ∷ []))) (sym e) W);
    }
