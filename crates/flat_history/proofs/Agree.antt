-- The two stores are the same record where they have accepted the same appends. Assumes nothing.
use Prim.Native.Nat.{ℕ, ◌+◌, ◌≤◌, ◌<◌}
use mathlib.Core.Path.{◌≡◌, refl, sym, ap, ◌∙◌, subst}
use mathlib.Core.Bool.{Bool, true, false, cond}
use mathlib.Core.Option.{Option, none, some}
use mathlib.Core.List.{List, []}
use native.Mathlib.Omega.{arith}
use lib.Dec.{leb, ltb, eqb}
use lib.ListN.{length, replicate}
use borrow.Author.Tests.{lt-ltb, le-ltb, leb-true, leb-false, eqb-true, eqb-false}
use Rattle.limits.specs.Limits.{page_taken, name_limit, name_limit_for, record_extra, each_size}
use Rattle.std.specs.Prelude.{Err}
use Rattle.limits.specs.Refusals.{number_of as number_for}
use Rattle.limits.specs.declared.Refusal.{Refusal}
use Rattle.limits.specs.declared.Refusal.TheVariants.{NameTooLong, NoName}
use Rattle.memory_arena.specs.declared.Arena.{Arena}
use Rattle.memory_arena.specs.Pages.{MaybeRoom, room_for}
use Rattle.memory_arena.proofs.Laws.{sensible_facts}
use Rattle.expull_header.specs.Header.{fresh}
use Rattle.expull_append.specs.Append.{plan_of}
use Rattle.entries.specs.Log.{Entry, entry, joined_in}
use Rattle.entries.specs.Form.{encoded_all}
use Rattle.store_state.specs.declared.State.{State}
use Rattle.store_look.specs.declared.Lookup.{Lookup}
use Rattle.store_look.specs.declared.Lookup.TheVariants.{Failed}
use Rattle.store_state.specs.declared.Name.{Name}
use Rattle.store_state.specs.declared.Name.TheVariants.{TooLong, Nameless, Proper}
use Rattle.store_state.specs.Name.{name_limit_of, name_kind, by_kind}
use Rattle.store_look.specs.Look.{Lent, on_lookup, on_lookup_read, length_at, read_at, Read, lookup_of, length_of, read_of}
use Rattle.store_append.specs.Append.{is_crowded}
use Rattle.store_state.proofs.Whole.{whole_facts}
use Rattle.store_state.proofs.Guard.{kind-long, kind-nameless}
use Rattle.store_look.specs.Said.{said_answer}
use Rattle.history.specs.History.{World, Call, appends, play, Born, log_of, asked_for, joined}
use Rattle.history.specs.Due.{shape_of, due_blocks, due_record, due_list, due_new, due_by, due}
use Rattle.history.specs.Numbers.{number_of}
use Rattle.history.specs.Promises.{ReadsAs, ReadsBack, AnswersDue}
use Rattle.history.specs.Demand.{Demand3}
use Rattle.history.proofs.Demand.{demand_3}
use Rattle.flat_store.specs.Calls.{out, Held, stands, refuses, held_by, held_of, lookup_by, length_by, read_by, has_room}
use Rattle.flat_store.specs.Calls.{append_of as flat_append_of, lookup_of as flat_lookup_of, length_of as flat_length_of}
use Rattle.flat_store.specs.Calls.{read_of as flat_read_of}
use Rattle.flat_store.specs.Said.{said_lookup as flat_said_lookup, said_length as flat_said_length}
use Rattle.flat_store.specs.Said.{said_read as flat_said_read}
use Rattle.flat_store.specs.History.{Flat, flat, play as flat_play, log_of as flat_log, Holds, held_due, due as flat_due}
use Rattle.flat_store.specs.History.{number_of as flat_number_of}
use Rattle.flat_store.specs.Promises.{FlatDemand3}
use Rattle.flat_store.proofs.Calls.{append_3, append_13, held_3, held-nameless}
use Rattle.flat_store.proofs.Kept.{holds-inside}
use Rattle.flat_store.proofs.Promises.{flat_demand_3}
use Rattle.flat_history.specs.Alike.{standing_only, by_name, Alike, BothRefuse}
use Rattle.flat_history.specs.Agreement.{SameRecord, WidePages, Agreement}
use Rattle.flat_history.specs.Cases.{start, born, calls, unrefused_case}
use Rattle.std.specs.Prelude.{Some, None}

-- ---- a name, by what is held of it

module _ (w : World) (f : Flat) (name : List ℕ) where
  -- what the store would say of what the flat store holds
  record Says (h : Held) : Type 0 where
    looked_up : standing_only (lookup_of w.state w.memory name) ≡ flat_said_lookup (lookup_by h)
    measured : said_answer (length_of w.state w.memory name) ≡ flat_said_length (length_by h)
    read : (output : List ℕ)
        → said_answer (read_of w.state w.memory name output).answer ≡ flat_said_read (read_by h output).answer
    written : (output : List ℕ) → (read_of w.state w.memory name output).output ≡ (read_by h output).output

  says-alike : (h : Held) → Says h → held_of f.buffer f.used name ≡ h
      → ((bytes : List ℕ) → by_name (number_of (appends name bytes) w) ≡ by_name (flat_number_of f (entry name bytes)))
      → Alike w f name
  unfolding flat_lookup_of flat_length_of flat_read_of
  says-alike h S e appended = record {
    looked_up = S.looked_up ∙ sym (ap (λ (x : Held). flat_said_lookup (lookup_by x)) e);
    measured = S.measured ∙ sym (ap (λ (x : Held). flat_said_length (length_by x)) e);
    read = λ output. S.read output ∙ sym (ap (λ (x : Held). flat_said_read (read_by x output).answer) e);
    written = λ output. S.written output ∙ sym (ap (λ (x : Held). (read_by x output).output) e);
    appended = appended;
  }

  says-stood : (bs : List ℕ) → ReadsBack w name bs → Says (stands bs)
  unfolding read_by
  says-stood bs R = record {
    looked_up = ap standing_only R.found;
    measured = ap said_answer R.measured;
    read = λ output. (reads output (leb (length bs) (length output)) refl).0;
    written = λ output. (reads output (leb (length bs) (length output)) refl).1;
  }
    where
      reads : (output : List ℕ) (t : Bool) → leb (length bs) (length output) ≡ t
          → (said_answer (read_of w.state w.memory name output).answer
          ≡ flat_said_read (read_by (stands bs) output).answer)
          × ((read_of w.state w.memory name output).output ≡ (read_by (stands bs) output).output)
      reads output true e =
          let q = R.read output (leb-true _ _ e) in
          (ap (λ (r : Read). said_answer r.answer) q ∙ rw e, ap (λ (r : Read). r.output) q ∙ rw e)
      reads output false e =
          let q = R.unread output (leb-false _ _ e) in
          (ap (λ (r : Read). said_answer r.answer) q ∙ rw e, ap (λ (r : Read). r.output) q ∙ rw e)

  says-by : (o : Option (List ℕ)) → ReadsAs w name o → Says (held_by o)
  unfolding read_by
  says-by none R = record {
    looked_up = ap standing_only R.missed;
    measured = ap said_answer R.unmeasured;
    read = λ output. ap (λ (r : Read). said_answer r.answer) (R.unread output);
    written = λ output. ap (λ (r : Read). r.output) (R.unread output);
  }
  says-by (some bs) R = says-stood bs R

  -- a reading by what its lookup says
  abbrev through : Lookup → List ℕ → Read
  through x output = on_lookup_read x (λ at. read_at w.state w.memory at output) output

  says_3 : lookup_of w.state w.memory name ≡ Failed 3 → Says (refuses NameTooLong)
  unfolding read_by length_of read_of
  says_3 e = record {
    looked_up = ap standing_only e;
    measured = ap (λ (x : Lookup). said_answer (on_lookup x (length_at w.memory.keys))) e;
    read = λ output. ap (λ (x : Lookup). said_answer (through x output).answer) e;
    written = λ output. ap (λ (x : Lookup). (through x output).output) e;
  }

-- ---- an append's number where the name decides it

-- 3 over the limit, 13 without bytes, 0 for any other name
named : List ℕ → ℕ
named name = cond (leb (length name) name_limit) (cond (eqb (length name) 0) 13 0) 3

-- room is neither 3 nor 13: blocks, a record, a bucket
blocks-room : (a : Option Arena) → by_name (due_blocks a) ≡ 0
blocks-room none = refl
blocks-room (some a) = refl

record-room : (a : MaybeRoom) (k : ℕ) → by_name k ≡ 0 → by_name (due_record a k) ≡ 0
record-room (Some r) k e = e
record-room None k e = refl

bucket-room : (t : Bool) (k : ℕ) → by_name k ≡ 0 → by_name (cond t 5 k) ≡ 0
bucket-room true k e = refl
bucket-room false k e = e

due-room : (st : State) (m : Lent) (name : List ℕ) (o : Option (List ℕ)) (n : ℕ) → by_name (due_by st m name o n) ≡ 0
unfolding due_new due_list
due-room st m name none n =
    bucket-room (is_crowded st)
    (due_record (room_for st.key_arena (length m.keys) (length name + record_extra)) (due_list st m fresh n))
    (record-room (room_for st.key_arena (length m.keys) (length name + record_extra)) (due_list st m fresh n)
    (blocks-room (plan_of (length m.lists) st.list_arena fresh n)))
due-room st m name (some bs) n = blocks-room (plan_of (length m.lists) st.list_arena (shape_of (length bs)) n)

module _ (w : World) (name : List ℕ) (o : Option (List ℕ)) (n : ℕ) where
  due-named : name_limit_of w.state ≡ name_limit → by_name (due w.state w.memory name o n) ≡ named name
  unfolding due name_kind named
  due-named e =
      go (leb (length name) (name_limit_of w.state)) (eqb (length name) 0)
      ∙ ap (λ (k : ℕ). cond (leb (length name) k) (cond (eqb (length name) 0) 13 0) 3) e
    where
      go : (b c : Bool)
          → by_name (by_kind (cond b (cond c Nameless Proper) TooLong) 3 13 (due_by w.state w.memory name o n))
          ≡ cond b (cond c 13 0) 3
      go true true = refl
      go true false = due-room w.state w.memory name o n
      go false c = refl

  due_3 : name_limit_of w.state < length name → due w.state w.memory name o n ≡ 3
  unfolding due
  due_3 k =
      ap (λ (x : Name). by_kind x 3 13 (due_by w.state w.memory name o n)) (kind-long w.state (length name) k)

due_13 : (w : World) (o : Option (List ℕ)) (n : ℕ) → due w.state w.memory [] o n ≡ 13
unfolding due
due_13 w o n = ap (λ (x : Name). by_kind x 3 13 (due_by w.state w.memory [] o n)) (kind-nameless w.state 0 refl)

some_bytes : {n : ℕ} → (n ≡ 0 → ⊥) → 0 < n
some_bytes h = omega arith

flat-named : (len : ℕ) (log : List Entry) (name bytes : List ℕ)
    → by_name (flat_due len log (entry name bytes)) ≡ named name
unfolding flat_due named
flat-named len log name bytes =
    go (leb (length name) name_limit) (eqb (length name) 0) refl
    (has_room len (length (encoded_all log)) (length name) (length bytes))
  where
    go : (b c : Bool) → eqb (length name) 0 ≡ c → (r : Bool)
        → by_name (cond b (cond (ltb 0 (length name)) (cond r 0 14) 13) 3) ≡ cond b (cond c 13 0) 3
    go true true e r = rw (le-ltb 0 (length name) (omega (arith, eqb-true (length name) 0 e)))
    go true false e true = rw (lt-ltb 0 (length name) (some_bytes (eqb-false (length name) 0 e)))
    go true false e false = rw (lt-ltb 0 (length name) (some_bytes (eqb-false (length name) 0 e)))
    go false c e r = refl

-- ---- wide pages

wide_limit : (s : ℕ) → page_taken s ≡ true → 65536 < s → name_limit_for s ≡ name_limit
wide_limit =
    each_size (λ s. 65536 < s → name_limit_for s ≡ name_limit) (λ h. absurd (omega arith)) (λ h. refl) (λ h. refl)
    (λ h. refl) (λ h. refl)

-- ---- the theorems

module _ (capacity seed size : ℕ) (table keys lists : List ℕ) (w : World)
    (B : Born capacity seed size table keys lists w) (lent : List ℕ) where
  module _ (wide : WidePages w) (calls : List Call) (tries : List Entry)
      (same : log_of calls w ≡ flat_log tries (flat lent 0)) where
    v : World
    v = play calls w

    f : Flat
    f = flat_play tries (flat lent 0)

    D : Demand3 w calls
    D = demand_3 capacity seed size table keys lists w B calls

    F : FlatDemand3 lent tries
    F = flat_demand_3 lent tries

    -- the store's name limit is the flat store's, before the calls and behind them
    limit_then : name_limit_of v.state ≡ name_limit
    unfolding v
    limit_then =
        wide_limit v.state.key_arena.size
        (sensible_facts _ _ (whole_facts v.state _ _ _ D.whole).key_arena).sized
        (subst (λ (s : ℕ). 65536 < s) (sym D.size_kept) wide)

    limit : name_limit_of w.state ≡ name_limit
    unfolding v
    limit = sym (ap name_limit_for D.size_kept) ∙ limit_then

    -- the flat store by the store's log
    held : (name : List ℕ) → held_of f.buffer f.used name ≡ held_due name (joined name calls w)
    unfolding f
    held name =
        F.flat_reads_back name ∙ ap (λ (log : List Entry). held_due name (joined_in name log none)) (sym same)

    alike : (name : List ℕ) → Alike v f name
    unfolding v f
    alike name =
        says-alike v f name (held_due name (joined name calls w)) (go (leb (length name) name_limit) refl) (held name)
        numbers
      where
        within : length name ≤ name_limit → length name ≤ name_limit_of w.state
        within h = omega (arith, limit)

        over : name_limit < length name → name_limit_of w.state < length name
        over h = omega (arith, limit)

        numbers : (bytes : List ℕ)
            → by_name (number_of (appends name bytes) v) ≡ by_name (flat_number_of f (entry name bytes))
        numbers bytes =
            ap by_name (D.numbers_exact (appends name bytes))
            ∙ due-named v name (joined name calls w) (length bytes) limit_then
            ∙ sym (ap by_name (F.numbers_exact (entry name bytes))
            ∙ flat-named (length lent) (flat_log tries (flat lent 0)) name bytes)

        go : (t : Bool) → leb (length name) name_limit ≡ t
            → Says v f name (cond t (held_by (joined name calls w)) (refuses NameTooLong))
        go true e = says-by v f name (joined name calls w) (D.reads_back name (within (leb-true _ _ e)))
        go false e = says_3 v f name (D.long_never name (over (leb-false _ _ e))).1

    -- an append that is due a number is refused with it, and the flat store's too
    both_refuse : (r : Refusal) → (number_for r ≡ 0 → ⊥) → (name bytes : List ℕ)
        → due v.state v.memory name (joined name calls w) (length bytes) ≡ number_for r
        → flat_append_of f.buffer f.used name bytes ≡ out (Err r) f.buffer → BothRefuse r v f name bytes
    unfolding v
    both_refuse r positive name bytes e q =
        ((subst (AnswersDue v name bytes) e (D.refusals_exact name bytes)).refused positive, q)

    inside : f.used ≤ length f.buffer
    unfolding f
    inside = holds-inside lent f (flat_log tries (flat lent 0)) F.holds-played

    same-record : SameRecord w calls lent tries
    unfolding v f
    same-record = record {
      same_entries = subst (Holds lent f) (sym same) F.holds-played;
      alike = alike;
      too_long = λ name k. (
        (D.long_never name (omega (arith, limit, k))).1,
        held_3 f.buffer f.used name inside k,
      );
      too_long_appended = λ name bytes k.
          both_refuse NameTooLong (λ (z : 3 ≡ 0). omega arith) name bytes
          (due_3 v name (joined name calls w) (length bytes) (omega (arith, limit_then, k)))
          (append_3 f.buffer f.used name bytes inside k);
      nameless = (
        subst (ReadsAs v []) D.nameless_never (D.reads_back [] (omega arith)),
        held-nameless f.buffer f.used [] inside (omega arith),
      );
      nameless_appended = λ bytes.
          both_refuse NoName (λ (z : 13 ≡ 0). omega arith) [] bytes (due_13 v (joined [] calls w) (length bytes))
          (append_13 f.buffer f.used [] bytes inside (omega arith));
    }

  -- ELEVEN
  pub agreement : Agreement w lent
  agreement = record {
    same_log = same-record;
    unrefused = λ wide calls s t. same-record wide calls (asked_for calls) (s ∙ sym t);
  }

-- on the history of specs/Cases.antt
pub worked : SameRecord start calls (replicate 25 7) (asked_for calls)
worked =
    (agreement 1 0 131072 (replicate 18 7) (replicate 64 7) (replicate 64 7) start born (replicate 25 7)).unrefused
    unrefused_case.0 calls unrefused_case.1.0 unrefused_case.1.1
