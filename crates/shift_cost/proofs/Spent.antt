-- What a history has spent, call by call: the used part of both arenas, and the table's length, by the log alone.
-- Assumes nothing.
use Prim.Native.Nat.{ℕ, ◌+◌, ◌-◌, ◌≤◌}
use mathlib.Core.Path.{◌≡◌, refl, sym, ap, ◌∙◌, subst}
use mathlib.Core.Logic.{inl, inr}
use mathlib.Core.Bool.{Bool, true, false, cond}
use mathlib.Core.Option.{Option, none, some}
use mathlib.Core.List.{List, [], ◌∷◌, ◌++◌, append-nil}
use native.Mathlib.Nat.{le_refl, le_trans}
use native.Mathlib.Omega.{arith}
use lib.ListN.{length, length-append}
use Rattle.limits.specs.Limits.{record_extra}
use Rattle.fastcmp.specs.Equal.{equal_bytes}
use Rattle.fastcmp.proofs.Laws.{equal_same}
use Rattle.memory_arena.specs.declared.Arena.{Arena}
use Rattle.shared_arena_hashmap.specs.Power.{rounded_down}
use Rattle.expull_header.specs.declared.Header.{Header}
use Rattle.expull_header.specs.Header.{full_bytes, taken_bytes, fresh}
use Rattle.expull_append.specs.Append.{planned, plan_of}
use Rattle.store_state.specs.declared.State.{State}
use Rattle.store_append.specs.Append.{Out, grows, grown_state, state_grown}
use Rattle.store_state.proofs.Whole.{whole_facts}
use Rattle.history_lanes.specs.Lane.{content}
use Rattle.history.specs.History.{World, Call, appends, looks_up, asks_length, reads, finds_block, shows_block, lists_from}
use Rattle.history.specs.History.{counts_keys, Born, append_in, is_accepted, left, after, play, Entry, entry, logged}
use Rattle.history.specs.History.{log_of, joined_on, joined, is_joined, among, with_name, names_in, bytes_in}
use Rattle.history.specs.Due.{shape_of}
use Rattle.history.specs.Promises.{blocks_for}
use Rattle.history.specs.Sound.{Ghosts, Sound}
use Rattle.history.proofs.Kept.{Took}
use Rattle.history.proofs.Shape.{lane_number, lane_remaining}
use Rattle.history.proofs.Answers.{Answers, answers_any}
use Rattle.history.proofs.Told.{Says, among-end}
use Rattle.history.proofs.Log.{play_size}
use Rattle.history.proofs.Born.{born-start}
use Rattle.history.proofs.Demand.{history, says, counts, names-joined}
use Rattle.lending.specs.Lending.{block_tail}
use Rattle.shift_cost.specs.Shift.{over_lanes, sum_of, length_in, taken_in, bytes_of_all, taken_of_all}
use Rattle.shift_cost.proofs.Calls.{play-one, log-one, by-calls}
use Rattle.shift_cost.proofs.Pages.{Holds, Lays, lays-room}
use Rattle.shift_cost.proofs.Sums.{name-more, lanes-more, lane-within}
use Rattle.shift_cost.proofs.Lanes.{shape_number, blocks_none, blocks_more, blocks_wait, plan_holds}

-- ---- a few words on logs

pub bytes-more : (xs ys : List Entry) → bytes_in (xs ++ ys) ≡ bytes_in xs + bytes_in ys
unfolding bytes_in
bytes-more [] ys = omega arith
bytes-more (e ∷ xs) ys = omega (arith, bytes-more xs ys)

-- what holds of each name
abbrev pub EachName : (List ℕ → Type 0) → List (List ℕ) → Type 0
EachName P ns = (j : List ℕ) → among j ns ≡ true → P j

pub each_more : (P : List ℕ → Type 0) (name : List ℕ) (ns : List (List ℕ)) → EachName P (with_name name ns)
    → EachName P ns × P name
each_more P name ns f = go (among name ns) refl f
  where
    go : (b : Bool) → among name ns ≡ b → EachName P (cond b ns (ns ++ (name ∷ []))) → EachName P ns × P name
    go true e g = (g, g name e)
    go false e g = (
      (λ j m. g j (among-end j name ns ∙ ap (λ (b : Bool). cond b true (equal_bytes j name)) m)),
      g name (among-end name name ns ∙ (λ i. cond (e i) true (equal_same name name refl i))),
    )

-- names of at most so many bytes
abbrev pub EachShort : ℕ → List (List ℕ) → Type 0
EachShort longest ns = EachName (λ j. length j ≤ longest) ns

pub joined-long : (o : Option (List ℕ)) (bytes : List ℕ) → length_in (joined_on o bytes) ≡ length_in o + length bytes
joined-long none bytes = omega arith
joined-long (some bs) bytes = length-append bs bytes

pub taken_at : (o : Option (List ℕ)) → taken_in o ≡ taken_bytes (blocks_for (length_in o))
unfolding full_bytes
taken_at none = rw blocks_none
taken_at (some bs) = refl

pub joined-taken : (o : Option (List ℕ)) (bytes : List ℕ)
    → taken_in (joined_on o bytes) ≡ taken_bytes (blocks_for (length_in o + length bytes))
joined-taken o bytes =
    taken_at (joined_on o bytes) ∙ ap (λ (n : ℕ). taken_bytes (blocks_for n)) (joined-long o bytes)

pub fresh-shape : shape_of 0 ≡ fresh
unfolding shape_of
fresh-shape = refl

grown_up : (st : State) → st.buckets ≤ (state_grown st).buckets
unfolding state_grown
grown_up st = go (grows st)
  where
    go : (b : Bool) → st.buckets ≤ (cond b (grown_state st) st).buckets
    go true = omega arith
    go false = le_refl st.buckets

-- ---- a store that a log led to

module _ (capacity seed size : ℕ) (table keys lists : List ℕ) (w : World)
    (B : Born capacity seed size table keys lists w) where
  pub record Spent (v : World) (log : List Entry) : Type 0 where
    pub words : v.state.words ≡ length table
    pub key_bytes_lem : v.state.key_bytes ≡ length keys
    pub list_bytes_lem : v.state.list_bytes ≡ length lists
    pub buckets : rounded_down capacity ≤ v.state.buckets
    pub keys_lay : (longest : ℕ) → longest + record_extra ≤ size → EachShort longest (names_in log [])
        → Lays (longest + record_extra) v.state.key_arena (length (names_in log []))
    pub lists_hold : Holds block_tail v.state.list_arena (taken_of_all log)
    pub total : bytes_of_all log ≡ bytes_in log

  -- no call changes the page size
  pub key_size : (calls : List Call) → (play calls w).state.key_arena.size ≡ size
  key_size calls =
      play_size calls w
      ∙ ap (λ (x : World). x.state.key_arena.size) (sym (born-start capacity seed size table keys lists w B).1)

  pub list_size : (calls : List Call) → (play calls w).state.list_arena.size ≡ size
  list_size calls =
      sym (whole_facts (play calls w).state _ _ _
      (history capacity seed size table keys lists w B calls).sound.whole).sizes_are
      ∙ key_size calls

  -- nothing is spent at birth
  born-spent : Spent w []
  unfolding over_lanes sum_of names_in bytes_in
  born-spent = subst (λ (v : World). Spent v []) (born-start capacity seed size table keys lists w B).1 (record {
    words = refl;
    key_bytes_lem = refl;
    list_bytes_lem = refl;
    buckets = le_refl (rounded_down capacity);
    keys_lay = λ longest p f. record { here = 0; before = omega arith; used = omega arith };
    lists_hold = record { ends = omega arith; first = λ z. absurd (omega arith) };
    total = refl;
  })

  -- ---- one append more

  module _ (calls : List Call) (P : Spent (play calls w) (log_of calls w)) (name bytes : List ℕ) where
    abbrev v : World
    v = play calls w

    abbrev log : List Entry
    log = log_of calls w

    abbrev more : List Entry
    more = log_of calls w ++ (entry name bytes ∷ [])

    abbrev stood : Option (List ℕ)
    stood = joined name calls w

    abbrev G : Ghosts
    G = (history capacity seed size table keys lists w B calls).ghosts

    S : Sound v G
    S = (history capacity seed size table keys lists w B calls).sound

    pub sum_more : (h : Option (List ℕ) → ℕ) → h none ≡ 0
        → over_lanes h more + h stood ≡ over_lanes h log + h (joined_on stood bytes)
    sum_more h z =
        lanes-more log name bytes (counts capacity seed size table keys lists w B calls).once
        (names-joined capacity seed size table keys lists w B calls) h z

    pub lane_most : (h : Option (List ℕ) → ℕ) → h none ≡ 0 → h stood ≤ over_lanes h log
    lane_most h z =
        lane-within log name bytes (counts capacity seed size table keys lists w B calls).once
        (names-joined capacity seed size table keys lists w B calls) h z

    pub bytes_one : bytes_in (entry name bytes ∷ []) ≡ length bytes
    unfolding bytes_in
    bytes_one = omega arith

    module _ (v' : World) (T : Took v G name bytes v') where
      -- its header, as far as a dry run looks at it
      known : (o : Option (List ℕ)) → Says v G name o
          → (T.leaves.header.number ≡ (shape_of (length_in o)).number)
          × (T.leaves.header.remaining ≡ (shape_of (length_in o)).remaining)
      known none s =
          let e : T.leaves.header ≡ shape_of 0 = T.leaves.list_new s ∙ sym fresh-shape in
          (ap (λ (h : Header). h.number) e, ap (λ (h : Header). h.remaining) e)
      known (some bs) s =
          let e : T.leaves.header ≡ G.header name = (T.leaves.list_standing s.0).0 in
          let L = S.lanes name s.0 in
          let n : shape_of (length (content v.memory.lists (G.blocks name) (G.header name).remaining))
          ≡ shape_of (length bs) = ap (λ (l : List ℕ). shape_of (length l)) s.1 in (
            ap (λ (h : Header). h.number) e
                ∙ lane_number v.memory.lists v.state.list_arena (G.header name) (G.blocks name) L
                ∙ ap (λ (h : Header). h.number) n,
            ap (λ (h : Header). h.remaining) e
                ∙ lane_remaining v.memory.lists v.state.list_arena (G.header name) (G.blocks name) L
                ∙ ap (λ (h : Header). h.remaining) n,
          )

      plan : planned (length bytes - (shape_of (length_in stood)).remaining) (length v.memory.lists)
          v.state.list_arena (blocks_for (length_in stood) + 2)
          (length bytes - (shape_of (length_in stood)).remaining) ≡ some v'.state.list_arena
      unfolding plan_of
      plan =
          let k = known stood (says capacity seed size table keys lists w B calls name) in
          let e : T.leaves.header.number ≡ blocks_for (length_in stood) + 2 =
          k.0 ∙ shape_number (length_in stood) in
          (λ i. planned (length bytes - sym k.1 i) (length v.memory.lists) v.state.list_arena (sym e i)
          (length bytes - sym k.1 i)) ∙ T.leaves.list_plan

      lists-more : Holds block_tail v'.state.list_arena (taken_of_all more)
      lists-more =
          let o : ℕ = taken_of_all log - taken_in stood in
          let l : ℕ = length_in stood in
          let h = lane_most taken_in refl in
          let e : o + taken_bytes (blocks_for l) ≡ taken_of_all log = omega (arith, h, taken_at stood) in
          let d : o + taken_bytes (blocks_for (l + length bytes)) ≡ taken_of_all more =
          omega (
            arith,
            h,
            taken_at stood,
            joined-taken stood bytes,
            sum_more taken_in refl,
          ) in
          subst (Holds block_tail v'.state.list_arena) d
          (plan_holds (length v.memory.lists) (blocks_for (l + length bytes)) o
          (length bytes - (shape_of l).remaining) v.state.list_arena (blocks_for l)
          (length bytes - (shape_of l).remaining) v'.state.list_arena (blocks_more l (length bytes))
          (blocks_wait l (length bytes))
          (subst (Holds block_tail v.state.list_arena) (sym e) P.lists_hold) plan)

      -- a new name's record is laid, a standing one's lies there
      keys-more : (longest : ℕ) → longest + record_extra ≤ size → EachShort longest (names_in more [])
          → Lays (longest + record_extra) v'.state.key_arena (length (names_in more []))
      keys-more longest p f =
          subst (λ (ns : List (List ℕ)). Lays (longest + record_extra) v'.state.key_arena (length ns))
          (sym (name-more log name bytes))
          (go stood (says capacity seed size table keys lists w B calls name)
          (names-joined capacity seed size table keys lists w B calls name))
        where
          short : EachShort longest (names_in log []) × (length name ≤ longest)
          short =
              each_more (λ j. length j ≤ longest) name (names_in log [])
              (subst (EachShort longest) (name-more log name bytes) f)

          before : Lays (longest + record_extra) v.state.key_arena (length (names_in log []))
          before = P.keys_lay longest p short.0

          go : (o : Option (List ℕ)) → Says v G name o → among name (names_in log []) ≡ is_joined o
              → Lays (longest + record_extra) v'.state.key_arena (length (with_name name (names_in log [])))
          go none s e =
              rw (e, length-append (names_in log []) (name ∷ []))
              (lays-room (longest + record_extra) v.state.key_arena (length v.memory.keys)
              (length name + record_extra) (length (names_in log [])) (omega arith) (omega (arith, short.1))
              (omega (arith, p, key_size calls)) before
              (T.ghosts.place name) v'.state.key_arena (T.leaves.keys_room s))
          go (some bs) s e =
              rw e
              (subst (λ (a : Arena). Lays (longest + record_extra) a (length (names_in log [])))
              (sym (T.leaves.keys_used s.0)) before)

      spent-took : Spent v' more
      spent-took = record {
        words = T.leaves.remembers.1 ∙ P.words;
        key_bytes_lem = T.leaves.remembers.2 ∙ P.key_bytes_lem;
        list_bytes_lem = T.leaves.remembers.3 ∙ P.list_bytes_lem;
        buckets = le_trans P.buckets
            (subst (λ (n : ℕ). v.state.buckets ≤ n) (sym T.leaves.table_long) (grown_up v.state));
        keys_lay = keys-more;
        lists_hold = lists-more;
        total =
            omega (
              arith,
              sum_more length_in refl,
              joined-long stood bytes,
              P.total,
              bytes-more log (entry name bytes ∷ []),
              bytes_one,
            );
      }

    abbrev SpentBy : Out → Type 0
    SpentBy o = Spent (left o) (log ++ cond (is_accepted o.answer) (entry name bytes ∷ []) [])

    spent-append : SpentBy (append_in v name bytes)
    spent-append = go (answers_any S name bytes).0 (answers_any S name bytes).1
      where
        go : (n : ℕ) → Answers v G name bytes n → SpentBy (append_in v name bytes)
        go n (inl D) =
            subst SpentBy (sym D.said) (subst (Spent v) (sym (append-nil log)) P)
        go n (inr A) = subst SpentBy (sym A.said) (spent-took A.world A.took)

  -- ---- any call, and all of them

  spent-call : (calls : List Call) → Spent (play calls w) (log_of calls w) → (c : Call)
      → Spent (after c (play calls w)) (log_of calls w ++ logged c (play calls w))
  spent-call calls P (appends name bytes) = spent-append calls P name bytes
  spent-call calls P (looks_up name) = subst (Spent (play calls w)) (sym (append-nil (log_of calls w))) P
  spent-call calls P (asks_length name) = subst (Spent (play calls w)) (sym (append-nil (log_of calls w))) P
  spent-call calls P (reads name output) = subst (Spent (play calls w)) (sym (append-nil (log_of calls w))) P
  spent-call calls P (finds_block name i) = subst (Spent (play calls w)) (sym (append-nil (log_of calls w))) P
  spent-call calls P (shows_block at n) = subst (Spent (play calls w)) (sym (append-nil (log_of calls w))) P
  spent-call calls P (lists_from i) = subst (Spent (play calls w)) (sym (append-nil (log_of calls w))) P
  spent-call calls P counts_keys = subst (Spent (play calls w)) (sym (append-nil (log_of calls w))) P

  pub spent : (calls : List Call) → Spent (play calls w) (log_of calls w)
  unfolding play log_of
  spent calls =
      by-calls (λ cs. Spent (play cs w) (log_of cs w))
      (λ cs c P. subst (λ (v : World). Spent v (log_of (cs ++ (c ∷ [])) w)) (sym (play-one cs c w))
      (subst (Spent (after c (play cs w))) (sym (log-one cs c w)) (spent-call cs P c)))
      [] calls born-spent
