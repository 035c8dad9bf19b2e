-- An accepted append leaves a sound store, to a standing name and to a new one: one lane has its bytes more, and every
-- other is what it was. Assumes nothing.
use Prim.Native.Nat.{ℕ, suc, ◌+◌, ◌-◌, ◌≤◌}
use mathlib.Core.Path.{◌≡◌, refl, sym, ap, ◌∙◌, subst}
use mathlib.Core.Logic.{◌⊎◌, inl, inr, ⊎_elim}
use mathlib.Core.Bool.{Bool, true, false, cond}
use mathlib.Core.Option.{some}
use mathlib.Core.List.{List, [], ◌++◌}
use native.Mathlib.Nat.{le_refl}
use native.Mathlib.Omega.{arith}
use lib.ListN.{length, get_or}
use Rattle.limits.specs.Limits.{arena_limit, record_extra, value_size}
use Rattle.fastcmp.specs.Equal.{equal_bytes}
use Rattle.fastcmp.proofs.Laws.{equal_same, equal_not}
use Rattle.spans.specs.Span.{overwrite, Apart}
use Rattle.spans.proofs.Laws.{read-apart}
use Rattle.murmurhash2.specs.Murmur.{murmur_hash2}
use Rattle.memory_arena.specs.declared.Arena.{Arena}
use Rattle.memory_arena.specs.Address.{place_of}
use Rattle.memory_arena.specs.Pages.{room_at, standing, room_for}
use Rattle.memory_arena.proofs.Laws.{place_of_lem, Placed, room_size, room_facts, room_in, Sensible, sensible_facts}
use Rattle.memory_arena.proofs.Laws.{sensible_short}
use Rattle.shared_arena_hashmap.specs.Power.{grown_length}
use Rattle.records.specs.Record.{value_place, record_bytes}
use Rattle.shared_arena_hashmap.specs.Grow.{entered}
use Rattle.expull_header.specs.declared.Header.{Header}
use Rattle.expull_header.specs.Header.{fresh, header_bytes}
use Rattle.expull_append.specs.Append.{Writing, writing, appended, plan_of}
use Rattle.expull_header.proofs.Laws.{header-length}
use Rattle.store_state.specs.declared.State.{State}
use Rattle.store_state.specs.declared.Name.TheVariants.{Proper}
use Rattle.store_state.specs.State.{first_of}
use Rattle.store_state.specs.Name.{name_kind}
use Rattle.store_look.specs.Look.{lent, checked}
use Rattle.store_append.specs.Append.{is_crowded, grows, grown_state, state_grown, table_grown, moved_state}
use Rattle.store_state.proofs.Guard.{kind-length, kind_short}
use Rattle.store_append.proofs.Cases.{table_stays}
use Rattle.history_lanes.specs.Lane.{content, TipClear, used_end, Lane, After, arena_of}
use Rattle.history_lanes.proofs.Blocks.{apart-within}
use Rattle.history_lanes.proofs.Moved.{lane-moved}
use Rattle.history_lanes.proofs.Append.{lane-fresh, lane-appended}
use Rattle.history_lanes.proofs.Plan.{lane_plan}
use Rattle.history_names.specs.Table.{Names, Member, Table, Outside, OneBucket}
use Rattle.history_names.proofs.Lookup.{decide_name}
use Rattle.history_names.proofs.Enter.{enters}
use Rattle.history_names.proofs.Grow.{table_readdressed}
use Rattle.history.specs.History.{World}
use Rattle.history.specs.Sound.{Record, Ghosts, Stands, RecordsApart, BlocksApart, Sound, bytes_of}
use Rattle.history.specs.Frames.{Kept}
use Rattle.history.proofs.Words.{grown_words, grown-entered_words}
use Rattle.history.proofs.Apart.{apart_none, apart-turned, apart-tip, apart-after}
use Rattle.history.proofs.Records.{record-place, record-kept, record_up, record-revalued, length-record}
use Rattle.history.proofs.Records.{record_written}
use Rattle.history.proofs.Grown.{sound-whole, Grew, grew}

-- ---- a function with another value at one name

abbrev pub updated : {A : Type 0} → (List ℕ → A) → List ℕ → A → List ℕ → A
updated f k x j = cond (equal_bytes j k) x (f j)

updated-same : {A : Type 0} (f : List ℕ → A) (k : List ℕ) (x : A) (j : List ℕ) → j ≡ k → updated f k x j ≡ x
updated-same f k x j e = rw (equal_same j k e)

updated_other : {A : Type 0} (f : List ℕ → A) (k : List ℕ) (x : A) (j : List ℕ) → (j ≡ k → ⊥) → updated f k x j ≡ f j
updated_other f k x j e = rw (equal_not j k e)

-- ---- what an accepted append leaves alone

-- what the state remembers of creation: the seed and the three lent lengths
abbrev pub Remembers : State → State → Type 0
Remembers st st' =
    (st'.seed ≡ st.seed) × (st'.words ≡ st.words) × (st'.key_bytes ≡ st.key_bytes)
    × (st'.list_bytes ≡ st.list_bytes)

grown-remembers : (st : State) → Remembers st (state_grown st)
unfolding state_grown
grown-remembers st = go (grows st)
  where
    go : (b : Bool) → Remembers st (cond b (grown_state st) st)
    go true = (refl, refl, refl, refl)
    go false = (refl, refl, refl, refl)

pub record Leaves (w : World) (G : Ghosts) (name bytes : List ℕ) (w' : World) (G' : Ghosts) : Type 0 where
  pub remembers : Remembers w.state w'.state
  -- what the list was before, and what the append did to it
  pub header : Header
  pub blocks : List ℕ
  pub list : After w.memory.lists w.state.list_arena header blocks bytes w'.memory.lists
      w'.state.list_arena (G'.header name) (G'.blocks name)
  pub list_standing : Stands G name → (header ≡ G.header name) × (blocks ≡ G.blocks name)
  pub list_new : (Stands G name → ⊥) → header ≡ fresh
  pub list_clear : (j : List ℕ) → (j ≡ name → ⊥) → Stands G j → TipClear blocks (G.blocks j)
  -- the list pages' state afterwards is the dry run's
  pub list_plan : plan_of (length w.memory.lists) w.state.list_arena header (length bytes)
      ≡ some w'.state.list_arena
  -- the key pages
  pub place_kept : Stands G name → G'.place name ≡ G.place name
  pub keys_used : Stands G name → w'.state.key_arena ≡ w.state.key_arena
  pub keys_room : (Stands G name → ⊥)
      → room_for w.state.key_arena (length w.memory.keys) (length name + record_extra)
      ≡ room_at (G'.place name) w'.state.key_arena
  pub keys_above : (Stands G name → ⊥) → (used_end w.state.key_arena ≤ G'.place name)
      × (used_end w'.state.key_arena ≡ G'.place name + (length name + record_extra))
  pub keys-standing : Stands G name → (q n : ℕ) → Apart (value_place w.memory.keys (G.place name)) value_size q n
      → Kept w.memory.keys w'.memory.keys q n
  pub keys-new : (Stands G name → ⊥) → (q n : ℕ) → Apart (G'.place name) (length name + record_extra) q n
      → Kept w.memory.keys w'.memory.keys q n
  -- the table
  pub table_long : w'.state.buckets ≡ (state_grown w.state).buckets
  pub table_standing : Stands G name → grows w.state ≡ false → w'.memory.table ≡ w.memory.table
  pub table-new : (Stands G name → ⊥)
      → OneBucket (first_of (state_grown w.state)) (state_grown w.state).buckets (G'.place name)
      (murmur_hash2 w.state.seed name) (table_grown w.state w.memory.table) w'.memory.table
  pub table_is_grown : grows w.state ≡ true → (q : ℕ)
      → Outside (first_of (grown_state w.state)) (grown_length w.state.buckets) q
      → get_or w'.memory.table q 0 ≡ get_or w.memory.table q 0

-- ---- what an accepted append comes to

pub record Took (w : World) (G : Ghosts) (name bytes : List ℕ) (w' : World) : Type 0 where
  pub ghosts : Ghosts
  pub sound : Sound w' ghosts
  pub new : Stands ghosts name
  pub kept : (j : List ℕ) → Stands G j → Stands ghosts j
  pub only : (j : List ℕ) → Stands ghosts j → (j ≡ name) ⊎ Stands G j
  pub others : (j : List ℕ) → (j ≡ name → ⊥) → Stands G j → bytes_of w' ghosts j ≡ bytes_of w G j
  pub others_blocks : (j : List ℕ) → (j ≡ name → ⊥) → Stands G j → ghosts.blocks j ≡ G.blocks j
  pub stood : Stands G name → (bytes_of w' ghosts name ≡ bytes_of w G name ++ bytes) × (w'.state.keys ≡ w.state.keys)
  pub fresh_one : (Stands G name → ⊥) → (bytes_of w' ghosts name ≡ bytes) × (w'.state.keys ≡ suc w.state.keys)
  pub leaves : Leaves w G name bytes w' ghosts

-- ---- the arenas

module _ {w : World} {G : Ghosts} (S : Sound w G) where
  key_sense : Sensible w.state.key_arena (length w.memory.keys)
  key_sense = sensible_facts w.state.key_arena (length w.memory.keys) (sound-whole S).key_arena

  list_sense : Sensible w.state.list_arena (length w.memory.lists)
  list_sense = sensible_facts w.state.list_arena (length w.memory.lists) (sound-whole S).list_arena

  pub key_stands : standing w.state.key_arena (length w.memory.keys) ≡ true
  key_stands = key_sense.stands

  pub list_stands : standing w.state.list_arena (length w.memory.lists) ≡ true
  list_stands = list_sense.stands

  pub key_short : length w.memory.keys ≤ arena_limit
  key_short = sensible_short w.state.key_arena (length w.memory.keys) (sound-whole S).key_arena

  pub list_short : length w.memory.lists ≤ arena_limit
  list_short = sensible_short w.state.list_arena (length w.memory.lists) (sound-whole S).list_arena

  -- ---- the lists

  -- the lanes of the names g, where name's has become ks with the header of v, and had been ks₀ with header h
  record Lists (name bytes : List ℕ) (h : Header) (ks₀ : List ℕ) (v : Writing) (ks : List ℕ) (g : Names) : Type 0 where
    lanes : (j : List ℕ) → Member j g
        → Lane v.memory v.arena (updated G.header name v.header j) (updated G.blocks name ks j)
    apart : (j n : List ℕ) → Member j g → Member n g → (j ≡ n → ⊥)
        → BlocksApart (updated G.blocks name ks j) (updated G.blocks name ks n)
    others : (j : List ℕ) → (j ≡ name → ⊥) → Stands G j
        → content v.memory (updated G.blocks name ks j) (updated G.header name v.header j).remaining
        ≡ bytes_of w G j
    own : content v.memory (updated G.blocks name ks name) (updated G.header name v.header name).remaining
        ≡ content w.memory.lists ks₀ h.remaining ++ bytes

  module _ (name bytes : List ℕ) (h : Header) (ks₀ : List ℕ) (v : Writing) (ks : List ℕ)
      (A : After w.memory.lists w.state.list_arena h ks₀ bytes v.memory v.arena v.header ks)
      (beside : (j : List ℕ) → (j ≡ name → ⊥) → Stands G j → BlocksApart (G.blocks j) ks₀) where
    -- another lane
    moved : (j : List ℕ) → (j ≡ name → ⊥) → Stands G j
        → Lane v.memory v.arena (G.header j) (G.blocks j)
        × (content v.memory (G.blocks j) (G.header j).remaining ≡ bytes_of w G j)
    moved j f o =
        lane-moved w.memory.lists w.state.list_arena h ks₀ bytes v.memory v.arena v.header ks A
        (G.header j) (G.blocks j) (S.lanes j o)
        (apart-tip ks₀ (G.blocks j) (apart-turned (G.blocks j) ks₀ (beside j f o)))

    lists-after : (g : Names) → ((j : List ℕ) → Member j g → (j ≡ name) ⊎ Stands G j) → Lists name bytes h ks₀ v ks g
    lists-after g only = record {
      lanes = λ j n. lane j n (decide_name j name);
      apart = λ j n x y f. clear j n x y f (decide_name j name) (decide_name n name);
      others =
          λ j f o. rw (updated_other G.blocks name ks j f, updated_other G.header name v.header j f)
          (moved j f o).1;
      own =
          rw (updated-same G.blocks name ks name refl, updated-same G.header name v.header name refl)
          A.bytes;
    }
      where
        old : (j : List ℕ) → (j ≡ name → ⊥) → Member j g → Stands G j
        old j f n = ⊎_elim (λ e. absurd (f e)) (λ o. o) (only j n)

        lane : (j : List ℕ) → Member j g → Dec (j ≡ name)
            → Lane v.memory v.arena (updated G.header name v.header j) (updated G.blocks name ks j)
        lane j n (yes e) = rw (equal_same j name e) A.lane
        lane j n (no e) = rw (equal_not j name e) (moved j e (old j e n)).0

        own : (j : List ℕ) → (j ≡ name → ⊥) → Member j g → BlocksApart (G.blocks j) ks
        own j f x =
            apart-after w.memory.lists w.state.list_arena h ks₀ bytes v.memory v.arena v.header ks A
            (G.blocks j)
            (S.lanes j (old j f x)).below (beside j f (old j f x))

        clear : (j n : List ℕ) → Member j g → Member n g → (j ≡ n → ⊥) → Dec (j ≡ name) → Dec (n ≡ name)
            → BlocksApart (updated G.blocks name ks j) (updated G.blocks name ks n)
        clear j n x y f (yes p) (yes q) = absurd (f (p ∙ sym q))
        clear j n x y f (yes p) (no q) =
            rw (equal_same j name p, equal_not n name q) (apart-turned (G.blocks n) ks (own n q y))
        clear j n x y f (no p) (yes q) = rw (equal_not j name p, equal_same n name q) (own j p x)
        clear j n x y f (no p) (no q) =
            rw (equal_not j name p, equal_not n name q) (S.lanes_apart j n (old j p x) (old n q y) f)

  -- ---- an append to a standing name

  module _ (name bytes : List ℕ) (M : Stands G name) (v : Writing)
      (e : appended bytes (writing w.memory.lists w.state.list_arena (G.header name)) ≡ some v) where
    abbrev pub standing_left : World
    standing_left = record {
      state = moved_state (state_grown w.state) w.state.keys w.state.key_arena v.arena;
      memory = lent (table_grown w.state w.memory.table)
          (overwrite (value_place w.memory.keys (G.place name)) (header_bytes v.header) w.memory.keys)
          v.memory;
    }

    pub standing-after : (ks : List ℕ)
        × After w.memory.lists w.state.list_arena (G.header name) (G.blocks name) bytes v.memory
        v.arena v.header ks
    standing-after =
        lane-appended w.memory.lists w.state.list_arena (G.header name) (G.blocks name) bytes v
        (S.lanes name M) e

    abbrev standing_ghosts : Names → Ghosts
    standing_ghosts g = record {
      names = g;
      place = G.place;
      header = updated G.header name v.header;
      blocks = updated G.blocks name standing-after.0;
    }

    standing-records : (j : List ℕ) → Stands G j
        → Record (overwrite (value_place w.memory.keys (G.place name)) (header_bytes v.header) w.memory.keys)
        w.state.key_arena (G.place j) j
        (updated G.header name v.header j)
    standing-records j m = rw (record-place (S.records name M)) (go (decide_name j name))
      where
        go : Dec (j ≡ name)
            → Record (overwrite (G.place name + 2 + length name) (header_bytes v.header) w.memory.keys)
            w.state.key_arena (G.place j) j
            (updated G.header name v.header j)
        go (yes p) =
            rw (updated-same G.header name v.header j p, p)
            (record-revalued (S.records name M) key_stands v.header)
        go (no p) =
            rw (updated_other G.header name v.header j p)
            (record-kept (S.records j m) (G.place name + 2 + length name) (header_bytes v.header)
            (rw header-length
            (apart-within (G.place name) (length name + record_extra) (G.place j) (length j + record_extra)
            (G.place name + 2 + length name) value_size (G.place j)
            (length j + record_extra) (omega arith) (omega arith) (le_refl (G.place j))
            (le_refl (G.place j + (length j + record_extra)))
            (S.records_apart name j M m (λ q. p (sym q))))))

    standing-leaves : (g : Names) → Leaves w G name bytes standing_left (standing_ghosts g)
    standing-leaves g = record {
      remembers = grown-remembers w.state;
      header = G.header name;
      blocks = G.blocks name;
      list =
          rw (
            updated-same G.header name v.header name refl,
            updated-same G.blocks name standing-after.0 name refl,
          ) standing-after.1;
      list_standing = λ m. (refl, refl);
      list_new = λ f. absurd (f M);
      list_clear = λ j f m. apart-tip (G.blocks name) (G.blocks j) (S.lanes_apart name j M m (λ q. f (sym q)));
      list_plan = lane_plan w.memory.lists w.state.list_arena (G.header name) bytes ∙ ap arena_of e;
      place_kept = λ m. refl;
      keys-standing = λ m q n d.
          read-apart q n (value_place w.memory.keys (G.place name)) (header_bytes v.header) w.memory.keys
          (rw header-length d);
      keys-new = λ f q n d. absurd (f M);
      keys_used = λ m. refl;
      keys_room = λ f. absurd (f M);
      keys_above = λ f. absurd (f M);
      table_long = refl;
      table_standing = λ m b. table_stays w.state w.memory.table b;
      table-new = λ f. absurd (f M);
      table_is_grown = grown_words w.state w.memory.table;
    }

    standing-took : checked standing_left.state standing_left.memory ≡ true
        → Grew w G (state_grown w.state) (table_grown w.state w.memory.table)
        → Took w G name bytes standing_left
    standing-took whole E =
        let L = lists-after name bytes (G.header name) (G.blocks name) v standing-after.0 standing-after.1
        (λ j f m. S.lanes_apart j name m M f) E.names (λ j m. inr (E.only j m)) in
        record {
          ghosts = standing_ghosts E.names;
          sound = record {
            whole = whole;
            table = rw E.seed_is E.table;
            counted = sym E.many;
            half = E.half;
            records = λ j m. standing-records j (E.only j m);
            records_apart = λ j n x y f. S.records_apart j n (E.only j x) (E.only n y) f;
            lanes = L.lanes;
            lanes_apart = L.apart;
          };
          new = E.kept name M;
          kept = E.kept;
          only = λ j m. inr (E.only j m);
          others = L.others;
          others_blocks = λ j f m. updated_other G.blocks name standing-after.0 j f;
          stood = λ m. (L.own, refl);
          fresh_one = λ f. absurd (f M);
          leaves = standing-leaves E.names;
        }

    pub took_standing : checked standing_left.state standing_left.memory ≡ true
        → Took w G name bytes standing_left
    took_standing whole = standing-took whole (grew S)

  -- ---- an append to a new name

  module _ (name bytes : List ℕ) (M : Stands G name → ⊥) (proper : name_kind w.state (length name) ≡ Proper)
      (loose : is_crowded w.state ≡ false) (at : ℕ) (ka : Arena)
      (r : room_for w.state.key_arena (length w.memory.keys) (length name + record_extra) ≡ room_at at ka)
      (v : Writing)
      (e : appended bytes (writing w.memory.lists w.state.list_arena fresh) ≡ some v) where
    abbrev pub new-left : World
    new-left = record {
      state = moved_state (state_grown w.state) (w.state.keys + 1) ka v.arena;
      memory = lent
          (entered (first_of (state_grown w.state)) (state_grown w.state).buckets at
          (murmur_hash2 w.state.seed name)
          (table_grown w.state w.memory.table))
          (overwrite at (record_bytes name v.header) w.memory.keys) v.memory;
    }

    pub new-after : (ks : List ℕ)
        × After w.memory.lists w.state.list_arena fresh [] bytes v.memory v.arena v.header ks
    new-after =
        lane-appended w.memory.lists w.state.list_arena fresh [] bytes v
        (lane-fresh w.memory.lists w.state.list_arena list_stands list_short) e

    room : Placed w.state.key_arena (length w.memory.keys) (length name + record_extra) at ka
    room =
        room_facts w.state.key_arena (length w.memory.keys) (length name + record_extra) at ka
        (omega arith) key_stands r

    new_in : at + (length name + record_extra) ≤ length w.memory.keys
    new_in =
        room_in w.state.key_arena (length w.memory.keys) (length name + record_extra) at ka
        (omega arith) key_stands r

    new-paged : place_of ka.size at + (length name + record_extra) ≤ ka.size
    new-paged =
        rw (
          room.page_on,
          place_of_lem ka.size ka.page (ka.used - (length name + record_extra))
              (omega (arith, room.wide, room.after.in_page)),
        )
        (omega (arith, room.wide, room.after.in_page))

    -- the records that stand lie below the new one
    pub new-below : (j : List ℕ) → Stands G j → G.place j + (length j + record_extra) ≤ at
    new-below j m = omega (arith, (S.records j m).ends, room.above)

    abbrev new_ghosts : Names → Ghosts
    new_ghosts g = record {
      names = g;
      place = updated G.place name at;
      header = updated G.header name v.header;
      blocks = updated G.blocks name new-after.0;
    }

    other : (j : List ℕ) → Stands G j → j ≡ name → ⊥
    other j m q = M (subst (Stands G) q m)

    new-record : (g : Names) (j : List ℕ) → (j ≡ name) ⊎ Stands G j
        → Record (overwrite at (record_bytes name v.header) w.memory.keys) ka ((new_ghosts g).place j) j
        ((new_ghosts g).header j)
    new-record g j (inl q) =
        rw (updated-same G.place name at j q, updated-same G.header name v.header j q, q)
        (record_written w.memory.keys ka at name v.header (kind-length w.state (length name) Proper proper).0
        (kind_short w.state (length name) proper)
        (omega (arith, room.end)) new-paged new_in)
    new-record g j (inr m) =
        rw (updated_other G.place name at j (other j m), updated_other G.header name v.header j (other j m))
        (record_up (room_size w.state.key_arena (length w.memory.keys) (length name + record_extra) at ka r)
        (omega (arith, room.above, room.end))
        (record-kept (S.records j m) at (record_bytes name v.header) (inr (new-below j m))))

    new_apart : (g : Names) (j n : List ℕ) → (j ≡ name) ⊎ Stands G j → (n ≡ name) ⊎ Stands G n → (j ≡ n → ⊥)
        → RecordsApart (new_ghosts g) j n
    new_apart g j n (inl p) (inl q) f = absurd (f (p ∙ sym q))
    new_apart g j n (inl p) (inr y) f =
        rw (updated-same G.place name at j p, updated_other G.place name at n (other n y)) (inr (new-below n y))
    new_apart g j n (inr x) (inl q) f =
        rw (updated_other G.place name at j (other j x), updated-same G.place name at n q) (inl (new-below j x))
    new_apart g j n (inr x) (inr y) f =
        rw (updated_other G.place name at j (other j x), updated_other G.place name at n (other n y))
        (S.records_apart j n x y f)

    -- its bucket, in the table as it stands after any growth
    abbrev EnteredAt : ℕ → Type 0
    EnteredAt x =
        let hash : ℕ = murmur_hash2 w.state.seed name in
        let t : List ℕ = table_grown w.state w.memory.table in
        OneBucket (first_of (state_grown w.state)) (state_grown w.state).buckets x hash t
        (entered (first_of (state_grown w.state)) (state_grown w.state).buckets x hash t)

    new-leaves : (g : Names) → EnteredAt at → Leaves w G name bytes new-left (new_ghosts g)
    new-leaves g one = record {
      remembers = grown-remembers w.state;
      header = fresh;
      blocks = [];
      list =
          rw (
            updated-same G.header name v.header name refl,
            updated-same G.blocks name new-after.0 name refl,
          ) new-after.1;
      list_standing = λ m. absurd (M m);
      list_new = λ f. refl;
      list_clear = λ j f m. tt;
      list_plan = lane_plan w.memory.lists w.state.list_arena fresh bytes ∙ ap arena_of e;
      place_kept = λ m. absurd (M m);
      keys-standing = λ m q n d. absurd (M m);
      keys-new = λ f q n d.
          read-apart q n at (record_bytes name v.header) w.memory.keys
          (rw (length-record name v.header) (rw (updated-same G.place name at name refl) at d));
      keys_used = λ m. absurd (M m);
      keys_room = λ f. rw (updated-same G.place name at name refl) r;
      keys_above = λ f. rw (updated-same G.place name at name refl) (room.above, room.end);
      table_long = refl;
      table_standing = λ m b. absurd (M m);
      table-new = λ f. rw (updated-same G.place name at name refl) one;
      table_is_grown = grown-entered_words w.state w.memory.table at (murmur_hash2 w.state.seed name);
    }

    new-took : checked new-left.state new-left.memory ≡ true
        → Grew w G (state_grown w.state) (table_grown w.state w.memory.table)
        → Took w G name bytes new-left
    new-took whole E =
        let T = table_readdressed E.table (updated G.place name at)
        (λ k m. updated_other G.place name at k (other k (E.only k m))) in
        let a : updated G.place name at name ≡ at = updated-same G.place name at name refl in
        let N = enters T name (λ m. M (E.only name m)) (omega (arith, E.room loose, E.many))
        (λ q. omega (arith, a, new_in, key_short)) in
        let only : (j : List ℕ) → Member j N.0
        → (j ≡ name) ⊎ Stands G j = λ j m. ⊎_elim (λ q. inl q) (λ o. inr (E.only j o)) (N.1.only j m) in
        let L = lists-after name bytes fresh [] v new-after.0 new-after.1 (λ j f m. apart_none (G.blocks j))
        N.0 only in
        record {
          ghosts = new_ghosts N.0;
          sound = record {
            whole = whole;
            table =
                rw E.seed_is
                (subst (λ (x : ℕ). Table
                (entered (first_of (state_grown w.state)) (state_grown w.state).buckets x
                (murmur_hash2 w.state.seed name)
                (table_grown w.state w.memory.table))
                (first_of (state_grown w.state)) (state_grown w.state).buckets (murmur_hash2 w.state.seed)
                (updated G.place name at) N.0)
                a N.1.table);
            counted = omega (arith, N.1.more, E.many);
            half = omega (arith, E.room loose);
            records = λ j m. new-record N.0 j (only j m);
            records_apart = λ j n x y f. new_apart N.0 j n (only j x) (only n y) f;
            lanes = L.lanes;
            lanes_apart = L.apart;
          };
          new = N.1.new;
          kept = λ j m. N.1.kept j (E.kept j m);
          only = only;
          others = L.others;
          others_blocks = λ j f m. updated_other G.blocks name new-after.0 j f;
          stood = λ m. absurd (M m);
          fresh_one = λ f. (L.own, omega arith);
          leaves = new-leaves N.0 (subst EnteredAt a N.1.one);
        }

    pub took_new : checked new-left.state new-left.memory ≡ true → Took w G name bytes new-left
    took_new whole = new-took whole (grew S)
