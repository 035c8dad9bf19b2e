-- An accepted append to a memory that lies as `Laid` says leaves one that does so too. Assumes nothing.
use Prim.Native.Nat.{ℕ, ◌+◌, ◌-◌, ◌≤◌, ◌<◌}
use mathlib.Core.Path.{◌≡◌, refl, sym, ap, ◌∙◌, subst}
use mathlib.Core.Logic.{◌⊎◌, inl, inr, ⊎_elim}
use mathlib.Core.Bool.{true, false}
use mathlib.Core.Option.{some}
use mathlib.Core.List.{List, []}
use native.Mathlib.Nat.{le_refl}
use native.Mathlib.Omega.{arith}
use lib.ListN.{length}
use Rattle.limits.specs.Limits.{arena_limit, name_limit, record_extra, value_size}
use Rattle.fastcmp.proofs.Laws.{equal_same, equal_not}
use Rattle.spans.specs.Span.{overwrite, Apart}
use Rattle.spans.proofs.Laws.{length-overwrite}
use Rattle.murmurhash2.specs.Murmur.{murmur_hash2}
use Rattle.memory_arena.specs.declared.Arena.{Arena}
use Rattle.memory_arena.specs.Address.{place_of}
use Rattle.memory_arena.specs.Pages.{room_at, standing, room_for, good_span}
use Rattle.memory_arena.proofs.Laws.{place_of_lem, Placed, room_size, room_facts, room_in, standing_made, Sensible}
use Rattle.memory_arena.proofs.Laws.{sensible_facts, sensible_short, good-end}
use Rattle.numbers.proofs.Tests.{both}
use Rattle.records.specs.Record.{key_length, key_at, good_record, value_place, header_of, header_sound, record_bytes}
use Rattle.shared_arena_hashmap.specs.Grow.{entered}
use Rattle.records.proofs.Laws.{good-record-in}
use Rattle.expull_header.specs.declared.Header.{Header}
use Rattle.expull_header.specs.Header.{fresh, header_bytes}
use Rattle.expull_append.specs.Append.{Writing, writing, appended}
use Rattle.expull_header.proofs.Laws.{header-length}
use Rattle.store_state.specs.declared.State.{State}
use Rattle.store_state.specs.State.{first_of}
use Rattle.store_look.specs.Look.{Lent, lent, checked}
use Rattle.store_append.specs.Append.{is_crowded, state_grown, table_grown, moved_state}
use Rattle.store_state.proofs.Whole.{Whole, whole_facts}
use Rattle.history_lanes.specs.Lane.{HeaderFits}
use Rattle.history_lanes.proofs.Blocks.{apart-within}
use Rattle.history_names.specs.Table.{Names, Member, Table}
use Rattle.history_names.proofs.Lookup.{decide_name}
use Rattle.history_names.proofs.Enter.{enters}
use Rattle.history_names.proofs.Grow.{table_readdressed}
use Rattle.history.specs.Sound.{Record, BlocksApart}
use Rattle.history.proofs.Apart.{apart_none, apart-turned}
use Rattle.history.proofs.Kept.{updated}
use Rattle.history.proofs.Records.{record_key, record-good, record-header, record-sound, record_written}
use Rattle.brownout_kept.specs.Laid.{Chain, Ghosts, Stands, Laid}
use Rattle.brownout_kept.proofs.Chain.{Step, chain-fresh, chain-appended}
use Rattle.brownout_kept.proofs.Packed.{chain-header}
use Rattle.brownout_kept.proofs.Beside.{chain-moved, apart-moved}
use Rattle.brownout_kept.proofs.Fine.{laid-length}
use Rattle.brownout_kept.proofs.Grown.{Grew, grew}
use Rattle.brownout_kept.proofs.Records.{record-on, key_kept, good-kept, header-kept, sound-kept}
use Rattle.brownout_kept.proofs.Records.{spares, header-new, sound-new}

-- what an append leaves: the names, how they lie, and areas as long as before
pub record Leaves (m : Lent) (st' : State) (m' : Lent) : Type 0 where
  pub ghosts : Ghosts
  pub laid : Laid st' m' ghosts
  pub key_length_lem : length m'.keys ≡ length m.keys
  pub list_length : length m'.lists ≡ length m.lists

updated-same : {A : Type 0} (f : List ℕ → A) (k : List ℕ) (x : A) (j : List ℕ) → j ≡ k → updated f k x j ≡ x
updated-same f k x j e = rw (equal_same j k e)

updated_other : {A : Type 0} (f : List ℕ → A) (k : List ℕ) (x : A) (j : List ℕ) → (j ≡ k → ⊥) → updated f k x j ≡ f j
updated_other f k x j e = rw (equal_not j k e)

module _ {st : State} {m : Lent} {G : Ghosts} (S : Laid st m G) where
  whole : Whole st (length m.table) (length m.keys) (length m.lists)
  whole = whole_facts st (length m.table) (length m.keys) (length m.lists) S.whole

  key_sense : Sensible st.key_arena (length m.keys)
  key_sense = sensible_facts st.key_arena (length m.keys) whole.key_arena

  list_sense : Sensible st.list_arena (length m.lists)
  list_sense = sensible_facts st.list_arena (length m.lists) whole.list_arena

  abbrev head : List ℕ → Header
  head k = header_of m.keys (G.place k)

  record-in : (k : List ℕ) → Stands G k → G.place k + (length k + record_extra) ≤ length m.keys
  record-in k M =
      omega (
        arith,
        laid-length S k M,
        good-record-in st.key_arena m.keys (G.place k) whole.key_arena (S.good k M),
      )

  -- ---- the lists, where name's had become ks with the header of v, and had been ks₀

  record Lists (name : List ℕ) (v : Writing) (ks : List ℕ) (g : Names) : Type 0 where
    chains : (j : List ℕ) → Member j g
        → Chain v.memory v.arena (updated head name v.header j) (updated G.blocks name ks j)
    apart : (j n : List ℕ) → Member j g → Member n g → (j ≡ n → ⊥)
        → BlocksApart (updated G.blocks name ks j) (updated G.blocks name ks n)

  module _ (name ks₀ : List ℕ) (v : Writing) (ks : List ℕ) (L : Chain v.memory v.arena v.header ks)
      (P : Step m.lists st.list_arena ks₀ v.memory v.arena ks)
      (beside : (j : List ℕ) → (j ≡ name → ⊥) → Stands G j → BlocksApart (G.blocks j) ks₀) where
    lists-after : (g : Names) → ((j : List ℕ) → Member j g → (j ≡ name) ⊎ Stands G j) → Lists name v ks g
    lists-after g only = record {
      chains = λ j n. chain j n (decide_name j name);
      apart = λ j n x y f. clear j n x y f (decide_name j name) (decide_name n name);
    }
      where
        old : (j : List ℕ) → (j ≡ name → ⊥) → Member j g → Stands G j
        old j f n = ⊎_elim (λ e. absurd (f e)) (λ o. o) (only j n)

        chain : (j : List ℕ) → Member j g → Dec (j ≡ name)
            → Chain v.memory v.arena (updated head name v.header j) (updated G.blocks name ks j)
        chain j n (yes e) = rw (equal_same j name e) L
        chain j n (no e) =
            rw (equal_not j name e) (chain-moved P L (S.chain j (old j e n)) (beside j e (old j e n)))

        own : (j : List ℕ) → (j ≡ name → ⊥) → Member j g → BlocksApart (G.blocks j) ks
        own j f x = apart-moved P (G.blocks j) (S.chain j (old j f x)).below (beside j f (old j f x))

        clear : (j n : List ℕ) → Member j g → Member n g → (j ≡ n → ⊥) → Dec (j ≡ name) → Dec (n ≡ name)
            → BlocksApart (updated G.blocks name ks j) (updated G.blocks name ks n)
        clear j n x y f (yes p) (yes q) = absurd (f (p ∙ sym q))
        clear j n x y f (yes p) (no q) =
            rw (equal_same j name p, equal_not n name q) (apart-turned (G.blocks n) ks (own n q y))
        clear j n x y f (no p) (yes q) = rw (equal_not j name p, equal_same n name q) (own j p x)
        clear j n x y f (no p) (no q) =
            rw (equal_not j name p, equal_not n name q) (S.chains_apart j n (old j p x) (old n q y) f)

  -- ---- an append to a standing name

  module _ (name bytes : List ℕ) (M : Stands G name) (v : Writing)
      (e : appended bytes (writing m.lists st.list_arena (head name)) ≡ some v) where
    abbrev keys : List ℕ
    keys = overwrite (value_place m.keys (G.place name)) (header_bytes v.header) m.keys

    abbrev pub standing_memory : Lent
    standing_memory = lent (table_grown st m.table) keys v.memory

    abbrev pub standing_state : State
    standing_state = moved_state (state_grown st) st.keys st.key_arena v.arena

    left : (ks : List ℕ) × Chain v.memory v.arena v.header ks
        × Step m.lists st.list_arena (G.blocks name) v.memory v.arena ks
    left =
        chain-appended bytes (writing m.lists st.list_arena (head name)) (G.blocks name) (S.chain name M) v e

    fits : HeaderFits v.header
    fits = chain-header v.memory v.arena v.header left.0 left.1

    value_in : value_place m.keys (G.place name) + value_size ≤ length m.keys
    unfolding value_place
    value_in = omega (arith, laid-length S name M, record-in name M)

    is : (j : List ℕ) → Stands G j → key_length m.keys (G.place j) ≡ length j
    is j N = laid-length S j N

    -- the write lies in name's record, behind the name
    spared : (j : List ℕ) (N : Stands G j) → (j ≡ name → ⊥)
        → Apart (value_place m.keys (G.place name)) (length (header_bytes v.header)) (G.place j)
        (length j + record_extra)
    unfolding value_place
    spared j N f =
        apart-within (G.place name) (length name + record_extra) (G.place j) (length j + record_extra)
        (G.place name + 2 + key_length m.keys (G.place name)) (length (header_bytes v.header)) (G.place j)
        (length j + record_extra)
        (omega arith) (omega (arith, is name M, header-length v.header)) (le_refl (G.place j))
        (le_refl (G.place j + (length j + record_extra))) (S.records_apart name j M N (λ q. f (sym q)))

    front : (j : List ℕ) → Stands G j
        → Apart (value_place m.keys (G.place name)) (length (header_bytes v.header)) (G.place j) (2 + length j)
    front j N = go (decide_name j name)
      where
        go : Dec (j ≡ name)
            → Apart (value_place m.keys (G.place name)) (length (header_bytes v.header)) (G.place j)
            (2 + length j)
        go (yes p) =
            subst (λ (n : List ℕ).
            Apart (value_place m.keys (G.place name)) (length (header_bytes v.header)) (G.place n) (2 + length n))
            (sym p) (spares m.keys (G.place name) name (is name M) v.header fits value_in)
        go (no p) =
            apart-within (value_place m.keys (G.place name)) (length (header_bytes v.header)) (G.place j)
            (length j + record_extra) (value_place m.keys (G.place name)) (length (header_bytes v.header))
            (G.place j) (2 + length j) (le_refl _) (le_refl _) (le_refl _) (omega arith) (spared j N p)

    headed : (j : List ℕ) → Stands G j → header_of keys (G.place j) ≡ updated head name v.header j
    headed j N = go (decide_name j name)
      where
        go : Dec (j ≡ name) → header_of keys (G.place j) ≡ updated head name v.header j
        go (yes p) =
            ap (λ (n : List ℕ). header_of keys (G.place n)) p
            ∙ header-new m.keys (G.place name) name (is name M) v.header fits value_in
            ∙ sym (updated-same head name v.header j p)
        go (no p) =
            header-kept m.keys (G.place j) j (is j N) (value_place m.keys (G.place name))
            (header_bytes v.header) (spared j N p)
            ∙ sym (updated_other head name v.header j p)

    header-sound : (j : List ℕ) → Stands G j → header_sound keys (G.place j) ≡ true
    header-sound j N = go (decide_name j name)
      where
        go : Dec (j ≡ name) → header_sound keys (G.place j) ≡ true
        go (yes p) =
            ap (λ (n : List ℕ). header_sound keys (G.place n)) p
            ∙ sound-new m.keys (G.place name) name (is name M) v.header fits value_in
        go (no p) =
            sound-kept m.keys (G.place j) j (is j N) (value_place m.keys (G.place name))
            (header_bytes v.header) (spared j N p)
            ∙ S.header j N

    standing-laid : checked standing_state standing_memory ≡ true
        → Grew st m G (state_grown st) (table_grown st m.table)
        → (G' : Ghosts) × Laid standing_state standing_memory G'
    standing-laid W E =
        let L = lists-after name (G.blocks name) v left.0 left.1 left.2
        (λ j f N. S.chains_apart j name N M f) E.names (λ j N. inr (E.only j N)) in (
          record { names = E.names; place = G.place; blocks = updated G.blocks name left.0 },
          record {
            whole = W;
            table = rw E.seed_is E.table;
            counted = sym E.many;
            good = λ j N. let O = E.only j N in
                good-kept m.keys (G.place j) j (is j O) (value_place m.keys (G.place name))
                (header_bytes v.header) (front j O) st.key_arena
                ∙ S.good j O;
            key = λ j N. let O = E.only j N in
                key_kept m.keys (G.place j) j (is j O) (value_place m.keys (G.place name))
                (header_bytes v.header) (front j O)
                ∙ S.key j O;
            named = λ j N. S.named j (E.only j N);
            header = λ j N. header-sound j (E.only j N);
            records_apart = λ j n N O f. S.records_apart j n (E.only j N) (E.only n O) f;
            chain = λ j N. rw (headed j (E.only j N)) (L.chains j N);
            chains_apart = L.apart;
          },
        )

    pub took_standing : checked standing_state standing_memory ≡ true → Leaves m standing_state standing_memory
    took_standing W =
        let L = standing-laid W (grew S) in
        record {
          ghosts = L.0;
          laid = L.1;
          key_length_lem =
              length-overwrite (value_place m.keys (G.place name)) (header_bytes v.header) m.keys;
          list_length = left.2.len;
        }

  -- ---- an append to a new name

  module _ (name bytes : List ℕ) (M : Stands G name → ⊥) (short : length name ≤ name_limit) (some_byte : 0 < length name)
      (loose : is_crowded st ≡ false) (at : ℕ) (ka : Arena)
      (r : room_for st.key_arena (length m.keys) (length name + record_extra) ≡ room_at at ka) (v : Writing)
      (e : appended bytes (writing m.lists st.list_arena fresh) ≡ some v) where
    abbrev keys' : List ℕ
    keys' = overwrite at (record_bytes name v.header) m.keys

    abbrev pub new_state : State
    new_state = moved_state (state_grown st) (st.keys + 1) ka v.arena

    abbrev pub new_memory : Lent
    new_memory =
        lent (entered (first_of (state_grown st)) (state_grown st).buckets at (murmur_hash2 st.seed name)
        (table_grown st m.table)) keys' v.memory

    new-left : (ks : List ℕ) × Chain v.memory v.arena v.header ks
        × Step m.lists st.list_arena [] v.memory v.arena ks
    new-left =
        chain-appended bytes (writing m.lists st.list_arena fresh) []
        (chain-fresh m.lists st.list_arena list_sense.stands
        (sensible_short st.list_arena (length m.lists) whole.list_arena)) v e

    new-fits : HeaderFits v.header
    new-fits = chain-header v.memory v.arena v.header new-left.0 new-left.1

    room : Placed st.key_arena (length m.keys) (length name + record_extra) at ka
    room =
        room_facts st.key_arena (length m.keys) (length name + record_extra) at ka (omega arith)
        key_sense.stands r

    new_in : at + (length name + record_extra) ≤ length m.keys
    new_in =
        room_in st.key_arena (length m.keys) (length name + record_extra) at ka (omega arith)
        key_sense.stands r

    new-paged : place_of ka.size at + (length name + record_extra) ≤ ka.size
    new-paged =
        rw (
          room.page_on,
          place_of_lem ka.size ka.page (ka.used - (length name + record_extra))
              (omega (arith, room.wide, room.after.in_page)),
        )
        (omega (arith, room.wide, room.after.in_page))

    ka_stands : standing ka (length m.keys) ≡ true
    ka_stands = standing_made ka (length m.keys) room.after

    same_size : length keys' ≡ length m.keys
    same_size = length-overwrite at (record_bytes name v.header) m.keys

    -- the records that stand lie below the new one
    new-below : (j : List ℕ) → Stands G j → G.place j + (length j + record_extra) ≤ at
    unfolding good_record
    new-below j N =
        let g = (both (good_span st.key_arena (G.place j) 2) _ (S.good j N)).1 in
        omega (
          arith,
          laid-length S j N,
          good-end st.key_arena (G.place j) (key_length m.keys (G.place j) + record_extra)
              (length m.keys) key_sense.stands g,
          room.above,
        )

    beyond : (j : List ℕ) → Stands G j
        → Apart at (length (record_bytes name v.header)) (G.place j) (length j + record_extra)
    beyond j N = inr (new-below j N)

    beyond_front : (j : List ℕ) → Stands G j
        → Apart at (length (record_bytes name v.header)) (G.place j) (2 + length j)
    beyond_front j N = inr (omega (arith, new-below j N))

    other : (j : List ℕ) → Stands G j → j ≡ name → ⊥
    other j N q = M (subst (Stands G) q N)

    abbrev place' : List ℕ → ℕ
    place' = updated G.place name at

    place-new : (j : List ℕ) → j ≡ name → place' j ≡ at
    place-new j q = updated-same G.place name at j q

    place-old : (j : List ℕ) → Stands G j → place' j ≡ G.place j
    place-old j N = updated_other G.place name at j (other j N)

    written : Record keys' ka at name v.header
    written =
        record_written m.keys ka at name v.header some_byte short (omega (arith, room.end)) new-paged new_in

    stands' : standing ka (length keys') ≡ true
    stands' = rw same_size ka_stands

    new-good : (j : List ℕ) → (j ≡ name) ⊎ Stands G j → good_record ka keys' (place' j) ≡ true
    new-good j (inl q) = rw (place-new j q) (record-good written stands')
    new-good j (inr N) =
        rw (place-old j N)
        (good-kept m.keys (G.place j) j (laid-length S j N) at (record_bytes name v.header) (beyond_front j N) ka
        ∙ record-on st.key_arena ka m.keys (G.place j)
        (room_size st.key_arena (length m.keys) (length name + record_extra) at ka r) key_sense.stands
        ka_stands
        (omega (arith, room.above, room.end)) (S.good j N))

    new_key : (j : List ℕ) → (j ≡ name) ⊎ Stands G j → key_at keys' (place' j) ≡ j
    new_key j (inl q) = rw (place-new j q) (record_key written ∙ sym q)
    new_key j (inr N) =
        rw (place-old j N)
        (key_kept m.keys (G.place j) j (laid-length S j N) at (record_bytes name v.header) (beyond_front j N)
        ∙ S.key j N)

    new-headed : (j : List ℕ) → (j ≡ name) ⊎ Stands G j → header_of keys' (place' j) ≡ updated head name v.header j
    new-headed j (inl q) =
        ap (header_of keys') (place-new j q) ∙ record-header written stands' new-fits
        ∙ sym (updated-same head name v.header j q)
    new-headed j (inr N) =
        ap (header_of keys') (place-old j N)
        ∙ header-kept m.keys (G.place j) j (laid-length S j N) at (record_bytes name v.header) (beyond j N)
        ∙ sym (updated_other head name v.header j (other j N))

    new-sound : (j : List ℕ) → (j ≡ name) ⊎ Stands G j → header_sound keys' (place' j) ≡ true
    new-sound j (inl q) = ap (header_sound keys') (place-new j q) ∙ record-sound written stands' new-fits
    new-sound j (inr N) =
        ap (header_sound keys') (place-old j N)
        ∙ sound-kept m.keys (G.place j) j (laid-length S j N) at (record_bytes name v.header) (beyond j N)
        ∙ S.header j N

    new-named : (j : List ℕ) → (j ≡ name) ⊎ Stands G j → 0 < length j
    new-named j (inl q) = rw q some_byte
    new-named j (inr N) = S.named j N

    new_apart : (j n : List ℕ) → (j ≡ name) ⊎ Stands G j → (n ≡ name) ⊎ Stands G n → (j ≡ n → ⊥)
        → Apart (place' j) (length j + record_extra) (place' n) (length n + record_extra)
    new_apart j n (inl p) (inl q) f = absurd (f (p ∙ sym q))
    new_apart j n (inl p) (inr y) f = rw (place-new j p, place-old n y) (inr (new-below n y))
    new_apart j n (inr x) (inl q) f = rw (place-old j x, place-new n q) (inl (new-below j x))
    new_apart j n (inr x) (inr y) f = rw (place-old j x, place-old n y) (S.records_apart j n x y f)

    new-laid : checked new_state new_memory ≡ true → Grew st m G (state_grown st) (table_grown st m.table)
        → (G' : Ghosts) × Laid new_state new_memory G'
    new-laid W E =
        let T = table_readdressed E.table place' (λ k N. place-old k (E.only k N)) in
        let a : place' name ≡ at = place-new name refl in
        let s : length m.keys ≤ arena_limit =
        sensible_short st.key_arena (length m.keys) whole.key_arena in
        let N = enters T name (λ n. M (E.only name n)) (omega (arith, E.room loose, E.many))
        (λ q. omega (arith, a, new_in, s)) in
        let only : (j : List ℕ) → Member j N.0 → (j ≡ name) ⊎ Stands G j =
        λ j n. ⊎_elim (λ q. inl q) (λ o. inr (E.only j o)) (N.1.only j n) in
        let L = lists-after name [] v new-left.0 new-left.1 new-left.2 (λ j f n. apart_none (G.blocks j))
        N.0 only in (
          record { names = N.0; place = place'; blocks = updated G.blocks name new-left.0 },
          record {
            whole = W;
            table =
                rw E.seed_is
                (subst (λ (x : ℕ). Table
                (entered (first_of (state_grown st)) (state_grown st).buckets x (murmur_hash2 st.seed name)
                (table_grown st m.table))
                (first_of (state_grown st)) (state_grown st).buckets (murmur_hash2 st.seed) place' N.0)
                a N.1.table);
            counted = omega (arith, N.1.more, E.many);
            good = λ j n. new-good j (only j n);
            key = λ j n. new_key j (only j n);
            named = λ j n. new-named j (only j n);
            header = λ j n. new-sound j (only j n);
            records_apart = λ j n x y f. new_apart j n (only j x) (only n y) f;
            chain = λ j n. rw (new-headed j (only j n)) (L.chains j n);
            chains_apart = L.apart;
          },
        )

    pub took_new : checked new_state new_memory ≡ true → Leaves m new_state new_memory
    took_new W =
        let L = new-laid W (grew S) in
        record { ghosts = L.0; laid = L.1; key_length_lem = same_size; list_length = new-left.2.len }
