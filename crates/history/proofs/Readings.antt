-- What the calls that change nothing answer in a sound store: of a name that stands its bytes, of any other that it is
-- absent. Assumes nothing.
use Prim.Native.Nat.{ℕ, zero, suc, ◌≤◌, ◌<◌}
use mathlib.Core.Path.{◌≡◌, refl, sym, ap, ◌∙◌, subst}
use mathlib.Core.Logic.{⊎_elim}
use mathlib.Core.Bool.{Bool, true, false, cond}
use mathlib.Core.Option.{Option, none, some}
use mathlib.Core.List.{List, ◌++◌}
use native.Mathlib.Nat.{le_refl}
use native.Mathlib.Omega.{arith}
use lib.Dec.{leb}
use lib.ListN.{length}
use borrow.Author.Tests.{le-leb, lt-leb}
use Rattle.numbers.proofs.Tests.{both_true}
use Rattle.spans.specs.Span.{read_span, overwrite}
use Rattle.shared_arena_hashmap.specs.declared.Met.TheVariants.{Empty, Standing, Lap}
use Rattle.expull_header.specs.declared.Header.{Header}
use Rattle.expull_walk.specs.declared.Block.{Block as BlockFound}
use Rattle.std.specs.Prelude.{Option as Maybe, Result, Ok, None}
use Rattle.limits.specs.declared.Refusal.{Refusal}
use Rattle.expull_header.specs.Header.{lane_length, block_count}
use Rattle.expull_walk.specs.Blocks.{lane_bytes, good_blocks, block_place, block_length, block_of}
use Rattle.store_state.specs.declared.State.{State}
use Rattle.store_state.specs.declared.Name.{Name}
use Rattle.store_state.specs.declared.Name.TheVariants.{TooLong, Nameless, Proper}
use Rattle.store_look.specs.declared.Lookup.{Lookup}
use Rattle.store_look.specs.declared.Lookup.TheVariants.{At, Missing}
use Rattle.store_look.specs.declared.Answer.TheVariants.{Found, Refused}
use Rattle.store_look.specs.declared.Outcome.TheVariants.{Length, Reading, Block, NoSuchBlock}
use Rattle.store_state.specs.Name.{name_limit_of, name_kind}
use Rattle.records.specs.Record.{header_of}
use Rattle.store_look.specs.Look.{Lent, lookup_of, on_lookup, on_lookup_read, length_at, length_of, reading, read_at}
use Rattle.store_look.specs.Look.{read_of, on_block, block_at, find_block_of, blocks_sound}
use Rattle.store_state.proofs.Guard.{kind-length}
use Rattle.records.proofs.Laws.{Headed}
use Rattle.store_look.proofs.Found.{lookup-nameless, lookup-met, length_found, length-at, read-on, read_at_lem}
use Rattle.store_look.proofs.Found.{block_found, block_at_lem, show_part}
use Rattle.history_lanes.specs.Lane.{Lane, pieces}
use Rattle.history_lanes.proofs.Readings.{lane-blocks, lane_reads, lane-length, lane_block, lane_no_block}
use Rattle.history_lanes.proofs.Readings.{lane-pieces, lane-piece}
use Rattle.history.specs.History.{World}
use Rattle.history.specs.Promises.{shown_of, shown_blocks, blocks_for, ReadsBack, ReadsAbsent, ReadsAs}
use Rattle.history.specs.Sound.{Ghosts, Stands, Sound, bytes_of}
use Rattle.history.proofs.Records.{record_proper, record_key}
use Rattle.history.proofs.Shape.{lane-blocks_for, lane-room_for}
use Rattle.history.proofs.Answers.{fits, header_is, header_fine, walk_finds, walk-misses}
use Rattle.history.proofs.Told.{Says}

module _ {w : World} {G : Ghosts} (S : Sound w G) (name : List ℕ) where
  abbrev st : State
  st = w.state

  abbrev m : Lent
  m = w.memory

  -- ---- a name that stands

  module _ (M : Stands G name) where
    abbrev at : ℕ
    at = G.place name

    abbrev h : Header
    h = G.header name

    abbrev bs : List ℕ
    bs = bytes_of w G name

    lane : Lane m.lists st.list_arena h (G.blocks name)
    lane = S.lanes name M

    pub lookup_finds : lookup_of st m name ≡ At at
    lookup_finds =
        lookup-met st m name (Standing at) S.whole (record_proper (S.records name M) st refl) (walk_finds S name M)

    headed : Headed m.keys at h
    headed = record { sound = header_fine S name M; is = sym (header_is S name M); ends = (fits S name M).sound }

    long : lane_length h ≡ length bs
    long = lane-length m.lists st.list_arena h (G.blocks name) lane

    bytes : lane_bytes m.lists h ≡ bs
    bytes = lane_reads m.lists st.list_arena h (G.blocks name) lane

    long_there : lane_length (header_of m.keys at) ≡ length bs
    long_there = ap lane_length (header_is S name M) ∙ long

    -- a reading, by the output's length
    reads_at : (output : List ℕ) (b : Bool) → leb (lane_length h) (length output) ≡ b
        → read_of st m name output
        ≡ cond b (reading (Found (Reading (length bs))) (overwrite 0 bs output))
        (reading (Refused 8 (length bs)) output)
    reads_at output b e =
        sym (read_at_lem st m name output at lookup_finds)
        ∙ read-on st m at output h headed
        (lane-blocks m.lists st.list_arena h (G.blocks name) lane (block_count h) (le_refl (block_count h)))
        ∙ (λ i. cond (e i) (reading (Found (Reading (long i))) (overwrite 0 (bytes i) output))
        (reading (Refused 8 (long i)) output))

    -- a block
    block_said : (i : ℕ) (b : Result (Maybe BlockFound) Refusal) → block_of st.list_arena m.lists h i ≡ b
        → find_block_of st m name i ≡ on_block b
    block_said i b e = sym (block_at_lem st m name i at lookup_finds) ∙ block_found st m i at h headed ∙ ap on_block e

    pub block_there : (i : ℕ) → i < block_count h
        → find_block_of st m name i ≡ Found (Block (block_place m.lists h.head i) (block_length h i))
    block_there i l = block_said i _ (lane_block m.lists st.list_arena h (G.blocks name) lane i l).told

    pub block_past : (i : ℕ) → block_count h ≤ i → find_block_of st m name i ≡ Found NoSuchBlock
    block_past i l = block_said i (Ok None) (lane_no_block m.lists st.list_arena h i l)

    shown_block : (k : ℕ) → k < block_count h
        → shown_of w (find_block_of st m name k)
        ≡ read_span (block_place m.lists h.head k) (block_length h k) m.lists
    shown_block k l =
        ap (shown_of w) (block_there k l)
        ∙ show_part st m (block_place m.lists h.head k) (block_length h k) S.whole
        (lane_block m.lists st.list_arena h (G.blocks name) lane k l).good

    shown : (k : ℕ) → k ≤ block_count h → shown_blocks w name k ≡ pieces m.lists h k
    unfolding shown_blocks
    shown zero l = refl
    shown (suc k) l = λ i. shown k (omega arith) i ++ shown_block k l i

    blocks-good : blocks_sound st m at ≡ true
    unfolding blocks_sound
    blocks-good =
        both_true _ _ (header_fine S name M)
        (ap (λ (h : Header). good_blocks st.list_arena m.lists h.head (block_count h)) (header_is S name M)
        ∙ lane-blocks m.lists st.list_arena h (G.blocks name) lane (block_count h) (le_refl (block_count h)))

    count : block_count h ≡ blocks_for (length bs)
    count = lane-blocks_for m.lists st.list_arena h (G.blocks name) lane

    pub reads_standing : ReadsBack w name bs
    reads_standing = record {
      place = at;
      found = lookup_finds;
      named = record_key (S.records name M);
      read = λ output l. reads_at output true (le-leb (lane_length h) (length output) (omega (arith, long)));
      unread = λ output l. reads_at output false (lt-leb (lane_length h) (length output) (omega (arith, long)));
      measured =
          sym (length-at st m name at lookup_finds) ∙ length_found m.keys at h headed
          ∙ ap (λ (n : ℕ). Found (Length n)) long;
      block = λ i l. (block_place m.lists h.head i, block_length h i, block_there i (omega (arith, count)));
      blocks =
          ap (shown_blocks w name) (sym count) ∙ shown (block_count h) (le_refl (block_count h))
          ∙ lane-pieces m.lists st.list_arena h (G.blocks name) lane;
      piece = λ i l.
          shown_block i (omega (arith, count))
          ∙ lane-piece m.lists st.list_arena h (G.blocks name) lane i (omega (arith, count));
      no_block = λ i l. block_past i (omega (arith, count));
      blocks-good = blocks-good;
      blocks_hold = ap (lane_bytes m.lists) (header_is S name M) ∙ bytes;
      length_rule = long_there;
      blocks_few = rw (header_is S name M) (omega (arith, (fits S name M).few));
      room_bound = lane-room_for m.lists st.list_arena h (G.blocks name) lane;
    }

  -- ---- any other

  module _ (short : length name ≤ name_limit_of st) (M : Stands G name → ⊥) where
    unlooked : lookup_of st m name ≡ Missing
    unlooked = go (name_kind st (length name)) refl
      where
        go : (k : Name) → name_kind st (length name) ≡ k → lookup_of st m name ≡ Missing
        go TooLong e = absurd (omega (arith, kind-length st (length name) TooLong e))
        go Nameless e = lookup-nameless st m name S.whole e
        go Proper e =
            ⊎_elim (λ f. lookup-met st m name Empty S.whole e f) (λ f. lookup-met st m name Lap S.whole e f.0)
            (walk-misses S name M)

    pub reads_absent : ReadsAbsent w name
    unfolding read_of length_of find_block_of
    reads_absent = record {
      missed = unlooked;
      unread = λ output. ap (λ (l : Lookup). on_lookup_read l (λ at. read_at st m at output) output) unlooked;
      unmeasured = ap (λ (l : Lookup). on_lookup l (length_at m.keys)) unlooked;
      no_block = λ i. ap (λ (l : Lookup). on_lookup l (block_at st m i)) unlooked;
    }

  pub reads_as : length name ≤ name_limit_of st → (o : Option (List ℕ)) → Says w G name o → ReadsAs w name o
  reads_as short none s = reads_absent short s
  reads_as short (some bs) s = subst (ReadsBack w name) s.1 (reads_standing s.0)
