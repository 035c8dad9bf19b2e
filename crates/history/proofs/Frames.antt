-- What an accepted append to a sound store leaves alone. Assumes nothing.
use Prim.Native.Nat.{ℕ, ◌+◌, ◌*◌, ◌≤◌, ◌<◌}
use mathlib.Core.Path.{◌≡◌, refl, sym, ap, ◌∙◌, subst}
use mathlib.Core.Logic.{◌⊎◌, inl, inr}
use mathlib.Core.Bool.{Bool, true, false, false≢true}
use mathlib.Core.Option.{Option, none, some}
use mathlib.Core.List.{List}
use native.Mathlib.Decide.{dec_le}
use native.Mathlib.Omega.{arith}
use lib.Dec.{leb, ltb}
use lib.ListN.{length, get_or}
use borrow.Author.Tests.{leb-true, leb-false, ltb-true, ltb-false}
use Rattle.limits.specs.Limits.{record_extra, value_size, link_size}
use Rattle.spans.specs.Span.{Apart}
use Rattle.memory_arena.proofs.Laws.{standing_facts}
use Rattle.murmurhash2.specs.Murmur.{murmur_hash2}
use Rattle.shared_arena_hashmap.specs.Power.{grown_length}
use Rattle.records.specs.Record.{value_place, header_of}
use Rattle.expull_header.specs.declared.Header.{Header}
use Rattle.expull_header.specs.Header.{block_count}
use Rattle.expull_walk.specs.Blocks.{block_place, block_length}
use Rattle.store_state.specs.declared.State.{State}
use Rattle.store_look.specs.declared.Lookup.{Lookup}
use Rattle.store_look.specs.declared.Lookup.TheVariants.{At}
use Rattle.store_look.specs.declared.Answer.{Answer}
use Rattle.store_look.specs.declared.Answer.TheVariants.{Absent, Found, Refused}
use Rattle.store_look.specs.declared.Outcome.TheVariants.{Block, NoSuchBlock}
use Rattle.store_state.specs.State.{first_of}
use Rattle.store_state.specs.Name.{name_limit_of}
use Rattle.store_look.specs.Look.{on_lookup, block_at, find_block_of}
use Rattle.store_append.specs.Append.{grows, grown_state, table_grown}
use Rattle.store_state.proofs.Guard.{kind-long}
use Rattle.store_look.proofs.Found.{lookup_3}
use Rattle.store_append.proofs.Cases.{state-stays, state-grows, table_stays}
use Rattle.history_lanes.specs.Lane.{used_end}
use Rattle.history_names.specs.Table.{OneBucket}
use Rattle.history_names.proofs.Lookup.{decide_name, decide_member}
use Rattle.history.specs.History.{World, is_joined}
use Rattle.history.specs.Frames.{keys_in, table_in, lists_end, header_in}
use Rattle.history.specs.Frames.{Kept, Differs, Within, ApartFromBlocks, InBlocks, LeavesAlone}
use Rattle.history.specs.Sound.{Ghosts, Stands, Sound}
use Rattle.history.proofs.Spans.{lane-clear, told-own, told_other}
use Rattle.history.proofs.Kept.{Leaves, Took, list_stands, list_short}
use Rattle.history.proofs.Grown.{sound-whole}
use Rattle.history.proofs.Differs.{byte_kept, within_or_apart, differs-within, differs-blocks}
use Rattle.history.proofs.Answers.{header_is}
use Rattle.history.proofs.Told.{Says}
use Rattle.history.proofs.Readings.{lookup_finds, block_there, block_past, reads_absent}

-- a block that a call told of
record BlockTold (w : World) (G : Ghosts) (j : List ℕ) (i p n : ℕ) : Type 0 where
  stands : Stands G j
  below : i < block_count (G.header j)
  place_is : p ≡ block_place w.memory.lists (G.header j).head i
  length_is : n ≡ block_length (G.header j) i

-- an answer that is no block's place
not_block : {A : Type 0} (x : Answer) (p n : ℕ) → x ≡ Found (Block p n)
    → (x ≡ Absent) ⊎ (x ≡ Found NoSuchBlock) ⊎ (x ≡ Refused 3 0) → A
not_block x p n e (inl f) = let z : ◌≡◌ {A = ℕ} 0 1 = cc in absurd (omega arith)
not_block x p n e (inr (inl f)) = let z : ◌≡◌ {A = ℕ} 0 1 = cc in absurd (omega arith)
not_block x p n e (inr (inr f)) = let z : ◌≡◌ {A = ℕ} 0 1 = cc in absurd (omega arith)

told_block : {w : World} {G : Ghosts} → Sound w G → (j : List ℕ) (i p n : ℕ)
    → find_block_of w.state w.memory j i ≡ Found (Block p n) → BlockTold w G j i p n
unfolding find_block_of
told_block {w} {G} S j i p n e = go (decide_member j G.names)
  where
    absent : (Stands G j → ⊥) → (b : Bool) → leb (length j) (name_limit_of w.state) ≡ b → BlockTold w G j i p n
    absent f true l =
        not_block (find_block_of w.state w.memory j i) p n e (inl ((reads_absent S j (leb-true _ _ l) f).no_block i))
    absent f false l =
        not_block (find_block_of w.state w.memory j i) p n e
        (inr (inr (ap (λ (x : Lookup). on_lookup x (block_at w.state w.memory i))
        (lookup_3 w.state w.memory j S.whole (kind-long w.state (length j) (leb-false _ _ l))))))

    here : (M : Stands G j) (b : Bool) → ltb i (block_count (G.header j)) ≡ b → BlockTold w G j i p n
    here M true l =
        let k : i < block_count (G.header j) = ltb-true _ _ l in
        let q : Found (Block p n)
        ≡ Found (Block (block_place w.memory.lists (G.header j).head i) (block_length (G.header j) i)) =
        sym e ∙ block_there S j M i k in
        record { stands = M; below = k; place_is = cc; length_is = cc }
    here M false l =
        not_block (find_block_of w.state w.memory j i) p n e (inr (inl (block_past S j M i (ltb-false _ _ l))))

    go : Dec (Stands G j) → BlockTold w G j i p n
    go (yes M) = here M (ltb i (block_count (G.header j))) refl
    go (no f) = absent f (leb (length j) (name_limit_of w.state)) refl

module _ {w : World} {G : Ghosts} (S : Sound w G) (name bytes : List ℕ) (w' : World) (T : Took w G name bytes w') where
  L : Leaves w G name bytes w' T.ghosts
  L = T.leaves

  -- ---- by what the name had come to

  joined-stands : (o : Option (List ℕ)) → Says w G name o → is_joined o ≡ true → Stands G name
  joined-stands none s e = absurd (false≢true e)
  joined-stands (some bs) s e = s.0

  joined-new : (o : Option (List ℕ)) → Says w G name o → is_joined o ≡ false → Stands G name → ⊥
  joined-new none s e = s
  joined-new (some bs) s e = absurd (false≢true (sym e))

  -- ---- the list pages

  abbrev m : List ℕ
  m = w.memory.lists

  abbrev m' : List ℕ
  m' = w'.memory.lists

  lists-standing : (M : Stands G name) (q n : ℕ) → q + n ≤ used_end w.state.list_arena
      → Apart (header_of w.memory.keys (T.ghosts.place name)).tail
      ((header_of w.memory.keys (T.ghosts.place name)).remaining + link_size) q n → Kept m m' q n
  lists-standing M q n u d =
      let e : header_of w.memory.keys (T.ghosts.place name) ≡ L.header =
      ap (header_of w.memory.keys) (L.place_kept M) ∙ header_is S name M ∙ sym (L.list_standing M).0 in
      L.list.rest q n u (subst (λ (h : Header). Apart h.tail (h.remaining + link_size) q n) e d)

  lists-new : (Stands G name → ⊥) → (q n : ℕ) → q + n ≤ used_end w.state.list_arena → Kept m m' q n
  lists-new f q n u =
      L.list.rest q n u
      (inr (omega (
        arith,
        ap (λ (h : Header). h.tail) (L.list_new f),
        list_short S,
        (standing_facts w.state.list_arena (length m) (list_stands S)).in_memory,
      )))

  lists-outside : (q n : ℕ) → ApartFromBlocks m' (header_of w'.memory.keys (T.ghosts.place name)) q n
      → Kept m m' q n
  lists-outside q n d =
      L.list.outside q n
      (lane-clear m' w'.state.list_arena (T.ghosts.header name) (T.ghosts.blocks name)
      (T.sound.lanes name T.new) q n
      (subst (λ (h : Header). ApartFromBlocks m' h q n) (header_is T.sound name T.new) d))

  lists_filled : (j : List ℕ) (i p n : ℕ) → find_block_of w.state w.memory j i ≡ Found (Block p n) → Kept m m' p n
  lists_filled j i p n e =
      let B = told_block S j i p n e in
      rw (B.place_is, B.length_is) (go B (decide_name j name))
    where
      go : BlockTold w G j i p n → Dec (j ≡ name)
          → Kept m m' (block_place m (G.header j).head i) (block_length (G.header j) i)
      go B (yes q) =
          let M : Stands G name = subst (Stands G) q B.stands in
          let h = L.list_standing M in
          let g : L.header ≡ G.header j = h.0 ∙ ap G.header (sym q) in
          let b : L.blocks ≡ G.blocks j = h.1 ∙ ap G.blocks (sym q) in
          subst (λ (x : Header). Kept m m' (block_place m x.head i) (block_length x i)) g
          (told-own m w.state.list_arena L.header L.blocks bytes m' w'.state.list_arena
          (T.ghosts.header name) (T.ghosts.blocks name)
          L.list (rw (g, b) (S.lanes j B.stands)) i (rw g B.below))
      go B (no q) =
          told_other m w.state.list_arena L.header L.blocks bytes m' w'.state.list_arena
          (T.ghosts.header name) (T.ghosts.blocks name)
          L.list (G.header j) (G.blocks j) (S.lanes j B.stands) (L.list_clear j q B.stands) i B.below

  lists_unfilled : Kept m m' (header_in w' (T.ghosts.place name)).tail
      ((header_in w' (T.ghosts.place name)).remaining + link_size)
  lists_unfilled = rw (header_is T.sound name T.new) L.list.unfilled

  lengths_kept : (length (table_in w') ≡ length (table_in w)) × (length (keys_in w') ≡ length (keys_in w))
      × (length m' ≡ length m)
  lengths_kept =
      let W = sound-whole S in
      let W' = sound-whole T.sound in (
        sym W'.words_is ∙ L.remembers.1 ∙ W.words_is,
        sym W'.key_bytes_is ∙ L.remembers.2 ∙ W.key_bytes_is,
        sym W'.list_bytes_is ∙ L.remembers.3 ∙ W.list_bytes_is,
      )

  -- ---- all of it

  -- what stays, by what the name had come to
  module _ (o : Option (List ℕ)) (s : Says w G name o) where
    abbrev at : ℕ
    at = T.ghosts.place name

    keys-standing : is_joined o ≡ true → (q n : ℕ) → Apart (value_place (keys_in w) at) value_size q n
        → Kept (keys_in w) (keys_in w') q n
    keys-standing e q n d =
        let M = joined-stands o s e in
        L.keys-standing M q n
        (subst (λ (at : ℕ). Apart (value_place (keys_in w) at) value_size q n) (L.place_kept M) d)

    keys-new : is_joined o ≡ false → (q n : ℕ) → Apart at (length name + record_extra) q n
        → Kept (keys_in w) (keys_in w') q n
    keys-new e q n d = L.keys-new (joined-new o s e) q n d

    abbrev Entered : State → List ℕ → Type 0
    Entered st t = OneBucket (first_of st) st.buckets at (murmur_hash2 w.state.seed name) t (table_in w')

    table-new : is_joined o ≡ false → grows w.state ≡ false → Entered w.state (table_in w)
    table-new e g =
        rw (state-stays w.state g, table_stays w.state (table_in w) g) at (L.table-new (joined-new o s e))

    table-grown-new : is_joined o ≡ false → grows w.state ≡ true
        → Entered (grown_state w.state) (table_grown w.state (table_in w))
    table-grown-new e g = rw (state-grows w.state g) at (L.table-new (joined-new o s e))

    -- ---- so where a byte or a word differs

    keys_differ : (q : ℕ) → Differs (keys_in w) (keys_in w') q → (b : Bool) → is_joined o ≡ b
        → ((is_joined o ≡ true) × Within (value_place (keys_in w) at) value_size q)
        ⊎ ((is_joined o ≡ false) × Within at (length name + record_extra) q)
    keys_differ q d true e =
        inl (e, differs-within (keys_in w) (keys_in w') (value_place (keys_in w) at) value_size q (keys-standing e q 1) d)
    keys_differ q d false e =
        inr (e, differs-within (keys_in w) (keys_in w') at (length name + record_extra) q (keys-new e q 1) d)

    lists_differ : (q : ℕ) → Differs m m' q → (b : Bool) → is_joined o ≡ b → Dec (lists_end w ≤ q)
        → ((is_joined o ≡ true) × Within (header_in w at).tail ((header_in w at).remaining + link_size) q)
        ⊎ ((lists_end w ≤ q) × InBlocks m' (header_in w' at) q)
    lists_differ q d b e (yes u) = inr (u, differs-blocks m' (header_in w' at) q m (lists-outside q 1) d)
    lists_differ q d true e (no u) =
        inl (
          e,
          differs-within m m' (header_in w at).tail ((header_in w at).remaining + link_size) q
              (lists-standing (joined-stands o s e) q 1 (omega arith)) d,
        )
    lists_differ q d false e (no u) = absurd (d (byte_kept m m' q (lists-new (joined-new o s e) q 1 (omega arith))))

    table_differ : (q : ℕ) → Differs (table_in w) (table_in w') q → (b : Bool) → is_joined o ≡ b → (c : Bool)
        → grows w.state ≡ c
        → ((n : is_joined o ≡ false) × (g : grows w.state ≡ false)
        × Within (2 * (first_of w.state + (table-new n g).bucket)) 2 q)
        ⊎ ((grows w.state ≡ true)
        × Within (2 * first_of (grown_state w.state)) (2 * grown_length w.state.buckets) q)
    table_differ q d b e true g = inr (g, inside (within_or_apart (2 * first) (2 * l) q))
      where
        first : ℕ
        first = first_of (grown_state w.state)

        l : ℕ
        l = grown_length w.state.buckets

        inside : Within (2 * first) (2 * l) q ⊎ Apart (2 * first) (2 * l) q 1 → Within (2 * first) (2 * l) q
        inside (inl x) = x
        inside (inr (inl x)) = absurd (d (L.table_is_grown g q (inr (omega arith))))
        inside (inr (inr x)) = absurd (d (L.table_is_grown g q (inl (omega arith))))
    table_differ q d true e false g =
        absurd (d (ap (λ (t : List ℕ). get_or t q 0) (L.table_standing (joined-stands o s e) g)))
    table_differ q d false e false g = inl (e, g, inside (within_or_apart (2 * b) 2 q))
      where
        b : ℕ
        b = first_of w.state + (table-new e g).bucket

        inside : Within (2 * b) 2 q ⊎ Apart (2 * b) 2 q 1 → Within (2 * b) 2 q
        inside (inl x) = x
        inside (inr (inl x)) = absurd (d ((table-new e g).others q (λ z. omega arith) (λ z. omega arith)))
        inside (inr (inr x)) = absurd (d ((table-new e g).others q (λ z. omega arith) (λ z. omega arith)))

    pub leaves_alone : LeavesAlone w w' name o at
    leaves_alone = record {
      placed = lookup_finds T.sound name T.new;
      stood_there = λ e.
          let M = joined-stands o s e in
          lookup_finds S name M ∙ ap At (sym (L.place_kept M));
      keys_room = λ e. L.keys_room (joined-new o s e);
      keys_above = λ e. L.keys_above (joined-new o s e);
      keys_used = λ e. L.keys_used (joined-stands o s e);
      keys-standing = keys-standing;
      keys-new = keys-new;
      lists-standing = λ e q n u d. lists-standing (joined-stands o s e) q n u d;
      lists-new = λ e q n u. lists-new (joined-new o s e) q n u;
      lists-outside = lists-outside;
      lists_unfilled = lists_unfilled;
      lists_filled = lists_filled;
      table_standing = λ e b. L.table_standing (joined-stands o s e) b;
      table-new = table-new;
      table_is_grown = L.table_is_grown;
      table-grown-new = table-grown-new;
      seed_kept = L.remembers.0;
      lengths_kept = lengths_kept;
      keys_differ = λ q d. keys_differ q d (is_joined o) refl;
      lists_differ = λ q d. lists_differ q d (is_joined o) refl (dec_le (lists_end w) q);
      table_differ = λ q d. table_differ q d (is_joined o) refl (grows w.state) refl;
    }
