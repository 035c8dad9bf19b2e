-- A piece, case by case, as its code goes. Assumes nothing.
use Prim.Native.Nat.{ℕ, suc, ◌+◌, ◌-◌, ◌≤◌, ◌<◌}
use mathlib.Core.Path.{◌≡◌, refl, sym, ap, ◌∙◌}
use mathlib.Core.Bool.{Bool, true, false, cond}
use mathlib.Core.List.{List, [], ◌∷◌}
use native.Mathlib.Omega.{arith}
use types.Run.{OneOf, miss}
use denote.Enum.Declared.{tag_of}
use lib.Dec.{leb, lit≤}
use lib.ListN.{length}
use borrow.Author.Tests.{le-leb, lt-leb}
use Rattle.limits.specs.Limits.{number_limit}
use Rattle.numbers.proofs.Tests.{not_both}
use Rattle.spans.specs.Span.{read_span, overwrite}
use Rattle.spans.proofs.Laws.{span_none, overwrite_none}
use Rattle.memory_arena.specs.declared.Arena.{Arena}
use Rattle.memory_arena.specs.Calls.{sensible}
use Rattle.expull_header.specs.declared.Header.{Header}
use Rattle.std.specs.Prelude.{Option, Some, None}
use Rattle.std.specs.Option.{is_some}
use Rattle.expull_header.specs.Header.{block_count, full_bytes, lane_length}
use Rattle.expull_walk.specs.Blocks.{block_place, good_blocks, lane_bytes, place_of}
use Rattle.expull_header.proofs.Laws.{sound_facts, full-more, length_most}
use Rattle.expull_walk.proofs.Laws.{blocks_fewer, place_good, place_bad}
use Rattle.store_state.specs.declared.State.{State}
use Rattle.store_look.specs.declared.Lookup.{Lookup}
use Rattle.store_look.specs.declared.Lookup.TheVariants.{At, Missing, Failed}
use Rattle.store_look.specs.contracts.Lookup.{the_type as lookup_type}
use Rattle.records.specs.Record.{header_sound}
use Rattle.store_look.specs.Look.{Lent, lookup_of}
use Rattle.records.proofs.Laws.{Headed}
use Rattle.lane_pieces.specs.declared.Pieced.TheVariants.{Given, Refused}
use Rattle.lane_pieces.specs.Piece.{block_holding, blocks_met, piece_length, Out, out, gives, piece_at, not_found}
use Rattle.lane_pieces.specs.Piece.{on_lookup, piece_of}
use Rattle.lane_pieces.specs.Onward.{good_on, bytes_on, last_on, Copyable, Went, went, gone_on, Going, Within, Put}
use Rattle.lane_pieces.proofs.Places.{full_high, holding, holding_most, holding_least, met_none, met_some}
use Rattle.lane_pieces.proofs.Places.{met, length-held}
use Rattle.lane_pieces.proofs.Onward.{good-on, held_on_lem, lane-on}
use Rattle.lane_pieces.proofs.Loops.{good_lie}

-- ---- from a block on

module _ {first given n room : ℕ} (k : Going first given n room) where
  -- how many blocks are met, as code counts them
  pub going-met : {e : ℕ} → e ≡ block_holding (given + n - 1) → e + 1 ≡ blocks_met given n
  going-met q = omega (arith, q, met_some given n k.some_bytes)

  -- few, and the first is one of them
  pub going-few : {end : ℕ} → end ≡ blocks_met given n → (end ≤ number_limit) × (first < end)
  going-few e =
      let s = k.some_bytes in
      let g : ℕ = given + n - 1 in
      let h : g < full_bytes 139998 = omega (arith, k.short, full_high 139998 (lit≤ tt)) in
      let c : blocks_met given n ≡ suc (block_holding g) = met_some given n s in
      (omega (arith, holding_most g 139998 h), omega (arith, holding_least g first (omega (arith, k.after))))

  pub going-copyable : (a : Arena) (m : List ℕ) {end place skip : ℕ} → sensible a (length m) ≡ true
      → end ≡ blocks_met given n → skip ≡ given - full_bytes first
      → good_on a m first place (end - first) ≡ true → Copyable m first end place skip n room
  going-copyable a m {end} {place} {skip} sense e f g =
      let b = going-few e in
      let z : first + (end - first) ≡ end = omega arith in
      let s = k.some_bytes in
      let c : end ≡ suc (block_holding (given + n - 1)) = e ∙ met_some given n s in
      record {
        few = b.0;
        from = omega arith;
        lie = good_lie a m first place (end - first) sense g;
        within = omega (arith, k.before, full-more first);
        held =
            omega (
              arith,
              k.after,
              held_on_lem first (end - first),
              ap full_bytes z,
              ap full_bytes c,
              (holding (given + n - 1)).above,
            );
        space = k.space;
      }

-- what it answers
module _ (a : Arena) (m : List ℕ) (first place given n : ℕ) (output : List ℕ) where
  pub gone-stopped : {end : ℕ} → end ≡ blocks_met given n → good_on a m first place (end - first) ≡ false
      → went None output ≡ gone_on a m first place given n output
  unfolding gone_on
  gone-stopped e g =
      let h : good_on a m first place (blocks_met given n - first) ≡ false = rw (← e) g in
      rw h

  pub gone_done : {end skip last : ℕ} {output' : List ℕ} → end ≡ blocks_met given n
      → good_on a m first place (end - first) ≡ true → skip ≡ given - full_bytes first
      → last ≡ last_on m first place place (end - first)
      → output' ≡ overwrite 0 (read_span skip n (bytes_on m first place (end - first))) output
      → went (Some last) output' ≡ gone_on a m first place given n output
  unfolding gone_on
  gone_done e g f p q =
      let h : good_on a m first place (blocks_met given n - first) ≡ true = rw (← e) g in
      rw h (λ i. went (Some ((rw e at p) i)) ((rw (e, f) at q) i))

  -- and what that says
  abbrev good_all : Bool
  good_all = good_on a m first place (blocks_met given n - first)

  abbrev bytes_all : List ℕ
  bytes_all = read_span (given - full_bytes first) n (bytes_on m first place (blocks_met given n - first))

  abbrev place_all : ℕ
  place_all = last_on m first place place (blocks_met given n - first)

  pub record Gone (w : Option ℕ) (output' : List ℕ) : Type 0 where
    pub stopped : w ≡ None → (good_all ≡ false) × (output' ≡ output)
    pub come : (last : ℕ) → w ≡ Some last
        → (good_all ≡ true) × ((last ≡ place_all) × (output' ≡ overwrite 0 bytes_all output))

  pub gone-said : {w : Option ℕ} {output' : List ℕ} → went w output' ≡ gone_on a m first place given n output
      → Gone w output'
  unfolding gone_on
  gone-said {w} {output'} e = go good_all refl e
    where
      go : (b : Bool) → good_all ≡ b
          → went w output' ≡ cond b (went (Some place_all) (overwrite 0 bytes_all output)) (went None output)
          → Gone w output'
      go true g q =
          let x : w ≡ Some place_all = ap (λ (y : Went). y.walked) q in
          record {
            stopped = λ f. cc;
            come = λ last f. let z : last ≡ place_all = cc in (g, (z, ap (λ (y : Went). y.output) q));
          }
      go false g q =
          let x : w ≡ None = ap (λ (y : Went). y.walked) q in
          record {
            stopped = λ f. (g, ap (λ (y : Went). y.output) q);
            come = λ last f. cc;
          }

-- ---- from a lane's head

module _ {h : Header} {given n room : ℕ} (k : Within h given n room) where
  -- the block in which the bytes begin is the lane's, and among those that are met
  within_first : (block_holding given < block_count h) × (suc (block_holding given) ≤ blocks_met given n)
  within_first =
      let s = k.some_bytes in
      let l : given < lane_length h = omega (arith, k.in_lane) in (
        holding_most given (block_count h) (omega (arith, length-held h k.sound)),
        omega (
          arith,
          met_some given n s,
          holding_least (given + n - 1) (block_holding given) (omega (arith, (holding given).below)),
        ),
      )

  -- what code needs of the numbers
  pub within_short : given + n ≤ 4587094008
  within_short = omega (arith, k.in_lane, length_most h k.sound)

  pub within_few : {first : ℕ} → first ≡ block_holding given → first < number_limit
  within_few e = omega (arith, e, within_first.0, (sound_facts h 0 k.sound).to)

  pub within-going : {first : ℕ} → first ≡ block_holding given → Going first given n room
  within-going e =
      let b : full_bytes (block_holding given) ≤ given = (holding given).below in
      let c : given < full_bytes (suc (block_holding given)) = (holding given).above in
      record {
        after = rw e b;
        before = rw e (omega arith);
        some_bytes = k.some_bytes;
        short = within_short;
        space = k.space;
      }

  module _ (a : Arena) (m : List ℕ) (sense : sensible a (length m) ≡ true) where
    put_false : {output output' : List ℕ} → good_blocks a m h.head (blocks_met given n) ≡ false → output' ≡ output
        → Put a m h given n output false output'
    put_false g e = record { told = sym g; left = rw g e }

    -- the block in which they begin is bad, or one before it
    pub put_bad : {first : ℕ} {output : List ℕ} → first ≡ block_holding given → place_of a m h.head first ≡ None
        → Put a m h given n output false output
    put_bad {first} e f =
        let g : good_blocks a m h.head (suc (block_holding given)) ≡ false = rw e at (place_bad a m h.head first f) in
        put_false (worse g (good_blocks a m h.head (blocks_met given n)) refl) refl
      where
        worse : good_blocks a m h.head (suc (block_holding given)) ≡ false
            → (t : Bool) → good_blocks a m h.head (blocks_met given n) ≡ t
            → good_blocks a m h.head (blocks_met given n) ≡ false
        worse g true q =
            not_both _
            (blocks_fewer a m h.head (suc (block_holding given)) (blocks_met given n) within_first.1 q) g
        worse g false q = q

    -- it has a place: then the blocks from there on decide
    module _ {first place : ℕ} (e : first ≡ block_holding given) (f : place_of a m h.head first ≡ Some place) where
      put-found : (good_blocks a m h.head (suc first) ≡ true) × (place ≡ block_place m h.head first)
      put-found = place_good a m h.head first place f

      put-parts : first + (blocks_met given n - first) ≡ blocks_met given n
      put-parts = omega (arith, e, within_first.1)

      put_decides : good_blocks a m h.head (blocks_met given n) ≡ good_on a m first place (blocks_met given n - first)
      put_decides =
          let g = blocks_fewer a m h.head first (suc first) (omega arith) put-found.0 in
          ap (good_blocks a m h.head) (sym put-parts)
          ∙ good-on a m h.head first (blocks_met given n - first)
          ∙ rw (g, put-found.1)

      pub put-stopped : {output output' : List ℕ} {w : Option ℕ} → went w output' ≡ gone_on a m first place given n output
          → w ≡ None → Put a m h given n output false output'
      put-stopped {output} {output'} {w} g s =
          let p = (gone-said a m first place given n output g).stopped s in
          put_false (put_decides ∙ p.0) p.1

      pub put_done : {output output' : List ℕ} {w : Option ℕ} (last : ℕ)
          → went w output' ≡ gone_on a m first place given n output → w ≡ Some last → Put a m h given n output true output'
      put_done {output} {output'} {w} last g s =
          let p = (gone-said a m first place given n output g).come last s in
          let good : good_blocks a m h.head (blocks_met given n) ≡ true = put_decides ∙ p.0 in
          let M = met h given n k.sound k.some_bytes k.in_lane in
          let c : full_bytes first ≤ given = rw e (holding given).below in
          let z : full_bytes first + (given - full_bytes first) ≡ given = omega arith in
          let l = lane-on a m h first (blocks_met given n - first) (given - full_bytes first) n sense k.sound
          (omega (arith, put-parts, M.most)) (ap (good_blocks a m h.head) put-parts ∙ good)
          (omega (arith, M.held, ap full_bytes put-parts)) (omega (arith, k.in_lane)) in
          record {
            told = sym good;
            left = rw good (p.1.1 ∙ rw put-found.1 (ap (λ (x : List ℕ). overwrite 0 x output) (sym (rw z at l))));
          }

      pub put-on : {output output' : List ℕ} (w : Option ℕ) → went w output' ≡ gone_on a m first place given n output
          → Put a m h given n output (is_some w) output'
      put-on None g = put-stopped g refl
      put-on (Some last) g = put_done last g refl

-- ---- the answers of a standing lane

module _ (a : Arena) (keys lists : List ℕ) (given at : ℕ) (output : List ℕ) where
  pub piece_4 : header_sound keys at ≡ false → piece_at a keys lists given at output ≡ out (Refused 4 0) output
  unfolding piece_at
  piece_4 e = rw e

  module _ {h : Header} (k : Headed keys at h) where
    -- what it comes to, by the header that was found
    abbrev piece_by : Bool → Bool → Bool → Out
    piece_by counted good room =
        cond counted
        (cond good
        (cond room (gives lists h given (piece_length h given (length output)) output)
        (out (Refused 8 (lane_length h)) output))
        (out (Refused 4 0) output))
        (out (Refused 2 0) output)

    piece-by : piece_at a keys lists given at output
        ≡ piece_by (leb given (lane_length h))
        (good_blocks a lists h.head (blocks_met given (piece_length h given (length output)))) (leb 1 (length output))
    unfolding piece_at
    piece-by = rw (k.sound, k.is)

    pub piece_2 : lane_length h < given → piece_at a keys lists given at output ≡ out (Refused 2 0) output
    piece_2 l = piece-by ∙ rw (lt-leb given (lane_length h) l)

    -- the count isn't above the length
    module _ (l : given ≤ lane_length h) where
      pub piece_8 : length output ≡ 0 → piece_at a keys lists given at output ≡ out (Refused 8 (lane_length h)) output
      unfolding good_blocks
      piece_8 z =
          let n : piece_length h given (length output) ≡ 0 = omega arith in
          let g : good_blocks a lists h.head (blocks_met given (piece_length h given (length output))) ≡ true =
          ap (λ (k : ℕ). good_blocks a lists h.head (blocks_met given k)) n ∙ rw met_none in
          piece-by ∙ rw (le-leb given (lane_length h) l, g, lt-leb 1 (length output) (omega arith))

      -- with a place at least: the blocks that are met decide
      pub piece-met : 0 < length output → (n : ℕ) → n ≡ piece_length h given (length output)
          → piece_at a keys lists given at output
          ≡ cond (good_blocks a lists h.head (blocks_met given n)) (gives lists h given n output)
          (out (Refused 4 0) output)
      piece-met z n e = piece-by ∙ rw (le-leb given (lane_length h) l, le-leb 1 (length output) z, ← e)

      pub piece_none : 0 < length output → (n : ℕ) → n ≡ piece_length h given (length output) → n ≡ 0
          → piece_at a keys lists given at output ≡ out (Given 0) output
      unfolding good_blocks
      piece_none z n e f =
          piece-met z 0 (sym f ∙ e) ∙ rw (met_none given, span_none, overwrite_none)

      pub piece-put : 0 < length output → (n : ℕ) → n ≡ piece_length h given (length output)
          → {r : Bool} {output' : List ℕ} → Put a lists h given n output r output'
          → piece_at a keys lists given at output ≡ out (cond r (Given n) (Refused 4 0)) output'
      piece-put z n e {r} {output'} p =
          piece-met z n e ∙ go (good_blocks a lists h.head (blocks_met given n)) p.told p.left
        where
          go : (b : Bool) → r ≡ b → output' ≡ cond b (overwrite 0 (read_span given n (lane_bytes lists h)) output) output
              → cond b (gives lists h given n output) (out (Refused 4 0) output)
              ≡ out (cond r (Given n) (Refused 4 0)) output'
          go true f g = λ i. out (cond (sym f i) (Given n) (Refused 4 0)) (sym g i)
          go false f g = λ i. out (cond (sym f i) (Given n) (Refused 4 0)) (sym g i)

-- ---- the answers by name

module _ (st : State) (m : Lent) (name : List ℕ) (given : ℕ) (output : List ℕ) where
  -- by what the lookup said
  pub piece-looked : (l : Lookup) → lookup_of st m name ≡ l
      → piece_of st m name given output
      ≡ on_lookup l (λ at. piece_at st.list_arena m.keys m.lists given at output) output
  unfolding piece_of
  piece-looked l e =
      ap (λ (x : Lookup). on_lookup x (λ at. piece_at st.list_arena m.keys m.lists given at output) output) e

  -- a lookup that code has told apart from a place
  pub piece_not : (l : Lookup) → l ≡ lookup_of st m name → OneOf (1 ∷ 2 ∷ []) (tag_of lookup_type l)
      → out (not_found l) output ≡ piece_of st m name given output
  piece_not l e o = go l o ∙ sym (piece-looked l (sym e))
    where
      go : (l : Lookup) → OneOf (1 ∷ 2 ∷ []) (tag_of lookup_type l)
          → out (not_found l) output
          ≡ on_lookup l (λ at. piece_at st.list_arena m.keys m.lists given at output) output
      go (At at) o = absurd (miss (1 ∷ 2 ∷ []) 0 tt o)
      go Missing o = refl
      go (Failed n) o = refl
