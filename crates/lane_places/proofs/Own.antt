-- From a place of the lane's own a piece is the same as by its count, and the next place is the lane's own again.
-- Assumes nothing.
use Prim.Native.Nat.{ℕ, zero, suc, ◌+◌, ◌-◌, ◌≤◌, ◌<◌}
use mathlib.Core.Path.{◌≡◌, refl, sym, ap, ◌∙◌, subst}
use mathlib.Core.Bool.{Bool, true, false, cond}
use mathlib.Core.List.{List}
use native.Mathlib.Nat.{add-zero}
use native.Mathlib.Omega.{arith}
use lib.Dec.{leb, eqb}
use lib.ListN.{length}
use borrow.Author.Tests.{leb-true, leb-false, le-leb, eqb-true}
use Rattle.numbers.proofs.Tests.{both_true}
use Rattle.spans.specs.Span.{read_span, overwrite}
use Rattle.memory_arena.specs.declared.Arena.{Arena}
use Rattle.memory_arena.specs.Calls.{sensible}
use Rattle.expull_header.specs.declared.Header.{Header}
use Rattle.expull_header.specs.Header.{sound_header, full_bytes, lane_length}
use Rattle.expull_walk.specs.Blocks.{block_place, good_blocks, lane_bytes}
use Rattle.expull_walk.proofs.Laws.{blocks_fewer}
use Rattle.store_state.specs.declared.State.{State}
use Rattle.store_look.specs.declared.Lookup.{Lookup}
use Rattle.store_look.specs.declared.Lookup.TheVariants.{At, Missing, Failed}
use Rattle.records.specs.Record.{header_of, header_sound}
use Rattle.store_look.specs.Look.{Lent, lookup_of}
use Rattle.records.proofs.Laws.{Headed, head-found, head-sound}
use Rattle.store_look.proofs.Found.{lookup-held}
use Rattle.store_state.proofs.Whole.{whole_facts}
use Rattle.lane_pieces.specs.declared.Pieced.{Pieced}
use Rattle.lane_pieces.specs.declared.Pieced.TheVariants.{Absent, Given, Refused}
use Rattle.lane_pieces.specs.Piece.{block_holding, blocks_met, piece_length, gives, piece_at, piece_of}
use Rattle.lane_pieces.specs.Piece.{Out as PieceOut, out as piece_out}
use Rattle.lane_pieces.specs.Onward.{good_on, last_on}
use Rattle.lane_pieces.proofs.Places.{full_none, holding, holding_least, met_some, met}
use Rattle.lane_pieces.proofs.Onward.{good-on, lane-on, next-own}
use Rattle.lane_pieces.proofs.Pieces.{piece-met, piece_none, piece_4, piece_2, piece_8, piece-looked}
use Rattle.lane_places.specs.declared.Place.{Place}
use Rattle.lane_places.specs.PieceOn.{ends_there, fits_length, block_at, met_on, Out, out, bytes_after}
use Rattle.lane_places.specs.PieceOn.{beginning, gone_from, piece_on_at, on_lookup, piece_on_of}
use Rattle.lane_places.specs.Promises.{Own}
use Rattle.lane_places.proofs.PieceOn.{on_none, on_go, fits_above, fits_facts, gone-good, gone_bad, place_some}
use Rattle.lane_places.proofs.PieceOn.{on_4, on_2, on_8, on-looked}

-- ---- the last of the blocks from one of a lane's on is the lane's own

last_own : (m : List ℕ) (head i k before : ℕ)
    → last_on m i (block_place m head i) before (suc k) ≡ block_place m head (i + k)
unfolding last_on
last_own m head i zero before = ap (block_place m head) (sym (add-zero i))
last_own m head i (suc k) before =
    let z : suc i + k ≡ i + suc k = omega arith in
    ap (λ (b : ℕ). last_on m (suc i) b (block_place m head i) (suc k)) (next-own m head i)
    ∙ last_own m head (suc i) k (block_place m head i) ∙ ap (block_place m head) z

-- ---- n bytes from a place of the lane's own

-- an answer from a place on, as a piece's
abbrev pub forget : Out → PieceOut
forget o = piece_out o.answer o.output

module _ (a : Arena) (lists : List ℕ) (h : Header) (p : Place) (n : ℕ) (output : List ℕ) (O : Own a lists h p)
    (s : sensible a (length lists) ≡ true) (t : sound_header h 0 ≡ true) (z : 0 < n)
    (l : p.given + n ≤ lane_length h) where
  ends-parts : (full_bytes p.index ≤ p.given) × (p.given ≤ full_bytes (suc p.index))
  ends-parts =
      let k = fits_facts p p.given (both_true _ _ (le-leb p.given p.given (omega arith)) O.ends) in
      (k.after, k.before)

  -- its block is among those that a piece meets
  met-more : p.index < blocks_met p.given n
  met-more =
      omega (arith, met_some p.given n z, holding_least (p.given + n - 1) p.index (omega (arith, ends-parts.0)))

  parts : p.index + met_on p n ≡ blocks_met p.given n
  parts = omega (arith, met-more)

  decides : good_blocks a lists h.head (blocks_met p.given n) ≡ good_on a lists p.index (block_at h p) (met_on p n)
  decides =
      ap (good_blocks a lists h.head) (sym parts) ∙ good-on a lists h.head p.index (met_on p n)
      ∙ rw (O.good, O.there)

  -- the same bytes
  same_bytes : good_blocks a lists h.head (blocks_met p.given n) ≡ true
      → read_span p.given n (lane_bytes lists h) ≡ bytes_after lists h p n
  same_bytes g =
      let M = met h p.given n t z l in
      let e : full_bytes p.index + (p.given - full_bytes p.index) ≡ p.given = omega (arith, ends-parts.0) in
      let k = lane-on a lists h p.index (met_on p n) (p.given - full_bytes p.index) n s t
      (omega (arith, parts, M.most)) (ap (good_blocks a lists h.head) parts ∙ g)
      (omega (arith, M.held, ap full_bytes parts)) (omega arith) in
      (rw e at k) ∙ rw O.there

  pub same_given : (b : Bool) → good_blocks a lists h.head (blocks_met p.given n) ≡ b
      → forget (gone_from a lists h p n output)
      ≡ cond b (gives lists h p.given n output) (piece_out (Refused 4 0) output)
  same_given true g =
      ap forget (gone-good a lists h p n output (sym decides ∙ g))
      ∙ ap (λ (x : List ℕ). piece_out (Given n) (overwrite 0 x output)) (sym (same_bytes g))
  same_given false g = ap forget (gone_bad a lists h p n output (sym decides ∙ g))

  -- the next place is the lane's own
  abbrev next : Place
  next = record {
    index = blocks_met p.given n - 1;
    block = last_on lists p.index (block_at h p) (block_at h p) (met_on p n);
    given = p.given + n;
  }

  next_there : block_at h next ≡ block_place lists h.head next.index
  unfolding block_place
  next_there = go (eqb next.index 0) refl
    where
      come : next.block ≡ block_place lists h.head next.index
      come =
          let c : met_on p n ≡ suc (met_on p n - 1) = omega (arith, met-more) in
          let d : p.index + (met_on p n - 1) ≡ next.index = omega (arith, met-more) in
          (λ i. last_on lists p.index (O.there i) (O.there i) (c i))
          ∙ last_own lists h.head p.index (met_on p n - 1) (block_place lists h.head p.index)
          ∙ ap (block_place lists h.head) d

      go : (b : Bool) → eqb next.index 0 ≡ b
          → cond b h.head next.block ≡ block_place lists h.head next.index
      go true e = ap (block_place lists h.head) (sym (eqb-true next.index 0 e))
      go false e = come

  next-ends : ends_there next ≡ true
  unfolding ends_there
  next-ends =
      let c = met_some p.given n z in
      let d : next.index ≡ block_holding (p.given + n - 1) = omega arith in
      let k = holding (p.given + n - 1) in
      both_true _ _
      (le-leb (full_bytes next.index) (p.given + n) (omega (arith, k.below, ap full_bytes d)))
      (le-leb (p.given + n) (full_bytes (suc next.index))
      (omega (arith, k.above, ap (λ (i : ℕ). full_bytes (suc i)) d)))

  next-begun : full_bytes next.index < next.given
  next-begun =
      let c = met_some p.given n z in
      let d : next.index ≡ block_holding (p.given + n - 1) = omega arith in
      omega (arith, (holding (p.given + n - 1)).below, ap full_bytes d)

  pub own_given : (b : Bool) → good_blocks a lists h.head (blocks_met p.given n) ≡ b
      → Own a lists h (gone_from a lists h p n output).place
  own_given true g =
      let N : Own a lists h next = record {
        there = next_there;
        good = blocks_fewer a lists h.head next.index (blocks_met p.given n) (omega arith) g;
        ends = next-ends;
        begun = λ f. next-begun;
      } in
      subst (λ (o : Out). Own a lists h o.place) (sym (gone-good a lists h p n output (sym decides ∙ g)))
      (subst (Own a lists h) (sym (place_some a lists h p n output z)) N)
  own_given false g =
      subst (λ (o : Out). Own a lists h o.place) (sym (gone_bad a lists h p n output (sym decides ∙ g))) O

-- ---- the call

-- what is to be shown of it
pub record Alike (a : Arena) (lists : List ℕ) (h : Header) (x : Out) (y : PieceOut) : Type 0 where
  pub same : forget x ≡ y
  pub own : Own a lists h x.place

-- an answer that leaves the place
alike-kept : {a : Arena} {lists : List ℕ} {h : Header} (p : Place) → Own a lists h p → {x : Out} {y : PieceOut}
    (o : Out) → x ≡ o → o.place ≡ p → y ≡ forget o → Alike a lists h x y
alike-kept {a} {lists} {h} p O o e f g = record {
  same = ap forget e ∙ sym g;
  own = subst (λ (x : Out). Own a lists h x.place) (sym e) (subst (Own a lists h) (sym f) O);
}

module _ (a : Arena) (keys lists : List ℕ) (p : Place) (at : ℕ) (output : List ℕ)
    (s : sensible a (length lists) ≡ true) (O : Own a lists (header_of keys at) p) where
  abbrev header : Header
  header = header_of keys at

  alike-sound : header_sound keys at ≡ true
      → Alike a lists header (piece_on_at a keys lists p at output) (piece_at a keys lists p.given at output)
  alike-sound e = by_count (leb p.given (lane_length header)) refl
    where
      k : Headed keys at header
      k = head-found keys at header (head-sound keys at e)

      fitting : p.given ≤ lane_length header → fits_length p (lane_length header) ≡ true
      fitting l = both_true _ _ (le-leb p.given (lane_length header) l) O.ends

      -- with an output of at least 1 byte, and a count that isn't above the length
      by_bytes : p.given ≤ lane_length header → 0 < length output → (n : ℕ)
          → n ≡ piece_length header p.given (length output)
          → Alike a lists header (piece_on_at a keys lists p at output) (piece_at a keys lists p.given at output)
      by_bytes l z zero f =
          alike-kept p O (out (Given 0) p output) (on_none a keys lists p at output k (fitting l) z 0 f refl) refl
          (piece_none a keys lists p.given at output k l z 0 f refl)
      by_bytes l z (suc n) f =
          let x = on_go a keys lists p at output k (fitting l) z (suc n) f in
          let y = piece-met a keys lists p.given at output k l z (suc n) f in
          let r : p.given + suc n ≤ lane_length header = omega arith in
          let b = good_blocks a lists header.head (blocks_met p.given (suc n)) in
          record {
            same =
                ap forget x
                ∙ same_given a lists header p (suc n) output O s k.ends (omega arith) r b refl ∙ sym y;
            own =
                subst (λ (o : Out). Own a lists header o.place) (sym x)
                (own_given a lists header p (suc n) output O s k.ends (omega arith) r b refl);
          }

      by-room : p.given ≤ lane_length header → (b : Bool) → leb 1 (length output) ≡ b
          → Alike a lists header (piece_on_at a keys lists p at output) (piece_at a keys lists p.given at output)
      by-room l true g = by_bytes l (leb-true _ _ g) (piece_length header p.given (length output)) refl
      by-room l false g =
          let z : length output ≡ 0 = omega (arith, leb-false 1 (length output) g) in
          alike-kept p O (out (Refused 8 (lane_length header)) p output)
          (on_8 a keys lists p at output k (fitting l) z) refl (piece_8 a keys lists p.given at output k l z)

      by_count : (b : Bool) → leb p.given (lane_length header) ≡ b
          → Alike a lists header (piece_on_at a keys lists p at output) (piece_at a keys lists p.given at output)
      by_count true g = by-room (leb-true _ _ g) (leb 1 (length output)) refl
      by_count false g =
          let l : lane_length header < p.given = leb-false p.given (lane_length header) g in
          alike-kept p O (out (Refused 2 0) p output)
          (on_2 a keys lists p at output k (fits_above p (lane_length header) l)) refl
          (piece_2 a keys lists p.given at output k l)

  alike_at : Alike a lists header (piece_on_at a keys lists p at output) (piece_at a keys lists p.given at output)
  alike_at = go (header_sound keys at) refl
    where
      go : (b : Bool) → header_sound keys at ≡ b
          → Alike a lists header (piece_on_at a keys lists p at output) (piece_at a keys lists p.given at output)
      go true e = alike-sound e
      go false e =
          alike-kept p O (out (Refused 4 0) p output) (on_4 a keys lists p at output e) refl
          (piece_4 a keys lists p.given at output e)

pub alike : (st : State) (m : Lent) (name : List ℕ) (p : Place) (output : List ℕ) (at : ℕ) → lookup_of st m name ≡ At at
    → Own st.list_arena m.lists (header_of m.keys at) p
    → Alike st.list_arena m.lists (header_of m.keys at) (piece_on_of st m name p output)
    (piece_of st m name p.given output)
alike st m name p output at e O =
    let held = lookup-held st m name at e in
    let arena = (whole_facts st (length m.table) (length m.keys) (length m.lists) held.whole).list_arena in
    let A = alike_at st.list_arena m.keys m.lists p at output arena O in
    let x = on-looked st m name p output (At at) e in
    let y = piece-looked st m name p.given output (At at) e in
    record {
      same = ap forget x ∙ A.same ∙ sym y;
      own = subst (λ (o : Out). Own st.list_arena m.lists (header_of m.keys at) o.place) (sym x) A.own;
    }

-- ---- the place before a lane's first byte is any lane's own

pub own-beginning : (a : Arena) (lists : List ℕ) (h : Header) → Own a lists h beginning
unfolding block_place good_blocks ends_there
own-beginning a lists h = record {
  there = refl;
  good = refl;
  ends =
      both_true _ _ (le-leb (full_bytes 0) 0 (omega (arith, full_none))) (le-leb 0 (full_bytes 1) (omega arith));
  begun = λ f. absurd (f refl);
}

-- ---- how far a place moves

-- the bytes that an answer gave, counted
abbrev pub count_given : Pieced → ℕ
count_given Absent = 0
count_given (Given n) = n
count_given (Refused n told) = 0

moved_cond : (p : Place) (b : Bool) (x y : Out) → x.place.given ≡ p.given + count_given x.answer
    → y.place.given ≡ p.given + count_given y.answer
    → (cond b x y).place.given ≡ p.given + count_given (cond b x y).answer
moved_cond p true x y f g = f
moved_cond p false x y f g = g

moved_none : (p : Place) → p.given ≡ p.given + 0
moved_none p = omega arith

moved_from : (a : Arena) (lists : List ℕ) (h : Header) (p : Place) (n : ℕ) (output : List ℕ)
    → (gone_from a lists h p n output).place.given ≡ p.given + count_given (gone_from a lists h p n output).answer
unfolding gone_from
moved_from a lists h p n output =
    moved_cond p (good_on a lists p.index (block_at h p) (met_on p n)) _ _ (go (eqb n 0) refl) (moved_none p)
  where
    go : (b : Bool) → eqb n 0 ≡ b → (cond b p (record {
      index = blocks_met p.given n - 1;
      block = last_on lists p.index (block_at h p) (block_at h p) (met_on p n);
      given = p.given + n;
    })).given ≡ p.given + n
    go true e = omega (arith, eqb-true n 0 e)
    go false e = refl

pub moved_on : (st : State) (m : Lent) (name : List ℕ) (p : Place) (output : List ℕ)
    → (piece_on_of st m name p output).place.given ≡ p.given + count_given (piece_on_of st m name p output).answer
unfolding piece_on_of piece_on_at
moved_on st m name p output = go (lookup_of st m name)
  where
    go : (l : Lookup)
        → (on_lookup l p (λ at. piece_on_at st.list_arena m.keys m.lists p at output) output).place.given
        ≡ p.given
        + count_given (on_lookup l p (λ at. piece_on_at st.list_arena m.keys m.lists p at output) output).answer
    go (At at) =
        moved_cond p (header_sound m.keys at) _ _
        (moved_cond p (fits_length p (lane_length (header_of m.keys at))) _ _
        (moved_cond p (leb 1 (length output)) _ _
        (moved_from st.list_arena m.lists (header_of m.keys at) p
        (piece_length (header_of m.keys at) p.given (length output)) output)
        (moved_none p)) (moved_none p)) (moved_none p)
    go Missing = moved_none p
    go (Failed n) = moved_none p
