-- A piece from a place on, case by case, as its code goes. Assumes nothing.
use Prim.Native.Nat.{ℕ, suc, ◌+◌, ◌-◌, ◌≤◌, ◌<◌}
use mathlib.Core.Path.{◌≡◌, refl, sym, ap, ◌∙◌}
use mathlib.Core.Bool.{true, false, cond, ◌&&◌}
use mathlib.Core.List.{List, [], ◌∷◌}
use native.Mathlib.Numerals.{add-one}
use native.Mathlib.Omega.{arith}
use types.Run.{OneOf, miss}
use denote.Enum.Declared.{tag_of}
use lib.Dec.{leb, lit≤}
use lib.ListN.{length}
use borrow.Author.Tests.{le-leb, lt-leb, ne_eqb, leb-true}
use Rattle.limits.specs.Limits.{number_limit}
use Rattle.numbers.proofs.Tests.{both, left_false, right_false}
use Rattle.spans.specs.Span.{overwrite}
use Rattle.spans.proofs.Laws.{span_none, overwrite_none}
use Rattle.memory_arena.specs.declared.Arena.{Arena}
use Rattle.expull_header.specs.declared.Header.{Header}
use Rattle.std.specs.Prelude.{Option, Some, None}
use Rattle.expull_header.specs.Header.{sound_header, full_bytes, lane_length}
use Rattle.expull_header.proofs.Laws.{length_most}
use Rattle.store_state.specs.declared.State.{State}
use Rattle.store_look.specs.declared.Lookup.{Lookup}
use Rattle.store_look.specs.declared.Lookup.TheVariants.{At, Missing, Failed}
use Rattle.store_look.specs.contracts.Lookup.{the_type}
use Rattle.records.specs.Record.{header_sound}
use Rattle.store_look.specs.Look.{Lent, lookup_of}
use Rattle.records.proofs.Laws.{Headed}
use Rattle.lane_pieces.specs.declared.Pieced.TheVariants.{Given, Refused}
use Rattle.lane_pieces.specs.Piece.{block_holding, blocks_met, piece_length, not_found}
use Rattle.lane_pieces.specs.Onward.{good_on, last_on, went, gone_on, Going}
use Rattle.lane_pieces.proofs.Places.{full_high, full-more-blocks, met_none, met_some}
use Rattle.lane_pieces.proofs.Pieces.{gone-said}
use Rattle.lane_places.specs.declared.Place.{Place}
use Rattle.lane_places.specs.PieceOn.{ends_there, fits_length, block_at, met_on, out, place_after, bytes_after}
use Rattle.lane_places.specs.PieceOn.{gone_from, piece_on_at, on_lookup, piece_on_of}

-- ---- whether a place fits a lane's length

module _ (p : Place) (n : ℕ) where
  pub fits_above : n < p.given → fits_length p n ≡ false
  fits_above l = left_false (leb p.given n) (ends_there p) (lt-leb p.given n l)

  -- a block that no lane has
  pub fits_far : n ≤ 4587094008 → p.given ≤ n → number_limit ≤ p.index → fits_length p n ≡ false
  unfolding ends_there
  fits_far m l far =
      let b : p.given < full_bytes p.index =
      omega (arith, full-more-blocks number_limit p.index far, full_high number_limit (lit≤ tt)) in
      right_false (leb p.given n) (ends_there p)
      (left_false (leb (full_bytes p.index) p.given) (leb p.given (full_bytes (suc p.index)))
      (lt-leb (full_bytes p.index) p.given b))

  pub fits_by : {before behind : ℕ} → p.given ≤ n → before ≡ full_bytes p.index → behind ≡ full_bytes (p.index + 1)
      → (leb before p.given && leb p.given behind) ≡ fits_length p n
  unfolding ends_there
  fits_by l e f = rw (le-leb p.given n l, e, f, add-one)

-- what it says
pub record Fits (p : Place) (n : ℕ) : Type 0 where
  pub counted : p.given ≤ n
  pub after : full_bytes p.index ≤ p.given
  pub before : p.given ≤ full_bytes (suc p.index)

pub fits_facts : (p : Place) (n : ℕ) → fits_length p n ≡ true → Fits p n
unfolding ends_there
fits_facts p n e =
    let k = both (leb p.given n) (ends_there p) e in
    let l = both (leb (full_bytes p.index) p.given) (leb p.given (full_bytes (suc p.index))) k.1 in
    record { counted = leb-true _ _ k.0; after = leb-true _ _ l.0; before = leb-true _ _ l.1 }

-- ---- n bytes from a place on

module _ (a : Arena) (lists : List ℕ) (h : Header) (p : Place) (n : ℕ) (output : List ℕ) where
  pub gone-good : good_on a lists p.index (block_at h p) (met_on p n) ≡ true
      → gone_from a lists h p n output
      ≡ out (Given n) (place_after lists h p n) (overwrite 0 (bytes_after lists h p n) output)
  unfolding gone_from
  gone-good e = rw e

  pub gone_bad : good_on a lists p.index (block_at h p) (met_on p n) ≡ false
      → gone_from a lists h p n output ≡ out (Refused 4 0) p output
  unfolding gone_from
  gone_bad e = rw e

  pub place_some : 0 < n → place_after lists h p n ≡ record {
    index = blocks_met p.given n - 1;
    block = last_on lists p.index (block_at h p) (block_at h p) (met_on p n);
    given = p.given + n;
  }
  place_some z = rw (ne_eqb n 0 (λ q. omega arith))

  pub gone-stopped : {place : ℕ} {w : Option ℕ} {output' : List ℕ} → place ≡ block_at h p
      → went w output' ≡ gone_on a lists p.index place p.given n output → w ≡ None
      → out (Refused 4 0) p output' ≡ gone_from a lists h p n output
  gone-stopped {place} {w} {output'} e g s =
      let k = (gone-said a lists p.index place p.given n output g).stopped s in
      ap (λ (o : List ℕ). out (Refused 4 0) p o) k.1 ∙ sym (gone_bad (rw e at k.0))

  pub gone_done : {place last index : ℕ} {w : Option ℕ} {output' : List ℕ} → 0 < n → place ≡ block_at h p
      → went w output' ≡ gone_on a lists p.index place p.given n output → w ≡ Some last
      → index ≡ block_holding (p.given + n - 1)
      → out (Given n) (record { index = index; block = last; given = p.given + n }) output'
      ≡ gone_from a lists h p n output
  gone_done {place} {last} {index} {w} {output'} z e g s i =
      let k = (gone-said a lists p.index place p.given n output g).come last s in
      let j : index ≡ blocks_met p.given n - 1 = omega (arith, i, met_some p.given n z) in
      let t : last ≡ last_on lists p.index (block_at h p) (block_at h p) (met_on p n) = rw e at k.1.0 in
      let o : output' ≡ overwrite 0 (bytes_after lists h p n) output = rw e at k.1.1 in
      (λ x. out (Given n) (record { index = j x; block = t x; given = p.given + n }) (o x))
      ∙ ap (λ (q : Place). out (Given n) q (overwrite 0 (bytes_after lists h p n) output)) (sym (place_some z))
      ∙ sym (gone-good (rw e at k.0))

-- ---- the answers of a standing lane

module _ (a : Arena) (keys lists : List ℕ) (p : Place) (at : ℕ) (output : List ℕ) where
  pub on_4 : header_sound keys at ≡ false → piece_on_at a keys lists p at output ≡ out (Refused 4 0) p output
  unfolding piece_on_at
  on_4 e = rw e

  module _ {h : Header} (k : Headed keys at h) where
    on-by : piece_on_at a keys lists p at output
        ≡ cond (fits_length p (lane_length h))
        (cond (leb 1 (length output)) (gone_from a lists h p (piece_length h p.given (length output)) output)
        (out (Refused 8 (lane_length h)) p output))
        (out (Refused 2 0) p output)
    unfolding piece_on_at
    on-by = rw (k.sound, k.is)

    pub on_2 : fits_length p (lane_length h) ≡ false → piece_on_at a keys lists p at output ≡ out (Refused 2 0) p output
    on_2 e = on-by ∙ rw e

    module _ (e : fits_length p (lane_length h) ≡ true) where
      pub on_8 : length output ≡ 0 → piece_on_at a keys lists p at output ≡ out (Refused 8 (lane_length h)) p output
      on_8 z = on-by ∙ rw (e, lt-leb 1 (length output) (omega arith))

      pub on_go : 0 < length output → (n : ℕ) → n ≡ piece_length h p.given (length output)
          → piece_on_at a keys lists p at output ≡ gone_from a lists h p n output
      on_go z n f = on-by ∙ rw (e, le-leb 1 (length output) z, f)

      pub on_none : 0 < length output → (n : ℕ) → n ≡ piece_length h p.given (length output) → n ≡ 0
          → piece_on_at a keys lists p at output ≡ out (Given 0) p output
      unfolding good_on
      on_none z n f q =
          let t : met_on p 0 ≡ 0 = omega (arith, met_none p.given) in
          on_go z 0 (sym q ∙ f) ∙ gone-good a lists h p 0 output (rw t)
          ∙ ap (λ (o : List ℕ). out (Given 0) p o) (rw (span_none, overwrite_none))

-- what code needs of the numbers
pub fits-going : (h : Header) (p : Place) {n room : ℕ} → sound_header h 0 ≡ true → fits_length p (lane_length h) ≡ true
    → 0 < n → n ≡ piece_length h p.given room → Going p.index p.given n room
fits-going h p t e z f =
    let k = fits_facts p (lane_length h) e in
    record {
      after = k.after;
      before = k.before;
      some_bytes = z;
      short = omega (arith, k.counted, length_most h t);
      space = omega arith;
    }

-- ---- the answers by name

module _ (st : State) (m : Lent) (name : List ℕ) (p : Place) (output : List ℕ) where
  pub on-looked : (l : Lookup) → lookup_of st m name ≡ l
      → piece_on_of st m name p output
      ≡ on_lookup l p (λ at. piece_on_at st.list_arena m.keys m.lists p at output) output
  unfolding piece_on_of
  on-looked l e =
      ap (λ (x : Lookup). on_lookup x p (λ at. piece_on_at st.list_arena m.keys m.lists p at output) output) e

  -- a lookup that code has told apart from a place
  pub on_not : (l : Lookup) → l ≡ lookup_of st m name → OneOf (1 ∷ 2 ∷ []) (tag_of the_type l)
      → out (not_found l) p output ≡ piece_on_of st m name p output
  on_not l e o = go l o ∙ sym (on-looked l (sym e))
    where
      go : (l : Lookup) → OneOf (1 ∷ 2 ∷ []) (tag_of the_type l)
          → out (not_found l) p output
          ≡ on_lookup l p (λ at. piece_on_at st.list_arena m.keys m.lists p at output) output
      go (At at) o = absurd (miss (1 ∷ 2 ∷ []) 0 tt o)
      go Missing o = refl
      go (Failed n) o = refl
