-- A piece of a lane whose blocks are all good is a part of its reading. Assumes nothing.
use Prim.Native.Nat.{ℕ, zero, suc, ◌+◌, ◌-◌, ◌≤◌, ◌<◌, min}
use mathlib.Core.Path.{◌≡◌, refl, sym, ap, ◌∙◌}
use mathlib.Core.Bool.{Bool, true, false, cond}
use mathlib.Core.List.{List}
use native.Mathlib.Nat.{zero-add}
use native.Mathlib.Omega.{arith}
use lib.Dec.{leb}
use lib.ListN.{length}
use borrow.Author.Tests.{leb-true}
use Rattle.numbers.proofs.Tests.{both}
use Rattle.spans.specs.Span.{read_span, overwrite}
use Rattle.spans.proofs.Laws.{read_written, span_within}
use Rattle.expull_header.specs.declared.Header.{Header}
use Rattle.expull_header.specs.Header.{block_count, lane_length}
use Rattle.expull_walk.specs.Blocks.{good_blocks, lane_bytes}
use Rattle.expull_walk.proofs.Laws.{blocks_fewer, lane-bytes-length}
use Rattle.store_state.specs.declared.State.{State}
use Rattle.store_look.specs.declared.Lookup.{Lookup}
use Rattle.store_look.specs.declared.Lookup.TheVariants.{At, Missing, Failed}
use Rattle.store_look.specs.declared.Answer.TheVariants.{Found, Refused as ReadRefused}
use Rattle.store_look.specs.declared.Outcome.TheVariants.{Reading}
use Rattle.records.specs.Record.{header_of, header_sound}
use Rattle.store_look.specs.Look.{Lent, lookup_of, blocks_sound, Read, reading, read_at, read_of, on_lookup_read}
use Rattle.records.proofs.Laws.{Headed, head-sound, head-found}
use Rattle.store_look.proofs.Found.{lookup-held, read_at_lem, read_done}
use Rattle.store_state.proofs.Whole.{whole_facts}
use Rattle.lane_pieces.specs.Piece.{blocks_met, piece_length, out, gives, piece_of}
use Rattle.lane_pieces.specs.declared.Pieced.TheVariants.{Given, Refused}
use Rattle.lane_pieces.proofs.Places.{met_none, met}
use Rattle.lane_pieces.proofs.Pieces.{piece_2, piece_8, piece-met, piece-looked}

-- what is known of a standing lane whose header and blocks are no damage
module _ (st : State) (m : Lent) (at : ℕ) (s : blocks_sound st m at ≡ true) where
  sound-parts : (header_sound m.keys at ≡ true)
      × (good_blocks st.list_arena m.lists (header_of m.keys at).head (block_count (header_of m.keys at))
      ≡ true)
  unfolding blocks_sound
  sound-parts =
      both (header_sound m.keys at)
      (good_blocks st.list_arena m.lists (header_of m.keys at).head (block_count (header_of m.keys at))) s

  sound-headed : Headed m.keys at (header_of m.keys at)
  sound-headed = head-found m.keys at (header_of m.keys at) (head-sound m.keys at sound-parts.0)

  -- fewer blocks than all are met
  met-good : (given n : ℕ) → given + n ≤ lane_length (header_of m.keys at)
      → good_blocks st.list_arena m.lists (header_of m.keys at).head (blocks_met given n) ≡ true
  unfolding good_blocks
  met-good given zero l = rw met_none
  met-good given (suc n) l =
      let h = header_of m.keys at in
      blocks_fewer st.list_arena m.lists h.head (blocks_met given (suc n)) (block_count h)
      (met h given (suc n) sound-headed.ends (omega arith) l).most sound-parts.1

-- A PIECE of a lane whose blocks are all good, by its count and its output
module _ (st : State) (m : Lent) (name : List ℕ) (given at : ℕ) (output : List ℕ) (e : lookup_of st m name ≡ At at)
    (s : blocks_sound st m at ≡ true) where
  abbrev header : Header
  header = header_of m.keys at

  pub piece_given : given ≤ lane_length header → 1 ≤ length output
      → piece_of st m name given output
      ≡ gives m.lists header given (piece_length header given (length output)) output
  piece_given l o =
      let n : ℕ = piece_length header given (length output) in
      piece-looked st m name given output (At at) e
      ∙ piece-met st.list_arena m.keys m.lists given at output (sound-headed st m at s) l o n refl
      ∙ rw (met-good st m at s given n (omega arith))

  pub piece_above : lane_length header < given → piece_of st m name given output ≡ out (Refused 2 0) output
  piece_above l =
      piece-looked st m name given output (At at) e
      ∙ piece_2 st.list_arena m.keys m.lists given at output (sound-headed st m at s) l

  pub piece_without : given ≤ lane_length header → length output ≡ 0
      → piece_of st m name given output ≡ out (Refused 8 (lane_length header)) output
  piece_without l o =
      piece-looked st m name given output (At at) e
      ∙ piece_8 st.list_arena m.keys m.lists given at output (sound-headed st m at s) l o

-- what a reading that gave bytes says
pub record Whole (st : State) (m : Lent) (name whole : List ℕ) (n : ℕ) : Type 0 where
  pub place : ℕ
  pub found : lookup_of st m name ≡ At place
  pub sound : blocks_sound st m place ≡ true
  pub long : lane_length (header_of m.keys place) ≡ n
  pub fits : n ≤ length whole
  pub bytes : (read_of st m name whole).output ≡ overwrite 0 (lane_bytes m.lists (header_of m.keys place)) whole

whole-read : (st : State) (m : Lent) (name whole : List ℕ) (n : ℕ) → (read_of st m name whole).answer ≡ Found (Reading n)
    → Whole st m name whole n
unfolding read_of read_at
whole-read st m name whole n e = go (lookup_of st m name) refl e
  where
    go : (l : Lookup) → lookup_of st m name ≡ l
        → (on_lookup_read l (λ at. read_at st m at whole) whole).answer ≡ Found (Reading n)
        → Whole st m name whole n
    go (At at) p q = by (blocks_sound st m at) refl (leb (lane_length (header_of m.keys at)) (length whole)) refl q
      where
        h : Header
        h = header_of m.keys at

        given : Read
        given = reading (Found (Reading (lane_length h))) (overwrite 0 (lane_bytes m.lists h) whole)

        by : (b : Bool) → blocks_sound st m at ≡ b → (c : Bool) → leb (lane_length h) (length whole) ≡ c
            → (cond b (cond c given (reading (ReadRefused 8 (lane_length h)) whole))
            (reading (ReadRefused 4 0) whole)).answer ≡ Found (Reading n) → Whole st m name whole n
        by true f true g q =
            let z : lane_length h ≡ n = cc in
            let l = leb-true (lane_length h) (length whole) g in
            record {
              place = at;
              found = p;
              sound = f;
              long = z;
              fits = omega arith;
              bytes =
                  ap (λ (r : Read). r.output)
                  (sym (read_at_lem st m name whole at p)
                  ∙ read_done st m at whole h (sound-headed st m at f) (sound-parts st m at f).1 l);
            }
        by true f false g q = let z : ◌≡◌ {A = ℕ} 0 1 = cc in absurd (omega arith)
        by false f c g q = let z : ◌≡◌ {A = ℕ} 0 1 = cc in absurd (omega arith)
    go Missing p q = let z : ◌≡◌ {A = ℕ} 0 1 = cc in absurd (omega arith)
    go (Failed k) p q = let z : ◌≡◌ {A = ℕ} 0 1 = cc in absurd (omega arith)

pub piece_of_reading : (st : State) (m : Lent) (name : List ℕ) (given : ℕ) (output whole : List ℕ) (n : ℕ)
    → (read_of st m name whole).answer ≡ Found (Reading n) → given ≤ n → 1 ≤ length output
    → piece_of st m name given output
    ≡ out (Given (min (length output) (n - given)))
    (overwrite 0 (read_span given (min (length output) (n - given)) (read_of st m name whole).output) output)
piece_of_reading st m name given output whole n e l o =
    let W = whole-read st m name whole n e in
    let h = header_of m.keys W.place in
    let bytes : List ℕ = lane_bytes m.lists h in
    let k : ℕ = min (length output) (n - given) in
    let z : piece_length h given (length output) ≡ k = ap (λ (j : ℕ). min (length output) (j - given)) W.long in
    let held = lookup-held st m name W.place W.found in
    let arena = (whole_facts st (length m.table) (length m.keys) (length m.lists) held.whole).list_arena in
    let long : length bytes ≡ n =
    lane-bytes-length st.list_arena m.lists h arena (sound-headed st m W.place W.sound).ends
    (sound-parts st m W.place W.sound).1 ∙ W.long in
    let back : read_span 0 n (read_of st m name whole).output ≡ bytes =
    ap (read_span 0 n) W.bytes ∙ ap (λ (j : ℕ). read_span 0 j (overwrite 0 bytes whole)) (sym long)
    ∙ read_written 0 bytes whole (omega (arith, W.fits)) in
    let part : read_span given k bytes ≡ read_span given k (read_of st m name whole).output =
    ap (read_span given k) (sym back)
    ∙ (rw zero-add at (span_within 0 n given k (read_of st m name whole).output (omega arith))) in
    piece_given st m name given W.place output W.found W.sound (omega (arith, W.long)) o
    ∙ ap (λ (j : ℕ). gives m.lists h given j output) z
    ∙ ap (λ (x : List ℕ). out (Given k) (overwrite 0 x output)) part
