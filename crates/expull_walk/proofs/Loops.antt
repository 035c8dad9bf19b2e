-- What holds while the code's loops run, and what a turn of each does: the walk, the reading. Assumes nothing.
use Prim.Native.Nat.{ℕ, ◌+◌, ◌-◌, ◌≤◌, ◌<◌}
use mathlib.Core.Path.{◌≡◌, refl, sym, ap, ◌∙◌}
use mathlib.Core.Bool.{Bool, true, false}
use mathlib.Core.List.{List, ◌++◌}
use native.Mathlib.Numerals.{add-one}
use native.Mathlib.Omega.{arith}
use lib.ListN.{length, take, drop}
use borrow.Author.Tests.{eq-eqb, ne_eqb}
use Rattle.limits.specs.Limits.{fresh_number, link_size}
use Rattle.numbers.specs.LittleEndian.{le_number}
use Rattle.spans.specs.Span.{overwrite, read_span}
use Rattle.spans.proofs.Laws.{length-overwrite, overwrite-append, overwrite_none}
use Rattle.memory_arena.specs.declared.Arena.{Arena}
use Rattle.memory_arena.specs.Pages.{good_span}
use Rattle.memory_arena.specs.Calls.{sensible}
use Rattle.expull_header.specs.declared.Header.{Header}
use Rattle.expull_header.specs.Header.{block_size, sound_header, block_count, full_bytes, lane_length}
use Rattle.expull_header.proofs.Laws.{sound_facts, full-more, length-parts}
use Rattle.numbers.proofs.Tests.{both_true}
use Rattle.std.specs.Prelude.{Some, None}
use Rattle.expull_walk.specs.Blocks.{block_place, good_blocks, full_blocks, lane_bytes, walk_of}
use Rattle.expull_walk.proofs.Laws.{good_block, blocks_more, place-more, blocks_fewer, block_good}
use Rattle.expull_walk.proofs.Laws.{bad_block_stays, block_in_lem, full-within, length-full, last_of}
use Rattle.expull_header.proofs.Parts.{part_span}

-- ---- the walk's loop

-- what holds while blocks are met: the place is block i's, and those before it are good
pub record Walking (a : Arena) (m : List ℕ) (head n place i : ℕ) : Type 0 where
  pub at_most : i ≤ n
  pub here : place ≡ block_place m head i
  pub good : good_blocks a m head i ≡ true

module _ {a : Arena} {m : List ℕ} {head n place i : ℕ} (w : Walking a m head n place i) where
  -- the test of a turn, as code makes it
  pub walking-test : {size : ℕ} {t u : Bool} → size ≡ block_size (i + 3) → t ≡ good_span a place (size + link_size) → t ≡ u
      → good_block a m head i ≡ u
  walking-test e f g = sym (f ∙ rw (w.here, e)) ∙ g

  pub walking-in : {size : ℕ} → sensible a (length m) ≡ true → size ≡ block_size (i + 3) → good_block a m head i ≡ true
      → place + (size + link_size) ≤ length m
  walking-in s e g = rw (w.here, e) (block_in_lem a m head i s g)

  pub walking-next : {size next : ℕ} → i < n → size ≡ block_size (i + 3) → good_block a m head i ≡ true
      → next ≡ le_number (read_span (place + size) link_size m) → Walking a m head n next (i + 1)
  walking-next h e g f = record {
    at_most = omega arith;
    here = f ∙ rw (w.here, e, add-one i) (sym (place-more m head i));
    good = rw (add-one i) (blocks_more a m head i ∙ both_true _ _ w.good g);
  }

  pub walking_stop : i < n → good_block a m head i ≡ false → walk_of a m head n ≡ None
  unfolding walk_of
  walking_stop h g = rw (bad_block_stays a m head i n h g)

  pub walking-end : n ≤ i → Some place ≡ walk_of a m head n
  unfolding walk_of
  walking-end h =
      let e : i ≡ n = omega (arith, w.at_most) in
      rw (← e, w.good) (ap Some w.here)

-- ---- the reading's loop

-- what a reading of a list with blocks may rely on
pub record Readable (a : Arena) (m : List ℕ) (h : Header) (room : ℕ) : Type 0 where
  pub sense : sensible a (length m) ≡ true
  pub sound : sound_header h 0 ≡ true
  pub blocks : good_blocks a m h.head (block_count h) ≡ true
  pub some_blocks : h.number ≡ fresh_number → ⊥
  pub space : lane_length h ≤ room

pub readable : {a : Arena} {m : List ℕ} {h : Header} {room : ℕ} → sensible a (length m) ≡ true
    → (sound_header h 0 ≡ true) × ((good_blocks a m h.head (block_count h) ≡ true) × (lane_length h ≤ room))
    → (h.number ≡ fresh_number → ⊥) → Readable a m h room
readable s k n = record { sense = s; sound = k.0; blocks = k.1.0; some_blocks = n; space = k.1.1 }

-- what holds while full blocks are copied: the first i of them stand at the front of the output
pub record Reading (m : List ℕ) (h : Header) (output₀ output : List ℕ) (place at i : ℕ) : Type 0 where
  pub at_most : i ≤ last_of h
  pub here : place ≡ block_place m h.head i
  pub index : at ≡ full_bytes i
  pub copied : output ≡ overwrite 0 (full_blocks m h.head i) output₀

-- a list without blocks has nothing to read
pub reading_none : (m : List ℕ) (h : Header) (output : List ℕ) → h.number ≡ fresh_number
    → output ≡ overwrite 0 (lane_bytes m h) output
unfolding lane_bytes
reading_none m h output e = rw (eq-eqb h.number fresh_number e) (sym (overwrite_none 0 output))

pub reading-begun : (m : List ℕ) (h : Header) (output : List ℕ) → Reading m h output output h.head 0 0
unfolding block_place full_bytes full_blocks
reading-begun m h output =
    record { at_most = omega arith; here = refl; index = refl; copied = sym (overwrite_none 0 output) }

pub reading-length : {m : List ℕ} {h : Header} {output₀ output : List ℕ} {place at i : ℕ}
    → Reading m h output₀ output place at i → length output ≡ length output₀
reading-length {m} {h} {output₀} {i = i} r =
    ap length r.copied ∙ length-overwrite 0 (full_blocks m h.head i) output₀

-- so many bytes from a place lie in the memory, and on from an index in the output
pub record Piece (m output : List ℕ) (place at n : ℕ) : Type 0 where
  pub in_memory : place + n ≤ length m
  pub in_output : at + n ≤ length output

module _ {a : Arena} {m : List ℕ} {h : Header} {output₀ output : List ℕ} {place at i : ℕ}
    (k : Readable a m h (length output₀)) (r : Reading m h output₀ output place at i) where
  -- the last block's number
  last_number : last_of h + 3 ≡ h.number
  last_number = let n = k.some_blocks in omega (arith, n, (sound_facts h 0 k.sound).shape.from)

  -- block i lies in the memory, with its link
  reading-in : place + (block_size (i + 3) + link_size) ≤ length m
  reading-in =
      rw r.here
      (block_in_lem a m h.head i k.sense
      (block_good a m h.head i (block_count h) (omega (arith, last_number, r.at_most)) k.blocks))

  -- bytes on from what was copied
  reading-on : (bs : List ℕ) → overwrite at bs output ≡ overwrite 0 (full_blocks m h.head i ++ bs) output₀
  reading-on bs =
      let good = blocks_fewer a m h.head i (block_count h) (omega (arith, r.at_most)) k.blocks in
      let l : 0 + length (full_blocks m h.head i) ≡ at =
      omega (arith, r.index, length-full a m h.head i k.sense good) in
      rw r.copied (sym (overwrite-append 0 (full_blocks m h.head i) bs output₀ ∙ rw l))

  -- a full block: its number is at most the list's, it lies in the memory with its link, and its bytes fit the output
  pub reading-piece : {size : ℕ} → i < last_of h → size ≡ block_size (i + 3)
      → (i + 3 ≤ h.number) × ((place + (size + link_size) ≤ length m) × Piece m output place at size)
  reading-piece l e =
      let n = last_number in
      let j = reading-in in (
        omega arith,
        (
          rw e j,
          record {
            in_memory = omega arith;
            in_output =
                omega (
                  arith,
                  e,
                  r.index,
                  full-within i (last_of h) l,
                  length-parts h k.some_blocks,
                  k.space,
                  reading-length r,
                );
          },
        ),
      )

  pub reading-next : {size next : ℕ} {output' : List ℕ} → i < last_of h → size ≡ block_size (i + 3)
      → output' ≡ overwrite at (take (place + size - place) (drop place m)) output
      → next ≡ le_number (read_span (place + size) link_size m)
      → Reading m h output₀ output' next (at + size) (i + 1)
  unfolding full_blocks
  reading-next {size = size} l e f g = record {
    at_most = omega arith;
    here = g ∙ rw (r.here, e, add-one i) (sym (place-more m h.head i));
    index = rw (add-one i) (omega (arith, e, r.index, full-more i));
    copied =
        f ∙ ap (λ (bs : List ℕ). overwrite at bs output) (part_span m place size)
        ∙ reading-on (read_span place size m)
        ∙ rw (r.here, e, add-one i);
  }

  -- the last block, as far as it is written
  pub reading_last : {n : ℕ} → last_of h ≤ i → n ≡ block_size h.number - h.remaining → Piece m output place at n
  reading_last l e =
      let b : i + 3 ≡ h.number = omega (arith, last_number, r.at_most) in
      let c : i ≡ last_of h = omega (arith, r.at_most) in
      let j = rw b at reading-in in
      let f : at ≡ full_bytes (last_of h) = r.index ∙ ap full_bytes c in
      record {
        in_memory = omega arith;
        in_output = omega (arith, length-parts h k.some_blocks, k.space, reading-length r);
      }

  pub reading-end : {n : ℕ} {output' : List ℕ} → last_of h ≤ i → n ≡ block_size h.number - h.remaining
      → output' ≡ overwrite at (take (place + n - place) (drop place m)) output
      → output' ≡ overwrite 0 (lane_bytes m h) output₀
  unfolding lane_bytes
  reading-end {n = n} l e f =
      let c : i ≡ last_of h = omega (arith, r.at_most) in
      f ∙ ap (λ (bs : List ℕ). overwrite at bs output) (part_span m place n)
      ∙ reading-on (read_span place n m)
      ∙ rw (ne_eqb h.number fresh_number k.some_blocks, r.here, e, c)
