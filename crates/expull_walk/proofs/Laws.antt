-- Laws of the walk along a list's blocks, of readings and of finding a block. Assumes nothing.
use Prim.Native.Nat.{ℕ, zero, suc, ◌+◌, ◌-◌, ◌≤◌, ◌<◌}
use mathlib.Core.Path.{◌≡◌, refl, sym, ap, ◌∙◌}
use mathlib.Core.Bool.{Bool, true, false, cond, ◌&&◌}
use mathlib.Core.List.{List, [], ◌++◌}
use native.Mathlib.Numerals.{add-one}
use native.Mathlib.Omega.{arith}
use lib.Dec.{eqb}
use lib.ListN.{length, length-append}
use borrow.Author.Tests.{le-leb, lt-leb, eqb-true, eqb-false, eq-eqb, ne_eqb}
use Rattle.limits.specs.Limits.{fresh_number, link_size}
use Rattle.numbers.specs.LittleEndian.{le_number}
use Rattle.numbers.proofs.Tests.{both, not_both}
use Rattle.spans.specs.Span.{read_span}
use Rattle.spans.proofs.Laws.{length_span}
use Rattle.memory_arena.specs.declared.Arena.{Arena}
use Rattle.memory_arena.specs.Pages.{good_span}
use Rattle.memory_arena.specs.Calls.{sensible}
use Rattle.memory_arena.proofs.Laws.{good-in, sensible_facts}
use Rattle.expull_header.specs.declared.Header.{Header}
use Rattle.std.specs.Bool.{then_some}
use Rattle.std.specs.Option.{is_some, ok_or}
use Rattle.std.specs.Prelude.{Some, None, Ok, Err}
use Rattle.limits.specs.declared.Refusal.{Refusal}
use Rattle.limits.specs.declared.Refusal.TheVariants.{Damage}
use Rattle.expull_header.specs.Header.{block_size, sound_header, block_count, full_bytes, lane_length}
use Rattle.expull_walk.specs.Blocks.{block_place, good_blocks, full_blocks, lane_bytes, block_told, block_length, block_of}
use Rattle.expull_walk.specs.Blocks.{walk_of, place_of}
use Rattle.expull_header.proofs.Laws.{sound_facts, full-more, length_none, length-parts}

-- ---- good blocks

-- the test at block i
abbrev pub good_block : Arena → List ℕ → ℕ → ℕ → Bool
good_block a m head i = good_span a (block_place m head i) (block_size (i + 3) + link_size)

pub blocks_more : (a : Arena) (m : List ℕ) (head k : ℕ)
    → good_blocks a m head (suc k) ≡ (good_blocks a m head k && good_block a m head k)
unfolding good_blocks
blocks_more a m head k = refl

pub place-more : (m : List ℕ) (head i : ℕ)
    → block_place m head (suc i) ≡ le_number (read_span (block_place m head i + block_size (i + 3)) link_size m)
unfolding block_place
place-more m head i = refl

-- with k good blocks each of fewer is good
pub blocks_fewer : (a : Arena) (m : List ℕ) (head i k : ℕ) → i ≤ k → good_blocks a m head k ≡ true
    → good_blocks a m head i ≡ true
blocks_fewer a m head i zero h e = let z : i ≡ 0 = omega arith in rw z e
blocks_fewer a m head i (suc k) h e = go (eqb i (suc k)) refl (blocks_fewer a m head i k)
  where
    go : (t : Bool) → eqb i (suc k) ≡ t → (i ≤ k → good_blocks a m head k ≡ true → good_blocks a m head i ≡ true)
        → good_blocks a m head i ≡ true
    go true q rest = rw (eqb-true i (suc k) q) e
    go false q rest =
        let n = eqb-false i (suc k) q in
        rest (omega (arith, n))
        (both (good_blocks a m head k) (good_block a m head k) (sym (blocks_more a m head k) ∙ e)).0

pub block_good : (a : Arena) (m : List ℕ) (head i k : ℕ) → i < k → good_blocks a m head k ≡ true
    → good_block a m head i ≡ true
block_good a m head i k h e =
    (both (good_blocks a m head i) (good_block a m head i)
    (sym (blocks_more a m head i) ∙ blocks_fewer a m head (suc i) k h e)).1

-- a bad block stays in the way
pub bad_block_stays : (a : Arena) (m : List ℕ) (head i k : ℕ) → i < k → good_block a m head i ≡ false
    → good_blocks a m head k ≡ false
bad_block_stays a m head i k h e = go (good_blocks a m head k) refl
  where
    go : (t : Bool) → good_blocks a m head k ≡ t → good_blocks a m head k ≡ false
    go true q = not_both (good_block a m head i) (block_good a m head i k h q) e
    go false q = q

-- a good block lies in the memory, with its link
pub block_in_lem : (a : Arena) (m : List ℕ) (head i : ℕ) → sensible a (length m) ≡ true → good_block a m head i ≡ true
    → block_place m head i + (block_size (i + 3) + link_size) ≤ length m
block_in_lem a m head i s e =
    good-in a (block_place m head i) (block_size (i + 3) + link_size) (length m) (sensible_facts a (length m) s).stands e

-- ---- lengths

-- what fewer blocks hold, the next with them
pub full-within : (i k : ℕ) → i < k → full_bytes i + block_size (i + 3) ≤ full_bytes k
full-within i zero h = absurd (omega arith)
full-within i (suc k) h = go (eqb i k) refl (full-within i k)
  where
    go : (t : Bool) → eqb i k ≡ t → (i < k → full_bytes i + block_size (i + 3) ≤ full_bytes k)
        → full_bytes i + block_size (i + 3) ≤ full_bytes (suc k)
    go true q rest =
        let e : i ≡ k = eqb-true i k q in
        rw (full-more k, e) (omega arith)
    go false q rest = let n = eqb-false i k q in omega (arith, rest (omega (arith, n)), full-more k)

pub length-full : (a : Arena) (m : List ℕ) (head k : ℕ) → sensible a (length m) ≡ true → good_blocks a m head k ≡ true
    → length (full_blocks m head k) ≡ full_bytes k
unfolding full_blocks full_bytes
length-full a m head zero s e = refl
length-full a m head (suc k) s e =
    let p = both (good_blocks a m head k) (good_block a m head k) (sym (blocks_more a m head k) ∙ e) in
    length-append (full_blocks m head k) (read_span (block_place m head k) (block_size (k + 3)) m)
    ∙ rw (
      length-full a m head k s p.0,
      length_span (block_place m head k) (block_size (k + 3)) m (omega (arith, block_in_lem a m head k s p.1)),
    )

-- the index of the last block of a list with blocks
abbrev pub last_of : Header → ℕ
last_of h = block_count h - 1

pub lane-bytes-length : (a : Arena) (m : List ℕ) (h : Header) → sensible a (length m) ≡ true → sound_header h 0 ≡ true
    → good_blocks a m h.head (block_count h) ≡ true → length (lane_bytes m h) ≡ lane_length h
unfolding lane_bytes
lane-bytes-length a m h s t e = go (eqb h.number fresh_number) refl
  where
    go : (b : Bool) → eqb h.number fresh_number ≡ b
        → length (cond b [] (full_blocks m h.head (last_of h) ++ read_span (block_place m h.head (last_of h))
        (block_size h.number - h.remaining) m))
        ≡ lane_length h
    go true q = sym (length_none h (eqb-true _ _ q))
    go false q =
        let n = eqb-false h.number fresh_number q in
        let f = (sound_facts h 0 t).shape.from in
        let l : last_of h < block_count h = omega (arith, n) in
        let b : last_of h + 3 ≡ h.number = omega (arith, n) in
        let i = rw b at (block_in_lem a m h.head (last_of h) s
        (block_good a m h.head (last_of h) (block_count h) l e)) in
        length-append (full_blocks m h.head (last_of h))
        (read_span (block_place m h.head (last_of h)) (block_size h.number - h.remaining) m)
        ∙ rw (
          length-full a m h.head (last_of h) s (blocks_fewer a m h.head (last_of h) (block_count h) (omega arith) e),
          length_span (block_place m h.head (last_of h)) (block_size h.number - h.remaining) m (omega arith),
        )
        (sym (length-parts h n))

-- what a walk's answer says of the blocks
pub walk_true : (a : Arena) (m : List ℕ) (head n place : ℕ) → walk_of a m head n ≡ Some place
    → (good_blocks a m head n ≡ true) × (place ≡ block_place m head n)
unfolding walk_of
walk_true a m head n place e = go (good_blocks a m head n) refl e
  where
    go : (t : Bool) → good_blocks a m head n ≡ t → cond t (Some (block_place m head n)) None ≡ Some place
        → (good_blocks a m head n ≡ true) × (place ≡ block_place m head n)
    go true q f = (q, (cc))
    go false q f = cc

pub walk_false : (a : Arena) (m : List ℕ) (head n : ℕ) → walk_of a m head n ≡ None → good_blocks a m head n ≡ false
unfolding walk_of
walk_false a m head n e = go (good_blocks a m head n) refl e
  where
    go : (t : Bool) → good_blocks a m head n ≡ t → cond t (Some (block_place m head n)) None ≡ None
        → good_blocks a m head n ≡ false
    go true q f = cc
    go false q f = q

-- ---- finding a block

pub block_last : (h : Header) (i : ℕ) → i + 3 ≡ h.number → block_length h i ≡ block_size h.number - h.remaining
unfolding block_length
block_last h i e = rw (eq-eqb (i + 1) (block_count h) (omega arith))

pub block_whole : (h : Header) (i : ℕ) → i < block_count h → (i + 3 ≡ h.number → ⊥)
    → block_length h i ≡ block_size (i + 3)
unfolding block_length
block_whole h i l n = rw (ne_eqb (i + 1) (block_count h) (λ e. n (omega arith)))

pub find_none : (a : Arena) (m : List ℕ) (h : Header) (i : ℕ) → block_count h ≤ i → block_of a m h i ≡ Ok None
unfolding block_of
find_none a m h i l = rw (le-leb (block_count h) i l)

pub find_bad : (a : Arena) (m : List ℕ) (h : Header) (i : ℕ) → i < block_count h
    → good_blocks a m h.head (suc i) ≡ false → block_of a m h i ≡ Err Damage
unfolding block_of
find_bad a m h i l e = rw (lt-leb (block_count h) i l, add-one i, e)

pub find_at : (a : Arena) (m : List ℕ) (h : Header) (i : ℕ) → i < block_count h → good_blocks a m h.head (suc i) ≡ true
    → block_of a m h i ≡ Ok (Some (block_told m h i))
unfolding block_of
find_at a m h i l e = rw (lt-leb (block_count h) i l, add-one i, e)

-- the blocks before i are good: the test of block i decides
pub blocks_end : (a : Arena) (m : List ℕ) (head i place size : ℕ) (t u : Bool) → walk_of a m head i ≡ Some place
    → size ≡ block_size (i + 3)
    → t ≡ good_span a place (size + link_size) → t ≡ u → good_blocks a m head (suc i) ≡ u
blocks_end a m head i place size t u w e f g =
    let k = walk_true a m head i place w in
    blocks_more a m head i ∙ rw k.0 (sym (f ∙ rw (k.1, e)) ∙ g)

-- and tells its place
pub place_tested : (a : Arena) (m : List ℕ) (head i place size : ℕ) (t : Bool) → walk_of a m head i ≡ Some place
    → size ≡ block_size (i + 3) → t ≡ good_span a place (size + link_size)
    → then_some t place ≡ place_of a m head i
unfolding place_of
place_tested a m head i place size t w e f =
    let k = walk_true a m head i place w in
    let g : good_blocks a m head (i + 1) ≡ t = rw (add-one i) (blocks_end a m head i place size t t w e f refl) in
    rw (g, k.1) (go t)
  where
    go : (t : Bool) → then_some t (block_place m head i) ≡ cond t (Some (block_place m head i)) None
    go true = refl
    go false = refl

-- or one before it is bad
pub place_lost : (a : Arena) (m : List ℕ) (head i : ℕ) → walk_of a m head i ≡ None → None ≡ place_of a m head i
unfolding place_of
place_lost a m head i w =
    rw (add-one i, blocks_more a m head i, walk_false a m head i w)

-- what a block's place says of the blocks up to it
pub place_good : (a : Arena) (m : List ℕ) (head i place : ℕ) → place_of a m head i ≡ Some place
    → (good_blocks a m head (suc i) ≡ true) × (place ≡ block_place m head i)
unfolding place_of
place_good a m head i place e = go (good_blocks a m head (suc i)) refl (rw add-one at e)
  where
    go : (t : Bool) → good_blocks a m head (suc i) ≡ t → cond t (Some (block_place m head i)) None ≡ Some place
        → (good_blocks a m head (suc i) ≡ true) × (place ≡ block_place m head i)
    go true q f = (q, (cc))
    go false q f = cc

pub place_bad : (a : Arena) (m : List ℕ) (head i : ℕ) → place_of a m head i ≡ None
    → good_blocks a m head (suc i) ≡ false
unfolding place_of
place_bad a m head i e = go (good_blocks a m head (suc i)) refl (rw add-one at e)
  where
    go : (t : Bool) → good_blocks a m head (suc i) ≡ t → cond t (Some (block_place m head i)) None ≡ None
        → good_blocks a m head (suc i) ≡ false
    go true q f = cc
    go false q f = q

-- whether there is one tells whether so many blocks are good
pub place_asked : (a : Arena) (m : List ℕ) (head n : ℕ) → 0 < n
    → is_some (place_of a m head (n - 1)) ≡ good_blocks a m head n
unfolding place_of
place_asked a m head n h = let e : n - 1 + 1 ≡ n = omega arith in rw e (go (good_blocks a m head n))
  where
    go : (t : Bool) → is_some (cond t (Some (block_place m head (n - 1))) None) ≡ t
    go true = refl
    go false = refl

pub none_asked : (a : Arena) (m : List ℕ) (head n : ℕ) → n ≡ 0 → good_blocks a m head n ≡ true
unfolding good_blocks
none_asked a m head n e = rw e

-- a block's place, or why there is none, is what is told of the block
pub block_met : (a : Arena) (m : List ℕ) (h : Header) (i place : ℕ) → i < block_count h
    → ok_or (place_of a m h.head i) Damage ≡ Ok place
    → block_of a m h i ≡ Ok (Some (record { at = place; length = block_length h i }))
unfolding place_of block_of
block_met a m h i place l e = rw (lt-leb (block_count h) i l) (go (good_blocks a m h.head (i + 1)) e)
  where
    go : (t : Bool) → ok_or (cond t (Some (block_place m h.head i)) None) Damage ≡ Ok place
        → cond t (Ok (Some (block_told m h i))) (Err Damage)
        ≡ Ok (Some (record { at = place; length = block_length h i }))
    go true e = let z : block_place m h.head i ≡ place = cc in rw z
    go false e = cc

pub block_refused : (a : Arena) (m : List ℕ) (h : Header) (i : ℕ) (x : Refusal) → i < block_count h
    → ok_or (place_of a m h.head i) Damage ≡ Err x → block_of a m h i ≡ Err x
unfolding place_of block_of
block_refused a m h i x l e = rw (lt-leb (block_count h) i l) (go (good_blocks a m h.head (i + 1)) e)
  where
    go : (t : Bool) → ok_or (cond t (Some (block_place m h.head i)) None) Damage ≡ Err x
        → cond t (Ok (Some (block_told m h i))) (Err Damage) ≡ Err x
    go true e = cc
    go false e = let z : Damage ≡ x = cc in ap Err z
