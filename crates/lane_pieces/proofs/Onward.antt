-- Blocks on from one of a lane's are the lane's own, and a part of a lane needs only the blocks in which it lies.
-- Assumes nothing.
use Prim.Native.Nat.{ℕ, zero, suc, ◌+◌, ◌-◌, ◌≤◌}
use mathlib.Core.Path.{◌≡◌, refl, sym, ap, ◌∙◌}
use mathlib.Core.Bool.{Bool, true, false, cond, ◌&&◌}
use mathlib.Core.List.{List, [], ◌∷◌, ◌++◌, append_assoc, append-nil}
use native.Mathlib.Nat.{zero-add, add-zero, add-suc, suc-add}
use native.Mathlib.Omega.{arith}
use lib.Dec.{eqb, leb}
use lib.ListN.{length, take, drop}
use lib.Seq.{take-append-le, drop-append-add, take-take}
use borrow.Author.Tests.{leb-true, leb-false, eqb-true, eqb-false}
use Rattle.limits.specs.Limits.{fresh_number, link_size}
use Rattle.spans.specs.Span.{read_span}
use Rattle.spans.proofs.Laws.{span_within}
use Rattle.memory_arena.specs.declared.Arena.{Arena}
use Rattle.memory_arena.specs.Pages.{good_span}
use Rattle.memory_arena.specs.Calls.{sensible}
use Rattle.expull_header.specs.declared.Header.{Header}
use Rattle.expull_header.specs.Header.{block_size, sound_header, block_count, full_bytes, lane_length}
use Rattle.expull_walk.specs.Blocks.{block_place, good_blocks, full_blocks, lane_bytes}
use Rattle.expull_header.proofs.Laws.{full-more, length-parts, length_none, sound_facts}
use Rattle.expull_walk.proofs.Laws.{good_block, blocks_more, blocks_fewer, length-full, last_of}
use Rattle.lane_pieces.specs.Onward.{next_place, good_on, bytes_on, held_on}

-- ---- one block more in front

module _ (a : Arena) (m : List ℕ) (i place k : ℕ) where
  pub good_more : good_on a m i place (suc k)
      ≡ (good_span a place (block_size (i + 3) + link_size) && good_on a m (suc i) (next_place m i place) k)
  unfolding good_on
  good_more = refl

pub held_more : (i k : ℕ) → held_on i (suc k) ≡ block_size (i + 3) + held_on (suc i) k
unfolding held_on
held_more i k = refl

pub held_none : (i : ℕ) → held_on i 0 ≡ 0
unfolding held_on
held_none i = refl

pub held_on_lem : (i k : ℕ) → full_bytes i + held_on i k ≡ full_bytes (i + k)
held_on_lem i zero = rw (held_none i, add-zero, add-zero)
held_on_lem i (suc k) = rw (add-suc, ← suc-add) (omega (arith, held_more i k, held_on_lem (suc i) k, full-more i))

-- ---- from block i on, they are the lane's own

pub next-own : (m : List ℕ) (head i : ℕ) → next_place m i (block_place m head i) ≡ block_place m head (suc i)
unfolding next_place block_place
next-own m head i = refl

-- tests of which the first is taken along
regroup : (a b c : Bool) → ((a && b) && c) ≡ (a && (b && c))
regroup true b c = refl
regroup false b c = refl

pub good-on : (a : Arena) (m : List ℕ) (head i k : ℕ)
    → good_blocks a m head (i + k) ≡ (good_blocks a m head i && good_on a m i (block_place m head i) k)
unfolding good_on
good-on a m head i zero = rw add-zero (sym (with_true (good_blocks a m head i)))
  where
    with_true : (b : Bool) → (b && true) ≡ b
    with_true true = refl
    with_true false = refl
good-on a m head i (suc k) =
    rw (add-suc, ← suc-add)
    (good-on a m head (suc i) k
    ∙ rw (blocks_more a m head i, next-own m head i)
    (regroup (good_blocks a m head i) (good_block a m head i) (good_on a m (suc i) (block_place m head (suc i)) k)))

pub full-on : (m : List ℕ) (head i k : ℕ)
    → full_blocks m head (i + k) ≡ full_blocks m head i ++ bytes_on m i (block_place m head i) k
unfolding bytes_on full_blocks
full-on m head i zero = rw add-zero (sym (append-nil (full_blocks m head i)))
full-on m head i (suc k) =
    let z : i + suc k ≡ suc i + k = omega arith in
    ap (full_blocks m head) z
    ∙ full-on m head (suc i) k
    ∙ append_assoc (full_blocks m head i) (read_span (block_place m head i) (block_size (i + 3)) m)
    (bytes_on m (suc i) (block_place m head (suc i)) k)
    ∙ rw (next-own m head i)

-- ---- parts of lists

-- a part behind the front
pub span_behind : (p q n : ℕ) (xs ys : List ℕ) → length xs ≡ p → read_span (p + q) n (xs ++ ys) ≡ read_span q n ys
unfolding read_span
span_behind p q n xs ys e =
    ap (λ (k : ℕ). take n (drop (k + q) (xs ++ ys))) (sym e) ∙ ap (take n) (drop-append-add xs ys q)

-- lists that begin alike have the same parts there
span_front : (p n x : ℕ) (l r : List ℕ) → p + n ≤ x → take x l ≡ take x r → read_span p n l ≡ read_span p n r
unfolding read_span
span_front p n x l r h e =
    sym (rw zero-add at (span_within 0 x p n l h)) ∙ ap (λ (t : List ℕ). take n (drop p t)) e
    ∙ (rw zero-add at (span_within 0 x p n r h))

-- a part of the front
pub span_in-front : (p n : ℕ) (xs ys : List ℕ) → p + n ≤ length xs → read_span p n (xs ++ ys) ≡ read_span p n xs
span_in-front p n xs ys h = span_front p n (p + n) (xs ++ ys) xs (omega arith) (take-append-le (p + n) xs ys h)

-- lists that begin alike behind the same front
take_both : (x : ℕ) (f l r : List ℕ) → take (x - length f) l ≡ take (x - length f) r → take x (f ++ l) ≡ take x (f ++ r)
take_both x [] l r e = let z : x - 0 ≡ x = omega arith in rw z at e
take_both zero (b ∷ f) l r e = refl
take_both (suc x) (b ∷ f) l r e =
    let z : suc x - suc (length f) ≡ x - length f = omega arith in
    ap (λ (t : List ℕ). b ∷ t) (take_both x f l r (rw z at e))

-- ---- a part of a lane needs only the blocks in which it lies

lane-front : (a : Arena) (m : List ℕ) (h : Header) (k x : ℕ) → sensible a (length m) ≡ true → sound_header h 0 ≡ true
    → k ≤ block_count h → good_blocks a m h.head k ≡ true → x ≤ full_bytes k → x ≤ lane_length h
    → take x (lane_bytes m h) ≡ take x (full_blocks m h.head k)
unfolding lane_bytes full_blocks read_span
lane-front a m h k x s t few good in_blocks in_lane = go (eqb h.number fresh_number) refl
  where
    at : ℕ
    at = block_place m h.head (last_of h)

    last : List ℕ
    last = read_span at (block_size h.number - h.remaining) m

    -- the last block isn't met
    before : k ≤ last_of h → take x (full_blocks m h.head (last_of h) ++ last) ≡ take x (full_blocks m h.head k)
    before l =
        let z : k + (last_of h - k) ≡ last_of h = omega arith in
        let rest = bytes_on m k (block_place m h.head k) (last_of h - k) in
        let f : full_blocks m h.head (last_of h) ≡ full_blocks m h.head k ++ rest =
        ap (full_blocks m h.head) (sym z) ∙ full-on m h.head k (last_of h - k) in
        ap (λ (b : List ℕ). take x (b ++ last)) f
        ∙ ap (take x) (append_assoc (full_blocks m h.head k) rest last)
        ∙ take-append-le x (full_blocks m h.head k) (rest ++ last) (omega (arith, length-full a m h.head k s good))

    -- it is: as far as it is written
    with_last : (h.number ≡ fresh_number → ⊥) → k ≡ suc (last_of h)
        → take x (full_blocks m h.head (last_of h) ++ last) ≡ take x (full_blocks m h.head (suc (last_of h)))
    with_last n e =
        let c : last_of h + 3 ≡ h.number = omega (arith, n, (sound_facts h 0 t).shape.from) in
        let f : length (full_blocks m h.head (last_of h)) ≡ full_bytes (last_of h) =
        length-full a m h.head (last_of h) s (blocks_fewer a m h.head (last_of h) k (omega arith) good) in
        let y : ℕ = x - length (full_blocks m h.head (last_of h)) in
        let l : y ≤ block_size h.number - h.remaining = omega (arith, length-parts h n) in
        take_both x (full_blocks m h.head (last_of h)) last (read_span at (block_size (last_of h + 3)) m)
        (take-take y (block_size h.number - h.remaining) (drop at m) l
        ∙ sym (take-take y (block_size (last_of h + 3)) (drop at m) (omega (arith, ap block_size c))))

    go : (b : Bool) → eqb h.number fresh_number ≡ b
        → take x (cond b [] (full_blocks m h.head (last_of h) ++ last)) ≡ take x (full_blocks m h.head k)
    go true e = let z : x ≡ 0 = omega (arith, length_none h (eqb-true _ _ e)) in rw z
    go false e = by (leb k (last_of h)) refl
      where
        n : h.number ≡ fresh_number → ⊥
        n = eqb-false h.number fresh_number e

        by : (b : Bool) → leb k (last_of h) ≡ b
            → take x (full_blocks m h.head (last_of h) ++ last) ≡ take x (full_blocks m h.head k)
        by true q = before (leb-true k (last_of h) q)
        by false q =
            let z : k ≡ suc (last_of h) = omega (arith, leb-false k (last_of h) q) in
            with_last n z ∙ ap (λ (j : ℕ). take x (full_blocks m h.head j)) (sym z)

-- the part of a lane that lies in k blocks from block i on, q bytes behind that block's first
pub lane-on : (a : Arena) (m : List ℕ) (h : Header) (i k q n : ℕ) → sensible a (length m) ≡ true
    → sound_header h 0 ≡ true → i + k ≤ block_count h → good_blocks a m h.head (i + k) ≡ true
    → full_bytes i + q + n ≤ full_bytes (i + k) → full_bytes i + q + n ≤ lane_length h
    → read_span (full_bytes i + q) n (lane_bytes m h) ≡ read_span q n (bytes_on m i (block_place m h.head i) k)
lane-on a m h i k q n s t few good in_blocks in_lane =
    span_front (full_bytes i + q) n (full_bytes i + q + n) (lane_bytes m h) (full_blocks m h.head (i + k)) (omega arith)
    (lane-front a m h (i + k) (full_bytes i + q + n) s t few good in_blocks in_lane)
    ∙ ap (read_span (full_bytes i + q) n) (full-on m h.head i k)
    ∙ span_behind (full_bytes i) q n (full_blocks m h.head i) (bytes_on m i (block_place m h.head i) k)
    (length-full a m h.head i s (blocks_fewer a m h.head i (i + k) (omega arith) good))
