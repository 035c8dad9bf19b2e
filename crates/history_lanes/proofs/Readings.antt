-- What the calls tell of a lane: its header isn't damage, its blocks are good spans, its bytes, its length, each of its
-- blocks. Assumes nothing.
use Prim.Native.Nat.{ℕ, zero, suc, ◌+◌, ◌-◌, ◌*◌, ◌^◌, ◌≤◌, ◌<◌}
use mathlib.Core.Path.{◌≡◌, refl, sym, ap, ◌∙◌}
use mathlib.Core.Bool.{Bool, true, false}
use mathlib.Core.List.{List, [], ◌∷◌, ◌++◌, append_assoc, append-nil}
use native.Mathlib.Nat.{le_refl, le_trans, add-zero, add-suc}
use native.Mathlib.Omega.{arith}
use lib.Dec.{leb, eqb}
use lib.ListN.{length, length-append, take, drop}
use lib.Seq.{take_all, take-append_seam, drop-append_seam}
use borrow.Author.Tests.{le-leb, lt-leb, eq-eqb, ne_eqb, leb-true, leb-false, eqb-true, eqb-false}
use Rattle.limits.specs.Limits.{null_address, fresh_number, number_limit, size_top, link_size}
use Rattle.numbers.proofs.Tests.{both_true, cond-true, cond-false}
use Rattle.spans.specs.Span.{read_span}
use Rattle.spans.proofs.Laws.{length_span}
use Rattle.memory_arena.specs.declared.Arena.{Arena}
use Rattle.memory_arena.specs.Address.{place_of}
use Rattle.memory_arena.specs.Pages.{standing, good_span}
use Rattle.memory_arena.proofs.Laws.{standing_facts, good-below, good_shorter, good-in}
use Rattle.expull_header.specs.declared.Header.{Header}
use Rattle.std.specs.Prelude.{None, Ok}
use Rattle.expull_header.specs.Header.{block_size, sound_header, block_count, full_bytes, lane_length}
use Rattle.expull_append.specs.Append.{good_tail}
use Rattle.expull_walk.specs.Blocks.{block_place, good_blocks, full_blocks, lane_bytes, block_length, block_of}
use Rattle.history_lanes.specs.Lane.{size_on, wide_on, full_content, content, Links, Below, Stack, Paged, oldest}
use Rattle.history_lanes.specs.Lane.{used_end, Lane, HeaderFits, FoundBlock, pieces}
use Rattle.history_lanes.proofs.Blocks.{size_top_lem, size_full, placed_within}

-- ---- the header

-- blocks from number 15 on all take the same, and share no place: so there are not many
stack-few : (u : ℕ) (ks : List ℕ) → Below u ks → Stack ks
    → length ks * (2 ^ size_top + link_size) ≤ u + 12 * (2 ^ size_top + link_size)
stack-few u [] b s = omega arith
stack-few u (x ∷ ks) b s = go (leb 12 (length ks)) refl (stack-few x ks s.0 s.1)
  where
    go : (t : Bool) → leb 12 (length ks) ≡ t → length ks * (2 ^ size_top + link_size) ≤ x + 12 * (2 ^ size_top + link_size)
        → suc (length ks) * (2 ^ size_top + link_size) ≤ u + 12 * (2 ^ size_top + link_size)
    go true e i =
        let l : 12 ≤ length ks = leb-true _ _ e in
        omega (arith, b.0, size_full (length ks + 3) (omega arith))
    go false e i = let l : length ks < 12 = leb-false _ _ e in omega arith

oldest_low : (x : ℕ) (ks : List ℕ) → Stack (x ∷ ks) → oldest x ks ≤ x
oldest_low x [] s = le_refl x
oldest_low x (y ∷ ks) s = le_trans (oldest_low y ks s.1) (omega (arith, s.0.0))

-- the block number counts the blocks
pub lane_count : (m : List ℕ) (a : Arena) (h : Header) (ks : List ℕ) → Lane m a h ks → block_count h ≡ length ks
lane_count m a h ks L = omega (arith, L.number)

pub lane-header : (m : List ℕ) (a : Arena) (h : Header) (ks : List ℕ) → Lane m a h ks → HeaderFits h
unfolding sound_header
lane-header m a h [] L =
    let e : h.number ≡ fresh_number = L.number in
    record {
      sound =
          rw (
            le-leb fresh_number h.number (omega arith),
            le-leb h.number number_limit (omega arith),
            eq-eqb h.number fresh_number e,
            eq-eqb h.head null_address L.tip.0,
            eq-eqb h.tail null_address L.tip.1,
            eq-eqb h.remaining 0 L.tip.2,
          );
      few = omega arith;
      number = omega arith;
      head = omega (arith, L.tip);
      tail = omega (arith, L.tip);
      remaining = omega (arith, L.tip);
    }
lane-header m a h (x ∷ ks) L =
    let e : h.number ≡ length ks + 3 = omega (arith, L.number) in
    let i : used_end a ≤ length m = (standing_facts a (length m) L.stands).in_memory in
    let k : ℕ = length (x ∷ ks) in
    let f : k * (2 ^ size_top + link_size) ≤ used_end a + 12 * (2 ^ size_top + link_size) =
    stack-few (used_end a) (x ∷ ks) L.below L.tip.3 in
    let o : h.head ≤ x = rw L.tip.0 (oldest_low x ks L.tip.3) in
    let r : h.remaining ≤ block_size h.number = rw e L.tip.1 in
    record {
      sound =
          rw (
            le-leb fresh_number h.number (omega arith),
            le-leb h.number number_limit (omega (arith, L.short)),
            ne_eqb h.number fresh_number (λ z. omega arith),
            ne_eqb h.head null_address (λ z. omega (arith, L.below.0, L.short)),
            le-leb h.remaining (block_size h.number) r,
          );
      few = omega (arith, L.short);
      number = omega (arith, L.short);
      head = omega (arith, L.below.0, L.short);
      tail = omega (arith, L.tip.2, L.below.0, L.short);
      remaining = omega (arith, L.tip.1, size_top_lem (length ks + 3));
    }

-- ---- good spans

-- a span that ends in the used part, and on one page
lies_good : (m : List ℕ) (a : Arena) (at n : ℕ) → standing a (length m) ≡ true → 0 < n
    → place_of a.size at + n ≤ a.size → at + n ≤ used_end a
    → good_span a at n ≡ true
lies_good m a at n s z p e = good-below a at n z p e (standing_facts a (length m) s).in_page

pub lane_tail : (m : List ℕ) (a : Arena) (h : Header) (ks : List ℕ) → Lane m a h ks → good_tail a h ≡ true
unfolding good_tail
lane_tail m a h [] L = rw (eq-eqb h.number fresh_number L.number)
lane_tail m a h (x ∷ ks) L =
    let t : h.tail ≡ x + (size_on ks - h.remaining) = omega (arith, L.tip) in
    rw (ne_eqb h.number fresh_number (λ z. omega (arith, L.number)))
    (lies_good m a h.tail (h.remaining + link_size) L.stands (omega arith)
    (rw t (placed_within a.size x (wide_on ks) (size_on ks - h.remaining) (h.remaining + link_size) (omega arith)
    (omega (arith, L.tip.1)) L.paged.0))
    (omega (arith, L.tip.2, L.below.0)))

-- the links lead from the head to the newest block
pub place_newest : (m : List ℕ) (hd x : ℕ) (ks : List ℕ) → Links m (x ∷ ks) → hd ≡ oldest x ks
    → block_place m hd (length ks) ≡ x
unfolding block_place
place_newest m hd x [] l e = e
place_newest m hd x (y ∷ ks) l e = rw (place_newest m hd y ks l.1 e) l.0

-- so each block on the way is a good span
place-good : (m : List ℕ) (a : Arena) (hd x : ℕ) (ks : List ℕ) → standing a (length m) ≡ true → Links m (x ∷ ks)
    → hd ≡ oldest x ks
    → Below (used_end a) (x ∷ ks) → Paged a.size (x ∷ ks) → (i : ℕ) → i ≤ length ks
    → good_span a (block_place m hd i) (block_size (i + 3) + link_size) ≡ true
place-good m a hd x [] s l e b p i h =
    let z : i ≡ length {A = ℕ} [] = omega arith in
    rw (z, place_newest m hd x [] l e) (lies_good m a x (wide_on []) s (omega arith) p.0 b.0)
place-good m a hd x (y ∷ ks) s l e b p i h =
    go (eqb i (length (y ∷ ks))) refl (λ k. place-good m a hd y ks s l.1 e b.1 p.1 i k)
  where
    go : (t : Bool) → eqb i (length (y ∷ ks)) ≡ t
        → (i ≤ length ks → good_span a (block_place m hd i) (block_size (i + 3) + link_size) ≡ true)
        → good_span a (block_place m hd i) (block_size (i + 3) + link_size) ≡ true
    go true q f =
        rw (eqb-true i (length (y ∷ ks)) q, place_newest m hd x (y ∷ ks) l e)
        (lies_good m a x (wide_on (y ∷ ks)) s (omega arith) p.0 b.0)
    go false q f = let z : i ≡ suc (length ks) → ⊥ = eqb-false i (length (y ∷ ks)) q in f (omega arith)

good_up : (m : List ℕ) (a : Arena) (hd n : ℕ)
    → ((i : ℕ) → i < n → good_span a (block_place m hd i) (block_size (i + 3) + link_size) ≡ true)
    → (k : ℕ) → k ≤ n → good_blocks a m hd k ≡ true
unfolding good_blocks
good_up m a hd n f zero h = refl
good_up m a hd n f (suc k) h = both_true _ _ (good_up m a hd n f k (omega arith)) (f k h)

-- block i, with its link
block_good : (m : List ℕ) (a : Arena) (h : Header) (ks : List ℕ) → Lane m a h ks → (i : ℕ) → i < block_count h
    → good_span a (block_place m h.head i) (block_size (i + 3) + link_size) ≡ true
block_good m a h [] L i k = absurd (omega (arith, L.number))
block_good m a h (x ∷ ks) L i k =
    place-good m a h.head x ks L.stands L.links L.tip.0 L.below L.paged i (omega (arith, L.number))

pub lane-blocks : (m : List ℕ) (a : Arena) (h : Header) (ks : List ℕ) → Lane m a h ks → (k : ℕ) → k ≤ block_count h
    → good_blocks a m h.head k ≡ true
lane-blocks m a h ks L k i = good_up m a h.head (block_count h) (block_good m a h ks L) k i

-- ---- the bytes

full-blocks : (m : List ℕ) (hd x : ℕ) (ks : List ℕ) → Links m (x ∷ ks) → hd ≡ oldest x ks
    → full_blocks m hd (length ks) ≡ full_content m ks
unfolding full_blocks
full-blocks m hd x [] l e = refl
full-blocks m hd x (y ∷ ks) l e = rw (full-blocks m hd y ks l.1 e, place_newest m hd y ks l.1 e)

pub lane_reads : (m : List ℕ) (a : Arena) (h : Header) (ks : List ℕ) → Lane m a h ks
    → lane_bytes m h ≡ content m ks h.remaining
unfolding lane_bytes
lane_reads m a h [] L = rw (eq-eqb h.number fresh_number L.number)
lane_reads m a h (x ∷ ks) L =
    let e : h.number ≡ length ks + 3 = omega (arith, L.number) in
    let c : block_count h - 1 ≡ length ks = omega arith in
    rw (
      ne_eqb h.number fresh_number (λ z. omega arith),
      c,
      e,
      full-blocks m h.head x ks L.links L.tip.0,
      place_newest m h.head x ks L.links L.tip.0,
    )

-- ---- the length

length-full : (u : ℕ) (m ks : List ℕ) → Below u ks → u ≤ length m → length (full_content m ks) ≡ full_bytes (length ks)
unfolding full_bytes
length-full u m [] b h = refl
length-full u m (x ∷ ks) b h =
    length-append (full_content m ks) (read_span x (size_on ks) m)
    ∙ rw (length-full u m ks b.1 h, length_span x (size_on ks) m (omega (arith, b.0)))

-- by the blocks
pub content-length : (m : List ℕ) (a : Arena) (h : Header) (ks : List ℕ) → Lane m a h ks
    → length (content m ks h.remaining) + h.remaining ≡ full_bytes (length ks)
unfolding full_bytes
content-length m a h [] L = omega (arith, L.tip)
content-length m a h (x ∷ ks) L =
    let i : used_end a ≤ length m = (standing_facts a (length m) L.stands).in_memory in
    omega (
      arith,
      length-append (full_content m ks) (read_span x (size_on ks - h.remaining) m),
      L.tip.1,
      length-full (used_end a) m ks L.below.1 i,
      length_span x (size_on ks - h.remaining) m (omega (arith, L.below.0)),
    )

-- and by the header alone
pub lane-length : (m : List ℕ) (a : Arena) (h : Header) (ks : List ℕ) → Lane m a h ks
    → lane_length h ≡ length (content m ks h.remaining)
unfolding lane_length full_bytes
lane-length m a h [] L = rw (eq-eqb h.number fresh_number L.number)
lane-length m a h (x ∷ ks) L =
    let e : h.number ≡ length ks + 3 = omega (arith, L.number) in
    let c : block_count h - 1 ≡ length ks = omega arith in
    rw (ne_eqb h.number fresh_number (λ z. omega arith), c, e)
    (omega (arith, content-length m a h (x ∷ ks) L, L.tip.1))

-- ---- finding a block

length_before : (h : Header) (i : ℕ) → i + 1 < block_count h → block_length h i ≡ block_size (i + 3)
unfolding block_length
length_before h i k = cond-false _ _ _ (ne_eqb (i + 1) (block_count h) (λ z. omega arith))

length_last : (h : Header) (i : ℕ) → i + 1 ≡ block_count h → block_length h i ≡ block_size (i + 3) - h.remaining
unfolding block_length
length_last h i k =
    let e : i + 3 ≡ h.number = omega arith in
    rw e (cond-true _ _ _ (eq-eqb (i + 1) (block_count h) k))

length-within : (h : Header) (i : ℕ) → i < block_count h → block_length h i ≤ block_size (i + 3)
length-within h i k = go (eqb (i + 1) (block_count h)) refl
  where
    go : (t : Bool) → eqb (i + 1) (block_count h) ≡ t → block_length h i ≤ block_size (i + 3)
    go true q = omega (arith, length_last h i (eqb-true (i + 1) (block_count h) q))
    go false q =
        let z : i + 1 ≡ block_count h → ⊥ = eqb-false (i + 1) (block_count h) q in
        omega (arith, length_before h i (omega arith))

pub lane_block : (m : List ℕ) (a : Arena) (h : Header) (ks : List ℕ) → Lane m a h ks → (i : ℕ) → i < block_count h
    → FoundBlock m a h i
unfolding block_of
lane_block m a h ks L i k = record {
  told = rw (lt-leb (block_count h) i k, lane-blocks m a h ks L (i + 1) (omega arith));
  good = good_shorter a (block_place m h.head i) (block_size (i + 3) + link_size) (block_length h i)
      (omega (arith, length-within h i k)) (block_good m a h ks L i k);
}

-- past the last there is no such block
pub lane_no_block : (m : List ℕ) (a : Arena) (h : Header) (i : ℕ) → block_count h ≤ i → block_of a m h i ≡ Ok None
unfolding block_of
lane_no_block m a h i k = rw (le-leb (block_count h) i k)

-- the blocks' bytes, joined in order, are the lane's
pieces-full : (m : List ℕ) (h : Header) (k : ℕ) → k < block_count h → pieces m h k ≡ full_blocks m h.head k
unfolding full_blocks
pieces-full m h zero l = refl
pieces-full m h (suc k) l = rw (pieces-full m h k (omega arith), length_before h k (omega arith))

pub lane-pieces : (m : List ℕ) (a : Arena) (h : Header) (ks : List ℕ) → Lane m a h ks
    → pieces m h (block_count h) ≡ content m ks h.remaining
lane-pieces m a h [] L = let c : block_count h ≡ 0 = omega (arith, L.number) in rw c
lane-pieces m a h (x ∷ ks) L =
    let c : block_count h ≡ suc (length ks) = omega (arith, L.number) in
    rw (
      c,
      pieces-full m h (length ks) (omega arith),
      length_last h (length ks) (omega arith),
      full-blocks m h.head x ks L.links L.tip.0,
      place_newest m h.head x ks L.links L.tip.0,
    )

-- ---- each block's own piece

module _ (m : List ℕ) (a : Arena) (h : Header) (ks : List ℕ) (L : Lane m a h ks) where
  abbrev piece : ℕ → List ℕ
  piece i = read_span (block_place m h.head i) (block_length h i) m

  piece-length : (i : ℕ) → i < block_count h → length (piece i) ≡ block_length h i
  piece-length i k =
      length_span (block_place m h.head i) (block_length h i) m
      (good-in a (block_place m h.head i) (block_length h i) (length m) L.stands
      (lane_block m a h ks L i k).good)

  pieces-length : (k : ℕ) → k < block_count h → length (pieces m h k) ≡ full_bytes k
  unfolding full_bytes
  pieces-length zero l = refl
  pieces-length (suc k) l =
      length-append (pieces m h k) (piece k)
      ∙ (λ i. pieces-length k (omega arith) i + (piece-length k (omega arith) ∙ length_before h k (omega arith)) i)

  -- what the blocks behind block i give
  behind : ℕ → ℕ → List ℕ
  behind i zero = []
  behind i (suc j) = behind i j ++ piece (suc i + j)

  pieces-behind : (i j : ℕ) → pieces m h (suc i + j) ≡ pieces m h i ++ (piece i ++ behind i j)
  unfolding behind
  pieces-behind i zero = simp (add-zero, append-nil) refl
  pieces-behind i (suc j) =
      simp add-suc (ap (λ (l : List ℕ). l ++ piece (suc i + j)) (pieces-behind i j)
      ∙ append_assoc (pieces m h i) (piece i ++ behind i j) (piece (suc i + j))
      ∙ ap (λ (l : List ℕ). pieces m h i ++ l) (append_assoc (piece i) (behind i j) (piece (suc i + j))))

  -- what a block holds is its part of the lane's bytes: a whole block's, and of the last what there is
  pub lane-piece : (i : ℕ) → i < block_count h
      → piece i ≡ read_span (full_bytes i) (block_size (i + 3)) (content m ks h.remaining)
  unfolding read_span behind
  lane-piece i k =
      sym (
      (λ x. take size (drop (sym (pieces-length i k) x) (all x)))
      ∙ ap (take size) (drop-append_seam (pieces m h i) (piece i ++ behind i j))
      ∙ ends (eqb (i + 1) (block_count h)) refl)
    where
      j : ℕ
      j = block_count h - suc i

      size : ℕ
      size = block_size (i + 3)

      all : content m ks h.remaining ≡ pieces m h i ++ (piece i ++ behind i j)
      all =
          let c : suc i + j ≡ block_count h = omega arith in
          sym (lane-pieces m a h ks L) ∙ ap (pieces m h) (sym c) ∙ pieces-behind i j

      ends : (t : Bool) → eqb (i + 1) (block_count h) ≡ t → take size (piece i ++ behind i j) ≡ piece i
      ends true q =
          let z : j ≡ 0 = omega (arith, eqb-true (i + 1) (block_count h) q) in
          ap (λ (x : ℕ). take size (piece i ++ behind i x)) z
          ∙ ap (take size) (append-nil (piece i))
          ∙ take_all size (piece i) (omega (arith, piece-length i k, length-within h i k))
      ends false q =
          let z : (i + 1 ≡ block_count h → ⊥) = eqb-false (i + 1) (block_count h) q in
          let l : size ≡ length (piece i) = sym (length_before h i (omega arith)) ∙ sym (piece-length i k) in
          ap (λ (x : ℕ). take x (piece i ++ behind i j)) l ∙ take-append_seam (piece i) (behind i j)
