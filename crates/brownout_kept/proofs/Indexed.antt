-- A list's blocks as a list of places, the newest first, and by their index from the head: each way from the other.
-- Assumes nothing.
use Prim.Native.Nat.{ℕ, zero, suc, ◌+◌, ◌-◌, ◌≤◌, ◌<◌}
use mathlib.Core.Path.{◌≡◌, refl, ap}
use mathlib.Core.Bool.{Bool, true, false}
use mathlib.Core.List.{List, [], ◌∷◌}
use native.Mathlib.Omega.{arith}
use lib.Dec.{eqb}
use lib.ListN.{length}
use borrow.Author.Tests.{eqb-true, eqb-false}
use Rattle.limits.specs.Limits.{fresh_number, link_size}
use Rattle.numbers.specs.LittleEndian.{le_number}
use Rattle.numbers.proofs.Tests.{both_true}
use Rattle.spans.specs.Span.{read_span, Apart}
use Rattle.memory_arena.specs.declared.Arena.{Arena}
use Rattle.memory_arena.specs.Address.{place_of}
use Rattle.memory_arena.specs.Pages.{standing, good_span}
use Rattle.memory_arena.proofs.Laws.{standing_facts, good-below}
use Rattle.expull_header.specs.declared.Header.{Header}
use Rattle.expull_header.specs.Header.{block_size, block_count}
use Rattle.expull_walk.specs.Blocks.{block_place, good_blocks}
use Rattle.history_lanes.specs.Lane.{wide_on, LinkTo, Links, Below, Paged, oldest, Clear, used_end}
use Rattle.history_lanes.proofs.Readings.{place_newest}
use Rattle.history.specs.Sound.{BlocksApart}
use Rattle.history.proofs.Spans.{Every, clear-every, index_every}
use Rattle.brownout_kept.specs.Laid.{Own, Ends, Chain}

-- what a block takes by its index
abbrev pub wide_at : ℕ → ℕ
wide_at i = block_size (i + 3) + link_size

-- ---- from the list of places to the index

every-apart : (ks js : List ℕ) → BlocksApart ks js → Every (λ x w. Clear x w js) ks
every-apart [] js b = tt
every-apart (x ∷ ks) js b = (b.0, every-apart ks js b.1)

every-good : (a : Arena) (n : ℕ) (ks : List ℕ) → standing a n ≡ true
    → Below (used_end a) ks → Paged a.size ks → Every (λ x w. good_span a x w ≡ true) ks
every-good a n [] s b p = tt
every-good a n (x ∷ ks) s b p = (
  good-below a x (wide_on ks) (omega arith) p.0 b.0 (standing_facts a n s).in_page,
  every-good a n ks s b.1 p.1,
)

chain-every : {m : List ℕ} {a : Arena} {h : Header} {ks : List ℕ} → Chain m a h ks → (P : ℕ → ℕ → Type 0) → Every P ks
    → (i : ℕ) → i < block_count h → P (block_place m h.head i) (wide_at i)
chain-every {m} {a} {h} {ks} L P e i k = go ks L.number L.links L.ends e
  where
    go : (ks : List ℕ) → h.number ≡ length ks + fresh_number → Links m ks → Ends h ks → Every P ks
        → P (block_place m h.head i) (wide_at i)
    go [] n l t e = absurd (omega arith)
    go (x ∷ ks) n l t e = index_every P m h.head x ks l t.0 e i (omega arith)

module _ {m : List ℕ} {a : Arena} {h : Header} {ks : List ℕ} (L : Chain m a h ks) where
  abbrev at : ℕ → ℕ
  at i = block_place m h.head i

  chain-good : (i : ℕ) → i < block_count h → good_span a (at i) (wide_at i) ≡ true
  chain-good =
      chain-every L (λ x w. good_span a x w ≡ true)
      (every-good a (length m) ks L.stands L.below L.paged)

  pub chain-blocks : (k : ℕ) → k ≤ block_count h → good_blocks a m h.head k ≡ true
  unfolding good_blocks
  chain-blocks zero k = refl
  chain-blocks (suc i) k = both_true _ _ (chain-blocks i (omega arith)) (chain-good i k)

  -- its blocks and another list's
  pub chain-beside : {g : Header} {js : List ℕ} (K : Chain m a g js) → BlocksApart ks js → (i j : ℕ) → i < block_count h
      → j < block_count g → Apart (at i) (wide_at i) (block_place m g.head j) (wide_at j)
  chain-beside {g} {js} K b i j p q =
      chain-every K (Apart (at i) (wide_at i))
      (clear-every (at i) (wide_at i) js (chain-every L (λ x w. Clear x w js) (every-apart ks js b) i p)) j q

-- two blocks of one list
own_index : (m : List ℕ) (hd x : ℕ) (ks : List ℕ) → Links m (x ∷ ks) → hd ≡ oldest x ks → Own (x ∷ ks) → (j k : ℕ)
    → j < k → k ≤ length ks → Apart (block_place m hd k) (wide_at k) (block_place m hd j) (wide_at j)
own_index m hd x [] l e o j k p q = absurd (omega arith)
own_index m hd x (y ∷ ks) l e o j k p q =
    go (eqb k (length (y ∷ ks))) refl (λ r. own_index m hd y ks l.1 e o.1 j k p r)
  where
    go : (t : Bool) → eqb k (length (y ∷ ks)) ≡ t
        → (k ≤ length ks → Apart (block_place m hd k) (wide_at k) (block_place m hd j) (wide_at j))
        → Apart (block_place m hd k) (wide_at k) (block_place m hd j) (wide_at j)
    go true r f =
        let s : k ≡ length (y ∷ ks) = eqb-true k (length (y ∷ ks)) r in
        rw (s, place_newest m hd x (y ∷ ks) l e)
        (index_every (Apart x (wide_on (y ∷ ks))) m hd y ks l.1 e
        (clear-every x (wide_on (y ∷ ks)) (y ∷ ks) o.0) j (omega (arith, s)))
    go false r f = let z : k ≡ suc (length ks) → ⊥ = eqb-false k (length (y ∷ ks)) r in f (omega arith)

pub chain-own : {m : List ℕ} {a : Arena} {h : Header} {ks : List ℕ} → Chain m a h ks → (j k : ℕ) → j < k
    → k < block_count h → Apart (block_place m h.head k) (wide_at k) (block_place m h.head j) (wide_at j)
chain-own {m} {a} {h} {ks} L j k p q = go ks L.number L.links L.ends L.own
  where
    go : (ks : List ℕ) → h.number ≡ length ks + fresh_number → Links m ks
        → Ends h ks → Own ks
        → Apart (block_place m h.head k) (wide_at k) (block_place m h.head j) (wide_at j)
    go [] n l t o = absurd (omega arith)
    go (x ∷ ks) n l t o = own_index m h.head x ks l t.0 o j k p (omega arith)

-- the tail is where the last block's filled bytes end
pub chain-filled : {m : List ℕ} {a : Arena} {h : Header} {ks : List ℕ} → Chain m a h ks → (h.number ≡ fresh_number → ⊥)
    → h.tail ≡ block_place m h.head (block_count h - 1) + (block_size h.number - h.remaining)
chain-filled {m} {a} {h} {ks} L n = go ks L.number L.links L.ends
  where
    go : (ks : List ℕ) → h.number ≡ length ks + fresh_number → Links m ks
        → Ends h ks
        → h.tail ≡ block_place m h.head (block_count h - 1) + (block_size h.number - h.remaining)
    go [] e l t = absurd (n e)
    go (x ∷ ks) e l t =
        let c : block_count h - 1 ≡ length ks = omega arith in
        let f : h.number ≡ length ks + 3 = omega arith in
        rw (c, f, place_newest m h.head x ks l t.0) (omega (arith, t.1, t.2))

-- ---- from the index to the list of places

abbrev pub places_to : List ℕ → ℕ → ℕ → List ℕ
places_to m hd zero = []
places_to m hd (suc k) = block_place m hd k ∷ places_to m hd k

module _ (m : List ℕ) (hd : ℕ) where
  pub places-length : (k : ℕ) → length (places_to m hd k) ≡ k
  places-length zero = refl
  places-length (suc k) = ap suc (places-length k)

  pub places_wide : (k : ℕ) → wide_on (places_to m hd k) ≡ wide_at k
  places_wide k = ap wide_at (places-length k)

  link_to : (k : ℕ) → LinkTo m (places_to m hd k) (block_place m hd k)
  unfolding block_place
  link_to zero = tt
  link_to (suc j) =
      ap (λ (n : ℕ). le_number (read_span (block_place m hd j + block_size (n + 3)) link_size m)) (places-length j)

  pub places-links : (k : ℕ) → Links m (places_to m hd k)
  places-links zero = tt
  places-links (suc k) = (link_to k, places-links k)

  pub places-oldest : (k : ℕ) → oldest (block_place m hd k) (places_to m hd k) ≡ hd
  unfolding block_place
  places-oldest zero = refl
  places-oldest (suc k) = places-oldest k

  -- what holds of each by its index
  pub places-below : (u k : ℕ) → ((i : ℕ) → i < k → block_place m hd i + wide_at i ≤ u) → Below u (places_to m hd k)
  places-below u zero f = tt
  places-below u (suc k) f =
      (rw (places_wide k) (f k (omega arith)), places-below u k (λ i h. f i (omega arith)))

  pub places-paged : (s k : ℕ) → ((i : ℕ) → i < k → place_of s (block_place m hd i) + wide_at i ≤ s)
      → Paged s (places_to m hd k)
  places-paged s zero f = tt
  places-paged s (suc k) f =
      (rw (places_wide k) (f k (omega arith)), places-paged s k (λ i h. f i (omega arith)))

  pub places-clear : (p n k : ℕ) → ((i : ℕ) → i < k → Apart p n (block_place m hd i) (wide_at i))
      → Clear p n (places_to m hd k)
  places-clear p n zero f = tt
  places-clear p n (suc k) f =
      (rw (places_wide k) (f k (omega arith)), places-clear p n k (λ i h. f i (omega arith)))

  pub places-own : (k : ℕ)
      → ((j i : ℕ) → j < i → i < k → Apart (block_place m hd i) (wide_at i) (block_place m hd j) (wide_at j))
      → Own (places_to m hd k)
  places-own zero f = tt
  places-own (suc k) f = (
    rw (places_wide k) (places-clear (block_place m hd k) (wide_at k) k (λ i h. f i k h (omega arith))),
    places-own k (λ j i p q. f j i p (omega arith)),
  )

  pub places-apart : (js : List ℕ) (k : ℕ) → ((i : ℕ) → i < k → Clear (block_place m hd i) (wide_at i) js)
      → BlocksApart (places_to m hd k) js
  places-apart js zero f = tt
  places-apart js (suc k) f =
      (rw (places_wide k) (f k (omega arith)), places-apart js k (λ i h. f i (omega arith)))
