-- The blocks of a lane by their index from the head, as the calls tell them, and spans beside them. Assumes nothing.
use Prim.Native.Nat.{ℕ, suc, ◌+◌, ◌≤◌, ◌<◌}
use mathlib.Core.Path.{◌≡◌, refl, sym, ap}
use mathlib.Core.Logic.{inr}
use mathlib.Core.Bool.{Bool, true, false}
use mathlib.Core.List.{List, [], ◌∷◌}
use native.Mathlib.Nat.{le_refl}
use native.Mathlib.Omega.{arith}
use lib.Dec.{eqb}
use lib.ListN.{length}
use borrow.Author.Tests.{eqb-true, eqb-false}
use Rattle.limits.specs.Limits.{link_size}
use Rattle.spans.specs.Span.{read_span, Apart}
use Rattle.memory_arena.specs.declared.Arena.{Arena}
use Rattle.memory_arena.proofs.Laws.{good-end}
use Rattle.expull_header.specs.declared.Header.{Header}
use Rattle.expull_header.specs.Header.{block_size, block_count}
use Rattle.expull_walk.specs.Blocks.{block_place, block_length}
use Rattle.expull_walk.proofs.Laws.{block_last, block_whole}
use Rattle.history_lanes.specs.Lane.{wide_on, Links, Below, oldest, Clear, TipApart, TipClear, used_end, Lane, After}
use Rattle.history_lanes.proofs.Blocks.{apart-within}
use Rattle.history_lanes.proofs.Readings.{lane_block, place_newest}

-- what holds of every block: of its place and of what it takes
abbrev pub Every : (ℕ → ℕ → Type 0) → List ℕ → Type 0
Every P [] = Unit {0}
Every P (x ∷ ks) = P x (wide_on ks) × Every P ks

every-clear : (q n : ℕ) (ks : List ℕ) → Every (Apart q n) ks → Clear q n ks
every-clear q n [] e = tt
every-clear q n (x ∷ ks) e = (e.0, every-clear q n ks e.1)

pub clear-every : (q n : ℕ) (ks : List ℕ) → Clear q n ks → Every (Apart q n) ks
clear-every q n [] c = tt
clear-every q n (x ∷ ks) c = (c.0, clear-every q n ks c.1)

pub below-every : (u : ℕ) (ks : List ℕ) → Below u ks → Every (λ x w. x + w ≤ u) ks
below-every u [] b = tt
below-every u (x ∷ ks) b = (b.0, below-every u ks b.1)

module _ (P : ℕ → ℕ → Type 0) (m : List ℕ) (hd : ℕ) where
  abbrev pub AtIndex : ℕ → Type 0
  AtIndex i = P (block_place m hd i) (block_size (i + 3) + link_size)

  pub index_every : (x : ℕ) (ks : List ℕ) → Links m (x ∷ ks) → hd ≡ oldest x ks → Every P (x ∷ ks)
      → (i : ℕ) → i ≤ length ks → AtIndex i
  index_every x [] l e a i h = let z : i ≡ length {A = ℕ} [] = omega arith in rw (z, place_newest m hd x [] l e) a.0
  index_every x (y ∷ ks) l e a i h = go (eqb i (length (y ∷ ks))) refl (λ k. index_every y ks l.1 e a.1 i k)
    where
      go : (t : Bool) → eqb i (length (y ∷ ks)) ≡ t → (i ≤ length ks → AtIndex i) → AtIndex i
      go true q f = rw (eqb-true i (length (y ∷ ks)) q, place_newest m hd x (y ∷ ks) l e) a.0
      go false q f = let z : i ≡ suc (length ks) → ⊥ = eqb-false i (length (y ∷ ks)) q in f (omega arith)

  every_index : (x : ℕ) (ks : List ℕ) → Links m (x ∷ ks) → hd ≡ oldest x ks → ((i : ℕ) → i ≤ length ks → AtIndex i)
      → Every P (x ∷ ks)
  every_index x [] l e f = (rw (place_newest m hd x [] l e) at (f 0 (omega arith)), tt)
  every_index x (y ∷ ks) l e f = (
    rw (place_newest m hd x (y ∷ ks) l e) at (f (length (y ∷ ks)) (le_refl (length (y ∷ ks)))),
    every_index y ks l.1 e (λ i h. f i (omega arith)),
  )

-- a span apart from each block that can be found is clear of the blocks
pub lane-clear : (m : List ℕ) (a : Arena) (h : Header) (ks : List ℕ) → Lane m a h ks → (q n : ℕ)
    → ((i : ℕ) → i < block_count h → Apart q n (block_place m h.head i) (block_size (i + 3) + link_size)) → Clear q n ks
lane-clear m a h [] L q n f = tt
lane-clear m a h (x ∷ ks) L q n f =
    every-clear q n (x ∷ ks)
    (every_index (Apart q n) m h.head x ks L.links L.tip.0 (λ i k. f i (omega (arith, L.number))))

-- what a lane tells of block i ends within its place
told-within : (h : Header) (i : ℕ) → i < block_count h → block_length h i ≤ block_size (i + 3)
told-within h i k = go (eqb (i + 3) h.number) refl
  where
    go : (t : Bool) → eqb (i + 3) h.number ≡ t → block_length h i ≤ block_size (i + 3)
    go true e =
        let q : i + 3 ≡ h.number = eqb-true (i + 3) h.number e in
        omega (arith, block_last h i q, ap block_size q)
    go false e = omega (arith, block_whole h i k (eqb-false (i + 3) h.number e))

-- and, of its own lane, where the next byte goes or before
told_below : (m : List ℕ) (a : Arena) (h : Header) (ks : List ℕ) → Lane m a h ks → (i : ℕ) → i < block_count h
    → block_place m h.head i + block_length h i ≤ h.tail
told_below m a h [] L i k = absurd (omega (arith, L.number))
told_below m a h (x ∷ []) L i k =
    let z : i ≡ length {A = ℕ} [] = omega (arith, L.number) in
    let e : i + 3 ≡ h.number = omega (arith, L.number) in
    omega (
      arith,
      block_last h i e,
      ap block_size (sym e),
      ap (block_place m h.head) z,
      ap (λ (j : ℕ). block_size (j + 3)) z,
      place_newest m h.head x [] L.links L.tip.0,
      L.tip,
    )
told_below m a h (x ∷ y ∷ ks) L i k = go (eqb i (suc (length ks))) refl
  where
    go : (t : Bool) → eqb i (suc (length ks)) ≡ t → block_place m h.head i + block_length h i ≤ h.tail
    go true q =
        let z : i ≡ suc (length ks) = eqb-true i (suc (length ks)) q in
        let e : i + 3 ≡ h.number = omega (arith, L.number) in
        omega (
          arith,
          block_last h i e,
          ap block_size (sym e),
          ap (block_place m h.head) z,
          ap (λ (j : ℕ). block_size (j + 3)) z,
          place_newest m h.head x (y ∷ ks) L.links L.tip.0,
          L.tip,
        )
    go false q =
        let z : i ≡ suc (length ks) → ⊥ = eqb-false i (suc (length ks)) q in
        omega (
          arith,
          L.tip,
          told-within h i k,
          index_every (λ p w. p + w ≤ x) m h.head y ks L.links.1 L.tip.0
              (below-every x (y ∷ ks) L.tip.3.0) i (omega (arith, L.number)),
        )

-- ---- what an append leaves of the bytes that blocks told of

module _ (m : List ℕ) (a : Arena) (h : Header) (ks bs m' : List ℕ) (a' : Arena) (h' : Header) (ks' : List ℕ)
    (A : After m a h ks bs m' a' h' ks') where
  told-used : (g : Header) (js : List ℕ) → Lane m a g js → (i : ℕ) → i < block_count g
      → block_place m g.head i + block_length g i ≤ used_end a
  told-used g js L i k =
      good-end a (block_place m g.head i) (block_length g i) (length m) L.stands (lane_block m a g js L i k).good

  -- of its own lane
  pub told-own : Lane m a h ks → (i : ℕ) → i < block_count h
      → read_span (block_place m h.head i) (block_length h i) m'
      ≡ read_span (block_place m h.head i) (block_length h i) m
  told-own L i k =
      A.rest (block_place m h.head i) (block_length h i) (told-used h ks L i k) (inr (told_below m a h ks L i k))

  tip-apart : (ks : List ℕ) (g : Header) (js : List ℕ) → Lane m a g js → TipClear ks js → (i : ℕ) → i < block_count g
      → TipApart (block_place m g.head i) (block_length g i) ks
  tip-apart [] g js L t i k = tt
  tip-apart (x ∷ ks) g [] L t i k = absurd (omega (arith, L.number))
  tip-apart (x ∷ ks) g (y ∷ js) L t i k =
      apart-within x (wide_on ks) (block_place m g.head i) (block_size (i + 3) + link_size) x (wide_on ks)
      (block_place m g.head i) (block_length g i)
      (le_refl x) (le_refl (x + wide_on ks)) (le_refl (block_place m g.head i)) (omega (arith, told-within g i k))
      (index_every (Apart x (wide_on ks)) m g.head y js L.links L.tip.0
      (clear-every x (wide_on ks) (y ∷ js) t) i (omega (arith, L.number)))

  -- of another
  pub told_other : (g : Header) (js : List ℕ) → Lane m a g js → TipClear ks js → (i : ℕ) → i < block_count g
      → read_span (block_place m g.head i) (block_length g i) m'
      ≡ read_span (block_place m g.head i) (block_length g i) m
  told_other g js L t i k =
      A.span (block_place m g.head i) (block_length g i) (told-used g js L i k) (tip-apart ks g js L t i k)
