-- What a lane takes of the list pages, by its bytes, and the blocks that an append to it lays. Assumes nothing.
use Prim.Native.Nat.{ℕ, zero, suc, ◌+◌, ◌-◌, ◌*◌, ◌≤◌, ◌<◌}
use mathlib.Core.Path.{◌≡◌, refl, sym, ap, ◌∙◌, subst}
use mathlib.Core.Bool.{Bool, true, false, cond}
use mathlib.Core.Option.{Option, none, some}
use mathlib.Core.List.{List, [], ◌∷◌}
use native.Mathlib.Nat.{le_refl}
use native.Mathlib.Omega.{arith}
use lib.Dec.{leb, eqb}
use lib.ListN.{length}
use lib.Pow.{pow_mono}
use borrow.Author.Tests.{leb-true, leb-false, eqb-false}
use Rattle.limits.specs.Limits.{link_size}
use Rattle.memory_arena.specs.declared.Arena.{Arena}
use Rattle.memory_arena.specs.Pages.{MaybeRoom, room_for}
use Rattle.memory_arena.proofs.Laws.{room_size}
use Rattle.expull_header.specs.Header.{block_size, full_bytes, taken_bytes}
use Rattle.expull_append.specs.Append.{planned, is_some, on_room_dry}
use Rattle.expull_header.proofs.Laws.{size_low, size_most, size_least, full-more, full_closed_low, full_closed_high}
use Rattle.expull_walk.proofs.Laws.{full-within}
use Rattle.history_lanes.proofs.Room.{size_sum}
use Rattle.history.specs.Due.{shape_of}
use Rattle.history.specs.Promises.{blocks_for}
use Rattle.history.proofs.Shape.{Fills, shape-fills}
use Rattle.lending.specs.Lending.{block_tail, with_tails}
use Rattle.shift_cost.specs.Shift.{length_in, with_bytes, blocks_in, taken_in}
use Rattle.shift_cost.proofs.Pages.{Holds, holds_more, holds-room, never_full}
use Rattle.std.specs.Prelude.{Some, None}

-- ---- so many blocks

pub full_none : full_bytes 0 ≡ 0
unfolding full_bytes
full_none = refl

full_up : (i k : ℕ) → i ≤ k → full_bytes i ≤ full_bytes k
full_up i k h = go (leb k i) refl
  where
    go : (b : Bool) → leb k i ≡ b → full_bytes i ≤ full_bytes k
    go true e = let q : i ≡ k = omega (arith, leb-true k i e) in rw q (le_refl (full_bytes k))
    go false e = omega (arith, full-within i k (leb-false k i e))

-- each holds at least 8 bytes
full-eight : (k : ℕ) → 8 * k ≤ full_bytes k
full-eight zero = omega arith
full-eight (suc k) = omega (arith, full-more k, full-eight k, size_least (k + 3) (omega arith))

-- the first twelve at most 16,384
size_small : (j : ℕ) → j < 12 → block_size (j + 3) ≤ 16384
size_small j h = subst (λ (n : ℕ). n ≤ 16384) (sym (size_low (j + 3) (omega arith)))
    (pow_mono {i = j + 3} {j = 14} (omega arith))

-- more bytes than the first k blocks hold need more blocks
more-blocks : (k j : ℕ) → full_bytes k < full_bytes j → k < j
more-blocks k j h = go (leb j k) refl
  where
    go : (b : Bool) → leb j k ≡ b → k < j
    go true e = absurd (omega (arith, full_up j k (leb-true j k e)))
    go false e = leb-false j k e

-- ---- the blocks of n bytes

pub fills : (n : ℕ) → Fills n (blocks_for n) (shape_of n).remaining
unfolding blocks_for
fills n = (shape-fills n).1

pub shape_number : (n : ℕ) → (shape_of n).number ≡ blocks_for n + 2
unfolding blocks_for
shape_number n = omega (arith, (shape-fills n).0)

no_blocks : (n k r : ℕ) → Fills n k r → n ≡ 0 → k ≡ 0
no_blocks n zero r F e = refl
no_blocks n (suc j) r F e = absurd (omega (arith, F.all, full-more j, F.begun j refl))

pub blocks_none : blocks_for 0 ≡ 0
blocks_none = no_blocks 0 (blocks_for 0) (shape_of 0).remaining (fills 0) refl

-- all blocks but the last are full
blocks_up : (l n k r : ℕ) → Fills l k r → l ≤ n → k ≤ blocks_for n
blocks_up l n zero r F h = omega arith
blocks_up l n (suc j) r F h =
    more-blocks j (blocks_for n) (omega (arith, F.all, full-more j, F.begun j refl, (fills n).all))

pub blocks_more : (l n : ℕ) → blocks_for l ≤ blocks_for (l + n)
blocks_more l n = blocks_up l (l + n) (blocks_for l) (shape_of l).remaining (fills l) (omega arith)

-- what waits when the last block of l bytes is full is held by the blocks of l + n
pub blocks_wait : (l n : ℕ) → 0 < n - (shape_of l).remaining
    → full_bytes (blocks_for l) + (n - (shape_of l).remaining) ≤ full_bytes (blocks_for (l + n))
blocks_wait l n h = omega (arith, (fills l).all, (fills (l + n)).all)

-- ---- what they take, by the bytes

module _ (n : ℕ) (some : 0 < n) where
  -- "at most 2n + 6 + 4k"
  by_blocks : (k r : ℕ) → Fills n k r → full_bytes k ≤ 2 * n + 6
  by_blocks zero r F = omega (arith, full_none)
  by_blocks (suc j) r F = omega (arith, F.all, full-more j, F.begun j refl, size_sum j)

  few-blocks : (k r : ℕ) → Fills n k r → 8 * k ≤ n + 7
  few-blocks zero r F = omega arith
  few-blocks (suc j) r F = omega (arith, F.all, full-more j, F.begun j refl, full-eight j)

  by-long : (k r : ℕ) → Fills n k r → 8192 * taken_bytes k ≤ 8193 * n + 8192 * 32816
  by-long zero r F = omega (arith, full_none)
  by-long (suc j) r F = go (leb 13 j) refl
    where
      go : (b : Bool) → leb 13 j ≡ b → 8192 * taken_bytes (suc j) ≤ 8193 * n + 8192 * 32816
      go true e =
          omega (
            arith,
            leb-true 13 j e,
            F.all,
            full-more j,
            F.begun j refl,
            size_most (j + 3),
            full_closed_high j (leb-true 13 j e),
          )
      go false e = below (leb 12 j) refl
        where
          below : (c : Bool) → leb 12 j ≡ c → 8192 * taken_bytes (suc j) ≤ 8193 * n + 8192 * 32816
          below true f =
              let q : j ≡ 12 = omega (arith, leb-true 12 j f, leb-false 13 j e) in
              omega (
                arith,
                F.all,
                full-more j,
                F.begun j refl,
                size_most (j + 3),
                ap full_bytes q,
                full_closed_low 12 (omega arith),
              )
          below false f = omega (arith, leb-false 12 j f, F.all, F.begun j refl, size_small j (leb-false 12 j f))

pub lane_cost : (o : Option (List ℕ)) → taken_in o ≤ 2 * length_in o + 6 * with_bytes o + 4 * blocks_in o
lane_cost none = omega arith
lane_cost (some []) = rw blocks_none (omega (arith, full_none))
lane_cost (some (b ∷ bs)) =
    let n : ℕ = length (b ∷ bs) in
    omega (arith, by_blocks n (omega arith) (blocks_for n) (shape_of n).remaining (fills n))

-- near for short lanes, and for long ones
pub lane_short : (o : Option (List ℕ)) → 2 * taken_in o ≤ 5 * length_in o + 20 * with_bytes o
lane_short none = omega arith
lane_short (some []) = rw blocks_none (omega (arith, full_none))
lane_short (some (b ∷ bs)) =
    let n : ℕ = length (b ∷ bs) in
    omega (
      arith,
      by_blocks n (omega arith) (blocks_for n) (shape_of n).remaining (fills n),
      few-blocks n (omega arith) (blocks_for n) (shape_of n).remaining (fills n),
    )

pub lane-long : (o : Option (List ℕ)) → 8192 * taken_in o ≤ 8193 * length_in o + 8192 * (32816 * with_bytes o)
lane-long none = omega arith
lane-long (some []) = rw blocks_none (omega (arith, full_none))
lane-long (some (b ∷ bs)) =
    let n : ℕ = length (b ∷ bs) in
    omega (arith, by-long n (omega arith) (blocks_for n) (shape_of n).remaining (fills n))

-- ---- the blocks that an append lays: the next is number k + 3, n bytes wait, and K blocks hold them all

module _ (len K o : ℕ) where
  turn : (k n : ℕ) → 0 < n → (0 < n → full_bytes k + n ≤ full_bytes K) → k < K
  turn k n h f = more-blocks k K (omega (arith, f h))

  wide : (k : ℕ) → block_size (k + 2 + 1) + link_size ≤ block_tail + 1
  wide k = omega (arith, size_most (k + 2 + 1))

  taken_next : (k : ℕ) → taken_bytes (suc k) ≡ taken_bytes k + (block_size (k + 2 + 1) + link_size)
  taken_next k = let e : k + 2 + 1 ≡ k + 3 = omega arith in rw e (omega (arith, full-more k))

  rest : (k n : ℕ) → 0 < n → (0 < n → full_bytes k + n ≤ full_bytes K)
      → 0 < n - block_size (k + 2 + 1) → full_bytes (suc k) + (n - block_size (k + 2 + 1)) ≤ full_bytes K
  rest k n h f d = let e : k + 2 + 1 ≡ k + 3 = omega arith in omega (arith, full-more k, f h, ap block_size e)

  -- where they fit
  pub plan_holds : (turns : ℕ) (a : Arena) (k n : ℕ) (b : Arena) → k ≤ K → (0 < n → full_bytes k + n ≤ full_bytes K)
      → Holds block_tail a (o + taken_bytes k) → planned turns len a (k + 2) n ≡ some b
      → Holds block_tail b (o + taken_bytes K)
  unfolding planned
  plan_holds zero a k n b h f H e =
      let q : a ≡ b = cc in
      rw (← q) (holds_more (omega (arith, full_up k K h)) H)
  plan_holds (suc turns) a k n b h f H e =
      go (eqb n 0) refl (room_for a len (block_size (k + 2 + 1) + link_size)) refl e
      (λ c l g J p. plan_holds turns c (suc k) (n - block_size (k + 2 + 1)) b l g J p)
    where
      go : (z : Bool) → eqb n 0 ≡ z → (r : MaybeRoom) → room_for a len (block_size (k + 2 + 1) + link_size) ≡ r
          → cond z (some a) (on_room_dry r (λ c. planned turns len c (k + 2 + 1) (n - block_size (k + 2 + 1)))) ≡ some b
          → ((c : Arena) → suc k ≤ K
          → (0 < n - block_size (k + 2 + 1) → full_bytes (suc k) + (n - block_size (k + 2 + 1)) ≤ full_bytes K)
          → Holds block_tail c (o + taken_bytes (suc k))
          → planned turns len c (suc k + 2) (n - block_size (k + 2 + 1)) ≡ some b
          → Holds block_tail b (o + taken_bytes K))
          → Holds block_tail b (o + taken_bytes K)
      go true z r q e ih = let p : a ≡ b = cc in rw (← p) (holds_more (omega (arith, full_up k K h)) H)
      go false z (Some r) q e ih =
          let s : 0 < n = omega (arith, eqb-false n 0 z) in
          let t : o + taken_bytes k + (block_size (k + 2 + 1) + link_size) ≡ o + taken_bytes (suc k) =
          omega (arith, taken_next k) in
          let p : suc k + 2 ≡ k + 2 + 1 = omega arith in
          ih r.after (turn k n s f) (rest k n s f)
          (subst (Holds block_tail r.after) t
          (holds-room block_tail a len (block_size (k + 2 + 1) + link_size) (o + taken_bytes k) (omega arith)
          (wide k) H r.at r.after q))
          (rw p e)
      go false z None q e ih = let p : ◌≡◌ {A = ℕ} 0 1 = cc in absurd (omega arith)

  -- and they do fit where enough is lent, of pages that hold the largest
  module _ (s total : ℕ) (large : block_tail < s) (most : o + taken_bytes K ≤ total)
      (lent : with_tails s block_tail total ≤ len) where
    pub plan_fits : (turns : ℕ) (a : Arena) (k n : ℕ) → a.size ≡ s → k ≤ K
        → (0 < n → full_bytes k + n ≤ full_bytes K) → Holds block_tail a (o + taken_bytes k)
        → is_some (planned turns len a (k + 2) n) ≡ true
    unfolding planned
    plan_fits zero a k n z h f H = refl
    plan_fits (suc turns) a k n sized h f H =
        go (eqb n 0) refl (room_for a len (block_size (k + 2 + 1) + link_size)) refl
        (λ c x l g J. plan_fits turns c (suc k) (n - block_size (k + 2 + 1)) x l g J)
      where
        go : (z : Bool) → eqb n 0 ≡ z → (r : MaybeRoom) → room_for a len (block_size (k + 2 + 1) + link_size) ≡ r
            → ((c : Arena) → c.size ≡ s → suc k ≤ K
            → (0 < n - block_size (k + 2 + 1) → full_bytes (suc k) + (n - block_size (k + 2 + 1)) ≤ full_bytes K)
            → Holds block_tail c (o + taken_bytes (suc k))
            → is_some (planned turns len c (suc k + 2) (n - block_size (k + 2 + 1))) ≡ true)
            → is_some (cond z (some a) (on_room_dry r (λ c. planned turns len c (k + 2 + 1) (n - block_size (k + 2 + 1)))))
            ≡ true
        go true z r q ih = refl
        go false z (Some r) q ih =
            let s : 0 < n = omega (arith, eqb-false n 0 z) in
            let t : o + taken_bytes k + (block_size (k + 2 + 1) + link_size) ≡ o + taken_bytes (suc k) =
            omega (arith, taken_next k) in
            let p : suc k + 2 ≡ k + 2 + 1 = omega arith in
            rw p at
            (ih r.after (room_size a len (block_size (k + 2 + 1) + link_size) r.at r.after q ∙ sized) (turn k n s f) (rest k n s f)
            (subst (Holds block_tail r.after) t
            (holds-room block_tail a len (block_size (k + 2 + 1) + link_size) (o + taken_bytes k) (omega arith)
            (wide k) H r.at r.after q)))
        go false z None q ih =
            let y : 0 < n = omega (arith, eqb-false n 0 z) in
            absurd (never_full block_tail a len (block_size (k + 2 + 1) + link_size) (o + taken_bytes k)
            (omega arith) (wide k) H total (omega (arith, wide k, sized, large)) (omega (arith, sized, large))
            (omega (arith, taken_next k, full_up (suc k) K (turn k n y f), turn k n y f))
            (subst (λ (x : ℕ). with_tails x block_tail total ≤ len) (sym sized) lent) q)
