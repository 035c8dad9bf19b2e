-- Which block holds a byte of a lane, and how many blocks a piece meets. Assumes nothing.
use Prim.Native.Nat.{ℕ, zero, suc, ◌+◌, ◌-◌, ◌*◌, ◌/◌, ◌^◌, ◌≤◌, ◌<◌}
use mathlib.Core.Path.{◌≡◌, refl, sym, ap}
use mathlib.Core.Bool.{Bool, true, false, cond}
use native.Mathlib.Nat.{add-zero, pow-suc}
use native.Mathlib.Omega.{arith}
use lib.Dec.{eqb, ltb, lit≤}
use borrow.Author.Tests.{ltb-true, ltb-false, lt-ltb, le-ltb, ne_eqb, eqb-true, eqb-false}
use Rattle.limits.specs.Limits.{fresh_number}
use Rattle.expull_header.specs.declared.Header.{Header}
use Rattle.expull_header.specs.Header.{block_size, sound_header, block_count, full_bytes, lane_length}
use Rattle.expull_header.proofs.Laws.{size_low, size_pos, full-more, full_closed_low, full_closed_high}
use Rattle.expull_header.proofs.Laws.{length_none, length-blocks}
use Rattle.expull_walk.proofs.Laws.{full-within}
use Rattle.lane_pieces.specs.Piece.{block_from, block_holding, blocks_met}

-- ---- what blocks hold

pub full_none : full_bytes 0 ≡ 0
unfolding full_bytes
full_none = refl

-- more blocks hold no less
pub full-more-blocks : (i k : ℕ) → i ≤ k → full_bytes i ≤ full_bytes k
full-more-blocks i k h = go (eqb i k) refl
  where
    go : (t : Bool) → eqb i k ≡ t → full_bytes i ≤ full_bytes k
    go true e = let q : i ≡ k = eqb-true i k e in rw q (omega arith)
    go false e = let n = eqb-false i k e in omega (arith, n, full-within i k (omega (arith, n)))

-- a byte at least for each
full_count : (k : ℕ) → k ≤ full_bytes k
full_count zero = omega arith
full_count (suc k) = omega (arith, full_count k, full-more k, size_pos (k + 3))

-- in closed form: up to the twelfth, and behind it
pub full_low : (k : ℕ) → k ≤ 12 → block_size (k + 3) - 8 ≡ full_bytes k
full_low k h = omega (arith, full_closed_low k (omega arith), size_low (k + 3) (omega arith))

pub full_high : (k : ℕ) → 12 ≤ k → 32760 + (k - 12) * 32768 ≡ full_bytes k
full_high k h = go (eqb k 12) refl
  where
    go : (t : Bool) → eqb k 12 ≡ t → 32760 + (k - 12) * 32768 ≡ full_bytes k
    go true e = let q : k ≡ 12 = eqb-true k 12 e in rw q (omega (arith, full_closed_low 12 (lit≤ tt)))
    go false e = let n = eqb-false k 12 e in omega (arith, n, full_closed_high k (omega (arith, n)))

-- ---- the block that holds a byte

from_holds : (f j i g : ℕ) → j ≤ i → i - j ≤ f → full_bytes i ≤ g → g < full_bytes (suc i) → block_from f j g ≡ i
unfolding block_from
from_holds zero j i g h l below above = omega arith
from_holds (suc f) j i g h l below above = go (eqb j i) refl (from_holds f (suc j) i g)
  where
    go : (t : Bool) → eqb j i ≡ t
        → (suc j ≤ i → i - suc j ≤ f → full_bytes i ≤ g → g < full_bytes (suc i) → block_from f (suc j) g ≡ i)
        → cond (ltb g (full_bytes (suc j))) j (block_from f (suc j) g) ≡ i
    go true e rest =
        let q : j ≡ i = eqb-true j i e in
        rw (q, lt-ltb g (full_bytes (suc i)) above)
    go false e rest =
        let n = eqb-false j i e in
        let b : full_bytes (suc j) ≤ g = omega (arith, full-more-blocks (suc j) i (omega (arith, n))) in
        rw (le-ltb g (full_bytes (suc j)) b) (rest (omega (arith, n)) (omega arith) below above)

-- it is the one that the byte's number tells
pub holding_is : (i g : ℕ) → full_bytes i ≤ g → g < full_bytes (suc i) → block_holding g ≡ i
holding_is i g below above = from_holds g 0 i g (omega arith) (omega (arith, full_count i)) below above

-- and each byte has one
pub record Holding (g i : ℕ) : Type 0 where
  pub below : full_bytes i ≤ g
  pub above : g < full_bytes (suc i)

from_holding : (f j g : ℕ) → full_bytes j ≤ g → g < full_bytes (suc (j + f)) → Holding g (block_from f j g)
unfolding block_from
from_holding zero j g b a = record { below = b; above = rw add-zero at a }
from_holding (suc f) j g b a = go (ltb g (full_bytes (suc j))) refl (from_holding f (suc j) g)
  where
    go : (t : Bool) → ltb g (full_bytes (suc j)) ≡ t
        → (full_bytes (suc j) ≤ g → g < full_bytes (suc (suc j + f)) → Holding g (block_from f (suc j) g))
        → Holding g (cond t j (block_from f (suc j) g))
    go true e rest = record { below = b; above = ltb-true g (full_bytes (suc j)) e }
    go false e rest =
        let z : suc j + f ≡ j + suc f = omega arith in
        rest (ltb-false g (full_bytes (suc j)) e) (rw z a)

pub holding : (g : ℕ) → Holding g (block_holding g)
holding g = from_holding g 0 g (omega (arith, full_none)) (omega (arith, full_count (suc (0 + g))))

-- as code looks for it: the byte isn't before block i, which is one of the first twelve, and what the blocks up to it
-- hold
pub record Seeking (g i held : ℕ) : Type 0 where
  pub low : g < 32760
  pub below : full_bytes i ≤ g
  pub is : held ≡ full_bytes (suc i)

pub seeking-begun : (g : ℕ) → g < 32760 → Seeking g 0 8
unfolding full_bytes block_size
seeking-begun g h = record { low = h; below = omega arith; is = refl }

-- block i is one of the first twelve
pub seeking-few : (g i held : ℕ) → Seeking g i held → held ≤ g → i < 11
seeking-few g i held w h = go (ltb i 11) refl
  where
    go : (t : Bool) → ltb i 11 ≡ t → i < 11
    go true e = ltb-true i 11 e
    go false e =
        absurd (omega (
          arith,
          w.low,
          w.is,
          full-more-blocks 12 (suc i) (omega (arith, ltb-false i 11 e)),
          full_high 12 (lit≤ tt),
        ))

pub seeking-next : (g i held : ℕ) → Seeking g i held → held ≤ g → Seeking g (i + 1) (2 * held + 8)
seeking-next g i held w h =
    let f = seeking-few g i held w h in
    let s : suc i ≡ i + 1 = omega arith in
    let d : suc (suc i) + 3 ≡ suc (suc i + 3) = omega arith in
    record {
      low = w.low;
      below = rw (← s) (omega (arith, w.is));
      is =
          rw (← s) (omega (
            arith,
            w.is,
            full_closed_low (suc i) (omega arith),
            full_closed_low (suc (suc i)) (omega arith),
            ap (λ (n : ℕ). 2 ^ n) d,
            pow-suc 2 (suc i + 3),
          ));
    }

pub seeking-end : (g i held : ℕ) → Seeking g i held → g < held → i ≡ block_holding g
seeking-end g i held w h = sym (holding_is i g w.below (omega (arith, w.is)))

-- behind the first twelve blocks all are of one size
pub holding_high : (g : ℕ) → 32760 ≤ g → 12 + (g - 32760) / 32768 ≡ block_holding g
holding_high g h =
    let k : ℕ = 12 + (g - 32760) / 32768 in
    sym (holding_is k g (omega (arith, full_high k (omega arith))) (omega (arith, full_high (suc k) (omega arith))))

-- ---- how many blocks a piece meets

pub met_none : (given : ℕ) → blocks_met given 0 ≡ 0
unfolding blocks_met
met_none given = refl

pub met_some : (given n : ℕ) → 0 < n → blocks_met given n ≡ suc (block_holding (given + n - 1))
unfolding blocks_met
met_some given n h = rw (ne_eqb n 0 (λ e. omega arith))

-- they are the lane's own, and hold what the piece gives
pub record Met (h : Header) (given n : ℕ) : Type 0 where
  pub most : blocks_met given n ≤ block_count h
  pub held : given + n ≤ full_bytes (blocks_met given n)

-- among so many blocks as hold it, and not before a block that it isn't before
pub holding_most : (g k : ℕ) → g < full_bytes k → block_holding g < k
holding_most g k h = go (ltb (block_holding g) k) refl
  where
    go : (t : Bool) → ltb (block_holding g) k ≡ t → block_holding g < k
    go true e = ltb-true (block_holding g) k e
    go false e =
        let l : k ≤ block_holding g = ltb-false (block_holding g) k e in
        absurd (omega (arith, (holding g).below, full-more-blocks k (block_holding g) l))

pub holding_least : (g i : ℕ) → full_bytes i ≤ g → i ≤ block_holding g
holding_least g i h = go (ltb (block_holding g) i) refl
  where
    go : (t : Bool) → ltb (block_holding g) i ≡ t → i ≤ block_holding g
    go true e =
        let l : suc (block_holding g) ≤ i = ltb-true (block_holding g) i e in
        absurd (omega (arith, (holding g).above, full-more-blocks (suc (block_holding g)) i l))
    go false e = ltb-false (block_holding g) i e

pub length-held : (h : Header) → sound_header h 0 ≡ true → lane_length h ≤ full_bytes (block_count h)
length-held h s = go (eqb h.number fresh_number) refl
  where
    go : (t : Bool) → eqb h.number fresh_number ≡ t → lane_length h ≤ full_bytes (block_count h)
    go true e = omega (arith, length_none h (eqb-true _ _ e))
    go false e = omega (arith, length-blocks h s (eqb-false _ _ e))

pub met : (h : Header) (given n : ℕ) → sound_header h 0 ≡ true → 0 < n → given + n ≤ lane_length h → Met h given n
met h given n s z l =
    let g = given + n - 1 in
    let e = met_some given n z in
    record {
      most = omega (arith, e, holding_most g (block_count h) (omega (arith, length-held h s)));
      held = omega (arith, ap full_bytes e, (holding g).above);
    }
