-- Laws of what to lend, by the tests of the code. Assumes nothing.
use Prim.Native.Nat.{ℕ, ◌+◌, ◌-◌, ◌*◌, ◌/◌, ◌%◌, ◌≤◌, ◌<◌}
use mathlib.Core.Path.{◌≡◌}
use mathlib.Core.Bool.{true, false, ◌&&◌}
use native.Mathlib.Nat.{mul-le-mul, div-le_self, le-div_iff_mul-le, mod-le}
use native.Mathlib.Omega.{arith}
use lib.Dec.{leb}
use borrow.Author.Tests.{leb-true, le-leb, lt-leb}
use Rattle.limits.specs.Limits.{page_taken, arena_limit_for, null_outside, bucket_limit, name_limit_for}
use Rattle.numbers.proofs.Tests.{both}
use Rattle.shared_arena_hashmap.specs.Power.{rounded_down}
use Rattle.shared_arena_hashmap.proofs.Laws.{rounded_within}
use Rattle.lending.specs.declared.Lend.TheVariants.{TooMuch, NoSuchPage}
use Rattle.lending.specs.Lending.{with_tails, list_bytes_for, key_bytes_for, capacity_for, asks_few, lends_few}
use Rattle.lending.specs.Lending.{areas_for, lend_for}

-- ---- page tails

pub tails_one : (s tail total : ℕ) → total ≤ s → total ≡ with_tails s tail total
unfolding with_tails
tails_one s tail total h = rw (le-leb total s h)

pub tails_more : (s tail total : ℕ) → s < total → total + tail * (total / (s - tail) + 1) ≡ with_tails s tail total
unfolding with_tails
tails_more s tail total h = rw (lt-leb total s h)

pub tails_small : (s tail total : ℕ) → tail < s → s ≤ 1048576 → total ≤ 300000000000
    → tail * (total / (s - tail) + 1) ≤ 1048576 * 300000000001
tails_small s tail total h p t =
    mul-le-mul {n₁ = tail} {m₁ = total / (s - tail) + 1} {n₂ = 1048576} {m₂ = 300000000001} (omega arith)
    (omega (arith, div-le_self total (s - tail)))

-- ---- key pages

module _ (page lanes longest : ℕ) (h : page ≤ 1048576) (l : lanes ≤ 4194304) (k : longest ≤ name_limit_for page)
    (some : 65536 ≤ page) where
  pub records_some : 0 < page / (longest + 18)
  records_some =
      (le-div_iff_mul-le {k = longest + 18} {x = 1} {y = page} (omega arith)).1 (omega arith)

  pub pages_small : (n : ℕ) → n ≤ lanes → n / (page / (longest + 18)) * page ≤ 4194304 * 1048576
  pages_small n m =
      mul-le-mul {n₁ = n / (page / (longest + 18))} {m₁ = page} {n₂ = 4194304} {m₂ = 1048576}
      (omega (arith, div-le_self n (page / (longest + 18)))) h

  pub rest-small : (n : ℕ) → n ≤ lanes → (n % (page / (longest + 18)) + 1) * (longest + 18) ≤ 4194305 * 65553
  rest-small n m =
      mul-le-mul {n₁ = n % (page / (longest + 18)) + 1} {m₁ = longest + 18} {n₂ = 4194305} {m₂ = 65553}
      (omega (arith, mod-le n (page / (longest + 18)))) (omega arith)

-- ---- the capacity

pub capacity_none : (lanes : ℕ) → lanes ≡ 0 → 1 ≡ capacity_for lanes
unfolding capacity_for rounded_down
capacity_none lanes e = rw e

pub capacity_is : (lanes n : ℕ) → n ≡ rounded_down (4 * lanes - 3) → n ≡ capacity_for lanes
unfolding capacity_for
capacity_is lanes n e = e

pub capacity_small : (lanes n : ℕ) → (lanes ≡ 0 → ⊥) → lanes ≤ 4194304 → n ≡ rounded_down (4 * lanes - 3) → n ≤ 16777216
capacity_small lanes n z h e = omega (arith, rounded_within (4 * lanes - 3) (omega arith))

-- ---- the call

-- the code works the longest arena out by a subtraction
pub most_is : (s : ℕ) → page_taken s ≡ true → 4294967296 - s ≡ arena_limit_for s
most_is s e = omega (arith, null_outside s e)

pub asked_facts : (s lanes bytes longest : ℕ) → asks_few s lanes bytes longest ≡ true
    → (lanes ≤ bucket_limit) × ((bytes ≤ arena_limit_for s) × (longest ≤ name_limit_for s))
asked_facts s lanes bytes longest e =
    let p = both (leb lanes bucket_limit) (leb bytes (arena_limit_for s) && leb longest (name_limit_for s)) e in
    let q = both (leb bytes (arena_limit_for s)) (leb longest (name_limit_for s)) p.1 in (
      leb-true lanes bucket_limit p.0,
      (leb-true bytes (arena_limit_for s) q.0, leb-true longest (name_limit_for s) q.1),
    )

module _ (s lanes bytes longest : ℕ) where
  pub lend_no_page : page_taken s ≡ false → NoSuchPage ≡ lend_for s lanes bytes longest
  unfolding lend_for
  lend_no_page e = rw e

  pub lend_asked : page_taken s ≡ true → asks_few s lanes bytes longest ≡ false → TooMuch ≡ lend_for s lanes bytes longest
  unfolding lend_for
  lend_asked e f = rw (e, f)

  pub lend_lent : page_taken s ≡ true → asks_few s lanes bytes longest ≡ true
      → lends_few s (capacity_for lanes) (key_bytes_for s lanes longest) (list_bytes_for s lanes bytes) ≡ false
      → TooMuch ≡ lend_for s lanes bytes longest
  unfolding lend_for
  lend_lent e f g = rw (e, f, g)

  pub lend_areas : page_taken s ≡ true → asks_few s lanes bytes longest ≡ true
      → lends_few s (capacity_for lanes) (key_bytes_for s lanes longest) (list_bytes_for s lanes bytes) ≡ true
      → areas_for s lanes bytes longest ≡ lend_for s lanes bytes longest
  unfolding lend_for
  lend_areas e f g = rw (e, f, g)
