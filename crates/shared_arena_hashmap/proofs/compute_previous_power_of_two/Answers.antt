-- The count of leading zeros tells the highest bit, and that bit is the power of two. Assumes nothing.
use Prim.Native.Nat.{ℕ, ◌-◌, ◌^◌, ◌≤◌, ◌<◌}
use mathlib.Core.Path.{◌≡◌, sym, ap, ◌∙◌}
use native.Mathlib.Omega.{arith}
use lib.Count.{count_leading_zeros, leading_top}
use Rattle.shared_arena_hashmap.specs.Power.{rounded_down}
use Rattle.shared_arena_hashmap.proofs.Laws.{rounded_at, rounded_0}
use Rattle.shared_arena_hashmap.proofs.compute_previous_power_of_two.Goals as goal
use Rattle.shared_arena_hashmap.proofs.compute_previous_power_of_two.Goals.{Else-n-eq0}

-- a number that isn't 0 has a highest bit
record Highest (n : ℕ) : Type 0 where
  zeros : count_leading_zeros 64 n ≤ 63
  below : 2 ^ (63 - count_leading_zeros 64 n) ≤ n
  is : 2 ^ (63 - count_leading_zeros 64 n) ≡ rounded_down n

highest : (n : ℕ) → 0 < n → n < 2 ^ 64 → Highest n
highest n z h =
    let top = leading_top 64 n z h in
    let e : 63 - count_leading_zeros 64 n ≡ top.0 = omega (arith, top.1) in
    record {
      zeros = omega (arith, top.1);
      below = rw e top.2;
      is = rw e (rounded_at n top.0 top.2 top.3 h);
    }

found : (c : Else-n-eq0) → Highest c.args.n
found c = highest c.args.n (omega arith) c.ranges.n.fits

pub returns-then-n-eq0 : goal.returns-then-n-eq0
returns-then-n-eq0 c = rounded_0 ∙ ap rounded_down (sym c.if-n-eq0.true)

pub returns : goal.returns
returns c =
    omega (
      arith,
      (found (goal.at.returns c).Else-n-eq0).below,
      (found (goal.at.returns c).Else-n-eq0).is,
      c.ranges.n.fits,
    )
