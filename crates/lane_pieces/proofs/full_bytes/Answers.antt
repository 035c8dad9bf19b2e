-- Up to the twelfth block, and behind it, in closed form. Assumes nothing.
use mathlib.Core.Path.{ap, ◌∙◌}
use Prim.Native.Nat.{ℕ, ◌+◌, ◌-◌}
use native.Mathlib.Omega.{arith}
use Rattle.expull_header.proofs.Laws.{size_least}
use Rattle.lane_pieces.proofs.Places.{full_low, full_high}
use Rattle.lane_pieces.proofs.full_bytes.Goals as goal

pub overflow_sub-result : goal.overflow_sub-result
overflow_sub-result c = omega (arith, c.get_block_size.ensures.0, size_least (c.args.k + 3) (omega arith))

pub returns-then-k-le12 : goal.returns-then-k-le12
returns-then-k-le12 c = ap (λ (n : ℕ). n - 8) c.get_block_size.ensures.0 ∙ full_low c.args.k c.if-k-le12.true

pub returns : goal.returns
returns c = full_high c.args.k (omega (arith, c.if-k-le12.false))
