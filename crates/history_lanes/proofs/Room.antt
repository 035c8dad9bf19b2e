-- Document 01, "Lists": what a lane's blocks take of the list pages, by the bytes it holds. Assumes nothing.
use Prim.Native.Nat.{ℕ, zero, suc, ◌+◌, ◌*◌, ◌≤◌, min}
use mathlib.Core.Path.{◌≡◌}
use mathlib.Core.List.{List, [], ◌∷◌}
use native.Mathlib.Nat.{le_refl, le_trans}
use native.Mathlib.Omega.{arith}
use lib.Pow.{pow_mono}
use lib.ListN.{length}
use Rattle.limits.specs.Limits.{size_top, link_size}
use Rattle.memory_arena.specs.declared.Arena.{Arena}
use Rattle.expull_header.specs.declared.Header.{Header}
use Rattle.expull_header.specs.Header.{block_size, full_bytes}
use Rattle.history_lanes.specs.Lane.{content, blocks_wide, Lane}
use Rattle.history_lanes.proofs.Readings.{content-length}

-- each block is at most twice the one before, so at most 8 more than all before it
size_double : (b : ℕ) → block_size (b + 1) ≤ 2 * block_size b
unfolding block_size
size_double b = le_trans (pow_mono {i = min (b + 1) size_top} {j = suc (min b size_top)} (omega arith)) (omega arith)

pub size_sum : (k : ℕ) → block_size (k + 3) ≤ full_bytes k + 8
unfolding full_bytes block_size
size_sum zero = le_refl 8
size_sum (suc k) =
    let e : suc k + 3 ≡ k + 3 + 1 = omega arith in
    rw e (omega (arith, size_double (k + 3), size_sum k))

pub wide_sum : (ks : List ℕ) → blocks_wide ks ≡ full_bytes (length ks) + link_size * length ks
unfolding full_bytes
wide_sum [] = omega arith
wide_sum (x ∷ ks) = omega (arith, wide_sum ks)

-- "With k blocks and n bytes, n ≥ 1, a lane takes at most 2n + 6 + 4k list bytes, page tails not counted." With no
-- bytes there are no blocks.
pub lane_room : (m : List ℕ) (a : Arena) (h : Header) (ks : List ℕ) → Lane m a h ks
    → blocks_wide ks ≤ 2 * length (content m ks h.remaining) + 6 + 4 * length ks
unfolding full_bytes
lane_room m a h [] L = omega arith
lane_room m a h (x ∷ ks) L =
    omega (arith, wide_sum (x ∷ ks), content-length m a h (x ∷ ks) L, size_sum (length ks), L.begun)
