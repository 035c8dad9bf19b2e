-- The invariant: the bytes behind the fours before the index, taken into h, give what all the bytes give at the start.
-- Assumes nothing.
use Prim.Native.Nat.{◌*◌}
use mathlib.Core.Path.{◌≡◌}
use lib.ListN.{drop}
use Rattle.murmurhash2.specs.Murmur.{taken}
use Rattle.murmurhash2.proofs.fours.Given as goal

abbrev pub invariant-loop-four : goal.invariant-loop-four
invariant-loop-four l = taken l.initial.h l.key ≡ taken l.h (drop (4 * l.four-index) l.key)
