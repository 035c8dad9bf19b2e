-- The whole marking is that of the places left. Assumes nothing.
use Prim.Native.Nat.{◌+◌, ◌*◌, ◌^◌, ◌≤◌, ◌<◌}
use mathlib.Core.Path.{◌≡◌}
use lib.ListN.{length}
use Rattle.marks.specs.Bits.{mark_span}
use Rattle.marks.proofs.mark_span.Given as goal

abbrev pub invariant-loop-left : goal.invariant-loop-left
invariant-loop-left l = (l.at + l.left ≤ 8 * length l.marks) × ((l.at + l.left < 2 ^ 64)
    × (mark_span l.initial.marks l.from l.n ≡ mark_span l.marks l.at l.left))

abbrev pub decreases-loop-left : goal.decreases-loop-left
decreases-loop-left l = l.left
