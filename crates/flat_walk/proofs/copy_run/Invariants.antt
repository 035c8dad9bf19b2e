-- `flat_walk::copy_run` meets its contract. Assumes nothing.
use Prim.Native.Nat.{◌-◌}
use lib.ListN.{length}
use Rattle.flat_walk.proofs.Copy.{Copying}
use Rattle.flat_walk.proofs.copy_run.Given as goal

abbrev pub invariant-loop-at : goal.invariant-loop-at
invariant-loop-at l = Copying l.run l.name l.initial.output l.output l.at l.done

abbrev pub decreases-loop-at : goal.decreases-loop-at
decreases-loop-at l = length l.run - l.at
