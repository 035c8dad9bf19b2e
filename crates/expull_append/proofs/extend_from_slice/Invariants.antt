-- `expull_append::extend_from_slice` meets its contract. The loop's invariant: the append of the whole is the append of
-- the bytes that still wait; its measure is their number. Assumes nothing.
use lib.ListN.{length}
use Rattle.expull_append.proofs.Loops.{Extending}
use Rattle.expull_append.specs.Append.{writing}
use Rattle.expull_append.proofs.extend_from_slice.Given as goal

abbrev pub invariant-loop-rest : goal.invariant-loop-rest
invariant-loop-rest l =
    Extending l.bytes (writing l.initial.lists l.initial.w.arena l.initial.w.header) l.rest (writing l.lists l.w.arena
    l.w.header)

abbrev pub decreases-loop-rest : goal.decreases-loop-rest
decreases-loop-rest l = length l.rest
