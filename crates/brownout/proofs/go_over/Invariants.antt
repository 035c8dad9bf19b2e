-- Going over all buckets is going over those left. Assumes nothing.
use Rattle.store_look.specs.Look.{lent}
use Rattle.brownout.proofs.Turns.{Going}
use Rattle.brownout.proofs.go_over.Given as goal

abbrev pub invariant-loop-i : goal.invariant-loop-i
invariant-loop-i l = Going l.st (lent l.table l.keys l.lists) l.initial.marks l.marks l.i l.count
