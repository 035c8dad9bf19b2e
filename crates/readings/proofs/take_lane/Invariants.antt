-- `readings::take_lane` meets its contract. The loop's invariant: the first i blocks are taken. Assumes nothing.
use Rattle.readings.proofs.Lanes.{Walking}
use Rattle.readings.proofs.take_lane.Given as goal

abbrev pub invariant-loop-i : goal.invariant-loop-i
invariant-loop-i l = Walking l.lists.bytes.now l.h l.initial.output l.s l.output l.place l.i
