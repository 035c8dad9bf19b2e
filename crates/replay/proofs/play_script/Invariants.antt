-- `replay::play_script` meets its contract: what is left of the script is played on what stands. Assumes nothing.
use Prim.Native.Nat.{◌-◌}
use lib.ListN.{length}
use Rattle.store_look.specs.Look.{lent}
use Rattle.replay.specs.Script.{world}
use Rattle.replay.proofs.Laws.{Playing}
use Rattle.replay.proofs.play_script.Given as goal

abbrev pub invariant-loop-e : goal.invariant-loop-e
invariant-loop-e l =
    Playing l.script (world l.initial.state (lent l.initial.table l.initial.keys l.initial.lists))
    (world l.state (lent l.table l.keys l.lists)) l.at

abbrev pub decreases-loop-e : goal.decreases-loop-e
decreases-loop-e l = length l.script - l.at
