-- What is held of the line lies in the lent area. Assumes nothing.
use Rattle.std.proofs.Common.{◌≤◌, length}
use Rattle.script.proofs.lines.Lines.next.Given as goal

abbrev pub invariant-loop : goal.invariant-loop
invariant-loop g l = l.held ≤ length l.area
