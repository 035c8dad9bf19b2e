-- The bytes so far lie in the area, which keeps its length. Assumes nothing.
use Rattle.std.proofs.Common.{◌≡◌, ◌≤◌, length}
use Rattle.text.proofs.expand.quoted.Given as goal

abbrev pub invariant-loop-b : goal.invariant-loop-b
invariant-loop-b l = (l.n ≤ length l.into) × (length l.into ≡ length l.initial.into)
