-- The bytes so far lie in the area, which keeps its length. Assumes nothing.
use Rattle.std.proofs.Common.{◌≡◌, ◌≤◌, length}
use Rattle.text.proofs.expand.pairs.Given as goal

abbrev pub invariant-loop-digits : goal.invariant-loop-digits
invariant-loop-digits l = (l.n ≤ length l.into) × (length l.into ≡ length l.initial.into)
