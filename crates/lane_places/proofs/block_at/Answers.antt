-- The first block where the header says, any other where the place says. Assumes nothing.
use borrow.Author.Tests.{eq-eqb, ne_eqb}
use Rattle.lane_places.proofs.block_at.Goals as goal

pub returns-then-p-eq0 : goal.returns-then-p-eq0
returns-then-p-eq0 c = rw (eq-eqb _ _ c.if-p-eq0.true)

pub returns : goal.returns
returns c = rw (ne_eqb _ _ c.if-p-eq0.false)
