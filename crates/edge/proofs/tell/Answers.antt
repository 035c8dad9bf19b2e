-- A word within the area, or past its end. Assumes nothing.
use Rattle.edge.proofs.Laws.{told_at, told_past}
use Rattle.edge.proofs.tell.Goals as goal

pub returns-then-told-at : goal.returns-then-told-at
returns-then-told-at c = told_past c.args.told.now c.args.at c.args.v c.if-told-at.true

pub returns : goal.returns
returns c = told_at c.args.told.now c.args.at c.args.v
