-- `expull_walk::Lists::are_good_blocks` meets its contract. The last block has a place exactly where all are good. Assumes
-- nothing.
use mathlib.Core.Path.{sym, ap, ◌∙◌}
use native.Mathlib.Omega.{arith}
use borrow.Author.Tests.{eq-eqb}
use Rattle.std.specs.Option.{is_some}
use Rattle.expull_walk.proofs.Laws.{place_asked, none_asked}
use Rattle.expull_walk.proofs.Lists.are_good_blocks.Goals as goal

pub returns-then-n-eq0 : goal.returns-then-n-eq0
returns-then-n-eq0 c =
    eq-eqb c.args.n 0 c.if-n-eq0.true ∙ sym (none_asked c.args.self.now.arena c.args.self.now.bytes.now c.args.head c.args.n (omega arith))

pub returns-else-n-eq0 : goal.returns-else-n-eq0
returns-else-n-eq0 c =
    c.is_some.ensures ∙ ap is_some c.find_place.ensures ∙ place_asked c.args.self.now.arena c.args.self.now.bytes.now c.args.head c.args.n
    (omega arith)
