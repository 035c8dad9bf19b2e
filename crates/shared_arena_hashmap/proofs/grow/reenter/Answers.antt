-- `shared_arena_hashmap::grow::reenter` meets its contract. An empty bucket changes nothing; another is entered by its
-- own words. Assumes nothing.
use borrow.Author.Tests.{eq-eqb, ne_eqb}
use Rattle.shared_arena_hashmap.specs.Grow.{reentered}
use Rattle.shared_arena_hashmap.proofs.grow.reenter.Goals as goal

pub returns-then-address : goal.returns-then-address
unfolding reentered
returns-then-address c = rw (eq-eqb _ _ c.if-address.true)

pub returns : goal.returns
unfolding reentered
returns c = rw (ne_eqb _ _ c.if-address.false) c.enter.ensures
