-- `shared_arena_hashmap::grow::enter` meets its contract. What `free` answers settles which words change. Assumes
-- nothing.
use mathlib.Core.Path.{◌≡◌, sym, ◌∙◌}
use borrow.Author.Tests.{eq-eqb, ne_eqb}
use Rattle.shared_arena_hashmap.specs.Grow.{free_of, entered}
use Rattle.shared_arena_hashmap.proofs.grow.enter.Goals as goal

pub returns-then-i-l : goal.returns-then-i-l
unfolding entered
returns-then-i-l c =
    let f : c.free-i.result ≡ free_of c.args.table.now c.args.first c.args.l c.args.hash = c.free-i.ensures.0 in rw
    (eq-eqb _ _ (sym f ∙ c.if-i-l.true))

pub returns : goal.returns
unfolding entered
returns c =
    let f : c.free-i.result ≡ free_of c.args.table.now c.args.first c.args.l c.args.hash = c.free-i.ensures.0 in rw
    (← f, ne_eqb _ _ c.if-i-l.false) c.set_bucket.ensures
