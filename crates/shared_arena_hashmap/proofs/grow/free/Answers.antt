-- `shared_arena_hashmap::grow::free` meets its contract. Assumes nothing.
use mathlib.Core.Path.{sym, ◌∙◌}
use native.Mathlib.Omega.{arith}
use native.Mathlib.Nat.{mod-lt, sub-zero}
use borrow.Author.Tests.{eq-eqb, ne_eqb}
use Rattle.shared_arena_hashmap.specs.Grow.{free_of}
use Rattle.shared_arena_hashmap.proofs.Laws.{free_turn, free_end}
use Rattle.shared_arena_hashmap.proofs.grow.free.Goals as goal

pub loop-before-init : goal.loop-before-init
unfolding free_of
loop-before-init c = (mod-lt _ c.requires.0, rw sub-zero)

pub returns-then-address : goal.returns-then-address
returns-then-address c = (
  sym (c.loop-before.invariant.1 ∙ free_turn c.args.table.now c.args.first c.args.l c.args.l c.loop-before.i
      c.loop-before._before (omega arith) ∙ rw (eq-eqb _ _ c.if-address.true)),
  omega arith,
)

pub loop-before-preserved : goal.loop-before-preserved
loop-before-preserved c = (
  c.next_bucket-i.ensures.1,
  c.loop-before.invariant.1 ∙ free_turn c.args.table.now c.args.first c.args.l c.args.l c.loop-before.i
      c.loop-before._before (omega arith) ∙ rw (ne_eqb _ _ c.if-address.false, c.next_bucket-i.ensures.0),
)

pub returns : goal.returns
returns c = (
  sym (c.loop-before.invariant.1 ∙ free_end c.args.table.now c.args.first c.args.l c.args.l c.loop-before.i
      c.loop-before._before (omega arith)),
  omega arith,
)
