-- `shared_arena_hashmap::next_occupied` meets its contract. Assumes nothing.
use Prim.Native.Nat.{◌+◌}
use mathlib.Core.Path.{sym, ◌∙◌}
use native.Mathlib.Omega.{arith}
use borrow.Author.Tests.{eq-eqb, ne_eqb}
use Rattle.shared_arena_hashmap.proofs.Laws.{occupied-turn, occupied-end}
use Rattle.shared_arena_hashmap.proofs.next_occupied.Goals as goal

pub returns-then-place : goal.returns-then-place
returns-then-place c =
    sym (c.loop-bucket.invariant ∙ occupied-turn c.args.table.now c.args.first c.loop-bucket.bucket
    (c.args.i + c.args.left) (omega arith) ∙ rw (ne_eqb _ _ c.if-place.true))

pub loop-bucket-preserved : goal.loop-bucket-preserved
loop-bucket-preserved c =
    c.loop-bucket.invariant ∙ occupied-turn c.args.table.now c.args.first c.loop-bucket.bucket
    (c.args.i + c.args.left) (omega arith) ∙ rw (eq-eqb _ _ c.if-place.false)

pub returns : goal.returns
returns c =
    sym (c.loop-bucket.invariant ∙ occupied-end c.args.table.now c.args.first c.loop-bucket.bucket
    (c.args.i + c.args.left) (omega arith))
