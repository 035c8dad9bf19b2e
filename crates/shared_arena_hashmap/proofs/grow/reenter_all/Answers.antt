-- `shared_arena_hashmap::grow::reenter_all` meets its contract. Assumes nothing.
use Prim.Native.Nat.{◌+◌}
use mathlib.Core.Path.{sym, ◌∙◌}
use native.Mathlib.Omega.{arith}
use Rattle.shared_arena_hashmap.proofs.Laws.{reenter_turn, reenter_end}
use Rattle.shared_arena_hashmap.proofs.grow.reenter_all.Goals as goal

pub loop-at-preserved : goal.loop-at-preserved
loop-at-preserved c =
    rw c.reenter.ensures
    (c.loop-at.invariant ∙ reenter_turn c.loop-at.at (c.args.b + c.args.n) c.args.first c.args.l c.loop-at.table
    (omega arith))

pub returns : goal.returns
returns c =
    sym (c.loop-at.invariant ∙ reenter_end c.loop-at.at (c.args.b + c.args.n) c.args.first c.args.l c.loop-at.table
    (omega arith))
