-- `shared_arena_hashmap::grow::clear` meets its contract. Assumes nothing.
use Prim.Native.Nat.{◌+◌}
use mathlib.Core.Path.{sym, ◌∙◌}
use native.Mathlib.Omega.{arith}
use Rattle.shared_arena_hashmap.proofs.Laws.{cleared-turn, cleared-end}
use Rattle.shared_arena_hashmap.proofs.grow.clear.Goals as goal

pub loop-at-preserved : goal.loop-at-preserved
loop-at-preserved c =
    rw c.set_bucket.ensures
    (c.loop-at.invariant ∙ cleared-turn c.loop-at.at (c.args.b + c.args.n) c.loop-at.table (omega arith))

pub returns : goal.returns
returns c =
    sym (c.loop-at.invariant ∙ cleared-end c.loop-at.at (c.args.b + c.args.n) c.loop-at.table (omega arith))
