-- `join::bring` meets its contract. Assumes nothing.
use Prim.Native.Nat.{◌+◌, ◌≤◌}
use native.Mathlib.Omega.{arith}
use lib.ListN.{length}
use Rattle.store_look.specs.Look.{lent}
use Rattle.report.proofs.Written.{standing_key}
use Rattle.join.specs.Join.{store}
use Rattle.join.proofs.Laws.{bring_is}
use Rattle.join.proofs.bring.Goals as goal
use Rattle.join.proofs.bring.Goals.{Start}

-- the name lies in the second store's key pages
key_in : (c : Start) → c.args.at + 2 + c.args.name ≤ length c.args.keys2.now
key_in c = standing_key c.requires.standing c.requires.named

pub overflow_add-to : goal.overflow_add-to
overflow_add-to c = omega (arith, key_in (goal.at.overflow_add-to c).Start)

pub slice_bounds-append-end : goal.slice_bounds-append-end
slice_bounds-append-end c = omega (arith, key_in (goal.at.slice_bounds-append-end c).Start)

pub returns : goal.returns
returns c =
    bring_is (store c.args.st (lent c.args.table.now c.args.keys.now c.args.lists.now)) (store c.args.st2 (lent
    c.args.table2.now c.args.keys2.now c.args.lists2.now)) c.args.at c.args.name c.args.n c.args.scratch.now _ _ _
    c.requires c.read_at.ensures c.append-told.ensures.settled
