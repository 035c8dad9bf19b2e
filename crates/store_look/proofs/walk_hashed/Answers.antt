-- The whole-state check gives what the lookup asks. Assumes nothing.
use native.Mathlib.Omega.{arith}
use lib.ListN.{length}
use Rattle.store_state.proofs.Whole.{Whole, whole_facts, find_asks}
use Rattle.store_look.proofs.Walked.{walk-found}
use Rattle.store_look.specs.Look.{lent}
use Rattle.store_look.proofs.walk_hashed.Goals as goal
use Rattle.store_look.proofs.walk_hashed.Goals.{Start}

-- the whole-state check, clause by clause
whole : (c : Start) → Whole c.args.st (length c.args.table.now) (length c.args.keys.now) (length c.args.lists.now)
whole c =
    whole_facts c.args.st (length c.args.table.now) (length c.args.keys.now) (length c.args.lists.now) c.requires.0

pub first_bucket-first-requires : goal.first_bucket-first-requires
first_bucket-first-requires c = omega (arith, whole (goal.at.first_bucket-first-requires c).Start)

pub find-requires : goal.find-requires
find-requires c = find_asks _ _ _ _ (whole (goal.at.find-requires c).Start) _ c.first_bucket-first.ensures

pub returns : goal.returns
returns c =
    walk-found c.args.st (lent c.args.table.now c.args.keys.now c.args.lists.now) c.args.name.now _ _ _
    c.find.ensures c.first_bucket-first.ensures c.requires.1
