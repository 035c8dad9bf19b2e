-- A bucket of the standing table is in the lent one. Assumes nothing.
use native.Mathlib.Omega.{arith}
use Rattle.store_look.specs.Look.{lent}
use Rattle.brownout.proofs.Turns.{In, bucket-in, buckets_in, count_vacant, count_full}
use Rattle.brownout.proofs.count_on.Goals as goal
use Rattle.brownout.proofs.count_on.Goals.{After-first_bucket-first}

inside : (c : After-first_bucket-first) → In c.args.st (lent c.args.table.now c.args.keys.now c.args.lists.now)
    c.requires.0 c.first_bucket-first.result c.args.i
inside c =
    let a = c.args in bucket-in a.st (lent a.table.now a.keys.now a.lists.now) c.requires.0
    c.first_bucket-first.result a.i c.first_bucket-first.ensures c.requires.1.0

pub first_bucket-first-requires : goal.first_bucket-first-requires
first_bucket-first-requires c =
    buckets_in c.args.st (lent c.args.table.now c.args.keys.now c.args.lists.now) c.requires.0

pub overflow_add-w : goal.overflow_add-w
overflow_add-w c =
    omega (
      arith,
      (inside (goal.at.overflow_add-w c).After-first_bucket-first).inside,
      (inside
          (goal.at.overflow_add-w c).After-first_bucket-first).short,
    )

pub overflow_mul-w : goal.overflow_mul-w
overflow_mul-w c =
    omega (
      arith,
      (inside (goal.at.overflow_mul-w c).After-first_bucket-first).inside,
      (inside
          (goal.at.overflow_mul-w c).After-first_bucket-first).short,
    )

pub offset_bounds-table-w : goal.offset_bounds-table-w
offset_bounds-table-w c =
    omega (
      arith,
      (inside (goal.at.offset_bounds-table-w c).After-first_bucket-first).inside,
      (inside
          (goal.at.offset_bounds-table-w c).After-first_bucket-first).short,
    )

pub bounds-table-w : goal.bounds-table-w
bounds-table-w c = omega (arith, (inside (goal.at.bounds-table-w c).After-first_bucket-first).inside)

pub returns-then-at : goal.returns-then-at
returns-then-at c =
    let a = c.args in (
      count_vacant a.st (lent a.table.now a.keys.now a.lists.now) c.first_bucket-first.result a.i
          c.first_bucket-first.ensures a.count c.if-at.true,
      omega (arith, c.requires.1.1),
    )

pub returns : goal.returns
returns c =
    let a = c.args in (
      count_full a.st (lent a.table.now a.keys.now a.lists.now) c.first_bucket-first.result a.i
          c.first_bucket-first.ensures a.count c.if-at.false,
      omega (arith, c.requires.1.1),
    )
