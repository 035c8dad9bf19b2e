-- The walk's last bucket by the number of buckets looked at. Assumes nothing.
use mathlib.Core.Path.{sym, ap, ◌∙◌}
use native.Mathlib.Omega.{arith}
use Rattle.store_look.specs.Look.{lent}
use Rattle.brownout.proofs.Turns.{some_bucket, looked-few, bucket_none, bucket_some}
use Rattle.shared_arena_hashmap.specs.declared.Walk.{Walk}
use Rattle.brownout.proofs.find_bucket.Goals as goal

pub returns-then-not-is_found : goal.returns-then-not-is_found
returns-then-not-is_found c =
    let a = c.args in bucket_none a.st (lent a.table.now a.keys.now a.lists.now) a.name.now c.walk-w.result
    c.walk-w.ensures (sym c.is_found.ensures ∙ c.if-not-is_found.true)

pub overflow_add-result : goal.overflow_add-result
overflow_add-result c =
    let a = c.args in omega (
      arith,
      looked-few a.st (lent a.table.now a.keys.now a.lists.now) c.requires
          a.name.now,
      ap (λ (w : Walk). w.looked) c.walk-w.ensures,
    )

pub nonzero_rem-result : goal.nonzero_rem-result
nonzero_rem-result c = some_bucket c.args.st (lent c.args.table.now c.args.keys.now c.args.lists.now) c.requires

pub returns : goal.returns
returns c =
    let a = c.args in bucket_some a.st (lent a.table.now a.keys.now a.lists.now) a.name.now c.walk-w.result
    c.murmurhash2-hash.result c.walk-w.ensures c.murmurhash2-hash.ensures (sym c.is_found.ensures ∙
    c.if-not-is_found.false)
