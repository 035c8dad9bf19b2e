-- `shared_arena_hashmap::see` meets its contract. Each answer follows from the tests that led to it. Assumes nothing.
use mathlib.Core.Bool.{true, false}
use mathlib.Core.Path.{◌≡◌}
use lib.Dec.{eqb}
use borrow.Author.Tests.{eq-eqb, ne_eqb}
use Rattle.limits.specs.Limits.{null_address}
use Rattle.shared_arena_hashmap.specs.Probe.{seen_at}
use Rattle.shared_arena_hashmap.specs.Buckets.{address_at, hash_at}
use Rattle.shared_arena_hashmap.proofs.see.Goals as goal

pub returns-then-address : goal.returns-then-address
unfolding seen_at
returns-then-address c = rw (eq-eqb _ _ c.if-address.true)

pub returns-then-stored-hash : goal.returns-then-stored-hash
unfolding seen_at
returns-then-stored-hash c =
    let e1 : eqb (address_at c.args.table.now c.args.bucket) null_address ≡ false = ne_eqb _ _ c.if-address.false in
    let e2 : eqb (hash_at c.args.table.now c.args.bucket) c.args.hash ≡ true = eq-eqb _ _ c.if-stored-hash.true in
    rw (e1, e2) c.see_record.ensures

pub returns : goal.returns
unfolding seen_at
returns c =
    let e1 : eqb (address_at c.args.table.now c.args.bucket) null_address ≡ false = ne_eqb _ _ c.if-address.false in
    let e2 : eqb (hash_at c.args.table.now c.args.bucket) c.args.hash ≡ false = ne_eqb _ _ c.if-stored-hash.false in
    rw (e1, e2)
