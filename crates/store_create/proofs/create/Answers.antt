-- What creation takes leaves room for the buckets; the two answers are the definition's. Assumes nothing.
use Rattle.std.proofs.Common.{arith}
use Rattle.store_create.proofs.Creation.{creatable-room}
use Rattle.store_create.specs.Create.{create_of}
use Rattle.store_create.proofs.create.Goals as goal

pub returns-then-not-is_creatable-clause-settled : goal.returns-then-not-is_creatable-clause-settled
unfolding create_of
returns-then-not-is_creatable-clause-settled c = grind arith

pub clear-requires : goal.clear-requires
clear-requires c = grind (arith, creatable-room)

pub returns-clause-settled : goal.returns-clause-settled
unfolding create_of
returns-clause-settled c = grind arith
