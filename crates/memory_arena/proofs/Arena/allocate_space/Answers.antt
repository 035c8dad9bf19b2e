-- The refusals in their order, then the room. Assumes nothing.
use Rattle.std.proofs.Common.{arith}
use Rattle.std.proofs.lemmas.Bool.Decides.{nat_tests}
use Rattle.memory_arena.specs.Calls.{allocate_of}
use Rattle.memory_arena.proofs.Arena.allocate_space.Goals as goal

pub returns-then-not-is_page_size-clause-settled : goal.returns-then-not-is_page_size-clause-settled
unfolding allocate_of
returns-then-not-is_page_size-clause-settled c = grind (arith, nat_tests)

pub returns-then-n-eq0-clause-settled : goal.returns-then-n-eq0-clause-settled
unfolding allocate_of
returns-then-n-eq0-clause-settled c = grind (arith, nat_tests)

pub returns-then-not-is_sensible-clause-settled : goal.returns-then-not-is_sensible-clause-settled
unfolding allocate_of
returns-then-not-is_sensible-clause-settled c = grind (arith, nat_tests)

pub returns-clause-settled : goal.returns-clause-settled
unfolding allocate_of
returns-clause-settled c = grind (arith, nat_tests)
