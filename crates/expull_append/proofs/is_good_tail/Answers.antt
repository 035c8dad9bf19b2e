-- A list without blocks has no tail to check. Assumes nothing.
use Rattle.std.proofs.Common.{arith}
use Rattle.std.proofs.lemmas.Bool.Decides.{nat_tests}
use Rattle.expull_append.specs.Append.{good_tail}
use Rattle.expull_append.proofs.is_good_tail.Goals as goal

pub returns-then-h-eq-FIRST_BLOCK_NUM : goal.returns-then-h-eq-FIRST_BLOCK_NUM
unfolding good_tail
returns-then-h-eq-FIRST_BLOCK_NUM c = grind (arith, nat_tests)

pub returns-else-h-eq-FIRST_BLOCK_NUM : goal.returns-else-h-eq-FIRST_BLOCK_NUM
unfolding good_tail
returns-else-h-eq-FIRST_BLOCK_NUM c = grind (arith, nat_tests)
