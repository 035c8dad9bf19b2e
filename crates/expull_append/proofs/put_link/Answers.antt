-- The head of a list without blocks, else the link at the tail. Assumes nothing.
use Rattle.std.proofs.Common.{arith}
use Rattle.std.proofs.lemmas.Bool.Decides.{nat_tests}
use Rattle.expull_append.specs.Append.{linked}
use Rattle.expull_append.proofs.put_link.Goals as goal

pub returns-then-h-eq-FIRST_BLOCK_NUM : goal.returns-then-h-eq-FIRST_BLOCK_NUM
unfolding linked
returns-then-h-eq-FIRST_BLOCK_NUM c = grind (arith, nat_tests)

pub returns : goal.returns
unfolding linked
returns c = grind (arith, nat_tests)
