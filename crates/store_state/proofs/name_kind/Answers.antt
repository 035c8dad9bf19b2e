-- The two tests, in their order. Assumes nothing.
use Rattle.std.proofs.Common.{arith}
use Rattle.std.proofs.lemmas.Bool.Decides.{nat_tests}
use Rattle.store_state.specs.Name.{name_kind}
use Rattle.store_state.proofs.name_kind.Goals as goal

pub returns-then-is_too_long : goal.returns-then-is_too_long
unfolding name_kind
returns-then-is_too_long c = grind (arith, nat_tests)

pub returns-then-n-eq0 : goal.returns-then-n-eq0
unfolding name_kind
returns-then-n-eq0 c = grind (arith, nat_tests)

pub returns-else-n-eq0 : goal.returns-else-n-eq0
unfolding name_kind
returns-else-n-eq0 c = grind (arith, nat_tests)
