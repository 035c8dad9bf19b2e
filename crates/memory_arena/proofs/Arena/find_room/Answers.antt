-- The state check bounds every sum; the two tests are those of the rule. Assumes nothing.
use Rattle.std.proofs.Common.{arith}
use Rattle.std.proofs.lemmas.Bool.Decides.{nat_tests}
use Rattle.memory_arena.proofs.Laws.{sensible_bounds}
use Rattle.memory_arena.specs.Pages.{room_for}
use Rattle.memory_arena.proofs.Arena.find_room.Goals as goal

pub overflow_add-used : goal.overflow_add-used
overflow_add-used c = let b = sensible_bounds _ _ c.requires.1.1 in omega arith

pub page_capacity-requires : goal.page_capacity-requires
page_capacity-requires c = let b = sensible_bounds _ _ c.requires.1.1 in omega arith

pub overflow_cast-result : goal.overflow_cast-result
overflow_cast-result c = let b = sensible_bounds _ _ c.requires.1.1 in omega arith

pub returns-then-used-n : goal.returns-then-used-n
unfolding room_for
returns-then-used-n c = grind (arith, nat_tests)

pub overflow_add-next : goal.overflow_add-next
overflow_add-next c = let b = sensible_bounds _ _ c.requires.1.1 in omega arith

pub page_capacity-requires-2 : goal.page_capacity-requires-2
page_capacity-requires-2 c = let b = sensible_bounds _ _ c.requires.1.1 in omega arith

pub overflow_cast-result-then-n-page_capacity : goal.overflow_cast-result-then-n-page_capacity
overflow_cast-result-then-n-page_capacity c = let b = sensible_bounds _ _ c.requires.1.1 in omega arith

pub returns-then-n-page_capacity : goal.returns-then-n-page_capacity
unfolding room_for
returns-then-n-page_capacity c = grind (arith, nat_tests)

pub returns : goal.returns
unfolding room_for
returns c = grind (arith, nat_tests)
