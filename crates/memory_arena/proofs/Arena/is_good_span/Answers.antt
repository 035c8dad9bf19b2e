-- The test by a difference, which cannot wrap, is the rule's test by a sum. Assumes nothing.
use Rattle.std.proofs.Common.{arith}
use Rattle.memory_arena.proofs.Laws.{good_past, good_over, good-within}
use Rattle.memory_arena.proofs.Arena.is_good_span.Goals as goal

pub returns-then-place-used : goal.returns-then-place-used
returns-then-place-used c = grind (arith, good-within)

pub returns-else-place-used : goal.returns-else-place-used
returns-else-place-used c = grind (arith, good_past, good_over, good-within)
