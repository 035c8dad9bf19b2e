-- A span that may be touched lies in the pages. Assumes nothing.
use Rattle.std.proofs.Common.{arith}
use Rattle.std.proofs.lemmas.Grind.{common_steps}
use Rattle.memory_arena.proofs.Laws.{reach_in}
use Rattle.memory_arena.specs.Calls.{slice_of}
use Rattle.spans.specs.Span.{read_span}
use Rattle.memory_arena.proofs.Arena.slice.Goals as goal

pub returns-then-not-is_reachable : goal.returns-then-not-is_reachable
unfolding slice_of
returns-then-not-is_reachable c = grind arith

pub overflow_add-result : goal.overflow_add-result
overflow_add-result c = grind (arith, reach_in)

pub slice_bounds-result-end-2 : goal.slice_bounds-result-end-2
slice_bounds-result-end-2 c = grind (arith, reach_in)

pub returns : goal.returns
unfolding slice_of read_span
returns c = grind (arith, common_steps)
