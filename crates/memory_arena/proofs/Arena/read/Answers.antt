-- A span that may be touched lies in the pages, and the copy fills the output. Assumes nothing.
use Rattle.std.proofs.Common.{arith}
use Rattle.std.proofs.lemmas.Grind.{common_steps}
use Rattle.memory_arena.proofs.Laws.{reach_in}
use Rattle.memory_arena.specs.Calls.{read_of}
use Rattle.spans.specs.Span.{read_span}
use Rattle.spans.proofs.Laws.{overwrite-all}
use Rattle.memory_arena.proofs.Arena.read.Goals as goal

pub returns-then-not-is_reachable-clause-settled : goal.returns-then-not-is_reachable-clause-settled
unfolding read_of
returns-then-not-is_reachable-clause-settled c = grind arith

pub slice_bounds-copy_in-end : goal.slice_bounds-copy_in-end
slice_bounds-copy_in-end c = grind (arith, reach_in)

pub returns-clause-settled : goal.returns-clause-settled
unfolding read_of read_span
returns-clause-settled c = grind (arith, common_steps, reach_in, overwrite-all)
