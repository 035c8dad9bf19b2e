-- A span that may be touched lies in the pages. Assumes nothing.
use Rattle.std.proofs.Common.{arith}
use Rattle.memory_arena.proofs.Laws.{reach_in}
use Rattle.memory_arena.specs.Calls.{write_of}
use Rattle.memory_arena.proofs.Arena.write_at.Goals as goal

pub returns-then-not-is_reachable-clause-settled : goal.returns-then-not-is_reachable-clause-settled
unfolding write_of
returns-then-not-is_reachable-clause-settled c = grind arith

pub copy_in-requires : goal.copy_in-requires
copy_in-requires c = grind (arith, reach_in)

pub returns-clause-settled : goal.returns-clause-settled
unfolding write_of
returns-clause-settled c = grind arith
