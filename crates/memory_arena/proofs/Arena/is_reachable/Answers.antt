-- The state check, then the span. Assumes nothing.
use Rattle.std.proofs.Common.{sym, ◌∙◌, arith}
use Rattle.memory_arena.proofs.Laws.{sensible_facts}
use Rattle.memory_arena.specs.Calls.{reachable}
use Rattle.memory_arena.proofs.Arena.is_reachable.Goals as goal

pub is_good_span-requires : goal.is_good_span-requires
is_good_span-requires c =
    (sensible_facts c.args.self c.args.len (sym c.is_sensible.ensures ∙ c.if-is_sensible.true)).sized

pub returns-then-is_sensible : goal.returns-then-is_sensible
unfolding reachable
returns-then-is_sensible c = grind arith

pub returns-else-is_sensible : goal.returns-else-is_sensible
unfolding reachable
returns-else-is_sensible c = grind arith
