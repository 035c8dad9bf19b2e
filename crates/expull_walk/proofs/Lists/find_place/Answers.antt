-- `expull_walk::Lists::find_place` meets its contract. The blocks before the one asked for, then that one. Assumes nothing.
use mathlib.Core.Path.{sym, ◌∙◌}
use Rattle.memory_arena.proofs.Laws.{sensible_facts}
use Rattle.expull_walk.proofs.Laws.{place_tested, place_lost}
use Rattle.expull_walk.proofs.Lists.find_place.Goals as goal

pub returns-in_err-place : goal.returns-in_err-place
returns-in_err-place c =
    c.from_residual.ensures ∙ place_lost c.args.self.now.arena c.args.self.now.bytes.now c.args.head c.args.i
    (sym c.walk.ensures ∙ c.in_err-place.was)

pub is_good_span-requires : goal.is_good_span-requires
is_good_span-requires c = (sensible_facts _ _ c.args.self.now.fitting).sized

pub returns : goal.returns
returns c =
    c.then_some.ensures ∙ place_tested c.args.self.now.arena c.args.self.now.bytes.now c.args.head c.args.i c.in_ok-place.place
    c.get_block_size-size.result c.is_good_span.result (sym c.walk.ensures ∙ c.in_ok-place.was)
    c.get_block_size-size.ensures.0 c.is_good_span.ensures
