-- `shared_arena_hashmap::grow::resize` meets its contract. The two calls are the two steps of the definition. Assumes
-- nothing.
use Rattle.shared_arena_hashmap.proofs.Laws.{grown_code}
use Rattle.shared_arena_hashmap.proofs.grow.resize.Goals as goal

pub returns : goal.returns
returns c =
    grown_code c.args.n c.args.old c.args.first c.args.l c.args.table.now _ _ c.clear.ensures c.reenter_all.ensures
