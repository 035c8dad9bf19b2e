-- What the call below answers and leaves, told. Assumes nothing.
use mathlib.Core.Path.{ap, ◌∙◌}
use Rattle.memory_arena.specs.Calls.{Out}
use Rattle.edge.specs.Told.{number_touched}
use Rattle.edge.proofs.edge_put.Goals as goal

pub returns : goal.returns
returns c =
    record {
      number = c.number_touched.ensures ∙ ap (λ (o : Out). number_touched o.answer)
          c.write_at-r.ensures.settled;
      memory = ap (λ (o : Out). o.memory) c.write_at-r.ensures.settled;
    }
