-- What the call below answers and leaves, told. Assumes nothing.
use mathlib.Core.Path.{ap, ◌∙◌}
use Rattle.memory_arena.specs.Calls.{Out}
use Rattle.edge.specs.Told.{number_touched}
use Rattle.edge.proofs.edge_get.Goals as goal

pub returns : goal.returns
returns c =
    record {
      number = c.number_touched.ensures ∙ ap (λ (o : Out). number_touched o.answer) c.read-r.ensures.settled;
      bytes = ap (λ (o : Out). o.memory) c.read-r.ensures.settled;
    }
