-- What the call below answers and leaves, told. Assumes nothing.
use mathlib.Core.Path.{ap, ◌∙◌}
use Rattle.std.specs.Prelude.{Result}
use Rattle.limits.specs.declared.Refusal.{Refusal}
use Rattle.memory_arena.specs.Pages.{MaybeRoom}
use Rattle.spans.specs.Span.{overwrite}
use Rattle.edge.specs.Told.{told_allocated}
use Rattle.edge.proofs.edge_allocate.Goals as goal

pub returns : goal.returns
returns c =
    record {
      settled = c.tell_allocated.ensures ∙ ap (λ (r : Result MaybeRoom Refusal). overwrite 0 (told_allocated r)
          c.args.told.now) c.allocate_space-r.ensures.settled;
    }
