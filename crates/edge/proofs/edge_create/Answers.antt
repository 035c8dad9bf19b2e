-- What the call below answers and leaves, told. Assumes nothing.
use mathlib.Core.Path.{ap, ◌∙◌}
use mathlib.Core.List.{List}
use Prim.Native.Nat.{ℕ}
use Rattle.store_create.specs.Create.{Out}
use Rattle.edge.specs.Told.{create_told}
use Rattle.edge.proofs.edge_create.Goals as goal

pub returns : goal.returns
returns c =
    record {
      settled = ap (λ (t : List ℕ). (c.create-r.new.table, t)) c.tell_created.ensures ∙ ap (λ (o : Out).
          create_told o c.args.told.now) c.create-r.ensures.settled;
    }
