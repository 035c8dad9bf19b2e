-- What the call below answers and leaves, told. Assumes nothing.
use mathlib.Core.Path.{ap, ◌∙◌}
use mathlib.Core.List.{List}
use Prim.Native.Nat.{ℕ}
use Rattle.store_state.specs.declared.State.{State}
use Rattle.store_look.specs.Look.{Lent, lent, Read, read_of}
use Rattle.edge.specs.Told.{read_told}
use Rattle.edge.proofs.edge_read.Goals as goal

pub returns : goal.returns
returns c =
    let m : Lent = lent c.args.table.now c.args.keys.now c.args.lists.now in record {
      settled = ap (λ (t : List ℕ).
          (c.read-r.new.output, t)) c.tell_answer.ensures ∙ ap (λ (o : Read). read_told o c.args.told.now)
          (c.read-r.ensures.settled ∙ ap (λ (s : State). read_of s m c.args.name.now c.args.output.now)
          c.state_of-st.ensures);
    }
