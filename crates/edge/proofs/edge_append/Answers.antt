-- What the call below answers and leaves, told. Assumes nothing.
use mathlib.Core.Path.{ap, ◌∙◌}
use mathlib.Core.List.{List}
use Prim.Native.Nat.{ℕ}
use Rattle.store_state.specs.declared.State.{State}
use Rattle.store_look.specs.Look.{Lent, lent}
use Rattle.store_append.specs.Append.{Out, append_of}
use Rattle.edge.specs.Told.{append_told}
use Rattle.edge.proofs.edge_append.Goals as goal

pub returns : goal.returns
returns c =
    let m : Lent = lent c.args.table.now c.args.keys.now c.args.lists.now in record {
      settled = ap (λ (t : List ℕ).
          (lent c.append-r.new.table c.append-r.new.keys c.append-r.new.lists, t)) c.tell_appended.ensures ∙ ap (λ (o :
          Out). append_told o c.args.told.now) (c.append-r.ensures.settled ∙ ap (λ (s : State). append_of s m
          c.args.name.now c.args.bytes.now) c.state_of-st.ensures);
    }
