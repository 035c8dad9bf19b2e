-- What the call below answers and leaves, told. Assumes nothing.
use mathlib.Core.Path.{ap, ◌∙◌}
use Rattle.store_state.specs.declared.State.{State}
use Rattle.store_look.specs.declared.Answer.{Answer}
use Rattle.store_look.specs.Look.{Lent, lent, length_of}
use Rattle.spans.specs.Span.{overwrite}
use Rattle.edge.specs.Told.{told_answer}
use Rattle.edge.proofs.edge_length.Goals as goal

pub returns : goal.returns
returns c =
    let m : Lent = lent c.args.table.now c.args.keys.now c.args.lists.now in record {
      settled =
          c.tell_answer.ensures ∙ ap (λ (r : Answer). overwrite 0 (told_answer r) c.args.told.now)
          (c.length-r.ensures.settled ∙ ap (λ (s : State). length_of s m c.args.name.now) c.state_of-st.ensures);
    }
