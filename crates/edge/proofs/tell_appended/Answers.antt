-- Each answer's words. Assumes nothing.
use mathlib.Core.Path.{sym, ap, ◌∙◌}
use Rattle.spans.specs.Span.{overwrite}
use Rattle.store_append.specs.declared.Appended.{Appended}
use Rattle.edge.specs.Told.{told_appended}
use Rattle.edge.proofs.tell_appended.Goals as goal

pub returns-in-Accepted : goal.returns-in-Accepted
returns-in-Accepted c =
    c.tell_state.ensures ∙ ap (λ (x : Appended). overwrite 0 (told_appended x) c.args.told.now) (sym
    c.in-Accepted.is)

pub returns-in-Declined : goal.returns-in-Declined
returns-in-Declined c =
    c.tell_state-in-Declined.ensures ∙ ap (λ (x : Appended). overwrite 0 (told_appended x) c.args.told.now) (sym
    c.in-Declined.is)
