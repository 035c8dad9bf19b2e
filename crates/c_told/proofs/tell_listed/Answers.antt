-- Each answer's code and words. Assumes nothing.
use mathlib.Core.Path.{sym, ap, ◌∙◌}
use Rattle.store_look.specs.declared.Listed.{Listed}
use Rattle.c_told.specs.Told.{listed_told}
use Rattle.c_told.proofs.tell_listed.Goals as goal

pub returns-in-Bucket : goal.returns-in-Bucket
returns-in-Bucket c = c.tell.ensures ∙ ap (λ (x : Listed). listed_told x c.args.told.now) (sym c.in-Bucket.is)

pub returns-in-NoMore : goal.returns-in-NoMore
returns-in-NoMore c =
    c.tell-in-NoMore.ensures ∙ ap (λ (x : Listed). listed_told x c.args.told.now) (sym c.in-NoMore.is)

pub returns-in-Stopped : goal.returns-in-Stopped
returns-in-Stopped c =
    c.tell-in-Stopped.ensures ∙ ap (λ (x : Listed). listed_told x c.args.told.now) (sym c.in-Stopped.is)
