-- Each answer's code and words. Assumes nothing.
use mathlib.Core.Path.{sym, ap, ◌∙◌}
use Rattle.store_look.specs.declared.Lookup.{Lookup}
use Rattle.c_told.specs.Told.{lookup_told}
use Rattle.c_told.proofs.tell_lookup.Goals as goal

pub returns-in-At : goal.returns-in-At
returns-in-At c = c.tell.ensures ∙ ap (λ (x : Lookup). lookup_told x c.args.told.now) (sym c.in-At.is)

pub returns-in-Missing : goal.returns-in-Missing
returns-in-Missing c =
    c.tell-in-Missing.ensures ∙ ap (λ (x : Lookup). lookup_told x c.args.told.now) (sym c.in-Missing.is)

pub returns-in-Failed : goal.returns-in-Failed
returns-in-Failed c =
    c.tell-in-Failed.ensures ∙ ap (λ (x : Lookup). lookup_told x c.args.told.now) (sym c.in-Failed.is)
