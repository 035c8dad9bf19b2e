-- The state saved, and the lanes told. Assumes nothing.
use mathlib.Core.Path.{sym, ap, ◌∙◌}
use Rattle.join.specs.declared.Joined.{Joined}
use Rattle.c_join.specs.Joined.{saved_joined}
use Rattle.c_join.proofs.save_joined.Goals as goal

pub returns-in-Whole : goal.returns-in-Whole
returns-in-Whole c =
    (λ i. (c.tell.ensures i, c.save.ensures i)) ∙ ap (λ (x : Joined). saved_joined x c.args.told.now
    c.args.state.now) (sym c.in-Whole.is)

pub returns-in-Halted : goal.returns-in-Halted
returns-in-Halted c =
    (λ i. (c.tell-in-Halted.ensures i, c.save-in-Halted.ensures i)) ∙ ap (λ (x : Joined). saved_joined x
    c.args.told.now c.args.state.now) (sym c.in-Halted.is)
