-- Each answer's code and words. Assumes nothing.
use mathlib.Core.Path.{sym, ap, ◌∙◌}
use Rattle.brownout_faults.specs.declared.Checked.{Checked}
use Rattle.c_above.specs.Above.{checked_told}
use Rattle.c_above.proofs.tell_checked.Goals as goal

pub returns-in-Sound : goal.returns-in-Sound
returns-in-Sound c = c.tell.ensures ∙ ap (λ (x : Checked). checked_told x c.args.told.now) (sym c.in-Sound.is)

pub returns-in-Faulty : goal.returns-in-Faulty
returns-in-Faulty c =
    c.tell-in-Faulty.ensures ∙ ap (λ (x : Checked). checked_told x c.args.told.now) (sym c.in-Faulty.is)

pub returns-in-Miscounted : goal.returns-in-Miscounted
returns-in-Miscounted c =
    c.tell-in-Miscounted.ensures ∙ ap (λ (x : Checked). checked_told x c.args.told.now) (sym c.in-Miscounted.is)

pub returns-in-Refused : goal.returns-in-Refused
returns-in-Refused c =
    c.tell-in-Refused.ensures ∙ ap (λ (x : Checked). checked_told x c.args.told.now) (sym c.in-Refused.is)
