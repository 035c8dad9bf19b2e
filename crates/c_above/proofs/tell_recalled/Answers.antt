-- Each answer's code and words. Assumes nothing.
use mathlib.Core.Path.{sym, ap, ◌∙◌}
use Rattle.readings.specs.declared.Recalled.{Recalled}
use Rattle.c_above.specs.Above.{recalled_told}
use Rattle.c_above.proofs.tell_recalled.Goals as goal

pub returns-in-Readings : goal.returns-in-Readings
returns-in-Readings c = c.tell.ensures ∙ ap (λ (x : Recalled). recalled_told x c.args.told.now) (sym c.in-Readings.is)

pub returns-in-Absent : goal.returns-in-Absent
returns-in-Absent c =
    c.tell-in-Absent.ensures ∙ ap (λ (x : Recalled). recalled_told x c.args.told.now) (sym c.in-Absent.is)

pub returns-in-Refused : goal.returns-in-Refused
returns-in-Refused c =
    c.tell-in-Refused.ensures ∙ ap (λ (x : Recalled). recalled_told x c.args.told.now) (sym c.in-Refused.is)
