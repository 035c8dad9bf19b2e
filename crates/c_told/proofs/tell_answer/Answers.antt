-- Each answer's code and words. Assumes nothing.
use Prim.Native.Nat.{ℕ}
use mathlib.Core.Path.{sym, ap, ◌∙◌}
use Rattle.store_look.specs.declared.Answer.{Answer}
use Rattle.c_told.specs.Told.{says, answer_told}
use Rattle.c_told.proofs.tell_answer.Goals as goal

pub returns-in-Absent : goal.returns-in-Absent
returns-in-Absent c = c.tell.ensures ∙ ap (λ (x : Answer). answer_told x c.args.told.now) (sym c.in-Absent.is)

pub returns-in-Found : goal.returns-in-Found
returns-in-Found c =
    c.tell-in-Found.ensures ∙ ap (λ (n : ℕ). says 0 n 0 c.args.told.now) c.number_in.ensures ∙ ap (λ (x : Answer).
    answer_told x c.args.told.now) (sym c.in-Found.is)

pub returns-in-Refused : goal.returns-in-Refused
returns-in-Refused c =
    c.tell-in-Refused.ensures ∙ ap (λ (x : Answer). answer_told x c.args.told.now) (sym c.in-Refused.is)
