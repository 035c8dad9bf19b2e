-- Each answer's words. Assumes nothing.
use Prim.Native.Nat.{ℕ}
use mathlib.Core.Path.{sym, ap, ◌∙◌}
use Rattle.spans.specs.Span.{overwrite}
use Rattle.store_look.specs.declared.Answer.{Answer}
use Rattle.edge.specs.Told.{four, told_answer}
use Rattle.edge.proofs.tell_answer.Goals as goal

pub returns-in-Absent : goal.returns-in-Absent
returns-in-Absent c =
    c.tell_four.ensures ∙ ap (λ (x : Answer). overwrite 0 (told_answer x) c.args.told.now) (sym c.in-Absent.is)

pub returns-in-Found : goal.returns-in-Found
returns-in-Found c =
    c.tell_four-in-Found.ensures ∙ ap (λ (n : ℕ). overwrite 0 (four 0 n) c.args.told.now) c.length_in.ensures ∙ ap
    (λ (x : Answer). overwrite 0 (told_answer x) c.args.told.now) (sym c.in-Found.is)

pub returns-in-Refused : goal.returns-in-Refused
returns-in-Refused c =
    c.tell_four-in-Refused.ensures ∙ ap (λ (x : Answer). overwrite 0 (told_answer x) c.args.told.now) (sym
    c.in-Refused.is)
