-- `report_read::line_end` meets its contract. Assumes nothing.
use mathlib.Core.Path.{sym, ap, ◌∙◌}
use native.Mathlib.Omega.{arith}
use lib.ListN.{drop, length-drop}
use Rattle.std.specs.Prelude.{nat_eq, position}
use Rattle.report_text.specs.Text.{newline}
use Rattle.report_read.proofs.Lines.{rest_part, line_found, line_open, line-in}
use Rattle.report_read.proofs.line_end.Goals as goal

pub returns-in-Some : goal.returns-in-Some
returns-in-Some c =
    let r = ap (position (λ x. nat_eq x newline)) (rest_part c.args.text.now c.args.from) in
    let n = line_found (drop c.args.from c.args.text.now) c.in-Some.n (sym (c.in-Some.ensures ∙ r)) in
    (omega (arith, n.0), omega (arith, n.1, length-drop c.args.from c.args.text.now))

pub returns-in-None : goal.returns-in-None
returns-in-None c =
    let r = ap (position (λ x. nat_eq x newline)) (rest_part c.args.text.now c.args.from) in
    let n = line_open (drop c.args.from c.args.text.now) (sym (c.in-None.ensures ∙ r)) in
    let l = line-in c.args.text.now c.args.from c.requires in
    (omega (arith, n, l, length-drop c.args.from c.args.text.now), omega arith)
