-- One place. Assumes nothing.
use mathlib.Core.Bool.{true, false}
use mathlib.Core.Path.{◌≡◌, ap, ◌∙◌}
use native.Mathlib.Omega.{arith}
use Prim.Native.Nat.{◌/◌, ◌<◌}
use lib.ListN.{get_or}
use borrow.Author.Tests.{eq-eqb, ne_eqb}
use Rattle.marks.specs.Bits.{out, marked}
use Rattle.marks.proofs.Laws.{one-marked, one-fresh, code_marked, code_fits, code_set}
use Rattle.marks.proofs.mark.Goals as goal
use Rattle.marks.proofs.mark.Goals.{Else-old-r-eq1}

free : (c : Else-old-r-eq1) → marked c.args.marks.now c.args.k ≡ false
free c = code_marked c.args.marks.now c.args.k false (ne_eqb _ _ c.if-old-r-eq1.false)

pub returns-then-old-r-eq1 : goal.returns-then-old-r-eq1
returns-then-old-r-eq1 c =
    one-marked c.args.marks.now c.args.k (code_marked c.args.marks.now c.args.k true (eq-eqb _ _ c.if-old-r-eq1.true))

pub overflow_add-marks : goal.overflow_add-marks
overflow_add-marks c =
    let b : get_or c.args.marks.now (c.args.k / 8) 0 < 256 = omega arith in
    omega (arith, code_fits c.args.marks.now c.args.k b (free (goal.at.overflow_add-marks c).Else-old-r-eq1))

pub returns : goal.returns
returns c =
    ap (out false) (code_set c.args.marks.now c.args.k) ∙ one-fresh c.args.marks.now c.args.k
    (free (goal.at.returns c).Else-old-r-eq1)
