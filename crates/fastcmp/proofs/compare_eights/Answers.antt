-- The invariant: equal as far as `i`. Assumes nothing.
use Prim.Native.Nat.{◌+◌, ◌-◌}
use mathlib.Core.Path.{sym}
use native.Mathlib.Omega.{arith}
use lib.ListN.{length}
use Rattle.fastcmp.proofs.Laws.{eight_on, eight_not, eight_last}
use Rattle.fastcmp.proofs.compare_eights.Goals as goal
use Rattle.fastcmp.proofs.compare_eights.Goals.{else-loop-i-test, then-loop-i-test+else-a-b+else-last-i-gt8}

pub returns-then-a-b : goal.returns-then-a-b
returns-then-a-b c =
    sym (eight_not c.args.left.now c.args.right.now c.loop-i.i c.get_u64-a.ensures c.get_u64-b.ensures c.if-a-b.true)

pub loop-i-preserved : goal.loop-i-preserved
loop-i-preserved c =
    eight_on c.args.left.now c.args.right.now c.loop-i.i c.loop-i.i (λ k. (c.type_inv.left k).fits) (λ k.
    (c.type_inv.right k).fits) (omega arith) (omega arith) (omega arith) c.loop-i.invariant c.get_u64-a.ensures
    c.get_u64-b.ensures c.if-a-b.false

pub returns : goal.returns
returns c =
    let a = c.args.left.now in
    let b = c.args.right.now in
    let i = c.loop-i.i in
    elim c.loop-i-test.branch [
      | else-loop-i-test w ↦ eight_last a b i (length a - 8) (λ k. (c.type_inv.left k).fits) (λ k.
          (c.type_inv.right k).fits) (omega arith) (omega arith) (omega arith) c.loop-i.invariant
          c.get_u64-a-2.ensures c.get_u64-b-2.ensures
      | then-loop-i-test+else-a-b+else-last-i-gt8 w ↦ eight_last a b (i + 8) (length a - 8) (λ k.
          (c.type_inv.left k).fits) (λ k. (c.type_inv.right k).fits) (omega arith) (omega arith) (omega arith)
          (eight_on a b i i (λ k. (c.type_inv.left k).fits) (λ k. (c.type_inv.right k).fits) (omega arith) (omega
          arith) (omega arith) c.loop-i.invariant w.get_u64-a.ensures w.get_u64-b.ensures w.if-a-b.false)
          c.get_u64-a-2.ensures c.get_u64-b-2.ensures
    ]
