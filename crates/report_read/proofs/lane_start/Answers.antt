-- `report_read::lane_start` meets its contract. Assumes nothing.
use Prim.Native.Nat.{◌+◌, ◌-◌}
use mathlib.Core.Path.{◌≡◌, sym, ap, ◌∙◌}
use native.Mathlib.Nat.{sub-zero}
use native.Mathlib.Omega.{arith}
use Rattle.report_read.specs.Lines.{lanes_on}
use Rattle.report_read.proofs.Lines.{lanes_next, lanes_none}
use Rattle.report_read.proofs.lane_start.Goals as goal

pub loop-init : goal.loop-init
loop-init c = (c.first_lane-at.ensures.1, rw sub-zero (ap (lanes_on _ _) (sym c.first_lane-at.ensures.0)))

pub next_lane-at-requires : goal.next_lane-at-requires
next_lane-at-requires c = c.loop.invariant.0

pub loop-preserved : goal.loop-preserved
loop-preserved c =
    let k : c.args.index - c.loop.counter - 1 ≡ c.args.index - (c.loop.counter + 1) = omega arith in (
      c.next_lane-at.ensures.1,
      c.loop.invariant.1 ∙ lanes_next c.args.text.now c.loop.at (c.args.index - c.loop.counter)
          c.next_lane-at.result (omega arith) c.next_lane-at.ensures.0
          ∙ ap (λ k. lanes_on k c.args.text.now c.next_lane-at.result) k,
    )

pub returns : goal.returns
returns c =
    let z : c.args.index - c.loop.counter ≡ 0 = omega arith in (
      sym (c.loop.invariant.1 ∙ lanes_none _ c.loop.at _ z),
      c.loop.invariant.0,
    )
