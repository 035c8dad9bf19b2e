-- `report_read::check::is_seen` meets its contract. Assumes nothing.
use Prim.Native.Nat.{◌+◌, ◌-◌}
use mathlib.Core.Path.{◌≡◌, sym, ap, ◌∙◌}
use native.Mathlib.Nat.{sub-zero}
use native.Mathlib.Omega.{arith}
use Rattle.report_read.specs.Counted.{seen_among}
use Rattle.report_read.proofs.Seen.{seen_none, seen_here, seen-on}
use Rattle.report_read.proofs.check.is_seen.Goals as goal

pub loop-init : goal.loop-init
loop-init c = (c.first_lane-at.ensures.1, rw sub-zero (ap (seen_among _ _ _) (sym c.first_lane-at.ensures.0)))

pub line_end-end-requires : goal.line_end-end-requires
line_end-end-requires c = c.loop.invariant.0

pub returns-then-fast_short_slice_compare : goal.returns-then-fast_short_slice_compare
returns-then-fast_short_slice_compare c =
    sym (c.loop.invariant.1 ∙ seen_here c.args.line.now c.args.text.now (c.args.lanes - c.loop.counter) c.loop.at
    c.line_end-end.result c.line_end-end.ensures.0 (omega arith) (sym c.fast_short_slice_compare.ensures ∙
    c.if-fast_short_slice_compare.true))

pub loop-preserved : goal.loop-preserved
loop-preserved c =
    let k : c.args.lanes - c.loop.counter - 1 ≡ c.args.lanes - (c.loop.counter + 1) = omega arith in (
      c.next_lane-at.ensures.1,
      c.loop.invariant.1 ∙ seen-on c.args.line.now c.args.text.now (c.args.lanes - c.loop.counter) c.loop.at
          c.line_end-end.result c.line_end-end.ensures.0 (omega arith) (sym c.fast_short_slice_compare.ensures
          ∙ c.if-fast_short_slice_compare.false) c.next_lane-at.result c.next_lane-at.ensures.0
          ∙ ap (λ k. seen_among k c.args.line.now c.args.text.now c.next_lane-at.result) k,
    )

pub returns : goal.returns
returns c =
    let z : c.args.lanes - c.loop.counter ≡ 0 = omega arith in
    sym (c.loop.invariant.1 ∙ seen_none _ _ c.loop.at _ z)
