-- `report_lanes::next_lane` meets its contract. Assumes nothing.
use mathlib.Core.Path.{sym, ap, ◌∙◌}
use lib.ListN.{length}
use Rattle.std.specs.Prelude.{Err}
use Rattle.std.proofs.lemmas.Result.{err_from_is_err_and}
use Rattle.store_look.specs.Look.{lent}
use Rattle.store_state.proofs.Whole.{whole_facts}
use Rattle.report_lanes.specs.Measure.{some_lane}
use Rattle.report_lanes.proofs.Measuring.{next-held, value_in, next_listed}
use Rattle.report_lanes.proofs.next_lane.Goals as goal

pub meet-requires : goal.meet-requires
meet-requires c =
    let H = next-held c.args.st (lent c.args.table.now c.args.keys.now c.args.lists.now) c.args.index _ _ c.requires
    (sym c.in-Bucket.ensures.settled) in (
      (whole_facts c.args.st (length c.args.table.now) (length c.args.keys.now) (length c.args.lists.now)
          c.requires).list_arena,
      (H.below, value_in _ _ _ _ H),
    )

pub returns-in_err-meet-in-Bucket : goal.returns-in_err-meet-in-Bucket
returns-in_err-meet-in-Bucket c =
    let p = err_from_is_err_and c.from_residual.result c.from_residual.ensures.1 in
    rw (p.1, p.2) (
      ap some_lane c.in_err-meet-in-Bucket.ensures.0 ∙ sym (next_listed c.args.st (lent c.args.table.now
          c.args.keys.now c.args.lists.now) c.args.index _ (sym c.in-Bucket.ensures.settled)),
      tt,
    )

pub returns-in_ok-meet-in-Bucket : goal.returns-in_ok-meet-in-Bucket
returns-in_ok-meet-in-Bucket c = (
  ap some_lane c.in_ok-meet-in-Bucket.ensures.0 ∙ sym (next_listed c.args.st (lent c.args.table.now
      c.args.keys.now c.args.lists.now) c.args.index _ (sym c.in-Bucket.ensures.settled)),
  c.in_ok-meet-in-Bucket.ensures.1,
)

pub returns-in-NoMore : goal.returns-in-NoMore
returns-in-NoMore c = (
  sym (next_listed c.args.st (lent c.args.table.now c.args.keys.now c.args.lists.now) c.args.index _ (sym
      c.in-NoMore.ensures.settled)),
  tt,
)

pub returns-in-Stopped : goal.returns-in-Stopped
returns-in-Stopped c = (
  ap Err c.stopped.ensures ∙ sym (next_listed c.args.st (lent c.args.table.now c.args.keys.now c.args.lists.now)
      c.args.index _ (sym c.in-Stopped.ensures.settled)),
  tt,
)
