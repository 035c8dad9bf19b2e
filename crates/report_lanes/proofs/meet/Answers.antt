-- `report_lanes::meet` meets its contract. Assumes nothing.
use mathlib.Core.Path.{◌≡◌, sym, ap, ◌∙◌, subst}
use native.Mathlib.Omega.{arith}
use Rattle.std.specs.Prelude.{Ok, IfOk}
use Rattle.std.proofs.lemmas.Result.{err_from_is_err_and}
use Rattle.store_look.specs.Look.{lent}
use Rattle.report_lanes.specs.Measure.{met_lane, met_of, Small}
use Rattle.report_lanes.proofs.Measuring.{met_good, met_bad, met-small}
use Rattle.report_lanes.proofs.meet.Goals as goal

pub returns-in_err-bytes : goal.returns-in_err-bytes
returns-in_err-bytes c =
    let m = lent c.args.table.now c.args.keys.now c.args.lists.now in
    let p = err_from_is_err_and c.from_residual.result c.from_residual.ensures.1 in
    rw (p.1, p.2) (met_bad c.args.st m c.args.bucket c.args.at _ _ c.read_at-answer.ensures _ c.in_err-bytes.ensures, tt)

pub returns : goal.returns
returns c =
    let m = lent c.args.table.now c.args.keys.now c.args.lists.now in
    let e : Ok (met_lane c.args.bucket c.args.at c.key_length-name.result c.in_ok-bytes.bytes)
    ≡ met_of c.args.st m c.args.bucket c.args.at =
    ap (λ n. Ok (met_lane c.args.bucket c.args.at n c.in_ok-bytes.bytes)) c.key_length-name.ensures.0
    ∙ met_good c.args.st m c.args.bucket c.args.at _ _ c.read_at-answer.ensures _ c.in_ok-bytes.ensures in (
      e,
      subst (λ r. IfOk r (Small c.args.st.buckets)) (sym e) (met-small c.args.st m c.args.bucket c.args.at c.requires.1.0
          (omega (arith, c.key_length-name.ensures.0, c.key_length-name.ensures.1))),
    )
