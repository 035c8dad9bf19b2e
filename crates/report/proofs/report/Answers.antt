-- `report::report` meets its contract. Assumes nothing.
use mathlib.Core.Path.{sym}
use native.Mathlib.Omega.{arith}
use Rattle.std.proofs.lemmas.Result.{err_from_is_err_and}
use Rattle.store_look.specs.Look.{lent}
use Rattle.report_lanes.proofs.Measuring.{decimal_most}
use Rattle.report.proofs.Written.{head-long}
use Rattle.report.proofs.Reporting.{report_2, report_halted, sums, head_size, report_8, report_done, told}
use Rattle.report.proofs.report.Goals as goal

pub returns-then-not-is_whole_state-clause-settled : goal.returns-then-not-is_whole_state-clause-settled
returns-then-not-is_whole_state-clause-settled c =
    report_2 c.args.st (lent c.args.table.now c.args.keys.now c.args.lists.now) c.args.output.now (sym
    c.if-not-is_whole_state.ensures)

pub returns-in_err-sums : goal.returns-in_err-sums
returns-in_err-sums c =
    let m = lent c.args.table.now c.args.keys.now c.args.lists.now in
    let p = err_from_is_err_and c.from_residual.result c.from_residual.ensures.1 in
    let it = told c.args.st m c.args.output.now _ _ (report_halted c.args.st m c.args.output.now (sym
    c.if-not-is_whole_state.ensures) _ c.in_err-sums.ensures.0) in
    rw (p.1, p.2) (record { settled = it.0; numbered = it.1 })

pub overflow_add-n : goal.overflow_add-n
overflow_add-n c = omega (arith, c.digit_count-k.ensures, decimal_most c.in_ok-sums.sums.lanes)

pub overflow_add-n-2 : goal.overflow_add-n-2
overflow_add-n-2 c =
    omega (
      arith,
      c.digit_count-k.ensures,
      c.digit_count-j.ensures,
      decimal_most c.in_ok-sums.sums.lanes,
      decimal_most c.in_ok-sums.sums.bytes,
    )

pub overflow_add-n-3 : goal.overflow_add-n-3
overflow_add-n-3 c =
    omega (
      arith,
      c.in_ok-sums.ensures.1,
      c.digit_count-k.ensures,
      c.digit_count-j.ensures,
      decimal_most c.in_ok-sums.sums.lanes,
      decimal_most c.in_ok-sums.sums.bytes,
    )

pub returns-then-output-n-clause-settled : goal.returns-then-output-n-clause-settled
returns-then-output-n-clause-settled c =
    let m = lent c.args.table.now c.args.keys.now c.args.lists.now in
    report_8 c.args.st m c.args.output.now _ (sums c.args.st m c.args.output.now _ c.in_ok-sums.ensures.0) (sym
    c.if-not-is_whole_state.ensures) _ (omega (arith, c.digit_count-k.ensures, c.digit_count-j.ensures)) (omega arith)

pub write_head-p-requires : goal.write_head-p-requires
write_head-p-requires c =
    let q = c.in_ok-sums.ensures.1 in (
      q.0,
      (
        q.1,
        omega (
          arith,
          head-long c.in_ok-sums.sums.lanes c.in_ok-sums.sums.bytes,
          c.digit_count-k.ensures,
          c.digit_count-j.ensures,
        ),
      ),
    )

pub write_lanes-q-requires : goal.write_lanes-q-requires
write_lanes-q-requires c =
    let m = lent c.args.table.now c.args.keys.now c.args.lists.now in
    let S = sums c.args.st m c.args.output.now _ c.in_ok-sums.ensures.0 in record {
      whole = sym c.if-not-is_whole_state.ensures;
      met = S.met;
      fits = omega (
        arith,
        S.text,
        c.write_head-p.ensures.1,
        head_size c.args.st m c.args.output.now _ S,
        c.digit_count-k.ensures,
        c.digit_count-j.ensures,
      );
    }

pub copy_in-requires : goal.copy_in-requires
copy_in-requires c =
    let m = lent c.args.table.now c.args.keys.now c.args.lists.now in
    let S = sums c.args.st m c.args.output.now _ c.in_ok-sums.ensures.0 in omega (
      arith,
      S.text,
      c.write_lanes-q.ensures.1,
      c.write_head-p.ensures.1,
      head_size c.args.st m c.args.output.now _ S,
      c.digit_count-k.ensures,
      c.digit_count-j.ensures,
    )

pub returns-clause-settled : goal.returns-clause-settled
returns-clause-settled c =
    let m = lent c.args.table.now c.args.keys.now c.args.lists.now in
    report_done c.args.st m c.args.output.now _ (sums c.args.st m c.args.output.now _ c.in_ok-sums.ensures.0) (sym
    c.if-not-is_whole_state.ensures) _ (omega (arith, c.digit_count-k.ensures, c.digit_count-j.ensures)) (omega arith)
    _ _ _ _ _ c.write_head-p.ensures.0 c.write_head-p.ensures.1 c.write_lanes-q.ensures.0 c.write_lanes-q.ensures.1
    c.copy_in.ensures
