-- `report::write_head` meets its contract: one line behind the other. Assumes nothing.
use Prim.Native.Nat.{ℕ, ◌+◌}
use mathlib.Core.Path.{refl, ap, ◌∙◌}
use mathlib.Core.List.{List, []}
use native.Mathlib.Omega.{arith}
use lib.ListN.{length}
use Rattle.spans.specs.Span.{overwrite}
use Rattle.report_text.specs.Text.{store_line, terms_word, total_word, decimal, line}
use Rattle.report_put.proofs.Laws.{line-long}
use Rattle.report.proofs.Written.{put_first, put_next, head-lines, head-long}
use Rattle.report.proofs.write_head.Goals as goal

pub copy_in-requires : goal.copy_in-requires
copy_in-requires c = omega (arith, head-long c.args.lanes c.args.bytes)

pub put_number_line-a-requires : goal.put_number_line-a-requires
put_number_line-a-requires c = (
  c.requires.0,
  omega (arith, head-long c.args.lanes c.args.bytes, line-long terms_word (decimal c.args.lanes)),
)

pub put_number_line-requires : goal.put_number_line-requires
put_number_line-requires c = (
  c.requires.1.0,
  omega (
    arith,
    head-long c.args.lanes c.args.bytes,
    line-long terms_word (decimal c.args.lanes),
    line-long total_word (decimal c.args.bytes),
  ),
)

pub returns : goal.returns
returns c =
    let one = put_first 0 c.args.output.now _ (line store_line []) 8 c.copy_in.ensures refl in
    let two = put_next one _ (line terms_word (decimal c.args.lanes)) _ c.put_number_line-a.ensures.0
    c.put_number_line-a.ensures.1 in
    let all = put_next two _ (line total_word (decimal c.args.bytes)) _ c.put_number_line.ensures.0
    c.put_number_line.ensures.1 in
    let h = head-lines c.args.lanes c.args.bytes in (
      all.output ∙ ap (λ (t : List ℕ). overwrite 0 t c.args.output.now) h,
      all.place ∙ ap (λ (t : List ℕ). 0 + length t) h ∙ omega arith,
    )
