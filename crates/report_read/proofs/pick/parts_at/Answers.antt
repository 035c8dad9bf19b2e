-- `report_read::pick::parts_at` meets its contract. Assumes nothing.
use Rattle.report_read.proofs.Picking.{line_two, parts-found}
use Rattle.report_read.proofs.pick.parts_at.Goals as goal

pub returns : goal.returns
returns c =
    let e = line_two c.args.text.now c.args.at _ _ c.next_line-len_line.ensures.0 c.next_line-bytes_line.ensures.0
    in parts-found c.args.text.now c.args.at _ _ _ c.line_end-name_end.ensures.0 e c.line_end-bytes_end.ensures.0
