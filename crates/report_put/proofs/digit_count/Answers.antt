-- `report_put::digit_count` meets its contract. Assumes nothing.
use Rattle.report_put.proofs.Laws.{decimal_many}
use Rattle.report_put.proofs.digit_count.Goals as goal

pub returns : goal.returns
returns c =
    decimal_many c.args.n _ _ c.requires c.max.ensures c.ilog10.ensures.power_le c.ilog10.ensures.next_power_gt
