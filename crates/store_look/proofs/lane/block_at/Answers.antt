-- The header that was found, or damage. Assumes nothing.
use mathlib.Core.Path.{sym, ap, ◌∙◌}
use Rattle.records.proofs.Laws.{head-found, head_lost}
use Rattle.store_look.proofs.Found.{block_4, block_found}
use Rattle.store_look.specs.Look.{lent, on_block}
use Rattle.store_look.proofs.lane.block_at.Goals as goal

pub returns-in_default : goal.returns-in_default
returns-in_default c =
    sym (block_4 c.args.st (lent c.args.table.now c.args.keys.now c.args.lists.now) c.args.index c.args.at
    (head_lost _ _ (sym c.in_default.ensures)))

pub find_block-requires : goal.find_block-requires
find_block-requires c = (head-found _ _ _ (sym c.in-Some.ensures)).ends

pub returns : goal.returns
returns c =
    c.on_block.ensures ∙ ap on_block c.find_block.ensures ∙ sym (block_found c.args.st (lent c.args.table.now
    c.args.keys.now c.args.lists.now) c.args.index c.args.at _ (head-found _ _ _ (sym c.in-Some.ensures)))
