-- The block in which the bytes begin is found, and from there it goes on. Assumes nothing.
use mathlib.Core.Path.{sym}
use native.Mathlib.Omega.{arith}
use Rattle.lane_pieces.proofs.Pieces.{within_short, within_few, within-going, put_bad, put-on}
use Rattle.lane_pieces.proofs.put_piece.Goals as goal

pub block_holding-first-requires : goal.block_holding-first-requires
block_holding-first-requires c = omega (arith, within_short c.requires)

pub find_place-requires : goal.find_place-requires
find_place-requires c = within_few c.requires c.block_holding-first.ensures

pub returns-in_default : goal.returns-in_default
returns-in_default c = put_bad c.requires _ _ c.args.lists.now.fitting c.block_holding-first.ensures (sym c.in_default.ensures)

pub go_on-requires : goal.go_on-requires
go_on-requires c = within-going c.requires c.block_holding-first.ensures

pub returns : goal.returns
returns c =
    rw c.is_some.ensures
    (put-on c.requires _ _ c.args.lists.now.fitting c.block_holding-first.ensures (sym c.in-Some.ensures) c.go_on.result c.go_on.ensures)
