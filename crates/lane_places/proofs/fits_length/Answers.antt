-- The count, then the block. Assumes nothing.
use mathlib.Core.Path.{sym}
use Rattle.lane_places.proofs.PieceOn.{fits_above, fits_far, fits_by}
use Rattle.lane_places.proofs.fits_length.Goals as goal

pub returns-then-length-p : goal.returns-then-length-p
returns-then-length-p c = sym (fits_above c.args.p c.args.length c.if-length-p.true)

pub returns-then-p-ge-NUMBER_LIMIT : goal.returns-then-p-ge-NUMBER_LIMIT
returns-then-p-ge-NUMBER_LIMIT c =
    sym (fits_far c.args.p c.args.length c.requires c.if-length-p.false c.if-p-ge-NUMBER_LIMIT.true)

pub returns : goal.returns
returns c = fits_by c.args.p c.args.length c.if-length-p.false c.full_bytes-before.ensures c.full_bytes-behind.ensures
