-- A turn takes four bytes. Assumes nothing.
use mathlib.Core.Path.{◌∙◌}
use native.Mathlib.Omega.{arith}
use Rattle.murmurhash2.proofs.Laws.{turn_on}
use Rattle.murmurhash2.proofs.fours.Goals as goal

pub loop-four-preserved : goal.loop-four-preserved
loop-four-preserved c =
    c.loop-four.invariant ∙ turn_on c.loop-four.h c.args.key.now c.loop-four.four-index _ c.as_chunks.ensures.front (omega
    (arith, c.as_chunks.ensures.front_len)) c.from_le_bytes.ensures c.turn-h.ensures
