-- `expull_walk::block_length` meets its contract. The last block as far as it is written, another whole. Assumes
-- nothing.
use mathlib.Core.Path.{sym, ◌∙◌}
use native.Mathlib.Omega.{arith}
use Rattle.expull_header.proofs.Laws.{sound_facts}
use Rattle.expull_walk.proofs.Laws.{block_last, block_whole}
use Rattle.expull_walk.proofs.block_length.Goals as goal

pub overflow_sub-result : goal.overflow_sub-result
overflow_sub-result c =
    omega (arith, c.get_block_size.ensures.0, (sound_facts c.args.h 0 c.requires.0).shape.within)

pub returns-then-i-h : goal.returns-then-i-h
returns-then-i-h c = rw c.get_block_size.ensures.0 (sym (block_last c.args.h c.args.i c.if-i-h.true))

pub returns : goal.returns
returns c = c.get_block_size-2.ensures.0 ∙ sym (block_whole c.args.h c.args.i c.requires.1 c.if-i-h.false)
