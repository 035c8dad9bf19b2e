-- `expull_header::is_sound_header` meets its contract. The tests of a list without blocks, and those of another.
-- Assumes nothing.
use borrow.Author.Tests.{ne_eqb}
use native.Mathlib.Omega.{arith}
use Rattle.expull_header.specs.Header.{sound_header}
use Rattle.expull_header.proofs.is_sound_header.Goals as goal

pub returns-then-h-eq-FIRST_BLOCK_NUM : goal.returns-then-h-eq-FIRST_BLOCK_NUM
unfolding sound_header
returns-then-h-eq-FIRST_BLOCK_NUM c =
    rw (c.eq.ensures, c.fresh_header.ensures, c.if-h-eq-FIRST_BLOCK_NUM.true)
    (grind arith)

pub returns : goal.returns
unfolding sound_header
returns c = rw (ne_eqb c.args.h.number 2 c.if-h-eq-FIRST_BLOCK_NUM.false, c.get_block_size-size.ensures.0)
