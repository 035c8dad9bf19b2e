-- `expull_header::lane_length` meets its contract. The closed form of the sum, up to block 15 and above it. Assumes
-- nothing.
use Prim.Native.Nat.{◌≤◌}
use mathlib.Core.Path.{sym}
use native.Mathlib.Omega.{arith}
use Rattle.expull_header.proofs.Laws.{SoundHeader, sound_facts, size_least, size_most, length_none, length_low}
use Rattle.expull_header.proofs.Laws.{length_high}
use Rattle.expull_header.specs.Header.{block_size}
use Rattle.expull_header.proofs.lane_length.Goals as goal
use Rattle.expull_header.proofs.lane_length.Goals.{Else-h-eq-FIRST_BLOCK_NUM, Start}

-- what is known of the header; and of the size, up to block 15
facts : (c : Start) → SoundHeader c.args.h 0
facts c = sound_facts c.args.h 0 c.requires

least : (c : Else-h-eq-FIRST_BLOCK_NUM) → 8 ≤ block_size c.args.h.number
least c =
    size_least c.args.h.number (omega (arith, (sound_facts c.args.h 0 c.requires).shape.from))

pub returns-then-h-eq-FIRST_BLOCK_NUM : goal.returns-then-h-eq-FIRST_BLOCK_NUM
returns-then-h-eq-FIRST_BLOCK_NUM c = sym (length_none c.args.h c.if-h-eq-FIRST_BLOCK_NUM.true)

pub overflow_sub-result : goal.overflow_sub-result
overflow_sub-result c =
    omega (arith, c.get_block_size-size.ensures.0, least (goal.at.overflow_sub-result c).Else-h-eq-FIRST_BLOCK_NUM)

pub overflow_sub-result-then-h-le15 : goal.overflow_sub-result-then-h-le15
overflow_sub-result-then-h-le15 c =
    omega (
      arith,
      c.get_block_size-size.ensures.0,
      least (goal.at.overflow_sub-result-then-h-le15
          c).Else-h-eq-FIRST_BLOCK_NUM,
      (facts (goal.at.overflow_sub-result-then-h-le15 c).Start).shape.within,
    )

pub returns-then-h-le15 : goal.returns-then-h-le15
returns-then-h-le15 c =
    rw c.get_block_size-size.ensures.0 (sym (length_low c.args.h c.requires c.if-h-eq-FIRST_BLOCK_NUM.false
    c.if-h-le15.true))

pub overflow_sub-result-3 : goal.overflow_sub-result-3
overflow_sub-result-3 c =
    omega (arith, (facts (goal.at.overflow_sub-result-3 c).Start).shape.within, size_most c.args.h.number)

pub returns : goal.returns
returns c = sym (length_high c.args.h c.requires c.if-h-le15.false)
