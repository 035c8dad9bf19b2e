-- The loop's invariant: what is copied and what lies in the blocks from block i on make up the whole. Assumes nothing.
use Prim.Native.Nat.{◌+◌, ◌≤◌}
use native.Mathlib.Omega.{arith}
use lib.ListN.{length}
use Rattle.limits.specs.Limits.{link_size}
use Rattle.lane_pieces.proofs.Loops.{copying-begun, copying-in, copying-fits, copying-next, copying-end}
use Rattle.lane_pieces.proofs.Loops.{length_part}
use Rattle.lane_pieces.proofs.copy_on.Goals as goal
use Rattle.lane_pieces.proofs.copy_on.Goals.{After-get_block_size-size, After-min-k}

-- the block of a turn lies in the memory; what is copied of it lies in it, and fits the output
in_memory : (c : After-get_block_size-size) → c.loop-i.b + (c.get_block_size-size.result + link_size) ≤ length
    c.args.lists.now
in_memory c = copying-in c.loop-i.invariant c.loop-i-test.true c.get_block_size-size.ensures.0

fits : (c : After-min-k) → (c.loop-i.at + c.min-k.result ≤ c.args.n) × (c.loop-i.from + c.min-k.result ≤
    c.get_block_size-size.result)
fits c = copying-fits c.loop-i.invariant c.get_block_size-size.ensures.0 c.min-k.ensures

pub loop-i-init : goal.loop-i-init
loop-i-init c =
    copying-begun c.args.lists.now c.args.first c.args.end c.args.place c.args.skip c.args.n c.args.output.now
    c.requires

pub overflow_sub-size : goal.overflow_sub-size
overflow_sub-size c = omega (arith, c.loop-i.invariant.within, c.get_block_size-size.ensures.0)

pub overflow_sub-n : goal.overflow_sub-n
overflow_sub-n c = omega (arith, c.loop-i.invariant.copied)

pub overflow_cast-start : goal.overflow_cast-start
overflow_cast-start c =
    omega (arith, in_memory (goal.at.overflow_cast-start c).After-get_block_size-size, c.well_formed.0)

pub overflow_add-s : goal.overflow_add-s
overflow_add-s c =
    omega (
      arith,
      in_memory (goal.at.overflow_add-s c).After-get_block_size-size,
      fits (goal.at.overflow_add-s
          c).After-min-k,
      c.well_formed.0,
    )

pub overflow_add-e : goal.overflow_add-e
overflow_add-e c =
    omega (
      arith,
      in_memory (goal.at.overflow_add-e c).After-get_block_size-size,
      fits (goal.at.overflow_add-e
          c).After-min-k,
      c.well_formed.0,
    )

pub slice_bounds-copy_in-end : goal.slice_bounds-copy_in-end
slice_bounds-copy_in-end c =
    omega (
      arith,
      in_memory (goal.at.slice_bounds-copy_in-end c).After-get_block_size-size,
      fits
          (goal.at.slice_bounds-copy_in-end c).After-min-k,
    )

pub copy_in-requires : goal.copy_in-requires
copy_in-requires c =
    omega (
      arith,
      fits (goal.at.copy_in-requires c).After-min-k,
      c.loop-i.invariant.same,
      c.requires.space,
      length_part c.args.lists.now (c.loop-i.b + c.loop-i.from) c.min-k.result (omega (
        arith,
        in_memory
            (goal.at.copy_in-requires c).After-get_block_size-size,
        fits (goal.at.copy_in-requires c).After-min-k,
      )),
    )

pub overflow_add-start : goal.overflow_add-start
overflow_add-start c =
    omega (arith, in_memory (goal.at.overflow_add-start c).After-get_block_size-size, c.well_formed.0)

pub get_u32-b-requires : goal.get_u32-b-requires
get_u32-b-requires c = omega (arith, in_memory (goal.at.get_u32-b-requires c).After-get_block_size-size)

pub overflow_add-at : goal.overflow_add-at
overflow_add-at c = omega (arith, fits (goal.at.overflow_add-at c).After-min-k, c.well_formed)

pub loop-i-preserved : goal.loop-i-preserved
loop-i-preserved c =
    copying-next c.loop-i.invariant c.loop-i-test.true c.get_block_size-size.ensures.0 c.min-k.ensures
    c.copy_in.ensures c.get_u32-b.ensures

pub shape_of-output : goal.shape_of-output
shape_of-output c = c.loop-i.invariant.same

pub returns : goal.returns
returns c = copying-end c.loop-i.invariant c.loop-i-test.false
