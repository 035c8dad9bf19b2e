-- `expull_walk::Lists::read_to_end` meets its contract. The loop's invariant: the first i blocks, full, stand at the front of
-- the output. Assumes nothing.
use Rattle.limits.specs.Limits.{link_size}
use Prim.Native.Nat.{ℕ, ◌-◌, ◌+◌, ◌≤◌}
use mathlib.Core.Path.{◌≡◌, ap}
use native.Mathlib.Omega.{arith}
use lib.ListN.{length}
use Rattle.expull_header.proofs.Parts.{length_part}
use Rattle.expull_walk.proofs.Loops.{reading-length, readable, Piece, reading-begun, reading-piece}
use Rattle.expull_walk.proofs.Loops.{reading-next, reading_last, reading-end, reading_none}
use Rattle.expull_header.proofs.Laws.{sound_facts}
use Rattle.expull_walk.proofs.Lists.read_to_end.Goals as goal
use Rattle.expull_walk.proofs.Lists.read_to_end.Goals.{After-get_block_size-size, After-get_block_size-size-2, At-loop-i}

-- the output keeps its length
same : (c : At-loop-i) → length c.loop-i.output ≡ length c.args.output.now
same c = reading-length c.loop-i.invariant

with_link : (c : After-get_block_size-size) → c.loop-i.place + (c.get_block_size-size.result + link_size) ≤ length
    c.args.self.now.bytes.now
with_link c =
    (reading-piece (readable c.args.self.now.fitting c.requires c.if-h-eq-FIRST_BLOCK_NUM.false) c.loop-i.invariant (omega (
      arith,
      c.loop-i-test.true,
    )) c.get_block_size-size.ensures.0).1.0

piece : (c : After-get_block_size-size) → Piece c.args.self.now.bytes.now c.loop-i.output c.loop-i.place c.loop-i.at
    c.get_block_size-size.result
piece c =
    (reading-piece (readable c.args.self.now.fitting c.requires c.if-h-eq-FIRST_BLOCK_NUM.false) c.loop-i.invariant (omega (
      arith,
      c.loop-i-test.true,
    )) c.get_block_size-size.ensures.0).1.1

tail : (c : After-get_block_size-size-2) → Piece c.args.self.now.bytes.now c.loop-i.output c.loop-i.place c.loop-i.at
    (c.get_block_size-size-2.result - c.args.h.remaining)
tail c =
    reading_last (readable c.args.self.now.fitting c.requires c.if-h-eq-FIRST_BLOCK_NUM.false) c.loop-i.invariant (omega (
      arith,
      c.loop-i-test.false,
    )) (ap (λ (n : ℕ). n - c.args.h.remaining) c.get_block_size-size-2.ensures.0)

pub returns-then-h-eq-FIRST_BLOCK_NUM : goal.returns-then-h-eq-FIRST_BLOCK_NUM
returns-then-h-eq-FIRST_BLOCK_NUM c =
    reading_none c.args.self.now.bytes.now c.args.h c.args.output.now c.if-h-eq-FIRST_BLOCK_NUM.true

pub overflow_sub-last : goal.overflow_sub-last
overflow_sub-last c =
    omega (arith, (sound_facts c.args.h 0 c.requires.0).shape.from, c.if-h-eq-FIRST_BLOCK_NUM.false)

pub loop-i-init : goal.loop-i-init
loop-i-init c = reading-begun c.args.self.now.bytes.now c.args.h c.args.output.now

pub slice_bounds-copy_in-end : goal.slice_bounds-copy_in-end
slice_bounds-copy_in-end c =
    omega (arith, (piece (goal.at.slice_bounds-copy_in-end c).After-get_block_size-size).in_memory)

pub copy_in-requires : goal.copy_in-requires
copy_in-requires c =
    let k = piece (goal.at.copy_in-requires c).After-get_block_size-size in omega (
      arith,
      k.in_output,
      length_part
          c.args.self.now.bytes.now c.loop-i.place c.get_block_size-size.result k.in_memory,
    )

pub get_u32-place-requires : goal.get_u32-place-requires
get_u32-place-requires c = omega (arith, with_link (goal.at.get_u32-place-requires c).After-get_block_size-size)

pub overflow_add-at : goal.overflow_add-at
overflow_add-at c =
    omega (
      arith,
      (piece (goal.at.overflow_add-at c).After-get_block_size-size).in_output,
      same
          (goal.at.overflow_add-at c).At-loop-i,
      c.well_formed,
    )

pub loop-i-preserved : goal.loop-i-preserved
loop-i-preserved c =
    reading-next (readable c.args.self.now.fitting c.requires c.if-h-eq-FIRST_BLOCK_NUM.false) c.loop-i.invariant (omega (
      arith,
      c.loop-i-test.true,
    )) c.get_block_size-size.ensures.0 c.copy_in.ensures c.get_u32-place.ensures

pub overflow_sub-to : goal.overflow_sub-to
overflow_sub-to c =
    omega (arith, c.get_block_size-size-2.ensures.0, (sound_facts c.args.h 0 c.requires.0).shape.within)

pub slice_bounds-copy_in-end-2 : goal.slice_bounds-copy_in-end-2
slice_bounds-copy_in-end-2 c =
    omega (arith, (tail (goal.at.slice_bounds-copy_in-end-2 c).After-get_block_size-size-2).in_memory)

pub copy_in-requires-2 : goal.copy_in-requires-2
copy_in-requires-2 c =
    let k = tail (goal.at.copy_in-requires-2 c).After-get_block_size-size-2 in omega (
      arith,
      k.in_output,
      length_part c.args.self.now.bytes.now c.loop-i.place (c.get_block_size-size-2.result - c.args.h.remaining) k.in_memory,
    )

pub returns : goal.returns
returns c =
    reading-end (readable c.args.self.now.fitting c.requires c.if-h-eq-FIRST_BLOCK_NUM.false) c.loop-i.invariant (omega (arith, c.loop-i-test.false)) (rw
    c.get_block_size-size-2.ensures.0) c.copy_in-2.ensures
