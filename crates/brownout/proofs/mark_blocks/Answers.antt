-- The whole marking is that of the blocks left. Assumes nothing.
use Prim.Native.Nat.{◌+◌, ◌≤◌}
use mathlib.Core.Bool.{Bool, true, false}
use mathlib.Core.Path.{◌≡◌, subst, ◌∙◌}
use native.Mathlib.Omega.{arith}
use lib.ListN.{length}
use Rattle.brownout.proofs.Turns.{marking-begun, marking_stop, marking-next, marking-end, marking-in}
use Rattle.limits.specs.Limits.{link_size}
use Rattle.marks.specs.Bits.{out as marks_out, mark_span}
use Rattle.brownout.proofs.mark_blocks.Goals as goal
use Rattle.brownout.proofs.mark_blocks.Goals.{After-get_block_size-size, After-mark_span-met}

in_pages : (c : After-get_block_size-size) → c.loop-k.place + (c.get_block_size-size.result + link_size) ≤ length
    c.args.lists.now.bytes.now
in_pages c =
    marking-in c.loop-k.invariant c.args.lists.now.arena c.args.lists.now.fitting c.requires.0 (omega (arith, c.loop-k-test.true))
    c.get_block_size-size.result c.get_block_size-size.ensures.0

-- what marking it said
spanned : (c : After-mark_span-met) → (b : Bool) → c.mark_span-met.result ≡ b → marks_out b
    c.mark_span-met.new.marks ≡ mark_span c.loop-k.marks (c.args.base + c.loop-k.place)
    (c.get_block_size-size.result + link_size)
spanned c b e =
    subst (λ (x : Bool). marks_out x c.mark_span-met.new.marks ≡ mark_span c.loop-k.marks (c.args.base + c.loop-k.place) (c.get_block_size-size.result + link_size)) e c.mark_span-met.ensures

pub loop-k-init : goal.loop-k-init
loop-k-init c = marking-begun c.args.marks.now c.args.base c.args.lists.now.bytes.now c.args.head c.args.count

pub overflow_cast-at : goal.overflow_cast-at
overflow_cast-at c =
    omega (arith, in_pages (goal.at.overflow_cast-at c).After-get_block_size-size, c.requires.1.1.1)

pub overflow_add-base : goal.overflow_add-base
overflow_add-base c =
    omega (arith, in_pages (goal.at.overflow_add-base c).After-get_block_size-size, c.requires.1.1.1)

pub overflow_add-size : goal.overflow_add-size
overflow_add-size c =
    omega (arith, in_pages (goal.at.overflow_add-size c).After-get_block_size-size, c.requires.1.1.1)

pub mark_span-met-requires : goal.mark_span-met-requires
mark_span-met-requires c = (
  omega (
    arith,
    in_pages (goal.at.mark_span-met-requires c).After-get_block_size-size,
    c.requires.1.1.0,
    c.loop-k.invariant.kept,
  ),
  omega (
    arith,
    in_pages (goal.at.mark_span-met-requires c).After-get_block_size-size,
    c.requires.1.1.1,
  ),
)

pub shape_of-marks-then-met : goal.shape_of-marks-then-met
shape_of-marks-then-met c = c.mark_span-met.auto.marks ∙ c.loop-k.invariant.kept

pub returns-then-met : goal.returns-then-met
returns-then-met c =
    marking_stop c.loop-k.invariant (omega (arith, c.loop-k-test.true)) c.get_block_size-size.result
    c.get_block_size-size.ensures.0 c.mark_span-met.new.marks (spanned (goal.at.returns-then-met
    c).After-mark_span-met true c.if-met.true)

pub overflow_add-at : goal.overflow_add-at
overflow_add-at c =
    omega (arith, in_pages (goal.at.overflow_add-at c).After-get_block_size-size, c.requires.1.1.1)

pub get_u32-place-requires : goal.get_u32-place-requires
get_u32-place-requires c = omega (arith, in_pages (goal.at.get_u32-place-requires c).After-get_block_size-size)

pub loop-k-preserved : goal.loop-k-preserved
loop-k-preserved c =
    marking-next c.loop-k.invariant (omega (arith, c.loop-k-test.true)) c.get_block_size-size.result
    c.get_block_size-size.ensures.0 c.mark_span-met.new.marks (spanned (goal.at.loop-k-preserved
    c).After-mark_span-met false c.if-met.false) c.mark_span-met.auto.marks c.get_u32-place.result
    c.get_u32-place.ensures

pub shape_of-marks : goal.shape_of-marks
shape_of-marks c = c.loop-k.invariant.kept

pub returns : goal.returns
returns c = marking-end c.loop-k.invariant (omega (arith, c.loop-k-test.false))
