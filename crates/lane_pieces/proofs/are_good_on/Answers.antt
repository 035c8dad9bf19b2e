-- The loop's invariant: the blocks before block i are good, so the rest decides.
-- Assumes nothing.
use Prim.Native.Nat.{◌+◌, ◌≤◌}
use mathlib.Core.Path.{refl, sym}
use native.Mathlib.Omega.{arith}
use lib.ListN.{length}
use Rattle.limits.specs.Limits.{link_size}
use Rattle.memory_arena.proofs.Laws.{sensible_facts}
use Rattle.lane_pieces.proofs.Loops.{testing_stop, testing-next, testing-end, testing-in}
use Rattle.lane_pieces.proofs.are_good_on.Goals as goal
use Rattle.lane_pieces.proofs.are_good_on.Goals.{Else-not-is_good_span}

-- a good block lies in the memory
in_memory : (c : Else-not-is_good_span) → c.loop-i.b + (c.get_block_size-size.result + link_size) ≤ length
    c.args.lists.now.bytes.now
in_memory c =
    testing-in c.loop-i.invariant c.get_block_size-size.result c.args.lists.now.fitting c.is_good_span.ensures
    (c.if-not-is_good_span.false)

pub loop-i-init : goal.loop-i-init
loop-i-init c = record { rest = refl }

pub is_good_span-requires : goal.is_good_span-requires
is_good_span-requires c = (sensible_facts _ _ c.args.lists.now.fitting).sized

pub returns-then-not-is_good_span : goal.returns-then-not-is_good_span
returns-then-not-is_good_span c =
    sym (testing_stop c.loop-i.invariant c.loop-i-test.true c.get_block_size-size.ensures.0 c.is_good_span.ensures
    (c.if-not-is_good_span.true))

pub overflow_cast-b : goal.overflow_cast-b
overflow_cast-b c = omega (arith, in_memory (goal.at.overflow_cast-b c).Else-not-is_good_span, c.well_formed.0)

pub overflow_add-b : goal.overflow_add-b
overflow_add-b c = omega (arith, in_memory (goal.at.overflow_add-b c).Else-not-is_good_span, c.well_formed.0)

pub get_u32-b-requires : goal.get_u32-b-requires
get_u32-b-requires c = omega (arith, in_memory (goal.at.get_u32-b-requires c).Else-not-is_good_span)

pub loop-i-preserved : goal.loop-i-preserved
loop-i-preserved c =
    testing-next c.loop-i.invariant c.loop-i-test.true c.get_block_size-size.ensures.0 c.is_good_span.ensures
    (c.if-not-is_good_span.false) c.get_u32-b.ensures

pub returns : goal.returns
returns c = sym (testing-end c.loop-i.invariant c.loop-i-test.false)
