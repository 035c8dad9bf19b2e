-- `expull_walk::Lists::walk` meets its contract. The loop's invariant: the place is block i's, and the blocks before it are
-- good. Assumes nothing.
use Prim.Native.Nat.{◌+◌, ◌≤◌}
use mathlib.Core.Bool.{Bool, true, false}
use mathlib.Core.Path.{◌≡◌, refl, sym}
use native.Mathlib.Omega.{arith}
use lib.ListN.{length}
use Rattle.expull_walk.proofs.Laws.{good_block}
use Rattle.expull_walk.proofs.Loops.{walking-test, walking-in, walking-next, walking_stop, walking-end}
use Rattle.memory_arena.proofs.Laws.{sensible_facts}
use Rattle.expull_walk.specs.Blocks.{block_place, good_blocks}
use Rattle.limits.specs.Limits.{link_size}
use Rattle.expull_walk.proofs.Lists.walk.Goals as goal
use Rattle.expull_walk.proofs.Lists.walk.Goals.{After-is_good_span, Else-not-is_good_span}

-- what the test says of the turn's block; a good one lies in the memory
tested : (c : After-is_good_span) → (t : Bool) → c.is_good_span.result ≡ t → good_block c.args.self.now.arena
    c.args.self.now.bytes.now c.args.head c.loop-i.i ≡ t
tested c t e = walking-test c.loop-i.invariant c.get_block_size-size.ensures.0 c.is_good_span.ensures e

in_memory : (c : Else-not-is_good_span) → c.loop-i.place + (c.get_block_size-size.result + link_size) ≤ length
    c.args.self.now.bytes.now
in_memory c =
    walking-in c.loop-i.invariant c.args.self.now.fitting c.get_block_size-size.ensures.0 (walking-test c.loop-i.invariant
    c.get_block_size-size.ensures.0 c.is_good_span.ensures (c.if-not-is_good_span.false))

pub loop-i-init : goal.loop-i-init
unfolding block_place good_blocks
loop-i-init c = record { at_most = omega arith; here = refl; good = refl }

pub is_good_span-requires : goal.is_good_span-requires
is_good_span-requires c = (sensible_facts _ _ c.args.self.now.fitting).sized

pub returns-then-not-is_good_span : goal.returns-then-not-is_good_span
returns-then-not-is_good_span c =
    sym (walking_stop c.loop-i.invariant c.loop-i-test.true (tested (goal.at.returns-then-not-is_good_span
    c).After-is_good_span false (c.if-not-is_good_span.true)))

pub get_u32-place-requires : goal.get_u32-place-requires
get_u32-place-requires c = omega (arith, in_memory (goal.at.get_u32-place-requires c).Else-not-is_good_span)

pub loop-i-preserved : goal.loop-i-preserved
loop-i-preserved c =
    walking-next c.loop-i.invariant c.loop-i-test.true c.get_block_size-size.ensures.0 (tested
    (goal.at.loop-i-preserved c).After-is_good_span true (c.if-not-is_good_span.false)) c.get_u32-place.ensures

pub returns : goal.returns
returns c = walking-end c.loop-i.invariant c.loop-i-test.false
