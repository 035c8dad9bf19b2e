-- `flat_walk::walk_run` meets its contract. Assumes nothing.
use mathlib.Core.Path.{sym}
use native.Mathlib.Omega.{arith}
use Rattle.spans.specs.Span.{read_span}
use Rattle.flat_walk.proofs.Turns.{going_start, going-turn, going-broken, going_over}
use Rattle.flat_walk.proofs.walk_run.Goals as goal

pub loop-at-init : goal.loop-at-init
loop-at-init c = going_start _ _

pub returns-in_default : goal.returns-in_default
returns-in_default c = going-broken c.loop-at.invariant c.loop-at-test.true (sym c.in_default.ensures.entry)

pub tally_entry-met-requires : goal.tally_entry-met-requires
tally_entry-met-requires c = let I = c.in-Some.ensures.inside in omega arith

pub loop-at-preserved : goal.loop-at-preserved
unfolding read_span
loop-at-preserved c =
    rw c.tally_entry-met.ensures (going-turn c.loop-at.invariant c.in-Some.e c.loop-at-test.true
    (sym c.in-Some.ensures.entry) c.in-Some.ensures.inside)

pub returns : goal.returns
returns c = going_over c.loop-at.invariant c.loop-at-test.false
