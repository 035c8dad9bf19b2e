-- `flat_walk::copy_run` meets its contract. Assumes nothing.
use mathlib.Core.Path.{sym}
use Rattle.spans.specs.Span.{read_span}
use Rattle.flat_walk.proofs.Copy.{copying_none, copying_over, copying-room, copying-turn}
use Rattle.flat_walk.proofs.copy_run.Goals as goal

pub returns-in_default : goal.returns-in_default
returns-in_default c = copying_none c.loop-at.invariant (sym c.in_default.ensures.entry)

pub copy_entry-done-requires : goal.copy_entry-done-requires
unfolding read_span
copy_entry-done-requires c =
    copying-room c.loop-at.invariant c.in-Some.e c.loop-at-test.true (sym c.in-Some.ensures.entry)
    c.in-Some.ensures.inside

pub loop-at-preserved : goal.loop-at-preserved
unfolding read_span
loop-at-preserved c =
    rw c.copy_entry-done.ensures.place (copying-turn c.loop-at.invariant c.in-Some.e c.loop-at-test.true
    (sym c.in-Some.ensures.entry) c.in-Some.ensures.inside c.copy_entry-done.new.output c.copy_entry-done.auto.output
    c.copy_entry-done.ensures.output)

pub returns : goal.returns
returns c = copying_over c.loop-at.invariant c.loop-at-test.false
