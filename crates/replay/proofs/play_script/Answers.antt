-- `replay::play_script` meets its contract: what is left of the script is played on what stands. Assumes nothing.
use Rattle.spans.specs.Span.{read_span}
use Rattle.replay.proofs.Laws.{playing_start, playing-on, playing-ends}
use Rattle.replay.proofs.play_script.Goals as goal

pub loop-e-init : goal.loop-e-init
loop-e-init c = playing_start _ _

pub loop-e-preserved : goal.loop-e-preserved
unfolding read_span
loop-e-preserved c =
    playing-on c.loop-e.invariant c.in-Some.e _ c.in-Some.ensures.entry c.in-Some.ensures.inside
    c.play_entry-state.ensures

pub returns : goal.returns
returns c = playing-ends c.loop-e.invariant c.in_default.ensures.entry
