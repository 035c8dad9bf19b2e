-- From the place's block on, and where that came to. Assumes nothing.
use mathlib.Core.Path.{refl, ◌∙◌}
use Rattle.lane_places.specs.PieceOn.{out}
use Rattle.lane_places.proofs.PieceOn.{gone-stopped, gone_done}
use Rattle.lane_places.proofs.go_from.Goals as goal

pub returns-in_default : goal.returns-in_default
returns-in_default c =
    (λ i. out (c.stays.ensures.0 i) (c.stays.ensures.1 i) c.go_on.new.output) ∙ gone-stopped c.args.lists.now.arena
    c.args.lists.now.bytes.now c.args.h c.args.p c.args.n c.args.output.now c.block_at-place.ensures c.in_default.ensures refl

pub returns : goal.returns
returns c =
    (λ i. out (c.stays-2.ensures.0 i) (c.stays-2.ensures.1 i) c.go_on.new.output) ∙ gone_done c.args.lists.now.arena
    c.args.lists.now.bytes.now c.args.h c.args.p c.args.n c.args.output.now c.requires.some_bytes c.block_at-place.ensures
    c.in-Some.ensures refl c.block_holding-index.ensures
