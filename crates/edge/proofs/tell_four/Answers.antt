-- Four words in a row are one write. Assumes nothing.
use Prim.Native.Nat.{◌+◌}
use mathlib.Core.Path.{ap, ◌∙◌}
use mathlib.Core.List.{[], ◌∷◌}
use Rattle.spans.specs.Span.{overwrite}
use Rattle.edge.proofs.Laws.{told-four}
use Rattle.edge.proofs.tell_four.Goals as goal

pub returns : goal.returns
returns c =
    c.tell-4.ensures ∙ ap (overwrite (c.args.at + 3) (c.args.d ∷ [])) (c.tell-3.ensures ∙ ap (overwrite (c.args.at +
    2) (c.args.c ∷ [])) (c.tell-2.ensures ∙ ap (overwrite (c.args.at + 1) (c.args.b ∷ [])) c.tell.ensures)) ∙
    told-four c.args.at c.args.a c.args.b c.args.c c.args.d c.args.told.now
