-- The four low bytes are those of the number modulo 2^32. Assumes nothing.
use mathlib.Core.Path.{ap, ◌∙◌}
use mathlib.Core.List.{List}
use Prim.Native.Nat.{ℕ}
use Rattle.spans.specs.Span.{overwrite}
use Rattle.state_area.proofs.Laws.{low_four}
use Rattle.state_area.proofs.put_number.Goals as goal

pub returns : goal.returns
returns c = c.put_u32.ensures ∙ ap (λ (bs : List ℕ). overwrite c.args.at bs c.args.area.now) (low_four c.args.x)
