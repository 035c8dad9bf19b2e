-- The bytes that the library makes of the number. Assumes nothing.
use mathlib.Core.Path.{ap, ◌∙◌}
use mathlib.Core.List.{List}
use Prim.Native.Nat.{ℕ}
use Rattle.std.specs.Int.{w16}
use Rattle.numbers.proofs.Laws.{to_le, le_low}
use Rattle.spans.specs.Span.{overwrite}
use Rattle.spans.proofs.put_u16.Goals as goal

pub returns : goal.returns
returns c =
    c.put_bytes.ensures ∙ ap (λ (bs : List ℕ). overwrite c.args.at bs c.args.mem.now)
    (c.to_le_bytes.ensures ∙ to_le w16 _ ∙ le_low 2 c.args.x)
