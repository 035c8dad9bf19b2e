-- Four numbers in a row are one write. Assumes nothing.
use Prim.Native.Nat.{◌+◌}
use mathlib.Core.Path.{ap, ◌∙◌}
use native.Mathlib.Omega.{arith}
use Rattle.numbers.specs.LittleEndian.{le_bytes}
use Rattle.numbers.proofs.Laws.{length_le}
use Rattle.spans.specs.Span.{overwrite}
use Rattle.state_area.specs.Area.{four_bytes}
use Rattle.state_area.proofs.Laws.{four_runs}
use Rattle.state_area.proofs.put_four.Goals as goal

pub returns : goal.returns
unfolding four_bytes
returns c =
    c.put_number-4.ensures ∙ ap (overwrite (c.args.at + 12) (le_bytes 4 c.args.d)) (c.put_number-3.ensures ∙ ap
    (overwrite (c.args.at + 8) (le_bytes 4 c.args.c)) (c.put_number-2.ensures ∙ ap (overwrite (c.args.at + 4)
    (le_bytes 4 c.args.b)) c.put_number.ensures)) ∙ four_runs c.args.at (c.args.at + 4) (c.args.at + 8) (c.args.at +
    12) (le_bytes 4 c.args.a) (le_bytes 4 c.args.b) (le_bytes 4 c.args.c) (le_bytes 4 c.args.d) c.args.area.now
    (omega (arith, length_le 4 c.args.a)) (omega (arith, length_le 4 c.args.b)) (omega (
      arith,
      length_le 4
          c.args.c,
    ))
