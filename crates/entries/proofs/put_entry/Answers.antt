-- `entries::put_entry` meets its contract. Assumes nothing.
use Prim.Native.Nat.{◌+◌}
use mathlib.Core.Path.{ap, ◌∙◌}
use lib.ListN.{length}
use Rattle.numbers.specs.LittleEndian.{le_bytes}
use Rattle.spans.specs.Span.{overwrite}
use Rattle.entries.proofs.Laws.{entry_written}
use Rattle.entries.proofs.put_entry.Goals as goal

-- the four writes
pub returns : goal.returns
returns c =
    let end = c.args.at + 2 + length c.args.name.now in c.copy_in-2.ensures ∙ ap (overwrite (end + 4)
    c.args.bytes.now) (c.put_u32.ensures ∙ ap (overwrite end (le_bytes 4 (length c.args.bytes.now)))
    (c.copy_in.ensures ∙ ap (overwrite (c.args.at + 2) c.args.name.now) c.put_u16.ensures)) ∙ entry_written
    c.args.run.now c.args.at c.args.name.now c.args.bytes.now
