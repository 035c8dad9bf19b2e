-- Three writes in a row are one. Assumes nothing.
use Prim.Native.Nat.{◌+◌}
use mathlib.Core.Path.{ap, ◌∙◌}
use lib.ListN.{length}
use Rattle.records.proofs.Laws.{record_written}
use Rattle.expull_header.specs.Header.{header_bytes}
use Rattle.spans.specs.Span.{overwrite}
use Rattle.records.proofs.put_record.Goals as goal

pub returns : goal.returns
returns c =
    c.put_header.ensures ∙ ap (overwrite (c.args.at + 2 + length c.args.name.now) (header_bytes c.args.h))
    (c.copy_in.ensures ∙ ap (overwrite (c.args.at + 2) c.args.name.now) c.put_u16.ensures) ∙ record_written
    c.args.at c.args.name.now c.args.h c.args.keys.now
