-- `report_read::check::note` meets its contract. Assumes nothing.
use Rattle.report_read.proofs.Noting.{note_elsewhere, note_here}
use Rattle.report_read.proofs.check.note.Goals as goal

pub returns-in-Lane : goal.returns-in-Lane
returns-in-Lane c =
    note_here c.args.notes.now c.args.p c.args.line.now _ _ c.in-Lane.is c.murmurhash2-hash.ensures c.mark.ensures

pub returns-in_default : goal.returns-in_default
returns-in_default c = note_elsewhere c.args.notes.now c.args.p c.args.line.now c.in_default.not-Lane
