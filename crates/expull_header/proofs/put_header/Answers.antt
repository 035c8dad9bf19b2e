-- `expull_header::put_header` meets its contract. The fields' writes, one after the other, are the write of the
-- header's bytes. Assumes nothing.
use mathlib.Core.Path.{sym}
use Rattle.expull_header.proofs.Laws.{header_written}
use Rattle.expull_header.proofs.put_header.Goals as goal

pub returns : goal.returns
returns c =
    rw (c.put_u16-2.ensures, c.put_u16.ensures, c.put_u32-3.ensures, c.put_u32-2.ensures, c.put_u32.ensures) (sym
    (header_written c.args.at c.args.h c.args.mem.now))
