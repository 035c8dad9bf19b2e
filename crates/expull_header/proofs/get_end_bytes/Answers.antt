-- `expull_header::get_end_bytes` meets its contract. The number of the last two bytes. Assumes nothing.
use Rattle.expull_header.specs.Header.{end_bytes_at}
use Rattle.expull_header.proofs.get_end_bytes.Goals as goal

pub returns : goal.returns
unfolding end_bytes_at
returns c = c.get_u16.ensures.0
