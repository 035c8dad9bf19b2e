-- `expull_header::get_header` meets its contract. Each field is the number of its own bytes. Assumes nothing.
use Rattle.expull_header.specs.Header.{header_at}
use Rattle.expull_header.proofs.get_header.Goals as goal

pub returns : goal.returns
unfolding header_at
returns c = (
  λ i. record {
    number = c.get_u32-number.ensures i;
    head = c.get_u32-head.ensures i;
    tail =
        c.get_u32-tail.ensures i;
    remaining = c.get_u16-remaining.ensures.0 i;
  },
  c.get_u16-remaining.ensures.1,
)
