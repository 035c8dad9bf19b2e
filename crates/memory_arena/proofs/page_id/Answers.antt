-- The shift is the quotient. Assumes nothing.
use Rattle.memory_arena.proofs.Laws.{shift_size, shift_page}
use Rattle.memory_arena.proofs.page_id.Goals as goal

pub overflow_shr-result : goal.overflow_shr-result
overflow_shr-result c = (shift_size c.args.size c.requires).1

pub returns : goal.returns
returns c = shift_page c.args.size c.args.addr c.requires
