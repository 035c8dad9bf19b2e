-- The copy, and the header moved on: an address in the memory doesn't wrap. Assumes nothing.
use Rattle.std.proofs.Common.{arith}
use Rattle.std.proofs.lemmas.Grind.{common_steps}
use Rattle.expull_append.specs.Append.{filled}
use Rattle.expull_append.proofs.put_chunk.Goals as goal

pub returns : goal.returns
unfolding filled
returns c = grind (arith, common_steps)
