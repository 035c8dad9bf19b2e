-- `number_pieces::is_low` meets its contract. Assumes nothing.
use Rattle.std.specs.Prelude.{◌<◌, ◌↔◌, IsTrue, EachIndex, slice_index}
use borrow.Author.Rules.{rules}
use Rattle.number_pieces.proofs.Runs.{low_is}
use Rattle.number_pieces.proofs.is_low.Goals as goal

pub returns : goal.returns
returns c =
    let each : IsTrue c.all.result ↔ EachIndex c.args.bytes.now (λ k. slice_index c.args.bytes.now k < 128) =
    search rules in
    low_is c.all.result c.args.bytes.now each.0 each.1
