-- `lending::list_bytes_for` meets its contract. Assumes nothing.
use Prim.Native.Nat.{max}
use mathlib.Core.Path.{ap, ◌∙◌}
use Rattle.lending.specs.Lending.{block_tail, with_tails}
use Rattle.lending.proofs.list_bytes_for.Goals as goal

pub returns : goal.returns
returns c =
    c.max.ensures ∙ ap (max 1) (c.with_tails.ensures ∙ ap (with_tails c.args.page block_tail)
    c.taken_at_most.ensures.0)
