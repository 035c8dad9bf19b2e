-- The key's length was read from the record. Assumes nothing.
use Prim.Native.Nat.{ℕ, ◌+◌}
use mathlib.Core.Path.{ap}
use Rattle.records.specs.Record.{value_place}
use Rattle.records.proofs.value_place.Goals as goal

pub returns : goal.returns
unfolding value_place
returns c = ap (λ (n : ℕ). c.args.at + 2 + n) c.key_length.ensures.0
