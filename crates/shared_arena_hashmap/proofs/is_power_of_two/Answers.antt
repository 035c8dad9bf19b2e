-- `shared_arena_hashmap::is_power_of_two` meets its contract. The test is that of the definition. Assumes nothing.
use Prim.Native.Nat.{ℕ}
use mathlib.Core.Path.{ap}
use lib.Dec.{eqb}
use Rattle.shared_arena_hashmap.specs.Power.{power_of_two}
use Rattle.shared_arena_hashmap.proofs.is_power_of_two.Goals as goal

pub returns : goal.returns
unfolding power_of_two
returns c = ap (λ (r : ℕ). eqb r c.args.n) c.compute_previous_power_of_two.ensures
