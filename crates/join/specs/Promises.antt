-- RULES AI3. What a join promises beyond its own equation. One record; proofs/Promises.antt has its value. What it
-- comes to, join_history proves.
use Rattle.std.specs.Prelude.{ℕ, ◌≡◌, List}
use Rattle.history.specs.History.{World}
use Rattle.join.specs.Join.{Out, join_of}

-- RULES AI3.
pub record Promises : Type 0 where
  -- two outcomes that meet the contract are equal
  pub join_settled : (w v : World) (s : List ℕ) (x y : Out) → x ≡ join_of w v s → y ≡ join_of w v s → x ≡ y
