-- The call below, whose two readings are these. Assumes nothing.
use Prim.Native.Nat.{ℕ}
use lib.IntN.{ℤ}
use mathlib.Core.Path.{◌≡◌, ◌∙◌}
use mathlib.Core.List.{List}
use mir.Facts.{to_z-of_z}
use Rattle.store_look.specs.Look.{Lent}
use Rattle.c_above.specs.Above.{drift_in}
use Rattle.c_exports.proofs.above.nuvrisel_drift.Goals as goal

-- equal readings are one call
same_readings : (area : List ℕ) (m : Lent) (name : List ℕ) (l l' r r' : ℤ) (x : (ℕ × List ℕ) × Lent) → l ≡ l' → r ≡ r'
    → x ≡ drift_in area m name l r → x ≡ drift_in area m name l' r'
same_readings area m name l l' r r' x p q e = e ∙ (λ i. drift_in area m name (p i) (q i))

pub returns : goal.returns
returns c =
    record {
      settled = same_readings _ _ _ _ _ _ _ _ (to_z-of_z c.ranges.last) (to_z-of_z c.ranges.reading)
          c.drift.ensures.settled;
    }
