-- RULES E. Spans of a memory, which is a list of numbers: what a read gives, what a write leaves, which spans share
-- no place.
use Rattle.std.specs.Prelude.{ℕ, zero, suc, ◌+◌, ◌≤◌, ◌⊎◌, List, [], ◌∷◌, take, drop}

-- RULES E1. The n elements from place p.
unfoldable pub read_span : ℕ → ℕ → List ℕ → List ℕ
read_span p n m = take n (drop p m)

-- RULES E2. The memory m with bs written from place p; what would pass its end is left out, so the length stays
-- whatever is written.
unfoldable pub overwrite : ℕ → List ℕ → List ℕ → List ℕ
overwrite zero [] m = m
overwrite zero (b ∷ bs) [] = []
overwrite zero (b ∷ bs) (x ∷ m) = b ∷ overwrite zero bs m
overwrite (suc p) bs [] = []
overwrite (suc p) bs (x ∷ m) = x ∷ overwrite p bs m

-- RULES E3. n from place p and k from place q share no place.
abbrev pub Apart : ℕ → ℕ → ℕ → ℕ → Type 0
Apart p n q k = (p + n ≤ q) ⊎ (q + k ≤ p)
