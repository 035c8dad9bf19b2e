-- RULES H1. Document 01, port step 1: two byte strings are equal exactly when lengths and all bytes agree.
use Rattle.std.specs.Prelude.{ℕ, Bool, true, false, ◌&&◌, List, [], ◌∷◌, eqb}

-- RULES H1. The test of that; proofs/Laws.antt has that it is true of equal lists and of no others.
unfoldable pub equal_bytes : List ℕ → List ℕ → Bool
equal_bytes [] [] = true
equal_bytes [] (y ∷ ys) = false
equal_bytes (x ∷ xs) [] = false
equal_bytes (x ∷ xs) (y ∷ ys) = eqb x y && equal_bytes xs ys
