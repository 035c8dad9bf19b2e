-- Tests joined by `&&`, and two tests that say the same: the library's lemmas, under the names that the proofs above cite.
-- And what a choice is. Assumes nothing.
use mathlib.Core.Path.{◌≡◌, sym, ◌∙◌}
use mathlib.Core.Bool.{Bool, true, false, cond, false≢true}
pub use Rattle.std.specs.Cmp.{both_ways as same_test}
pub use Rattle.std.proofs.lemmas.Bool.{and_parts as both, and_from as both_true, and_left as left_false, and_right as right_false}

-- a test is true or false
pub not_both : {A : Type 0} (a : Bool) → a ≡ true → a ≡ false → A
not_both a p q = absurd (false≢true (sym q ∙ p))

-- what a choice is, once its test is known: of any level, where the library's has the lowest
pub cond-true {ℓ} : {A : Type ℓ} (t : Bool) (x y : A) → t ≡ true → cond t x y ≡ x
cond-true t x y e = rw e

pub cond-false {ℓ} : {A : Type ℓ} (t : Bool) (x y : A) → t ≡ false → cond t x y ≡ y
cond-false t x y e = rw e
