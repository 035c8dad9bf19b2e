-- A call on the state that a lent area holds: what it answers, said, where the area was found sensible, and what is
-- said where it wasn't. Assumes nothing.
use Prim.Native.Nat.{ℕ}
use mathlib.Core.Path.{◌≡◌, ap, ◌∙◌}
use mathlib.Core.Bool.{true, false, cond}
use mathlib.Core.List.{List}
use Rattle.store_state.specs.declared.State.{State}
use Rattle.state_area.specs.Area.{sensible_area, state_at}

-- `asked` is the call on a state, o what it gave, x what is said of that, y what a senseless area would have been
pub answered : {O X : Type 0} (said : O → X) (asked : State → O) (area : List ℕ) (y x : X) (o : O) (st : State)
    → sensible_area area ≡ true → x ≡ said o → o ≡ asked st → st ≡ state_at area
    → x ≡ cond (sensible_area area) (said (asked (state_at area))) y
answered said asked area y x o st g p q e = p ∙ ap said (q ∙ ap asked e) ∙ rw g

-- the same with what else the call leaves
pub answered_with : {O R : Type 0} (said : O → ℕ × List ℕ) (rest : O → R) (asked : State → O) (area : List ℕ)
    (y : (ℕ × List ℕ) × R) (x : ℕ × List ℕ) (o : O) (st : State) → sensible_area area ≡ true → x ≡ said o → o ≡ asked st
    → st ≡ state_at area
    → (x, rest o) ≡ cond (sensible_area area) (said (asked (state_at area)), rest (asked (state_at area))) y
answered_with {O} said rest asked area y x o st g p q e =
    answered (λ (a : O). (said a, rest a)) asked area y (x, rest o) o st g (ap (λ (z : ℕ × List ℕ). (z, rest o)) p) q e

-- a senseless area, of which y would have been the answer
pub senseless : {X : Type 0} (area : List ℕ) (y x s : X) → sensible_area area ≡ false → x ≡ s
    → x ≡ cond (sensible_area area) y s
senseless area y x s g p = p ∙ rw g

pub senseless_with : {R : Type 0} (area : List ℕ) (y : (ℕ × List ℕ) × R) (x s : ℕ × List ℕ) (rest : R)
    → sensible_area area ≡ false → x ≡ s → (x, rest) ≡ cond (sensible_area area) y (s, rest)
senseless_with area y x s rest g p = senseless area y (x, rest) (s, rest) g (ap (λ (z : ℕ × List ℕ). (z, rest)) p)
