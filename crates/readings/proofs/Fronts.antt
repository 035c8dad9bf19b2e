-- A reading's append: the vint's bytes are those in front, and it is one append of them. Assumes nothing.
use Prim.Native.Nat.{ℕ, ◌-◌, ◌≤◌}
use mathlib.Core.Path.{◌≡◌, refl, sym, ap, ◌∙◌, subst}
use mathlib.Core.List.{List, [], ◌∷◌, ◌++◌}
use native.Mathlib.Omega.{arith}
use lib.ListN.{length, take, replicate, length-append}
use lib.IntN.{ℤ}
use Rattle.limits.specs.Limits.{vint_limit}
use Rattle.limits.specs.Refusals.{Said, answered, refused, appending, appending_reading, permitted}
use Rattle.vint.specs.declared.written.Vint.{Vint}
use Rattle.vint.specs.Vint.{write_vint, vint_of}
use Rattle.store_state.specs.declared.State.{State}
use Rattle.store_look.specs.Look.{Lent}
use Rattle.store_append.specs.Append.{append_of}
use Rattle.reading_run.specs.Readings.{reading_bytes}
use Rattle.readings.specs.Readings.{append_reading_of}

take-front : (xs ys : List ℕ) → take (length xs) (xs ++ ys) ≡ xs
take-front [] ys = refl
take-front (x ∷ xs) ys = ap (λ (l : List ℕ). x ∷ l) (take-front xs ys)

module _ (v : Vint) (u : ℕ) (e : v ≡ vint_of u) where
  abbrev zeros : List ℕ
  zeros = replicate (vint_limit - length (write_vint u)) 0

  pub vint_front : take v.count v.bytes ≡ write_vint u
  vint_front = ap (λ (x : Vint). take x.count x.bytes) e ∙ take-front (write_vint u) zeros

  pub vint_room : v.count ≤ length v.bytes
  vint_room =
      subst (λ (x : Vint). x.count ≤ length x.bytes) (sym e) (omega (arith, length-append (write_vint u) zeros))

-- a reading's append may give the numbers that an append may give
pub same_numbers : (s : Said) → permitted appending s ≡ permitted appending_reading s
same_numbers (answered w vs) = refl
same_numbers (refused n vs) = refl

pub reading_is : (st : State) (m : Lent) (name : List ℕ) (last new : ℤ)
    → append_reading_of st m name last new ≡ append_of st m name (reading_bytes last new)
unfolding append_reading_of
reading_is st m name last new = refl
