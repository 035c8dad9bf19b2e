-- RULES H2. Document 01, port step 2 and refusal 9: a copy between equal lengths; unequal lengths are refused, and
-- nothing is written then.
use Rattle.std.specs.Prelude.{ℕ, ◌≡◌, refl, cond, List, [], ◌∷◌, eqb, length, ⊤, Result, Ok, Err}
use Rattle.limits.specs.Refusals.{Said, answered, refused, done, one-outcome, number_of}
use Rattle.limits.specs.declared.Refusal.{Refusal}
use Rattle.limits.specs.declared.Refusal.TheVariants.{WrongLength}

-- RULES H2. What a copy answers, and what the destination holds afterwards.
pub record Out : Type 0 where
  pub answer : Result ⊤ Refusal
  pub dst : List ℕ

-- RULES H2. Both put together.
abbrev pub out : Result ⊤ Refusal → List ℕ → Out
out a d = record { answer = a; dst = d }

-- RULES H2. The destination becomes the source, or stays.
unfoldable pub copy_of : List ℕ → List ℕ → Out
copy_of src dst = cond (eqb (length src) (length dst)) (out (Ok tt) src) (out (Err WrongLength) dst)

-- RULES X7. The answer in document 01's terms.
abbrev pub said_copied : Result ⊤ Refusal → Said
said_copied (Ok u) = answered done []
said_copied (Err r) = refused (number_of r) []

-- RULES X7. A row a case: what the call says then.
pub said_cases : (said_copied (copy_of (1 ∷ 2 ∷ []) (3 ∷ 4 ∷ [])).answer ≡ answered done [])
    × (said_copied (copy_of (1 ∷ 2 ∷ []) (3 ∷ [])).answer ≡ refused 9 [])
unfolding copy_of
said_cases = (refl, refl)

-- RULES X8. The promise permits one outcome.
pub copy_settled : (src dst : List ℕ) {x y : Out} → x ≡ copy_of src dst → y ≡ copy_of src dst → x ≡ y
copy_settled src dst p q = one-outcome p q
