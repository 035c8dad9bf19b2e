-- RULES AC2 to AC4. Document 02, Six: numbers out of the pieces of a lane, "in which a vint cut between pieces waits in
-- up to four held bytes". Byte by byte, so that it can't matter where the bytes are cut; each vint that is whole is the
-- vint reader's (RULES K4).
use Rattle.std.specs.Prelude.{ℕ, suc, Bool, true, false, cond, ◌&&◌, List, [], ◌∷◌, ◌++◌, ltb, length, Ok, Err}
use Rattle.limits.specs.Limits.{held_limit}
use Rattle.limits.specs.declared.Refusal.{Refusal}
use Rattle.limits.specs.declared.Refusal.TheVariants.{NoEnd}
use Rattle.vint.specs.Vint.{Unvint, take_vint, answer_of, read_vint}

-- RULES AC2. What a byte does behind held ones: it is held too, or it gives a number, or it shows a fault.
pub data Step : Type 0 where
  holds : List ℕ → Step
  gives : ℕ → Step
  faults : Refusal → Step

-- RULES AC2. What the vint reader says of a whole vint.
abbrev pub on_vint : Unvint → Step
on_vint (Ok r) = gives r.number
on_vint (Err r) = faults r

-- RULES AC2. Without the top bit it is held, unless it is the fifth; else the reader is asked about all five or fewer.
unfoldable pub step_of : List ℕ → ℕ → Step
unfolding take_vint answer_of
step_of held b =
    cond (ltb b 128 && ltb (length held) held_limit)
    (holds (held ++ (b ∷ [])))
    (on_vint (read_vint (held ++ (b ∷ []))))

-- RULES AC3. How bytes end: some are held; or a refusal and its place.
pub data End : Type 0 where
  waits : List ℕ → End
  stops : Refusal → ℕ → End

-- RULES AC3. What bytes come to: the numbers, and how they end.
pub record Ran : Type 0 where
  pub numbers : List ℕ
  pub end : End

-- RULES AC3. The same.
abbrev pub ran : List ℕ → End → Ran
ran ns e = record { numbers = ns; end = e }

-- RULES AC3. A number in front.
abbrev pub in_front : ℕ → Ran → Ran
in_front n r = ran (n ∷ r.numbers) r.end

-- RULES AC3. What the byte at place i does, in front of the rest.
abbrev pub on_step : Step → ℕ → (List ℕ → Ran) → Ran
on_step (holds held) i rest = rest held
on_step (gives n) i rest = in_front n (rest [])
on_step (faults k) i rest = ran [] (stops k i)

-- RULES AC3. All bytes, the first of them at place i, behind held ones.
unfoldable pub run_of : List ℕ → ℕ → List ℕ → Ran
unfolding step_of
run_of held i [] = ran [] (waits held)
run_of held i (b ∷ bs) = on_step (step_of held b) i (λ h. run_of h (suc i) bs)

-- RULES AC4. "Fewer only when the caller says that the lane is at its end": bytes held at place i, behind the last
-- byte, are then 11 there.
abbrev pub at_end : Bool → ℕ → End → End
at_end false i e = e
at_end true i (waits []) = waits []
at_end true i (waits (b ∷ held)) = stops NoEnd i
at_end true i (stops n j) = stops n j
