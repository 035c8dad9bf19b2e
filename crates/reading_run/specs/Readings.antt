-- RULES AB4, AB5. Document 02, Four: the bytes of readings, and what bytes come to as readings. Which vints are
-- accepted, and by which number others are refused, is the vint reader's alone: a rule on that changes nothing here.
use Rattle.std.specs.Prelude.{ℕ, zero, suc, List, [], ◌∷◌, ◌++◌, length, drop, ℤ, pos, Option, Some, None, Ok, Err}
use Rattle.limits.specs.declared.Refusal.{Refusal}
use Rattle.vint.specs.Vint.{Unvint, write_vint, take_vint, answer_of, read_vint}
use Rattle.signed.specs.Signed.{Signed32, difference, following, stored, unstored}

-- ---- written

-- RULES AB4. The bytes of a reading behind the last one: their difference, stored, "then a vint".
abbrev pub reading_bytes : ℤ → ℤ → List ℕ
reading_bytes last new = write_vint (stored (difference last new))

-- RULES AB4. The bytes of readings behind the last one: "each next as the difference from the one before it".
abbrev pub readings_bytes : ℤ → List ℤ → List ℕ
readings_bytes last [] = []
readings_bytes last (r ∷ rs) = reading_bytes last r ++ readings_bytes r rs

-- RULES AB1. Signed 32-bit numbers, all of them.
abbrev pub AllSigned : List ℤ → Type 0
AllSigned [] = Unit {0}
AllSigned (r ∷ rs) = Signed32 r × AllSigned rs

-- ---- read

-- RULES AB5. The numbers of the whole vints that bytes begin with, and how they end: none where they split into
-- whole vints, else why the reader refuses the next one.
pub record Split : Type 0 where
  pub numbers : List ℕ
  pub refusal : Option Refusal

-- RULES AB5. Both put together.
abbrev pub split : List ℕ → Option Refusal → Split
split ns r = record { numbers = ns; refusal = r }

-- RULES AB5. A number in front.
abbrev pub in_front : ℕ → Split → Split
in_front u s = split (u ∷ s.numbers) s.refusal

-- RULES AB5. What the reader says of bytes, and what follows from the bytes behind those it took.
abbrev pub on_vint : Unvint → List ℕ → (List ℕ → Split) → Split
on_vint (Ok r) bs rest = in_front r.number (rest (drop r.taken bs))
on_vint (Err r) bs rest = split [] (Some r)

-- RULES AB5. At most f vints, one after the other.
unfoldable pub split_up : ℕ → List ℕ → Split
unfolding take_vint answer_of
split_up zero bs = split [] None
split_up (suc f) [] = split [] None
split_up (suc f) (b ∷ bs) = on_vint (read_vint (b ∷ bs)) (b ∷ bs) (λ rest. split_up f rest)

-- RULES AB5. All of them: a vint has a byte at least.
abbrev pub vints_of : List ℕ → Split
vints_of bs = split_up (length bs) bs

-- RULES AB5. The readings that stored numbers make behind the last one.
abbrev pub readings_from : ℤ → List ℕ → List ℤ
readings_from last [] = []
readings_from last (u ∷ us) =
    following last (unstored u) ∷ readings_from (following last (unstored u)) us

-- RULES AB5. "The first reading is stored as the difference from 0."
abbrev pub readings_in : Split → List ℤ
readings_in s = readings_from (pos 0) s.numbers
