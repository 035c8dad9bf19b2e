-- The loops' own words: what has been met of a name, counted and written entry by entry.
use Rattle.std.specs.Prelude.{ℕ, ◌+◌, cond, List, [], ◌∷◌, eqb, length, Option, Some, None, Result, Ok, Err}
use Rattle.limits.specs.declared.Refusal.{Refusal}
use Rattle.limits.specs.declared.Refusal.TheVariants.{Damage}
use Rattle.spans.specs.Span.{overwrite}
use Rattle.fastcmp.specs.Equal.{equal_bytes}
use Rattle.entries.specs.Log.{Entry}
use Rattle.entries.specs.Form.{Met}

-- ---- counted

-- RULES AH12. What was met of a name: so many bytes together, or no entry
abbrev pub Tally : Type 0
Tally = Option ℕ

-- RULES AH12. The bytes
abbrev pub count : Tally → ℕ
count (Some n) = n
count None = 0

-- RULES AH12. With one entry more, of name `other` and n bytes
unfoldable pub tally_on : List ℕ → List ℕ → ℕ → Tally → Tally
unfolding equal_bytes
tally_on name other n t = cond (equal_bytes name other) (Some (count t + n)) t

-- RULES AH12. With all entries
unfoldable pub tally_in : List ℕ → List Entry → Tally → Tally
unfolding tally_on
tally_in name [] t = t
tally_in name (e ∷ es) t = tally_in name es (tally_on name e.name (length e.bytes) t)

-- RULES AH12. The entries must go to the run's end, also behind a match
abbrev pub walked : List ℕ → ℕ → Met → Tally → Result Tally Refusal
walked name len m t = cond (eqb m.end len) (Ok (tally_in name m.entries t)) (Err Damage)

-- ---- written

-- RULES AH12. The place and the output behind an entry of name `other`: its bytes are written where the name is the one
-- asked for
unfoldable pub place_on : List ℕ → List ℕ → ℕ → ℕ → ℕ
unfolding equal_bytes
place_on name other n at = cond (equal_bytes name other) (at + n) at

-- RULES AH12.
unfoldable pub output_on : List ℕ → List ℕ → List ℕ → ℕ → List ℕ → List ℕ
unfolding equal_bytes overwrite
output_on name other bytes at output = cond (equal_bytes name other) (overwrite at bytes output) output

-- RULES AH12. Behind all entries
unfoldable pub place_in : List ℕ → List Entry → ℕ → ℕ
unfolding place_on
place_in name [] at = at
place_in name (e ∷ es) at = place_in name es (place_on name e.name (length e.bytes) at)

-- RULES AH12.
unfoldable pub output_in : List ℕ → List Entry → ℕ → List ℕ → List ℕ
unfolding place_on output_on
output_in name [] at output = output
output_in name (e ∷ es) at output =
    output_in name es (place_on name e.name (length e.bytes) at) (output_on name e.name e.bytes at output)
