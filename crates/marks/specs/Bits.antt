-- RULES AF15. A mark area: one bit for each place, eight a byte, the low bit first.
use Rattle.std.specs.Prelude.{ℕ, zero, suc, ◌+◌, ◌-◌, ◌/◌, ◌%◌, ◌^◌, ◌≤◌, ◌<◌, ◌≡◌, Bool, true, false, cond, List, eqb, get_or, set, Option, Some, None}

-- RULES AF15. Bit r of a number, from 0.
unfoldable pub bit_of : ℕ → ℕ → Bool
bit_of zero x = eqb (x % 2) 1
bit_of (suc r) x = bit_of r (x / 2)

-- RULES AF15. Whether place k is marked.
unfoldable pub marked : List ℕ → ℕ → Bool
unfolding bit_of
marked m k = bit_of (k % 8) (get_or m (k / 8) 0)

-- RULES AF15. Place k marked, which wasn't.
unfoldable pub with_mark : List ℕ → ℕ → List ℕ
with_mark m k = set m (k / 8) (get_or m (k / 8) 0 + 2 ^ (k % 8))

-- RULES AF15. Whether a place was marked already, and the mark area afterwards.
pub record Out : Type 0 where
  pub met : Bool
  pub marks : List ℕ

-- RULES AF15. Both put together.
abbrev pub out : Bool → List ℕ → Out
out b m = record { met = b; marks = m }

-- RULES AF15. Place k tried: told where it was marked, else marked.
unfoldable pub mark_one : List ℕ → ℕ → Out
unfolding marked with_mark
mark_one m k = cond (marked m k) (out true m) (out false (with_mark m k))

-- RULES AF15. N places from k on marked, up to the first that was marked already.
unfoldable pub mark_span : List ℕ → ℕ → ℕ → Out
unfolding marked with_mark
mark_span m k zero = out false m
mark_span m k (suc n) = cond (marked m k) (out true m) (mark_span (with_mark m k) (k + 1) n)

-- what a stride from place k, of n that are to be marked, did: it met a marked place, or there are so many fewer to mark
abbrev pub Strode : List ℕ → ℕ → ℕ → Option ℕ → List ℕ → Type 0
Strode m k n None m' = out true m' ≡ mark_span m k n
Strode m k n (Some done) m' = (mark_span m k n ≡ mark_span m' (k + done) (n - done)) × (0 < done) × (done ≤ n)
