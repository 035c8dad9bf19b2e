-- Appends one behind the other in a run of bytes: document 02, Eleven, "for each accepted append, name length (2 bytes,
-- little-endian), name, byte length (4), bytes, in order of arrival". A script has the same form.
use Rattle.std.specs.Prelude.{ℕ, zero, suc, ◌+◌, ◌-◌, ◌^◌, ◌≤◌, ◌<◌, cond, List, [], ◌∷◌, ◌++◌, ltb, length, Option, Some, None}
use Rattle.std.proofs.Common.{lit<}
use Rattle.limits.specs.Limits.{name_limit}
use Rattle.numbers.specs.LittleEndian.{le_number, le_bytes}
use Rattle.spans.specs.Span.{read_span}
use Rattle.entries.specs.declared.Entry.{Entry as Places}
use Rattle.entries.specs.Log.{Entry, entry}

-- ---- written

-- RULES Y11, AH1.
unfoldable pub encoded : Entry → List ℕ
unfolding le_bytes
encoded e = le_bytes 2 (length e.name) ++ (e.name ++ (le_bytes 4 (length e.bytes) ++ e.bytes))

-- RULES AH1. How many bytes that is
abbrev pub entry_size : List ℕ → List ℕ → ℕ
entry_size name bytes = length name + length bytes + 6

-- RULES AH1. One behind the other
unfoldable pub encoded_all : List Entry → List ℕ
unfolding encoded
encoded_all [] = []
encoded_all (e ∷ es) = encoded e ++ encoded_all es

-- RULES AH2. The most that four length bytes tell; two tell the longest name, as a record's do
abbrev pub byte_limit : ℕ
byte_limit = 4294967295

-- RULES AH2.
pub byte_length : byte_limit < 256 ^ 4
byte_length = lit< tt

-- RULES AH2. What two length bytes and four can tell
pub record Fits (e : Entry) : Type 0 where
  pub short : length e.name ≤ name_limit
  pub counted : length e.bytes ≤ byte_limit

-- RULES AH2.
abbrev pub AllFit : List Entry → Type 0
AllFit [] = Unit {0}
AllFit (e ∷ es) = Fits e × AllFit es

-- ---- gone through from the front

-- RULES Y11, AH3. What may be met at a place: an entry's places, or no whole entry is there
abbrev pub Next : Type 0
Next = Option Places

-- RULES Y11, AH3. An entry: where its name ends, where its bytes start, and where they end
abbrev pub whole : ℕ → ℕ → ℕ → Next
whole nameEnd from to = Some (record { name_end = nameEnd; from = from; to = to })

-- RULES Y11, AH3. The entry at a place
unfoldable pub entry_at : List ℕ → ℕ → Next
unfolding le_number read_span
entry_at run at =
    let n : ℕ = le_number (read_span at 2 run) in
    let m : ℕ = le_number (read_span (at + 2 + n) 4 run) in
    cond (ltb (length run - at) 6) None
    (cond (ltb (length run - at - 6) n) None
    (cond (ltb (length run - at - 6 - n) m) None (whole (at + 2 + n) (at + 2 + n + 4) (at + 2 + n + 4 + m))))

-- RULES Y11, AH3. An entry's places lie in a run of so many bytes
abbrev pub Inside : ℕ → ℕ → Next → Type 0
Inside len at (Some e) = (at + 2 ≤ e.name_end) × ((e.name_end ≤ e.from) × ((e.from ≤ e.to) × (e.to ≤ len)))
Inside len at None = Unit {0}

-- RULES Y11, AH3. Whole entries as far as they follow one another, and the place behind the last
pub record Met : Type 0 where
  pub entries : List Entry
  pub end : ℕ

-- RULES Y11, AH3.
abbrev pub met : List Entry → ℕ → Met
met es end = record { entries = es; end = end }

-- RULES Y11, AH3. With one entry more in front
abbrev pub in_front : Entry → Met → Met
in_front e m = met (e ∷ m.entries) m.end

-- RULES Y11, AH3.
abbrev pub on_next : Next → List ℕ → ℕ → (ℕ → Met) → Met
on_next (Some e) run at rest =
    in_front (entry (read_span (at + 2) (e.name_end - (at + 2)) run) (read_span e.from (e.to - e.from) run)) (rest e.to)
on_next None run at rest = met [] at

-- RULES Y11, AH3. At most n entries from a place on
unfoldable pub entries_from : ℕ → List ℕ → ℕ → Met
unfolding entry_at
entries_from zero run at = met [] at
entries_from (suc n) run at = on_next (entry_at run at) run at (entries_from n run)

-- RULES Y11, AH3. All of a run: an entry has at least 6 bytes, so there are no more entries than bytes
abbrev pub entries_of : List ℕ → Met
entries_of run = entries_from (length run) run 0
