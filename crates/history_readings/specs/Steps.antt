-- RULES AB8. Document 02, Four, over a history: "Each reading is one append, and the caller hands in the lane's last
-- accepted reading (0 at first; a refused one doesn't count)."
use Rattle.std.specs.Prelude.{ℕ, ◌≡◌, cond, List, [], ◌∷◌, ◌++◌, map, ℤ}
use Rattle.fastcmp.specs.Equal.{equal_bytes}
use Rattle.signed.specs.Signed.{Signed32}
use Rattle.reading_run.specs.Readings.{reading_bytes}
use Rattle.history.specs.History.{World, Call, appends, after, Entry, logged}

-- RULES AB8. A step of a history: a reading appended to a name, with the last one as the caller hands it in; or any
-- call
pub data Step : Type 0 where
  reading : List ℕ → ℤ → ℤ → Step
  call : Call → Step

-- RULES AB8. Its call: a reading is one append
abbrev pub call_of : Step → Call
call_of (reading name last new) = appends name (reading_bytes last new)
call_of (call c) = c

-- RULES AB8. What was accepted for a lane: a reading, with the last one that was handed in; or other bytes
pub data Item : Type 0 where
  a_reading : ℤ → ℤ → Item
  other_bytes : List ℕ → Item

-- RULES AB8. Of an entry that a step brought
abbrev pub item_of : Step → Entry → Item
item_of (reading name last new) e = a_reading last new
item_of (call c) e = other_bytes e.bytes

-- RULES AB8. The entries of name j in a log of accepted appends (Y2)
unfoldable pub entries_of : List ℕ → List Entry → List Entry
unfolding equal_bytes
entries_of j [] = []
entries_of j (e ∷ log) = cond (equal_bytes j e.name) (e ∷ entries_of j log) (entries_of j log)

-- RULES AB8. What was accepted for name j, in order
unfoldable pub accepted_for : List ℕ → List Step → World → List Item
unfolding entries_of
accepted_for j [] w = []
accepted_for j (s ∷ steps) w =
    map (item_of s) (entries_of j (logged (call_of s) w)) ++ accepted_for j steps (after (call_of s) w)

-- RULES AB8. "If that is true each time and nothing else is appended there": each is a reading, and was handed the one
-- accepted before it
abbrev pub HandedOn : ℤ → List Item → Type 0
HandedOn last [] = Unit {0}
HandedOn last (a_reading l new ∷ items) = (l ≡ last) × (Signed32 new × HandedOn new items)
HandedOn last (other_bytes bs ∷ items) = ⊥

-- RULES AB8. "The accepted readings in order"
abbrev pub readings_among : List Item → List ℤ
readings_among [] = []
readings_among (a_reading l new ∷ items) = new ∷ readings_among items
readings_among (other_bytes bs ∷ items) = readings_among items
