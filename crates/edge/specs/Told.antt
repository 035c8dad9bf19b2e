-- RULES B1, X5. What the calls at the edge write to the area of 64-bit words that is lent for their answer: first the
-- refusal's number, 0 where there is none, then what is told. Words come in fours, behind a state one more, unused ones
-- are 0, and what would pass the area's end is left out.
use Rattle.std.specs.Prelude.{ℕ, Bool, cond, List, [], ◌∷◌}
use Rattle.spans.specs.Span.{overwrite}
use Rattle.memory_arena.specs.Pages.{MaybeRoom}
use Rattle.store_state.specs.declared.State.{State}
use Rattle.store_create.specs.Create.{Created}
use Rattle.store_append.specs.declared.Appended.{Appended}
use Rattle.store_append.specs.declared.Appended.TheVariants.{Accepted, Declined}
use Rattle.store_look.specs.declared.Outcome.{Outcome}
use Rattle.store_look.specs.declared.Outcome.TheVariants.{Length, Reading, Block, NoSuchBlock}
use Rattle.store_look.specs.declared.Answer.{Answer}
use Rattle.store_look.specs.declared.Answer.TheVariants.{Absent, Found, Refused}
use Rattle.store_create.specs.Create.{Out as Creation}
use Rattle.store_look.specs.Look.{Lent, Read}
use Rattle.store_append.specs.Append.{Out as Appending}
use Rattle.std.specs.Prelude.{⊤, Some, None, Result, Ok, Err}
use Rattle.limits.specs.declared.Refusal.{Refusal}
use Rattle.limits.specs.Refusals.{number_of}

-- Two answers that have no number of document 01.
abbrev pub absent_word : ℕ
absent_word = 100

abbrev pub no_room_word : ℕ
no_room_word = 101

-- ---- the state as numbers

-- From the numbers that a caller hands over; the page size is one for both arenas.
abbrev pub state_of : ℕ → ℕ → ℕ → ℕ → ℕ → Bool → ℕ → ℕ → ℕ → ℕ → ℕ → ℕ → State
state_of seed words key_bytes list_bytes buckets back count keyPage keyUsed listPage listUsed size = record {
  seed = seed;
  words = words;
  key_bytes = key_bytes;
  list_bytes = list_bytes;
  buckets = buckets;
  back = back;
  keys = count;
  key_arena = record { page = keyPage; used = keyUsed; size = size };
  list_arena = record { page = listPage; used = listUsed; size = size };
}

-- A number and the state's fields, in the same order: thirteen words.
abbrev pub fields_of : ℕ → State → List ℕ
fields_of n st =
    n ∷ st.seed ∷ st.words ∷ st.key_bytes
    ∷ st.list_bytes ∷ st.buckets ∷ cond st.back 1 0 ∷ st.keys
    ∷ st.key_arena.page ∷ st.key_arena.used ∷ st.list_arena.page ∷ st.list_arena.used
    ∷ st.key_arena.size ∷ []

-- ---- the words of each answer

abbrev pub four : ℕ → ℕ → List ℕ
four a b = a ∷ b ∷ 0 ∷ 0 ∷ []

abbrev pub told_created : Created → List ℕ
told_created (Ok st) = fields_of 0 st
told_created (Err e) = four (number_of e) 0

abbrev pub told_appended : Appended → List ℕ
told_appended (Accepted st) = fields_of 0 st
told_appended (Declined st n) = fields_of n st

abbrev pub length_in : Outcome → ℕ
length_in (Length n) = n
length_in (Reading n) = n
length_in (Block at n) = n
length_in NoSuchBlock = 0

abbrev pub told_answer : Answer → List ℕ
told_answer Absent = four absent_word 0
told_answer (Found o) = four 0 (length_in o)
told_answer (Refused n told) = four n told

abbrev pub told_allocated : Result MaybeRoom Refusal → List ℕ
told_allocated (Ok (Some r)) = 0 ∷ r.at ∷ r.after.page ∷ r.after.used ∷ []
told_allocated (Ok None) = four no_room_word 0
told_allocated (Err e) = four (number_of e) 0

abbrev pub number_touched : Result ⊤ Refusal → ℕ
number_touched (Ok u) = 0
number_touched (Err e) = number_of e

-- ---- the store's calls: each lent area as the call leaves it, the told words last

abbrev pub create_told : Creation → List ℕ → List ℕ × List ℕ
create_told o told = (o.table, overwrite 0 (told_created o.answer) told)

abbrev pub append_told : Appending → List ℕ → Lent × List ℕ
append_told o told = (o.memory, overwrite 0 (told_appended o.answer) told)

abbrev pub read_told : Read → List ℕ → List ℕ × List ℕ
read_told o told = (o.output, overwrite 0 (told_answer o.answer) told)
