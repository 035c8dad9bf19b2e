-- RULES AK5 to AK8. What C's calling form says (document 02, Twelve): in numbers what was answered, a code and three
-- words in a lent area where something is told; and the new state, saved to its area.
use Rattle.std.specs.Prelude.{ℕ, ◌/◌, ◌%◌, ◌^◌, cond, List, [], ◌∷◌, leb, length}
use Rattle.spans.specs.Span.{overwrite}
use Rattle.store_create.specs.Create.{Created}
use Rattle.store_append.specs.declared.Appended.{Appended}
use Rattle.store_append.specs.declared.Appended.TheVariants.{Accepted, Declined}
use Rattle.store_look.specs.declared.Lookup.{Lookup}
use Rattle.store_look.specs.declared.Lookup.TheVariants.{At, Missing, Failed}
use Rattle.store_look.specs.declared.Outcome.{Outcome}
use Rattle.store_look.specs.declared.Outcome.TheVariants.{Length, Reading, Block, NoSuchBlock}
use Rattle.store_look.specs.declared.Answer.{Answer}
use Rattle.store_look.specs.declared.Answer.TheVariants.{Absent, Found, Refused}
use Rattle.store_look.specs.declared.Listed.{Listed}
use Rattle.store_look.specs.declared.Listed.TheVariants.{Bucket, NoMore, Stopped}
use Rattle.store_create.specs.Create.{Out as Creation}
use Rattle.store_look.specs.Look.{Lent}
use Rattle.store_append.specs.Append.{Out as Appending}
use Rattle.state_area.specs.Area.{area_of}
use Rattle.std.specs.Prelude.{Ok, Err}
use Rattle.limits.specs.Refusals.{number_of}

-- ---- what is said in numbers

-- RULES AK5. A refusal's code is its number, 0 is none. The other answers without a value have codes that no paper
-- gives to a refusal.
abbrev pub absent_code : ℕ
absent_code = 100

-- RULES AK5. No occupied bucket from there on.
abbrev pub no_more_code : ℕ
no_more_code = 101

-- RULES AK5. The brownout check's faults.
abbrev pub fault_code : ℕ
fault_code = 102

-- RULES AK5.
abbrev pub count_code : ℕ
count_code = 103

-- RULES AK6. What is told: a number of 64 bits, low word first, and a word beside it. An area of fewer than three words
-- is left as it was.
abbrev pub tell : ℕ → ℕ → List ℕ → List ℕ
tell n beside told = cond (leb 3 (length told)) (overwrite 0 (n % 2 ^ 32 ∷ n / 2 ^ 32 ∷ beside ∷ []) told) told

-- RULES AK6. A code, and the area of three words as the call leaves it.
abbrev pub says : ℕ → ℕ → ℕ → List ℕ → ℕ × List ℕ
says code n beside told = (code, tell n beside told)

-- RULES AK6. The number in a standing lane's outcome.
abbrev pub number_in : Outcome → ℕ
number_in (Length n) = n
number_in (Reading n) = n
number_in (Block at n) = n
number_in NoSuchBlock = 0

-- RULES AK6.
abbrev pub answer_told : Answer → List ℕ → ℕ × List ℕ
answer_told Absent told = says absent_code 0 0 told
answer_told (Found o) told = says 0 (number_in o) 0 told
answer_told (Refused n t) told = says n t 0 told

-- RULES AK6.
abbrev pub lookup_told : Lookup → List ℕ → ℕ × List ℕ
lookup_told (At at) told = says 0 at 0 told
lookup_told Missing told = says absent_code 0 0 told
lookup_told (Failed n) told = says n 0 0 told

-- RULES AK6. The bucket, and its record's place beside it.
abbrev pub listed_told : Listed → List ℕ → ℕ × List ℕ
listed_told (Bucket i at) told = says 0 i at told
listed_told NoMore told = says no_more_code 0 0 told
listed_told (Stopped n) told = says n 0 0 told

-- ---- the new state saved

-- RULES AK7. The area after a creation, and the code.
abbrev pub saved_created : Created → List ℕ → ℕ × List ℕ
saved_created (Ok st) area = (0, overwrite 0 (area_of st) area)
saved_created (Err e) area = (number_of e, area)

-- RULES AK7. The code, the state area, the table.
abbrev pub created : Creation → List ℕ → (ℕ × List ℕ) × List ℕ
created o area = (saved_created o.answer area, o.table)

-- RULES AK8. The area after an append: the new state where it was accepted, else as it was.
abbrev pub saved_appended : Appended → List ℕ → ℕ × List ℕ
saved_appended (Accepted st) area = (0, overwrite 0 (area_of st) area)
saved_appended (Declined st n) area = (n, area)

-- RULES AK8. The code, the state area, the lent memory.
abbrev pub appended : Appending → List ℕ → (ℕ × List ℕ) × Lent
appended o area = (saved_appended o.answer area, o.memory)
