-- Document 01, "Refusal numbers", and 02's: what an answer says in those papers' terms, and which numbers each call may
-- give. Each enum that a call answers with has a definition that gives its `Said` case by case, and the call's contract
-- uses it.
use Rattle.std.specs.Prelude.{ℕ, ◌≡◌, Bool, true, false, ◌||◌, List, [], ◌∷◌, eqb}
use Rattle.std.proofs.Common.{sym, ◌∙◌}
use Rattle.limits.specs.declared.Refusal.{Refusal}
use Rattle.limits.specs.declared.Refusal.TheVariants.{NotCreatable, NotWhole, NameTooLong, Damage, TableFull, KeysFull}
use Rattle.limits.specs.declared.Refusal.TheVariants.{ListsFull, OutputTooShort, WrongLength, OutOfArena, NoEnd}
use Rattle.limits.specs.declared.Refusal.TheVariants.{AnotherForm, NoName, BufferFull, NoReport}

-- RULES X7. The paper's word for an answer that is no refusal: two answers that differ in kind have different words
pub data Word : Type 0 where
  -- a copy, a bare read or a bare write
  done : Word
  -- an allocation's address and the arena's state after it; no page has room
  an_address : Word
  no_room : Word
  -- a number read from a vint, and the bytes taken
  a_number : Word
  -- a creation, an append
  created : Word
  accepted : Word
  -- a record's place; the plain word absent
  a_place : Word
  absent : Word
  -- the list's outcome for a standing lane
  a_length : Word
  a_reading : Word
  a_block : Word
  no_such_block : Word
  -- a listing's bucket and record; none
  a_bucket : Word
  no_bucket : Word
  -- how many keys
  a_count : Word
  -- a report's bytes; the lanes of a report's text and their bytes; one of them; none of that index
  a_report : Word
  some_lanes : Word
  a_lane : Word
  no_such_lane : Word
  -- the bytes that hex stands for; no hex
  some_bytes : Word
  no_hex : Word
  -- a lane's readings, how many; a part of a lane's bytes, how many; the numbers of a piece, how many
  some_readings : Word
  a_piece : Word
  some_numbers : Word
  -- a memory that is sound; a bucket and its fault; a key count that differs
  sound : Word
  a_fault : Word
  wrong_count : Word
  -- a lane that stands in the flat store
  standing : Word
  -- how many lanes of a second store went across
  lanes_joined : Word

-- RULES X7. An answer: its word and the values it tells; or a refusal: its number, and the value told beside it where
-- the paper tells one
pub data Said : Type 0 where
  answered : Word → List ℕ → Said
  refused : ℕ → List ℕ → Said

-- RULES X7. The number of what is said, 0 where it is no refusal.
abbrev pub number_in : Said → ℕ
number_in (answered w vs) = 0
number_in (refused n vs) = n

-- RULES X1. The paper's number of a refusal.
abbrev pub number_of : Refusal → ℕ
number_of NotCreatable = 1
number_of NotWhole = 2
number_of NameTooLong = 3
number_of Damage = 4
number_of TableFull = 5
number_of KeysFull = 6
number_of ListsFull = 7
number_of OutputTooShort = 8
number_of WrongLength = 9
number_of OutOfArena = 10
number_of NoEnd = 11
number_of AnotherForm = 12
number_of NoName = 13
number_of BufferFull = 14
number_of NoReport = 15

-- ---- which numbers a call may give

-- RULES X3. What is asked: each call that can refuse.
pub data Asked : Type 0 where
  copying : Asked
  allocating : Asked
  touching : Asked
  unvinting : Asked
  creating : Asked
  appending : Asked
  looking_up : Asked
  measuring : Asked
  reading_lane : Asked
  finding_block : Asked
  listing_buckets : Asked
  counting_keys : Asked
  reporting : Asked
  unreporting : Asked
  unhexing : Asked
  appending_reading : Asked
  reading_readings : Asked
  reading_piece : Asked
  feeding_piece : Asked
  checking : Asked
  flat_appending : Asked
  flat_looking_up : Asked
  flat_measuring : Asked
  flat_reading : Asked
  joining : Asked

-- RULES X3. The numbers of each call, in the order in which they are given. (10 stands before 9 for a page size that
-- isn't taken, and is given after 9 for all else.)
abbrev pub refusal_numbers : Asked → List ℕ
refusal_numbers copying = 9 ∷ []
refusal_numbers allocating = 10 ∷ 9 ∷ []
refusal_numbers touching = 10 ∷ []
refusal_numbers unvinting = 11 ∷ 12 ∷ []
refusal_numbers creating = 1 ∷ []
refusal_numbers appending = 2 ∷ 3 ∷ 13 ∷ 4 ∷ 5 ∷ 6 ∷ 7 ∷ []
refusal_numbers looking_up = 2 ∷ 3 ∷ 4 ∷ []
refusal_numbers measuring = 2 ∷ 3 ∷ 4 ∷ []
refusal_numbers reading_lane = 2 ∷ 3 ∷ 4 ∷ 8 ∷ []
refusal_numbers finding_block = 2 ∷ 3 ∷ 4 ∷ []
refusal_numbers listing_buckets = 2 ∷ 4 ∷ []
refusal_numbers counting_keys = 2 ∷ []
refusal_numbers reporting = 2 ∷ 4 ∷ 8 ∷ []
refusal_numbers unreporting = 15 ∷ []
refusal_numbers unhexing = 8 ∷ []
refusal_numbers appending_reading = 2 ∷ 3 ∷ 13 ∷ 4 ∷ 5 ∷ 6 ∷ 7 ∷ []
refusal_numbers reading_readings = 2 ∷ 3 ∷ 4 ∷ 8 ∷ 11 ∷ 12 ∷ []
refusal_numbers reading_piece = 2 ∷ 3 ∷ 4 ∷ 8 ∷ []
refusal_numbers feeding_piece = 2 ∷ 8 ∷ 11 ∷ 12 ∷ []
refusal_numbers checking = 2 ∷ 8 ∷ []
refusal_numbers flat_appending = 2 ∷ 3 ∷ 13 ∷ 14 ∷ []
refusal_numbers flat_looking_up = 2 ∷ 3 ∷ 4 ∷ []
refusal_numbers flat_measuring = 2 ∷ 3 ∷ 4 ∷ []
refusal_numbers flat_reading = 2 ∷ 3 ∷ 4 ∷ 8 ∷ []
refusal_numbers joining = 2 ∷ 4 ∷ 8 ∷ 3 ∷ 13 ∷ 5 ∷ 6 ∷ 7 ∷ []

-- RULES X7. Whether a number is listed.
abbrev pub is_among : ℕ → List ℕ → Bool
is_among k [] = false
is_among k (n ∷ ns) = eqb k n || is_among k ns

-- RULES X7. No refusal, or one whose number the call may give.
abbrev pub permitted : Asked → Said → Bool
permitted q (answered w vs) = true
permitted q (refused n vs) = is_among n (refusal_numbers q)

-- ---- one outcome

-- RULES X8. A promise that is an equation permits one outcome: two that meet it are equal
pub one-outcome {ℓ} : {A : Type ℓ} {x y settled : A} → x ≡ settled → y ≡ settled → x ≡ y
one-outcome p q = p ∙ sym q
