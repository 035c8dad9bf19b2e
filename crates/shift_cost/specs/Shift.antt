-- RULES AJ1 to AJ3. What is counted of a shift, from its history alone and not from headers: the log of accepted
-- appends says which lanes there are and which bytes each has.
use Rattle.std.specs.Prelude.{ℕ, ◌+◌, List, [], ◌∷◌, length}
use Rattle.std.proofs.Math.Option.{Option, none, some}
use Rattle.expull_header.specs.Header.{taken_bytes}
use Rattle.store_look.specs.declared.Answer.{Answer}
use Rattle.store_look.specs.declared.Answer.TheVariants.{Absent, Found, Refused}
use Rattle.store_look.specs.declared.Outcome.TheVariants.{Length, Reading, Block, NoSuchBlock}
use Rattle.history.specs.History.{Entry, joined_in, names_in}
use Rattle.history.specs.Promises.{blocks_for}

-- RULES AJ1. A sum over names.
unfoldable pub sum_of : (List ℕ → ℕ) → List (List ℕ) → ℕ
sum_of f [] = 0
sum_of f (n ∷ ns) = f n + sum_of f ns

-- RULES AJ1. Of each lane of a log a number, by what its entries come to; all added up.
unfoldable pub over_lanes : (Option (List ℕ) → ℕ) → List Entry → ℕ
unfolding sum_of joined_in names_in
over_lanes h log = sum_of (λ j. h (joined_in j log none)) (names_in log [])

-- RULES AJ1. A lane's bytes.
abbrev pub length_in : Option (List ℕ) → ℕ
length_in none = 0
length_in (some bs) = length bs

-- RULES AJ2. 1 for a lane that has bytes.
abbrev pub with_bytes : Option (List ℕ) → ℕ
with_bytes none = 0
with_bytes (some []) = 0
with_bytes (some (b ∷ bs)) = 1

-- RULES AJ2. Its blocks, and what they take of the list pages with their links.
abbrev pub blocks_in : Option (List ℕ) → ℕ
blocks_in none = 0
blocks_in (some bs) = blocks_for (length bs)

-- RULES AJ2.
abbrev pub taken_in : Option (List ℕ) → ℕ
taken_in none = 0
taken_in (some bs) = taken_bytes (blocks_for (length bs))

-- RULES AJ2. Over all lanes.
abbrev pub bytes_of_all : List Entry → ℕ
bytes_of_all log = over_lanes length_in log

-- RULES AJ2.
abbrev pub lanes_with_bytes : List Entry → ℕ
lanes_with_bytes log = over_lanes with_bytes log

-- RULES AJ2.
abbrev pub blocks_of_all : List Entry → ℕ
blocks_of_all log = over_lanes blocks_in log

-- RULES AJ2.
abbrev pub taken_of_all : List Entry → ℕ
taken_of_all log = over_lanes taken_in log

-- RULES AJ1. The length that a call tells.
abbrev pub told_length : Answer → ℕ
told_length Absent = 0
told_length (Found (Length n)) = n
told_length (Found (Reading n)) = 0
told_length (Found (Block at n)) = 0
told_length (Found NoSuchBlock) = 0
told_length (Refused n told) = 0
