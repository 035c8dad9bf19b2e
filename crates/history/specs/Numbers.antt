-- Document 01, "Refusal numbers", over every call of a history: the number that the answer has, 0 where it is no
-- refusal; the number that the call is due; and the numbers that can come at all. 2 and 4 are not among them.
use Rattle.std.specs.Prelude.{ℕ, Bool, cond, ◌||◌, List, [], ◌∷◌, leb, eqb, length}
use Rattle.std.proofs.Math.Option.{Option, none, some}
use Rattle.limits.specs.Refusals.{number_in, is_among}
use Rattle.store_state.specs.declared.State.{State}
use Rattle.store_append.specs.declared.Appended.{Appended}
use Rattle.store_look.specs.declared.Lookup.{Lookup}
use Rattle.store_look.specs.declared.Answer.{Answer}
use Rattle.store_look.specs.declared.Listed.{Listed}
use Rattle.store_look.specs.declared.Counted.{Counted}
use Rattle.store_look.specs.Said.{said_lookup, said_answer, said_listed, said_counted}
use Rattle.store_append.specs.Said.{said_appended}
use Rattle.store_state.specs.Name.{name_kind, by_kind}
use Rattle.store_look.specs.Look.{lookup_of, length_of, read_of, find_block_of, next_of, count_of}
use Rattle.history.specs.History.{World, Call, appends, looks_up, asks_length, reads, finds_block, shows_block}
use Rattle.history.specs.History.{lists_from, counts_keys, append_in}
use Rattle.history.specs.Due.{due}

-- ---- the number that an answer has

-- RULES X7. Of each kind of answer, as the paper's table says it.
abbrev pub appended_number : Appended → ℕ
appended_number r = number_in (said_appended r)

-- RULES Y8.
abbrev pub lookup_number : Lookup → ℕ
lookup_number r = number_in (said_lookup r)

-- RULES Y8.
abbrev pub answer_number : Answer → ℕ
answer_number r = number_in (said_answer r)

-- RULES Y8.
abbrev pub listed_number : Listed → ℕ
listed_number r = number_in (said_listed r)

-- RULES Y8.
abbrev pub counted_number : Counted → ℕ
counted_number r = number_in (said_counted r)

-- RULES Y8. Of a call; showing a block has no number, a state that isn't whole shows an empty part
abbrev pub number_of : Call → World → ℕ
number_of (appends name bytes) w = appended_number (append_in w name bytes).answer
number_of (looks_up name) w = lookup_number (lookup_of w.state w.memory name)
number_of (asks_length name) w = answer_number (length_of w.state w.memory name)
number_of (reads name output) w = answer_number (read_of w.state w.memory name output).answer
number_of (finds_block name i) w = answer_number (find_block_of w.state w.memory name i)
number_of (shows_block at n) w = 0
number_of (lists_from i) w = listed_number (next_of w.state w.memory i)
number_of counts_keys w = counted_number (count_of w.state w.memory)

-- ---- the number that a call is due, by its arguments and by what each name has come to

-- RULES Y8. 3: a name over the limit. The empty name is absent, and no number is due
unfoldable pub due_named : State → List ℕ → ℕ → ℕ
unfolding name_kind
due_named st name number = by_kind (name_kind st (length name)) 3 0 number

-- RULES Y8. 8: an output shorter than the lane
abbrev pub due_read : Option (List ℕ) → List ℕ → ℕ
due_read none output = 0
due_read (some bs) output = cond (leb (length bs) (length output)) 0 8

-- RULES Y8.
abbrev pub due_of : Call → World → (List ℕ → Option (List ℕ)) → ℕ
due_of (appends name bytes) w stood = due w.state w.memory name (stood name) (length bytes)
due_of (looks_up name) w stood = due_named w.state name 0
due_of (asks_length name) w stood = due_named w.state name 0
due_of (reads name output) w stood = due_named w.state name (due_read (stood name) output)
due_of (finds_block name i) w stood = due_named w.state name 0
due_of (shows_block at n) w stood = 0
due_of (lists_from i) w stood = 0
due_of counts_keys w stood = 0

-- ---- the numbers that can come

-- RULES Y8.
abbrev pub numbers_of : Call → List ℕ
numbers_of (appends name bytes) = 3 ∷ 13 ∷ 5 ∷ 6 ∷ 7 ∷ []
numbers_of (looks_up name) = 3 ∷ []
numbers_of (asks_length name) = 3 ∷ []
numbers_of (reads name output) = 3 ∷ 8 ∷ []
numbers_of (finds_block name i) = 3 ∷ []
numbers_of (shows_block at n) = []
numbers_of (lists_from i) = []
numbers_of counts_keys = []

-- RULES Y8. No refusal, or one with one of these numbers
abbrev pub is_one_of : List ℕ → ℕ → Bool
is_one_of ns n = eqb n 0 || is_among n ns
