-- Small histories worked out, so that the theorems are seen to speak of something: one bucket that grows to eight,
-- pages of 64 bytes.
use Rattle.std.specs.Prelude.{ℕ, ◌≡◌, refl, List, [], ◌∷◌, ◌++◌, replicate}
use Rattle.std.proofs.Math.Option.{none, some}
use Rattle.shared_arena_hashmap.specs.Buckets.{cleared}
use Rattle.store_look.specs.declared.Answer.TheVariants.{Absent, Found}
use Rattle.store_look.specs.declared.Outcome.TheVariants.{Reading, Block, NoSuchBlock}
use Rattle.store_look.specs.declared.Counted.TheVariants.{Keys}
use Rattle.store_create.specs.Create.{fresh_state, create_of}
use Rattle.store_look.specs.Look.{lent, reading, read_of, find_block_of, next_of, count_of}
use Rattle.store_append.specs.Append.{append_of}
use Rattle.history.specs.History.{World, Born, Call, appends, reads, lists_from, play, entry, log_of}
use Rattle.history.specs.History.{joined, joined_in, accepted_names, names_in, accepted_bytes, bytes_in}
use Rattle.history.specs.Due.{due}
use Rattle.history.specs.Numbers.{number_of, due_named, due_of}
use Rattle.history.specs.Promises.{listed_from, listed_names}

abbrev pub lane_a : List ℕ
lane_a = 65 ∷ []

abbrev lane_b : List ℕ
lane_b = 66 ∷ []

abbrev long_c : List ℕ
long_c = replicate 30 67

abbrev three : List ℕ
three = 1 ∷ 2 ∷ 3 ∷ []

abbrev six : List ℕ
six = 4 ∷ 5 ∷ 6 ∷ 7 ∷ 8 ∷ 9 ∷ []

abbrev pub nine : List ℕ
nine = three ++ six

-- three bytes to A, none to B, a name that the key pages can't hold, six bytes more to A
abbrev pub calls : List Call
calls = appends lane_a three ∷ appends lane_b [] ∷ appends long_c (1 ∷ []) ∷ appends lane_a six ∷ []

-- created with capacity 1 and seed 0 on memory that isn't clear
abbrev pub start : World
start = record {
  state = fresh_state 0 65536 18 64 64 1;
  memory = lent (cleared 0 1 (replicate 18 7)) (replicate 64 7) (replicate 64 7);
}

pub born : Born 1 0 65536 (replicate 18 7) (replicate 64 7) (replicate 64 7) start
unfolding create_of
born = record { made = refl; keys_lent = refl; lists_lent = refl }

-- what it comes to: the log, each name's bytes, the names, how many bytes were accepted
pub joined_cases : (log_of calls start ≡ entry lane_a three ∷ entry lane_b [] ∷ entry lane_a six ∷ [])
    × (joined lane_a calls start ≡ some nine)
    × (joined lane_b calls start ≡ some [])
    × (joined long_c calls start ≡ none)
    × (accepted_names calls start ≡ lane_a ∷ lane_b ∷ [])
    × (accepted_bytes calls start ≡ 9)
unfolding log_of joined_in names_in bytes_in append_of cleared
joined_cases = (refl, refl, refl, refl, refl, refl)

-- what the calls answer then: two readings, a block and none, the names in bucket order, their number
abbrev then : World
then = play calls start

pub answer_cases : (read_of then.state then.memory lane_a (replicate 10 0)
    ≡ reading (Found (Reading 9)) (1 ∷ 2 ∷ 3 ∷ 4 ∷ 5 ∷ 6 ∷ 7 ∷ 8 ∷ 9 ∷ 0 ∷ []))
    × (read_of then.state then.memory long_c (replicate 10 0) ≡ reading Absent (replicate 10 0))
    × (find_block_of then.state then.memory lane_a 1 ≡ Found (Block 12 1))
    × (find_block_of then.state then.memory lane_b 0 ≡ Found NoSuchBlock)
    × (listed_names then ≡ lane_a ∷ lane_b ∷ [])
    × (count_of then.state then.memory ≡ Keys 2)
unfolding play read_of find_block_of count_of listed_from append_of cleared
answer_cases = (refl, refl, refl, refl, refl, refl)

-- and their numbers, as they are due: no room for a name's record, no name, an output that is too short, and none
pub number_cases : (number_of (appends long_c (1 ∷ [])) then ≡ 6)
    × (due_of (appends long_c (1 ∷ [])) then (λ name. joined name calls start) ≡ 6)
    × (number_of (appends [] (1 ∷ [])) then ≡ 13)
    × (due_of (appends [] (1 ∷ [])) then (λ name. joined name calls start) ≡ 13)
    × (number_of (reads [] []) then ≡ 0)
    × (due_of (reads [] []) then (λ name. joined name calls start) ≡ 0)
    × (number_of (reads lane_a (replicate 8 0)) then ≡ 8)
    × (due_of (reads lane_a (replicate 8 0)) then (λ name. joined name calls start) ≡ 8)
    × (number_of (lists_from 9) then ≡ 0)
unfolding play log_of joined_in read_of next_of due due_named append_of cleared
number_cases = (refl, refl, refl, refl, refl, refl, refl, refl, refl)

-- on a store with one bucket that can't grow and list pages of 12 bytes: no bucket left, no room for a second block,
-- and a byte less
abbrev tight : World
tight = record {
  state = fresh_state 0 65536 2 64 12 1;
  memory = lent (cleared 0 1 (replicate 2 7)) (replicate 64 7) (replicate 12 7);
}

abbrev full : World
full = play (appends lane_a (1 ∷ []) ∷ []) tight

pub tight_cases : (number_of (appends lane_b []) full ≡ 5)
    × (due full.state full.memory lane_b none 0 ≡ 5)
    × (number_of (appends lane_a (replicate 8 1)) full ≡ 7)
    × (due full.state full.memory lane_a (some (1 ∷ [])) 8 ≡ 7)
    × (number_of (appends lane_a (replicate 7 1)) full ≡ 0)
    × (due full.state full.memory lane_a (some (1 ∷ [])) 7 ≡ 0)
unfolding play append_of cleared due
tight_cases = (refl, refl, refl, refl, refl, refl)
