-- RULES AJ1 to AJ9. Document 02, Fourteen: what a shift costs, and that a store which was lent enough for it never
-- refuses it. `shift_costs` and `never_refused` of proofs/Costs.antt prove it of every store that an accepted creation
-- made on any lent memory, and `tells_enough` of proofs/Lent.antt what is enough. A join is its appends (join_history),
-- so what is said here is said of joined stores too.
use Rattle.std.specs.Prelude.{ℕ, ◌+◌, ◌*◌, ◌≤◌, ◌≡◌, true, List, [], ◌∷◌, ◌++◌, length}
use Rattle.limits.specs.Limits.{name_limit_for, bucket_limit}
use Rattle.store_state.specs.State.{lent_buckets}
use Rattle.store_create.specs.Create.{creatable}
use Rattle.store_look.specs.Look.{length_of}
use Rattle.history_lanes.specs.Lane.{used_end}
use Rattle.history.specs.History.{World, Call, accepts, play, Entry, entry, log_of, asked_for, among, names_in}
use Rattle.history.specs.History.{bytes_in, accepted_bytes}
use Rattle.history.specs.Promises.{listed_names}
use Rattle.lending.specs.declared.Lend.TheVariants.{Areas}
use Rattle.lending.specs.Lending.{block_tail, list_bytes_for, key_bytes_for, buckets_for, lend_for}
use Rattle.shift_cost.specs.Shift.{sum_of, told_length, bytes_of_all, lanes_with_bytes, blocks_of_all}

-- ---- what it costs

-- RULES AJ1 to AJ4.
pub record ShiftCosts (w : World) (calls : List Call) : Type 0 where
  -- "the lengths of all lanes add up to the bytes accepted, counted from the history and not from headers"
  pub lengths_add_up : bytes_of_all (log_of calls w) ≡ accepted_bytes calls w
  -- and so do those that the store's own calls tell, of the lanes that listing tells
  pub lengths_told : sum_of (λ j. told_length (length_of (play calls w).state (play calls w).memory j))
      (listed_names (play calls w)) ≡ accepted_bytes calls w
  -- "the list arena's used bytes are at most twice the accepted bytes, plus 6 for each lane that has bytes, plus 4 for
  -- each block, plus 32,771 for each page left behind"
  pub used_at_most : used_end (play calls w).state.list_arena
      ≤ 2 * accepted_bytes calls w + 6 * lanes_with_bytes (log_of calls w) + 4 * blocks_of_all (log_of calls w)
      + block_tail * (play calls w).state.list_arena.page

-- ---- a shift that stays within what was lent for it

-- RULES AJ9. At most so many lanes, so many bytes in all, and names of 1 to so many bytes
pub record StaysWithin (lanes bytes longest : ℕ) (asked : List Entry) : Type 0 where
  pub few_lanes : length (names_in asked []) ≤ lanes
  pub few_bytes : bytes_in asked ≤ bytes
  pub named : (j : List ℕ) → among j (names_in asked []) ≡ true → (1 ≤ length j) × (length j ≤ longest)

-- RULES AJ4, AJ6, AJ7, AJ8. Such memory was lent, in pages of so many bytes, and such a capacity given, that these
-- have room
pub record LentFor (size lanes bytes longest capacity words key_bytes list_bytes : ℕ) : Type 0 where
  pub short : longest ≤ name_limit_for size
  pub few : lanes ≤ bucket_limit
  pub table : buckets_for capacity lanes ≤ lent_buckets words
  pub keys : key_bytes_for size lanes longest ≤ key_bytes
  pub lists : list_bytes_for size lanes bytes ≤ list_bytes

-- RULES AJ4, AJ9. What `lending::lend_for` tells is such, and creation takes it
abbrev pub TellsEnough : ℕ → ℕ → ℕ → ℕ → Type 0
TellsEnough size lanes bytes longest =
    (capacity words key_bytes list_bytes : ℕ)
    → lend_for size lanes bytes longest ≡ Areas capacity words key_bytes list_bytes
    → LentFor size lanes bytes longest capacity words key_bytes list_bytes
    × (creatable capacity size words key_bytes list_bytes ≡ true)

-- RULES AJ9. Every append of the shift was accepted, and so will be the next that stays within it
pub record NeverRefused (lanes bytes longest : ℕ) (w : World) (calls : List Call) : Type 0 where
  pub all_accepted : StaysWithin lanes bytes longest (asked_for calls) → log_of calls w ≡ asked_for calls
  pub next_accepted : (name bs : List ℕ) → StaysWithin lanes bytes longest (asked_for calls ++ (entry name bs ∷ []))
      → accepts (play calls w) name bs ≡ true
