-- RULES AJ10. Document 02, Fourteen: "Joined stores from Thirteen count what they brought." `join_costs` and
-- `join_never_stops` of proofs/Costs.antt prove it of every two stores that accepted creations made and of any calls on
-- each.
use Rattle.std.specs.Prelude.{ℕ, ◌+◌, ◌*◌, ◌≤◌, ◌≡◌, true, List, ◌++◌, map, length}
use Rattle.history_lanes.specs.Lane.{used_end}
use Rattle.history.specs.History.{World, Call, play, Entry, entry, log_of, asked_for, joined, among, accepted_bytes}
use Rattle.history.specs.Promises.{listed_names}
use Rattle.lending.specs.Lending.{block_tail}
use Rattle.shift_cost.specs.Shift.{sum_of, length_in, lanes_with_bytes, blocks_of_all}
use Rattle.shift_cost.specs.Promises.{ShiftCosts, StaysWithin}
use Rattle.join.specs.Join.{brought_by}
use Rattle.join_history.specs.Promises.{first_after, join_number, bytes_or, crossed}

-- RULES AJ10. The calls of a joined store: its own, and the appends of the lanes that went across
abbrev pub joined_calls : World → World → List Call → List Call → List ℕ → List Call
joined_calls w v calls calls₂ s = calls ++ brought_by (play calls w) (play calls₂ v) s

-- RULES AJ10.
pub record JoinCosts (w v : World) (calls calls₂ : List Call) (s : List ℕ) : Type 0 where
  -- it has accepted its own bytes and those of the lanes that went across
  pub bytes-brought : accepted_bytes (joined_calls w v calls calls₂ s) w
      ≡ accepted_bytes calls w
      + sum_of (λ k. length_in (joined k calls₂ v)) (crossed (play calls w) (play calls₂ v) s)
  -- and costs what every history costs: so many used bytes of the list pages at most
  pub costs : ShiftCosts w (joined_calls w v calls calls₂ s)
  pub used_at_most : used_end (first_after (play calls w) (play calls₂ v) s).state.list_arena
      ≤ 2 * (accepted_bytes calls w
      + sum_of (λ k. length_in (joined k calls₂ v)) (crossed (play calls w) (play calls₂ v) s))
      + 6 * lanes_with_bytes (log_of (joined_calls w v calls calls₂ s) w)
      + 4 * blocks_of_all (log_of (joined_calls w v calls calls₂ s) w)
      + block_tail * (first_after (play calls w) (play calls₂ v) s).state.list_arena.page

-- RULES AJ10. The second store's lanes as one append each, in listing order
abbrev pub lanes_of : World → List Call → List Entry
lanes_of v calls = map (λ k. entry k (bytes_or (joined k calls v))) (listed_names (play calls v))

-- RULES AJ10. A first store that was lent enough for both halves together, and a scratch that holds each lane: the join
-- is whole
abbrev pub NeverStops : ℕ → ℕ → ℕ → World → World → List Call → List Call → List ℕ → Type 0
NeverStops lanes bytes longest w v calls calls₂ s =
    StaysWithin lanes bytes longest (asked_for calls ++ lanes_of v calls₂)
    → ((j : List ℕ) → among j (listed_names (play calls₂ v)) ≡ true → length_in (joined j calls₂ v) ≤ length s)
    → join_number (play calls w) (play calls₂ v) s ≡ 0
