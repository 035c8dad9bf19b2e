-- RULES AI. Document 02, Thirteen: the joining of a second store onto the first. "each of its lanes in listing order is
-- read, as in One, into a lent scratch buffer and appended. It stops at the first refusal and tells how many lanes went
-- across whole; those stay, from the refused lane on nothing more changes in the first store, and the second store is
-- unchanged throughout."
use Rattle.std.specs.Prelude.{ℕ, zero, suc, ◌+◌, cond, ◌&&◌, List, [], ◌∷◌, leb, length, take}
use Rattle.std.specs.Prelude.{Option, Some, None, Result, Ok, Err}
use Rattle.limits.specs.declared.Refusal.{Refusal}
use Rattle.limits.specs.Refusals.{number_of}
use Rattle.spans.specs.Span.{overwrite}
use Rattle.store_state.specs.declared.State.{State}
use Rattle.store_append.specs.declared.Appended.{Appended}
use Rattle.store_append.specs.declared.Appended.TheVariants.{Accepted, Declined}
use Rattle.store_state.specs.State.{whole_state}
use Rattle.store_look.specs.Look.{Lent, checked}
use Rattle.store_append.specs.Append.{append_of}
use Rattle.report_text.specs.Text.{Lane}
use Rattle.report_lanes.specs.Lanes.{lane_at}
use Rattle.report_lanes.specs.declared.MetLane.{MetLane}
use Rattle.report_lanes.specs.Measure.{next_lane_of}
use Rattle.history.specs.History.{World, Call, appends, append_in}
use Rattle.join.specs.declared.Joined.{Joined}
use Rattle.join.specs.declared.Joined.TheVariants.{Whole, Halted}

-- RULES AI1. A store: its state, and the memory lent to it.
abbrev pub store : State → Lent → World
store st m = record { state = st; memory = m }

-- ---- what the second store tells

-- RULES AI2. A lane, or a refusal's number.
pub data Told : Type 0 where
  lane : Lane → Told
  broken : ℕ → Told

-- RULES AI2. What a question for the next lane brings.
abbrev pub told_on : Result (Option MetLane) Refusal → Lent → (ℕ → List Told) → List Told
told_on (Ok (Some a)) m rest = lane (lane_at m a.at) ∷ rest (a.bucket + 1)
told_on (Ok None) m rest = []
told_on (Err k) m rest = broken (number_of k) ∷ []

-- RULES AI2. By at most n questions, the first of them from bucket i: the lanes in listing order, each through its own
-- record. The first damage ends it.
unfoldable pub told_from : World → ℕ → ℕ → List Told
unfolding next_lane_of lane_at
told_from v zero i = []
told_from v (suc n) i = told_on (next_lane_of v.state v.memory i) v.memory (λ j. told_from v n j)

-- RULES AI2. All of it: no more lanes than there are buckets.
abbrev pub told_by : World → List Told
told_by v = told_from v v.state.buckets 0

-- ---- the join

-- RULES AI3. The answer, the first store's memory and the scratch as the call leaves them. The second store's memory is
-- lent to be read only.
pub record Out : Type 0 where
  pub answer : Joined
  pub memory : Lent
  pub scratch : List ℕ

-- RULES AI3. All put together.
abbrev pub out : Joined → Lent → List ℕ → Out
out r m s = record { answer = r; memory = m; scratch = s }

-- RULES AI3. So many lanes went across: all of them, or up to a refusal.
abbrev pub whole : World → ℕ → List ℕ → Out
whole w k s = out (Whole w.state k) w.memory s

-- RULES AI3.
abbrev pub stopped : ℕ → World → ℕ → List ℕ → Out
stopped n w k s = out (Halted w.state n k) w.memory s

-- RULES AI4. After a lane's append: on with the store that it leaves, or its refusal.
abbrev pub on_appended : Appended → Lent → ℕ → List ℕ → (World → Out) → Out
on_appended (Accepted st) m k s rest = rest (store st m)
on_appended (Declined st n) m k s rest = stopped n (store st m) k s

-- RULES AI4. The lanes that are told, one after the other: "A lane longer than the scratch is refusal 8 before its
-- append. The scratch front holds the last lane read."
unfoldable pub join_lanes : List Told → World → ℕ → List ℕ → Out
unfolding overwrite append_of
join_lanes [] w k s = whole w k s
join_lanes (broken n ∷ ls) w k s = stopped n w k s
join_lanes (lane a ∷ ls) w k s =
    cond (leb (length a.bytes) (length s))
    (on_appended (append_in w a.name a.bytes).answer (append_in w a.name a.bytes).memory k
    (overwrite 0 a.bytes s) (λ next. join_lanes ls next (k + 1) (overwrite 0 a.bytes s)))
    (stopped 8 w k s)

-- RULES AI3. The call: both states are checked first.
unfoldable pub join_of : World → World → List ℕ → Out
unfolding whole_state join_lanes told_from
join_of w v s =
    cond (checked w.state w.memory && checked v.state v.memory) (join_lanes (told_by v) w 0 s)
    (stopped 2 w 0 s)

-- ---- what it brought

-- RULES AI5. How many lanes went across whole.
abbrev pub lanes_in : Joined → ℕ
lanes_in (Whole st k) = k
lanes_in (Halted st n k) = k

-- RULES AI5. The appends of lanes.
unfoldable pub appends_of : List Told → List Call
appends_of [] = []
appends_of (broken n ∷ ls) = appends_of ls
appends_of (lane a ∷ ls) = appends a.name a.bytes ∷ appends_of ls

-- RULES AI5. Those of the lanes that went across: the first of those that are told.
abbrev pub brought_by : World → World → List ℕ → List Call
brought_by w v s = appends_of (take (lanes_in (join_of w v s).answer) (told_by v))
