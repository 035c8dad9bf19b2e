-- RULES AA17. The writer's first pass, as the code goes: every lane is met, and the text measured, before the output
-- matters; and what the second pass may rely on.
use Rattle.std.specs.Prelude.{ℕ, ◌+◌, ◌*◌, ◌^◌, ◌≤◌, ◌<◌, ◌≡◌, true, cond, eqb, length, Option, Some, None, Result, Ok, Err}
use Rattle.memory_arena.specs.Calls.{sensible}
use Rattle.records.specs.Record.{key_length, value_place, header_of}
use Rattle.expull_header.specs.Header.{lane_length}
use Rattle.store_state.specs.declared.State.{State}
use Rattle.store_look.specs.declared.Outcome.{Outcome}
use Rattle.store_look.specs.declared.Outcome.TheVariants.{Length, Reading, Block, NoSuchBlock}
use Rattle.store_look.specs.declared.Answer.{Answer}
use Rattle.store_look.specs.declared.Answer.TheVariants.{Absent, Found, Refused}
use Rattle.store_look.specs.declared.Listed.{Listed}
use Rattle.store_look.specs.declared.Listed.TheVariants.{Bucket, NoMore, Stopped}
use Rattle.store_look.specs.Look.{Lent, blocks_sound, next_of}
use Rattle.report_text.specs.Text.{total_of, decimal, lanes_text}
use Rattle.limits.specs.declared.Refusal.{Refusal}
use Rattle.limits.specs.declared.Refusal.TheVariants.{Damage}
use Rattle.report_lanes.specs.declared.MetLane.{MetLane}
use Rattle.report_lanes.specs.declared.Sums.{Sums}
use Rattle.report_lanes.specs.Lanes.{Gathered, gathered, halted, stopped_by}

abbrev pub met_lane : ℕ → ℕ → ℕ → ℕ → MetLane
met_lane i at name n = record { bucket = i; at = at; name = name; bytes = n }

-- RULES AA17. The lane of the record at a place, in bucket i.
unfoldable pub met_of : State → Lent → ℕ → ℕ → Result MetLane Refusal
unfolding blocks_sound key_length lane_length
met_of st m i at =
    cond (blocks_sound st m at) (Ok (met_lane i at (key_length m.keys at) (lane_length (header_of m.keys at))))
    (Err Damage)

abbrev pub some_lane : Result MetLane Refusal → Result (Option MetLane) Refusal
some_lane (Ok a) = Ok (Some a)
some_lane (Err k) = Err k

abbrev pub on_next_lane : Listed → State → Lent → Result (Option MetLane) Refusal
on_next_lane (Bucket i at) st m = some_lane (met_of st m i at)
on_next_lane NoMore st m = Ok None
on_next_lane (Stopped n) st m = Err (stopped_by n)

-- RULES AA17. The next lane from a bucket on.
unfoldable pub next_lane_of : State → Lent → ℕ → Result (Option MetLane) Refusal
unfolding next_of met_of
next_lane_of st m i = on_next_lane (next_of st m i) st m

-- RULES AA17. The bytes of a lane's text, by the bytes of its name and its own: proofs/Measuring.antt has that it is
-- its text's
-- length.
abbrev pub lane_size : ℕ → ℕ → ℕ
lane_size name n = 18 + 2 * name + length (decimal n) + 2 * n

abbrev pub sums : ℕ → ℕ → ℕ → Sums
sums lanes bytes text = record { lanes = lanes; bytes = bytes; text = text }

-- RULES AA17. What is told of the lanes that were met.
unfoldable pub measured_of : Gathered → Result Sums Refusal
unfolding total_of lanes_text
measured_of (gathered ls) = Ok (sums (length ls) (total_of ls) (length (lanes_text ls)))
measured_of (halted k) = Err k

-- what is known of the numbers of a lane that was met
abbrev pub Small : ℕ → MetLane → Type 0
Small b a = (a.bucket < b) × (a.name < 65536) × (a.bytes ≤ 4587094008)

-- decimals hold the sums
abbrev pub Few : Sums → Type 0
Few s = (s.lanes < 10 ^ 18) × (s.bytes < 10 ^ 18) × (s.text < 10 ^ 18)

-- what a reading into no output at all tells of a lane: its length, with 8 or as a reading; or damage
abbrev pub on_outcome : Outcome → Result ℕ Refusal
on_outcome (Length n) = Err Damage
on_outcome (Reading n) = Ok n
on_outcome (Block p n) = Err Damage
on_outcome NoSuchBlock = Err Damage

-- RULES AA17. And so of the whole answer.
abbrev pub on_answer : Answer → Result ℕ Refusal
on_answer Absent = Err Damage
on_answer (Found o) = on_outcome o
on_answer (Refused k n) = cond (eqb k 8) (Ok n) (Err Damage)

-- RULES AA17. The lane of the record at a place was met, and has n bytes.
pub record Standing (st : State) (m : Lent) (at n : ℕ) : Type 0 where
  pub list_arena : sensible st.list_arena (length m.lists) ≡ true
  pub length-in : at + 2 ≤ length m.keys
  pub value_in : value_place m.keys at + 16 ≤ length m.keys
  pub sound : blocks_sound st m at ≡ true
  pub bytes_are : lane_length (header_of m.keys at) ≡ n
