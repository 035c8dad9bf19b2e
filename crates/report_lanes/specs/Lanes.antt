-- RULES AA4. The lanes of a report: "in listing order, read through its own record". Every record, header and block is
-- met, and the first that is damage ends it.
use Rattle.std.specs.Prelude.{ℕ, zero, suc, ◌+◌, cond, List, [], ◌∷◌, eqb}
use Rattle.limits.specs.declared.Refusal.{Refusal}
use Rattle.limits.specs.declared.Refusal.TheVariants.{NotWhole, Damage}
use Rattle.records.specs.Record.{key_at, header_of}
use Rattle.expull_walk.specs.Blocks.{lane_bytes}
use Rattle.store_state.specs.declared.State.{State}
use Rattle.store_look.specs.declared.Listed.{Listed}
use Rattle.store_look.specs.declared.Listed.TheVariants.{Bucket, NoMore, Stopped}
use Rattle.store_look.specs.Look.{Lent, blocks_sound, next_of}
use Rattle.report_text.specs.Text.{Lane, lane}

-- RULES AA4. The lanes that were met, or a refusal.
pub data Gathered : Type 0 where
  gathered : List Lane → Gathered
  halted : Refusal → Gathered

-- RULES AA4. One lane more in front.
abbrev pub lane_before : Lane → Gathered → Gathered
lane_before a (gathered ls) = gathered (a ∷ ls)
lane_before a (halted n) = halted n

-- RULES AA4. The lane of the record at a place.
unfoldable pub lane_at : Lent → ℕ → Lane
unfolding key_at lane_bytes
lane_at m at = lane (key_at m.keys at) (lane_bytes m.lists (header_of m.keys at))

-- RULES AA4. A listing stops by 2 or 4.
abbrev pub stopped_by : ℕ → Refusal
stopped_by n = cond (eqb n 2) NotWhole Damage

-- RULES AA4. What a question for the next occupied bucket brings.
abbrev pub on_listed : Listed → State → Lent → (ℕ → Gathered) → Gathered
on_listed (Bucket i at) st m rest = cond (blocks_sound st m at) (lane_before (lane_at m at) (rest (i + 1))) (halted Damage)
on_listed NoMore st m rest = gathered []
on_listed (Stopped n) st m rest = halted (stopped_by n)

-- RULES AA4. By at most n questions for the next occupied bucket, the first of them from bucket i.
unfoldable pub gather_from : State → Lent → ℕ → ℕ → Gathered
unfolding next_of blocks_sound lane_at
gather_from st m zero i = gathered []
gather_from st m (suc n) i = on_listed (next_of st m i) st m (λ j. gather_from st m n j)

-- RULES AA4. All of them: no more than there are buckets.
abbrev pub gather_all : State → Lent → Gathered
gather_all st m = gather_from st m st.buckets 0
