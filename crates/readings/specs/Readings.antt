-- RULES AB6, AB7. Document 02, Four: the two calls. A reading's append is an append. Reading back refuses by 2, 3, 4
-- as a reading of bytes does; then "fewer output places than whole readings up to there, or to the end, is refusal 8";
-- then "bytes in the lane that don't split into whole vints are refusal 11 with the count read so far". A refusal
-- leaves the output as it was.
use Rattle.std.specs.Prelude.{ℕ, cond, List, ◌++◌, leb, length, drop, ℤ, Option, Some, None}
use Rattle.limits.specs.Refusals.{number_of}
use Rattle.limits.specs.declared.Refusal.{Refusal}
use Rattle.vint.specs.Vint.{vint_bytes}
use Rattle.expull_walk.specs.Blocks.{lane_bytes}
use Rattle.store_state.specs.declared.State.{State}
use Rattle.store_look.specs.declared.Lookup.{Lookup}
use Rattle.store_look.specs.declared.Lookup.TheVariants.{At, Missing, Failed}
use Rattle.records.specs.Record.{header_of}
use Rattle.store_look.specs.Look.{Lent, lookup_of, blocks_sound}
use Rattle.store_append.specs.Append.{Out as Appending, append_of}
use Rattle.reading_run.specs.Readings.{reading_bytes, Split, split_up, vints_of, readings_in}
use Rattle.readings.specs.declared.Recalled.{Recalled}
use Rattle.readings.specs.declared.Recalled.TheVariants.{Readings, Absent, Refused}

-- ---- a reading appended

-- RULES AB6. "Each reading is one append, and the caller hands in the lane's last accepted reading."
unfoldable pub append_reading_of : State → Lent → List ℕ → ℤ → ℤ → Appending
unfolding vint_bytes append_of
append_reading_of st m name last new = append_of st m name (reading_bytes last new)

-- ---- reading back

-- RULES AB7. The answer, and the lent output as the call leaves it.
pub record Out : Type 0 where
  pub answer : Recalled
  pub output : List ℤ

-- RULES AB7. Both put together.
abbrev pub out : Recalled → List ℤ → Out
out r o = record { answer = r; output = o }

-- RULES AB7. Readings at the front of the output, and no place written behind them.
abbrev pub at_front : List ℤ → List ℤ → List ℤ
at_front rs o = rs ++ drop (length rs) o

-- RULES AB7. By how the bytes end.
abbrev pub on_ended : Option Refusal → Split → List ℤ → Out
on_ended None s output = out (Readings (length s.numbers)) (at_front (readings_in s) output)
on_ended (Some r) s output = out (Refused (number_of r) (length s.numbers)) output

-- RULES AB7. What bytes that split so answer: 8, then the vint reader's number, each with the count of whole readings;
-- else the readings.
unfoldable pub on_split : Split → List ℤ → Out
on_split s output =
    cond (leb (length s.numbers) (length output))
    (on_ended s.refusal s output)
    (out (Refused 8 (length s.numbers)) output)

-- RULES AB7. Of a standing lane: header and blocks are met first (4).
unfoldable pub readings_at : State → Lent → ℕ → List ℤ → Out
unfolding blocks_sound lane_bytes split_up on_split
readings_at st m at output =
    cond (blocks_sound st m at) (on_split (vints_of (lane_bytes m.lists (header_of m.keys at))) output)
    (out (Refused 4 0) output)

-- RULES AB7. The answer to a lookup that found no record.
abbrev pub not_found : Lookup → Recalled
not_found (At at) = Absent
not_found Missing = Absent
not_found (Failed n) = Refused n 0

-- RULES AB7. An absent lane, a refused lookup, and else what the record at a place answers.
abbrev pub on_lookup : Lookup → (ℕ → Out) → List ℤ → Out
on_lookup (At at) k output = k at
on_lookup Missing k output = out Absent output
on_lookup (Failed n) k output = out (Refused n 0) output

-- RULES AB7. The call.
unfoldable pub readings_of : State → Lent → List ℕ → List ℤ → Out
unfolding lookup_of readings_at
readings_of st m name output = on_lookup (lookup_of st m name) (λ at. readings_at st m at output) output
