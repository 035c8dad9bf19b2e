-- Document 02, Eleven: the calls. A refusal changes nothing.
use Rattle.std.specs.Prelude.{ℕ, ◌+◌, Bool, cond, ◌&&◌, List, leb, ltb, eqb, length, true, false, Some, None, Result, Ok, Err}
use Rattle.std.specs.Prelude.{Option as Maybe}
use Rattle.std.proofs.Math.Option.{Option, none, some}
use Rattle.limits.specs.declared.Refusal.{Refusal}
use Rattle.limits.specs.declared.Refusal.TheVariants.{NotWhole, NameTooLong, Damage, NoName, BufferFull}
use Rattle.limits.specs.Limits.{name_limit}
use Rattle.spans.specs.Span.{read_span, overwrite}
use Rattle.entries.specs.Log.{entry, joined_in}
use Rattle.entries.specs.Form.{byte_limit, encoded, entry_size, Met, entries_from, entries_of}
use Rattle.flat_store.specs.declared.NotRead.{NotRead}
use Rattle.flat_store.specs.declared.NotRead.TheVariants.{TooShort, Refused}

-- ---- append: 2, 3, 13, 14; it goes through no entry

-- RULES AH5. An append's answer: the used count then
abbrev pub Appended : Type 0
Appended = Result ℕ Refusal

-- RULES AH5. The answer, and the lent buffer as the call leaves it
pub record Out : Type 0 where
  pub answer : Appended
  pub buffer : List ℕ

-- RULES AH5.
abbrev pub out : Appended → List ℕ → Out
out r b = record { answer = r; buffer = b }

-- RULES AH5. "When the next entry doesn't fit or its bytes pass 4,294,967,295": whether an entry of n name bytes and m
-- bytes can follow the used ones in a buffer of len
abbrev pub has_room : ℕ → ℕ → ℕ → ℕ → Bool
has_room len used n m = leb m byte_limit && leb (used + (n + m + 6)) len

-- RULES AH5.
unfoldable pub append_of : List ℕ → ℕ → List ℕ → List ℕ → Out
unfolding encoded overwrite
append_of buffer used name bytes =
    cond (leb used (length buffer))
    (cond (leb (length name) name_limit)
    (cond (ltb 0 (length name))
    (cond (has_room (length buffer) used (length name) (length bytes))
    (out (Ok (used + entry_size name bytes)) (overwrite used (encoded (entry name bytes)) buffer))
    (out (Err BufferFull) buffer))
    (out (Err NoName) buffer))
    (out (Err NameTooLong) buffer))
    (out (Err NotWhole) buffer)

-- ---- lookup, length and reading: 2, 3, the empty name absent; then all entries are gone through

-- RULES AH6. What the buffer holds of a name: its entries' bytes joined in order; or nothing; or a refusal
pub data Held : Type 0 where
  stands : List ℕ → Held
  absent : Held
  refuses : Refusal → Held

-- RULES AH6.
abbrev pub held_by : Option (List ℕ) → Held
held_by none = absent
held_by (some bs) = stands bs

-- RULES AH6. Entries that don't end where the used bytes end: one overruns them, which is 4, also behind a match
abbrev pub held_in : List ℕ → ℕ → Met → Held
held_in name used m = cond (eqb m.end used) (held_by (joined_in name m.entries none)) (refuses Damage)

-- RULES AH6.
unfoldable pub held_of : List ℕ → ℕ → List ℕ → Held
unfolding read_span entries_from joined_in
held_of buffer used name =
    cond (leb used (length buffer))
    (cond (leb (length name) name_limit)
    (cond (ltb 0 (length name)) (held_in name used (entries_of (read_span 0 used buffer))) absent)
    (refuses NameTooLong))
    (refuses NotWhole)

-- RULES AH6. A lookup's answer: whether the name stands
abbrev pub Lookup : Type 0
Lookup = Result Bool Refusal

-- RULES AH6.
abbrev pub lookup_by : Held → Lookup
lookup_by (stands bs) = Ok true
lookup_by absent = Ok false
lookup_by (refuses r) = Err r

-- RULES AH6. A length's answer: how many bytes, if the name stands
abbrev pub Measured : Type 0
Measured = Result (Maybe ℕ) Refusal

-- RULES AH6.
abbrev pub length_by : Held → Measured
length_by (stands bs) = Ok (Some (length bs))
length_by absent = Ok None
length_by (refuses r) = Err r

-- RULES AH6. A reading's answer: how many bytes were written, if the name stands
abbrev pub Answer : Type 0
Answer = Result (Maybe ℕ) NotRead

-- RULES AH6. The answer, and the lent output as the call leaves it
pub record Read : Type 0 where
  pub answer : Answer
  pub output : List ℕ

-- RULES AH6.
abbrev pub reading : Answer → List ℕ → Read
reading r o = record { answer = r; output = o }

-- RULES AH6. 8 with the length where the output is short; else the bytes to the front of the output, and no byte after
-- them
unfoldable pub read_by : Held → List ℕ → Read
unfolding overwrite
read_by (stands bs) output =
    cond (leb (length bs) (length output)) (reading (Ok (Some (length bs))) (overwrite 0 bs output))
    (reading (Err (TooShort (length bs))) output)
read_by absent output = reading (Ok None) output
read_by (refuses r) output = reading (Err (Refused r)) output

-- RULES AH6.
unfoldable pub lookup_of : List ℕ → ℕ → List ℕ → Lookup
unfolding held_of
lookup_of buffer used name = lookup_by (held_of buffer used name)

-- RULES AH6.
unfoldable pub length_of : List ℕ → ℕ → List ℕ → Measured
unfolding held_of
length_of buffer used name = length_by (held_of buffer used name)

-- RULES AH6.
unfoldable pub read_of : List ℕ → ℕ → List ℕ → List ℕ → Read
unfolding held_of read_by
read_of buffer used name output = read_by (held_of buffer used name) output
