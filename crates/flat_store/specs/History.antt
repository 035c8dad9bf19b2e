-- A history of the flat store: appends on a lent buffer of which nothing is used at first, refused ones too. The other
-- calls change nothing, so they may come between.
use Rattle.std.specs.Prelude.{ℕ, ◌≤◌, ◌<◌, ◌≡◌, Bool, true, false, cond, List, [], ◌∷◌, ◌++◌, leb, ltb, length, Ok, Err}
use Rattle.std.proofs.Math.Option.{Option}
use Rattle.limits.specs.Limits.{name_limit}
use Rattle.limits.specs.Refusals.{number_in}
use Rattle.spans.specs.Span.{overwrite}
use Rattle.entries.specs.Log.{Entry}
use Rattle.entries.specs.Form.{encoded_all, AllFit}
use Rattle.limits.specs.declared.Refusal.TheVariants.{NameTooLong}
use Rattle.flat_store.specs.Calls.{Appended, Out, has_room, append_of, Held, refuses, held_by}
use Rattle.flat_store.specs.Said.{said_appended}

-- RULES AH7. The lent buffer, and how much of it is used
pub record Flat : Type 0 where
  pub buffer : List ℕ
  pub used : ℕ

-- RULES AH7.
abbrev pub flat : List ℕ → ℕ → Flat
flat buffer used = record { buffer = buffer; used = used }

-- RULES AH7. An append as the contract says it
abbrev pub append_in : Flat → Entry → Out
append_in f e = append_of f.buffer f.used e.name e.bytes

-- RULES AH7.
abbrev pub is_accepted : Appended → Bool
is_accepted (Ok used) = true
is_accepted (Err r) = false

-- RULES AH7.
abbrev pub accepts : Flat → Entry → Bool
accepts f e = is_accepted (append_in f e).answer

-- RULES AH7. The used count after an append: the one that it gives, or after a refusal the one handed in
abbrev pub used_after : Appended → ℕ → ℕ
used_after (Ok now) used = now
used_after (Err r) used = used

-- RULES AH7.
abbrev pub left : Out → ℕ → Flat
left o used = flat o.buffer (used_after o.answer used)

-- RULES AH7.
abbrev pub after : Entry → Flat → Flat
after e f = left (append_in f e) f.used

-- RULES AH7. The store after all appends
unfoldable pub play : List Entry → Flat → Flat
unfolding append_of
play [] f = f
play (e ∷ es) f = play es (after e f)

-- ---- the log: the accepted appends, in order

-- RULES AH7.
abbrev pub logged : Entry → Flat → List Entry
logged e f = cond (accepts f e) (e ∷ []) []

-- RULES AH7.
unfoldable pub log_of : List Entry → Flat → List Entry
unfolding append_of
log_of [] f = []
log_of (e ∷ es) f = logged e f ++ log_of es (after e f)

-- ---- what a history comes to

-- RULES AH8. No entry without a name
abbrev pub AllNamed : List Entry → Type 0
AllNamed [] = Unit {0}
AllNamed (e ∷ es) = (0 < length e.name) × AllNamed es

-- RULES AH8. The buffer is as it was lent but for the log's entries, one behind the other at its front; they are what
-- is used of it
pub record Holds (lent : List ℕ) (f : Flat) (log : List Entry) : Type 0 where
  pub counted : f.used ≡ length (encoded_all log)
  pub written : f.buffer ≡ overwrite 0 (encoded_all log) lent
  pub inside : f.used ≤ length lent
  pub fit : AllFit log
  pub named : AllNamed log

-- RULES AH8. The number that an append is due, 0 where it must be accepted: by the buffer's length, the log and the
-- append
unfoldable pub due : ℕ → List Entry → Entry → ℕ
unfolding encoded_all
due len log e =
    cond (leb (length e.name) name_limit)
    (cond (ltb 0 (length e.name))
    (cond (has_room len (length (encoded_all log)) (length e.name) (length e.bytes)) 0 14) 13) 3

-- RULES AH8.
abbrev pub number_of : Flat → Entry → ℕ
number_of f e = number_in (said_appended (append_in f e).answer)

-- RULES AH8. What is due to be held of a name that the log comes to, or doesn't
abbrev pub held_due : List ℕ → Option (List ℕ) → Held
held_due name stood = cond (leb (length name) name_limit) (held_by stood) (refuses NameTooLong)
