-- Document 02, Eleven: "for the same accepted appends both stores answer .. alike", over the one log that demand 3 has
-- of each. `agreement` of proofs/Agree.antt proves it of each store that an accepted creation made and each lent
-- buffer.
use Rattle.std.specs.Prelude.{ℕ, ◌<◌, ◌≡◌, List, [], length}
use Rattle.limits.specs.Limits.{name_limit}
use Rattle.limits.specs.declared.Refusal.TheVariants.{NameTooLong, NoName}
use Rattle.entries.specs.Log.{Entry}
use Rattle.store_look.specs.declared.Lookup.TheVariants.{Failed}
use Rattle.store_look.specs.Look.{lookup_of}
use Rattle.history.specs.History.{World, Call, play, log_of, asked_for}
use Rattle.history.specs.Promises.{ReadsAbsent}
use Rattle.flat_store.specs.Calls.{absent, refuses, held_of}
use Rattle.flat_store.specs.History.{Flat, flat, play as flat_play, log_of as flat_log, Holds}
use Rattle.flat_history.specs.Alike.{Alike, BothRefuse}

-- ---- where nothing was refused

-- RULES AH9. No append was refused: all that was asked is in the log
abbrev pub Unrefused : List Call → World → Type 0
Unrefused calls w = log_of calls w ≡ asked_for calls

-- RULES AH9. And so of the flat store
abbrev pub FlatUnrefused : List Entry → Flat → Type 0
FlatUnrefused tries f = flat_log tries f ≡ tries

-- ---- one record

-- RULES AH9. W is a store as it was made, lent the flat store's buffer as it was lent; calls were made on the one, and
-- the appends tries on the other
pub record SameRecord (w : World) (calls : List Call) (lent : List ℕ) (tries : List Entry) : Type 0 where
  -- the flat buffer has the store's log, in order of arrival
  pub same_entries : Holds lent (flat_play tries (flat lent 0)) (log_of calls w)
  -- both say the same of every name, whatever its length
  pub alike : (name : List ℕ) → Alike (play calls w) (flat_play tries (flat lent 0)) name
  -- 3 is what they say of a name over the limit, in every call,
  pub too_long : (name : List ℕ) → name_limit < length name
      → (lookup_of (play calls w).state (play calls w).memory name ≡ Failed 3)
      × (held_of (flat_play tries (flat lent 0)).buffer (flat_play tries (flat lent 0)).used name ≡ refuses NameTooLong)
  pub too_long_appended : (name bytes : List ℕ) → name_limit < length name
      → BothRefuse NameTooLong (play calls w) (flat_play tries (flat lent 0)) name bytes
  -- and of the empty name absent, and 13 in appends
  pub nameless : ReadsAbsent (play calls w) []
      × (held_of (flat_play tries (flat lent 0)).buffer (flat_play tries (flat lent 0)).used [] ≡ absent)
  pub nameless_appended : (bytes : List ℕ)
      → BothRefuse NoName (play calls w) (flat_play tries (flat lent 0)) [] bytes

-- RULES AH9. "Page sizes above 65,536": there a store's longest name is the flat store's
abbrev pub WidePages : World → Type 0
WidePages w = 65536 < w.state.key_arena.size

-- RULES AH9.
pub record Agreement (w : World) (lent : List ℕ) : Type 0 where
  -- whatever was asked of either, and refused: where both have accepted the same appends, they are the same record
  pub same_log : WidePages w → (calls : List Call) (tries : List Entry) → log_of calls w ≡ flat_log tries (flat lent 0)
      → SameRecord w calls lent tries
  -- "for histories in which neither store has refused": the same appends asked of both
  pub unrefused : WidePages w → (calls : List Call) → Unrefused calls w → FlatUnrefused (asked_for calls) (flat lent 0)
      → SameRecord w calls lent (asked_for calls)
