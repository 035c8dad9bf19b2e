-- What the short way of an append goes by. Nothing here is the paper's: the call's own definition, `append_of`, is in
-- Append.antt.
use Rattle.std.specs.Prelude.{ℕ, ◌≤◌, ◌<◌, ◌≡◌, Bool, true, false, List}
use Rattle.expull_append.specs.Append.{Writing, writing, filled, good_tail}
use Rattle.store_state.specs.declared.State.{State}
use Rattle.store_append.specs.declared.Appended.TheVariants.{Accepted}
use Rattle.store_quick.specs.declared.Tried.{Tried}
use Rattle.store_quick.specs.declared.Tried.TheVariants.{Done, Refused, LookedUp}
use Rattle.records.specs.Record.{header_of, header_sound}
use Rattle.store_look.specs.Look.{Lent}
use Rattle.store_append.specs.Append.{Out, out, declined, is_saturated, Looked}

-- an append of n bytes, at least one, to the lane of the record at a place: no damage, room in the last block, a
-- table that isn't saturated
pub record Quick (st : State) (keys : List ℕ) (at n : ℕ) : Type 0 where
  pub sound : header_sound keys at ≡ true
  pub tail : good_tail st.list_arena (header_of keys at) ≡ true
  pub some : 0 < n
  pub fits : n ≤ (header_of keys at).remaining
  pub calm : is_saturated st ≡ false

-- what such an append leaves of the list
abbrev pub quickly : State → List ℕ → List ℕ → ℕ → List ℕ → Writing
quickly st keys lists at bytes = filled bytes (writing lists st.list_arena (header_of keys at))

-- what the short way answers, from the memory before and after it and from what the call is to come to: true, and it
-- has come to that with the state as it was, or false, and nothing has changed
abbrev pub QuickOf : Bool → State → Lent → Lent → Out → Type 0
QuickOf true st before after o = out (Accepted st) after ≡ o
QuickOf false st before after o = after ≡ before

-- the same of how far it got: it has come to that with the state as it was; or nothing has changed, and the call comes
-- to a refusal, or goes on from the lookup of its name
abbrev pub TriedOf : Tried → State → Lent → Lent → List ℕ → Out → Type 0
TriedOf Done st before after name o = out (Accepted st) after ≡ o
TriedOf (Refused n) st before after name o = (after ≡ before) × (o ≡ declined st before n)
TriedOf (LookedUp hash met looked) st before after name o = (after ≡ before) × Looked st before name hash met looked
