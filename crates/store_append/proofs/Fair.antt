-- Of every append: a refusal changes nothing and gives the state back equal, and its number is one that the papers list
-- for the call. Assumes nothing.
use Prim.Native.Nat.{ℕ, ◌+◌}
use mathlib.Core.Path.{◌≡◌, refl, sym}
use mathlib.Core.Bool.{Bool, true, false, cond, ◌&&◌}
use mathlib.Core.Option.{Option, none, some}
use mathlib.Core.List.{List}
use native.Mathlib.Omega.{arith}
use lib.ListN.{length}
use Rattle.limits.specs.Limits.{record_extra}
use Rattle.limits.specs.Refusals.{appending, is_among, refusal_numbers, permitted}
use Rattle.memory_arena.specs.declared.Arena.{Arena}
use Rattle.std.specs.Prelude.{Some, None}
use Rattle.memory_arena.specs.Pages.{MaybeRoom, room_for}
use Rattle.shared_arena_hashmap.specs.declared.Met.{Met}
use Rattle.shared_arena_hashmap.specs.declared.Met.TheVariants.{Empty, Standing, Damaged, Lap}
use Rattle.expull_append.specs.Append.{Writing, writing, appended, good_tail}
use Rattle.expull_header.specs.Header.{fresh}
use Rattle.store_state.specs.declared.State.{State}
use Rattle.store_append.specs.declared.Appended.TheVariants.{Accepted, Declined}
use Rattle.store_state.specs.declared.Name.{Name}
use Rattle.store_state.specs.declared.Name.TheVariants.{TooLong, Nameless, Proper}
use Rattle.store_state.specs.Name.{name_kind, by_kind}
use Rattle.store_append.specs.Said.{said_appended}
use Rattle.records.specs.Record.{header_of, header_sound}
use Rattle.store_look.specs.Look.{Lent, checked, walk_of}
use Rattle.store_append.specs.Append.{Out, out, declined, is_saturated, is_crowded, standing_written, append_standing}
use Rattle.store_append.specs.Append.{new_written, on_key_room, append_new, on_met, append_of}

pub record Fair (st : State) (m : Lent) (o : Out) : Type 0 where
  pub kept : (st' : State) (n : ℕ) → o.answer ≡ Declined st' n → (st' ≡ st) × (o.memory ≡ m)
  pub numbered : permitted appending (said_appended o.answer) ≡ true

fair_cond : {st : State} {m : Lent} (b : Bool) (x y : Out) → Fair st m x → Fair st m y → Fair st m (cond b x y)
fair_cond true x y p q = p
fair_cond false x y p q = q

fair-kind : {st : State} {m : Lent} (k : Name) (x y z : Out) → Fair st m x → Fair st m y → Fair st m z
    → Fair st m (by_kind k x y z)
fair-kind TooLong x y z p q r = p
fair-kind Nameless x y z p q r = q
fair-kind Proper x y z p q r = r

fair-declined : (st : State) (m : Lent) (n : ℕ) → is_among n (refusal_numbers appending) ≡ true
    → Fair st m (declined st m n)
fair-declined st m n h = record { kept = λ s k e. (sym (same s k e), refl); numbered = h }
  where
    same : (s : State) (k : ℕ) → Declined st n ≡ Declined s k → st ≡ s
    same s k e = cc

fair_accepted : (st s : State) (m k : Lent) → Fair st m (out (Accepted s) k)
fair_accepted st s m k = record { kept = λ s' n e. absurd (never s' n e); numbered = refl }
  where
    never : (s' : State) (n : ℕ) → Accepted s ≡ Declined s' n → ⊥
    never s' n e = let z : ◌≡◌ {A = ℕ} 0 1 = cc in omega arith

module _ (st : State) (m : Lent) (name bytes : List ℕ) where
  fair-standing_written : (at : ℕ) (w : Option Writing) → Fair st m (standing_written w st m at)
  unfolding standing_written
  fair-standing_written at none = fair-declined st m 7 refl
  fair-standing_written at (some w) = fair_accepted st _ m _

  fair-standing : (at : ℕ) → Fair st m (append_standing st m at bytes)
  unfolding append_standing
  fair-standing at =
      fair_cond (header_sound m.keys at && good_tail st.list_arena (header_of m.keys at)) _ _
      (fair-standing_written at (appended bytes (writing m.lists st.list_arena (header_of m.keys at))))
      (fair-declined st m 4 refl)

  fair-new_written : (at : ℕ) (a : Arena) (w : Option Writing) → Fair st m (new_written w st m name at a)
  unfolding new_written
  fair-new_written at a none = fair-declined st m 7 refl
  fair-new_written at a (some w) = fair_accepted st _ m _

  fair-room : (r : MaybeRoom) → Fair st m (on_key_room r st m name bytes)
  unfolding on_key_room
  fair-room (Some r) = fair-new_written r.at r.after (appended bytes (writing m.lists st.list_arena fresh))
  fair-room None = fair-declined st m 6 refl

  fair-new : Fair st m (append_new st m name bytes)
  unfolding append_new
  fair-new =
      fair_cond (is_crowded st) _ _ (fair-declined st m 5 refl)
      (fair-room (room_for st.key_arena (length m.keys) (length name + record_extra)))

  fair-met : (x : Met) → Fair st m (on_met x st m name bytes)
  unfolding on_met
  fair-met Damaged = fair-declined st m 4 refl
  fair-met (Standing at) = fair-standing at
  fair-met Empty = fair-new
  fair-met Lap = fair_cond (is_saturated st) _ _ fair-new (fair-declined st m 4 refl)

  -- every append
  pub fair-append : Fair st m (append_of st m name bytes)
  unfolding append_of
  fair-append =
      fair_cond (checked st m) _ _
      (fair-kind (name_kind st (length name)) _ _ _ (fair-declined st m 3 refl) (fair-declined st m 13 refl)
      (fair-met (walk_of st m name).met))
      (fair-declined st m 2 refl)
