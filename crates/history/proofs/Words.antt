-- Which words of the lent table an append writes where the table grows. Assumes nothing.
use Prim.Native.Nat.{ℕ}
use mathlib.Core.Path.{◌≡◌, ◌∙◌}
use mathlib.Core.Bool.{true}
use mathlib.Core.List.{List}
use native.Mathlib.Omega.{arith}
use lib.ListN.{get_or}
use Rattle.shared_arena_hashmap.specs.Power.{grown_length}
use Rattle.shared_arena_hashmap.specs.Grow.{entered}
use Rattle.store_state.specs.declared.State.{State}
use Rattle.store_state.specs.State.{first_of}
use Rattle.store_append.specs.Append.{grows, grown_state, state_grown, table_grown}
use Rattle.store_append.proofs.Cases.{state-grows, table-grows}
use Rattle.history_names.specs.Table.{Outside}
use Rattle.history_names.proofs.Enter.{enter_frame}
use Rattle.history_names.proofs.Grow.{grow_frame}

module _ (st : State) (t : List ℕ) where
  -- a table that grows: words of the new table's place only
  pub grown_words : grows st ≡ true → (q : ℕ) → Outside (first_of (grown_state st)) (grown_length st.buckets) q
      → get_or (table_grown st t) q 0 ≡ get_or t q 0
  grown_words e q d =
      rw (table-grows st t e)
      (grow_frame (first_of (grown_state st)) (grown_length st.buckets) st.buckets (first_of st) t
      (omega arith) q d)

  -- and a record entered in it
  pub grown-entered_words : (address hash : ℕ) → grows st ≡ true → (q : ℕ)
      → Outside (first_of (grown_state st)) (grown_length st.buckets) q
      → get_or (entered (first_of (state_grown st)) (state_grown st).buckets address hash (table_grown st t)) q 0
      ≡ get_or t q 0
  grown-entered_words address hash e q d =
      rw (state-grows st e)
      (enter_frame (table_grown st t) (first_of (grown_state st)) (grown_length st.buckets) address hash
      (omega arith) q d ∙ grown_words e q d)
