-- The table of a sound store before a name is entered: grown where an append grows it, else as it is; the same names.
-- Assumes nothing.
use Prim.Native.Nat.{ℕ, ◌+◌, ◌*◌, ◌≤◌, ◌<◌}
use mathlib.Core.Path.{◌≡◌, refl, sym, ◌∙◌}
use mathlib.Core.Logic.{inl, inr}
use mathlib.Core.Bool.{Bool, true, false, ◌&&◌, not}
use mathlib.Core.List.{List}
use native.Mathlib.Omega.{arith}
use lib.ListN.{length}
use borrow.Author.Tests.{leb-true, leb-false}
use Rattle.numbers.proofs.Tests.{both}
use Rattle.spans.specs.Span.{Apart}
use Rattle.murmurhash2.specs.Murmur.{murmur_hash2}
use Rattle.shared_arena_hashmap.specs.Power.{grown_length}
use Rattle.shared_arena_hashmap.specs.Buckets.{first_bucket}
use Rattle.shared_arena_hashmap.specs.Grow.{grown}
use Rattle.store_state.specs.declared.State.{State}
use Rattle.store_state.specs.State.{lent_buckets, first_of}
use Rattle.store_append.specs.Append.{room_to_grow, is_saturated, is_crowded, grows, grown_state, state_grown, table_grown}
use Rattle.store_state.proofs.Whole.{Whole, whole_facts, first-in}
use Rattle.store_append.proofs.Growth.{grown-fits}
use Rattle.store_append.proofs.Cases.{state-stays, state-grows, table_stays, table-grows}
use Rattle.history_names.specs.Table.{Names, Member, occupied, Table}
use Rattle.history_names.proofs.Grow.{grows as grows-names}
use Rattle.history.specs.History.{World}
use Rattle.history.specs.Sound.{Ghosts, Sound}

-- the whole-state check of a sound store, clause by clause
pub sound-whole : {w : World} {G : Ghosts} → Sound w G
    → Whole w.state (length w.memory.table) (length w.memory.keys) (length w.memory.lists)
sound-whole {w} S =
    whole_facts w.state (length w.memory.table) (length w.memory.keys) (length w.memory.lists) S.whole

-- a state and words that stand for the names of a sound store, at most half full but for one; not even half where the
-- table isn't crowded
pub record Grew (w : World) (G : Ghosts) (st : State) (t : List ℕ) : Type 0 where
  pub names : Names
  pub table : Table t (first_of st) st.buckets (murmur_hash2 w.state.seed) G.place names
  pub kept : (k : List ℕ) → Member k G.names → Member k names
  pub only : (k : List ℕ) → Member k names → Member k G.names
  pub many : occupied names ≡ w.state.keys
  pub seed_is : st.seed ≡ w.state.seed
  pub half : 2 * w.state.keys ≤ st.buckets + 1
  pub room : is_crowded w.state ≡ false → 2 * w.state.keys < st.buckets

-- neither grown nor crowded: not saturated
loose : (s r : Bool) → (s && r) ≡ false → (s && not r) ≡ false → s ≡ false
loose true true p q = p
loose true false p q = q
loose false r p q = refl

-- the old table and the new one at the other end share no bucket
ends-apart : (b : Bool) (t l l' : ℕ) → l + l' ≤ t → Apart (first_bucket b t l) l (first_bucket (not b) t l') l'
ends-apart true t l l' h = inr (omega arith)
ends-apart false t l l' h = inl (omega arith)

module _ {w : World} {G : Ghosts} (S : Sound w G) where
  stays : grows w.state ≡ false → Grew w G w.state w.memory.table
  stays e =
      record {
        names = G.names;
        table = S.table;
        kept = λ k m. m;
        only = λ k m. m;
        many = sym S.counted;
        seed_is = refl;
        half = S.half;
        room =
            λ c. leb-false w.state.buckets (2 * w.state.keys)
            (loose (is_saturated w.state) (room_to_grow w.state) e c);
      }

  does : grows w.state ≡ true
      → Grew w G (grown_state w.state)
      (grown w.state.buckets (first_of w.state) (first_of (grown_state w.state))
      (grown_length w.state.buckets) w.memory.table)
  does e =
      let st : State = w.state in
      let W = sound-whole S in
      let r : room_to_grow st ≡ true = (both (is_saturated st) (room_to_grow st) e).1 in
      let f : st.buckets + grown_length st.buckets ≤ lent_buckets st.words = leb-true _ _ r in
      let l : grown_length st.buckets ≤ lent_buckets (length w.memory.table) =
      rw W.words_is at (grown-fits st r) in
      let N = grows-names S.table (first_of (grown_state st)) (grown_length st.buckets)
      (ends-apart st.back (lent_buckets st.words) st.buckets (grown_length st.buckets) f)
      (omega arith) (omega (arith, S.half, S.counted))
      (first-in (grown_state st) (length w.memory.table) W.words_is l) in
      record {
        names = N.0;
        table = N.1.table;
        kept = N.1.kept;
        only = N.1.only;
        many = N.1.many ∙ sym S.counted;
        seed_is = refl;
        half = omega (arith, S.half);
        room = λ c. omega (arith, S.half, S.table.some_bucket);
      }

  pub grew : Grew w G (state_grown w.state) (table_grown w.state w.memory.table)
  grew = go (grows w.state) refl
    where
      go : (b : Bool) → grows w.state ≡ b
          → Grew w G (state_grown w.state) (table_grown w.state w.memory.table)
      go true e = rw (state-grows w.state e, table-grows w.state w.memory.table e) (does e)
      go false e = rw (state-stays w.state e, table_stays w.state w.memory.table e) (stays e)
