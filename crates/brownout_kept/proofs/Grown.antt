-- The table before a name is entered: grown where an append grows it, else as it is; the same names. Assumes nothing.
use Prim.Native.Nat.{ℕ, ◌+◌, ◌*◌, ◌≤◌, ◌<◌}
use mathlib.Core.Path.{◌≡◌, refl, sym, ◌∙◌}
use mathlib.Core.Logic.{inl, inr}
use mathlib.Core.Bool.{Bool, true, false, ◌&&◌, not}
use mathlib.Core.List.{List}
use native.Mathlib.Omega.{arith}
use lib.ListN.{length}
use borrow.Author.Tests.{leb-true, leb-false}
use Rattle.numbers.proofs.Tests.{both}
use Rattle.spans.specs.Span.{Apart}
use Rattle.murmurhash2.specs.Murmur.{murmur_hash2}
use Rattle.shared_arena_hashmap.specs.Power.{grown_length}
use Rattle.shared_arena_hashmap.specs.Buckets.{first_bucket}
use Rattle.shared_arena_hashmap.specs.Grow.{grown}
use Rattle.store_state.specs.declared.State.{State}
use Rattle.store_state.specs.State.{lent_buckets, first_of}
use Rattle.store_look.specs.Look.{Lent}
use Rattle.store_append.specs.Append.{room_to_grow, is_saturated, is_crowded, grows, grown_state, state_grown, table_grown}
use Rattle.store_state.proofs.Whole.{Whole, whole_facts, first-in}
use Rattle.store_append.proofs.Growth.{grown-fits}
use Rattle.store_append.proofs.Cases.{state-stays, state-grows, table_stays, table-grows}
use Rattle.history_names.specs.Table.{Names, Member, occupied, Table}
use Rattle.history_names.proofs.Grow.{grows as grows-names}
use Rattle.brownout_kept.specs.Laid.{Ghosts, Laid}

-- a state and words that stand for the names of a memory; with room where the table isn't crowded
pub record Grew (st : State) (m : Lent) (G : Ghosts) (st' : State) (t : List ℕ) : Type 0 where
  pub names : Names
  pub table : Table t (first_of st') st'.buckets (murmur_hash2 st.seed) G.place names
  pub kept : (k : List ℕ) → Member k G.names → Member k names
  pub only : (k : List ℕ) → Member k names → Member k G.names
  pub many : occupied names ≡ st.keys
  pub seed_is : st'.seed ≡ st.seed
  pub room : is_crowded st ≡ false → st.keys < st'.buckets

-- neither grown nor crowded: not saturated
loose : (s r : Bool) → (s && r) ≡ false → (s && not r) ≡ false → s ≡ false
loose true true p q = p
loose true false p q = q
loose false r p q = refl

-- the old table and the new one at the other end share no bucket
ends-apart : (b : Bool) (t l l' : ℕ) → l + l' ≤ t → Apart (first_bucket b t l) l (first_bucket (not b) t l') l'
ends-apart true t l l' h = inr (omega arith)
ends-apart false t l l' h = inl (omega arith)

module _ {st : State} {m : Lent} {G : Ghosts} (S : Laid st m G) where
  whole : Whole st (length m.table) (length m.keys) (length m.lists)
  whole = whole_facts st (length m.table) (length m.keys) (length m.lists) S.whole

  stays : grows st ≡ false → Grew st m G st m.table
  stays e =
      record {
        names = G.names;
        table = S.table;
        kept = λ k n. n;
        only = λ k n. n;
        many = sym S.counted;
        seed_is = refl;
        room = λ c. let l = leb-false st.buckets (2 * st.keys) (loose (is_saturated st) (room_to_grow st) e c) in
            omega (arith, l);
      }

  does : grows st ≡ true
      → Grew st m G (grown_state st)
      (grown st.buckets (first_of st) (first_of (grown_state st)) (grown_length st.buckets) m.table)
  does e =
      let r : room_to_grow st ≡ true = (both (is_saturated st) (room_to_grow st) e).1 in
      let f : st.buckets + grown_length st.buckets ≤ lent_buckets st.words = leb-true _ _ r in
      let l : grown_length st.buckets ≤ lent_buckets (length m.table) = rw whole.words_is at (grown-fits st r) in
      let N = grows-names S.table (first_of (grown_state st)) (grown_length st.buckets)
      (ends-apart st.back (lent_buckets st.words) st.buckets (grown_length st.buckets) f)
      (omega arith) (omega (arith, S.counted, whole.keys_le))
      (first-in (grown_state st) (length m.table) whole.words_is l) in
      record {
        names = N.0;
        table = N.1.table;
        kept = N.1.kept;
        only = N.1.only;
        many = N.1.many ∙ sym S.counted;
        seed_is = refl;
        room = λ c. omega (arith, whole.keys_le, S.table.some_bucket);
      }

  pub grew : Grew st m G (state_grown st) (table_grown st m.table)
  grew = go (grows st) refl
    where
      go : (b : Bool) → grows st ≡ b → Grew st m G (state_grown st) (table_grown st m.table)
      go true e = rw (state-grows st e, table-grows st m.table e) (does e)
      go false e = rw (state-stays st e, table_stays st m.table e) (stays e)
