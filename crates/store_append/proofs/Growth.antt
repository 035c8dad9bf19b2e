-- What growing a table asks, and that a grown one stands in the lent words. Assumes nothing.
use Prim.Native.Nat.{ℕ, ◌+◌, ◌/◌, ◌≤◌, ◌<◌}
use mathlib.Core.Path.{◌≡◌, refl, sym, subst}
use mathlib.Core.Bool.{Bool, true, false, cond}
use native.Mathlib.Omega.{arith}
use borrow.Author.Tests.{leb-true}
use Rattle.limits.specs.Limits.{bucket_limit}
use Rattle.numbers.proofs.Tests.{both}
use Rattle.shared_arena_hashmap.specs.Power.{grown_length}
use Rattle.shared_arena_hashmap.proofs.Laws.{power_facts}
use Rattle.store_state.specs.declared.State.{State}
use Rattle.store_append.specs.Append.{room_to_grow, is_saturated, grows, grown_state, state_grown}
use Rattle.store_state.specs.State.{lent_buckets}
use Rattle.store_state.proofs.Whole.{Whole, buckets_few}

-- a table that grows fits the lent words at the other end
pub grown-fits : (st : State) → room_to_grow st ≡ true → grown_length st.buckets ≤ lent_buckets st.words
grown-fits st e =
    let h : st.buckets + grown_length st.buckets ≤ lent_buckets st.words = leb-true _ _ e in omega arith

-- what growing the table asks
pub record Growable (st : State) (words : ℕ) : Type 0 where
  pub words_is : st.words ≡ words
  pub fits : st.buckets ≤ st.words / 2
  pub some : 0 < st.buckets
  pub keys_le : st.keys ≤ st.buckets
  pub few : st.buckets ≤ bucket_limit

pub growable : (st : State) (words key_bytes list_bytes : ℕ) → Whole st words key_bytes list_bytes → Growable st words
growable st w k l h = record {
  words_is = h.words_is;
  fits = subst (λ (n : ℕ). st.buckets ≤ n / 2) (sym h.words_is) h.buckets_le;
  some = (power_facts st.buckets h.power).some;
  keys_le = h.keys_le;
  few = buckets_few st w k l h;
}

-- a grown table stands in the lent words too
pub grown-stands : (st : State) (words : ℕ) → Growable st words
    → (0 < (state_grown st).buckets)
    × (((state_grown st).buckets ≤ (state_grown st).words / 2) × ((state_grown st).words ≡ words))
unfolding state_grown
grown-stands st w h = go (grows st) refl
  where
    go : (b : Bool) → grows st ≡ b
        → (0 < (cond b (grown_state st) st).buckets)
        × (((cond b (grown_state st) st).buckets ≤ (cond b (grown_state st) st).words / 2)
        × ((cond b (grown_state st) st).words ≡ w))
    go true e = (omega arith, (grown-fits st (both (is_saturated st) (room_to_grow st) e).1, h.words_is))
    go false e = (h.some, (h.fits, h.words_is))
