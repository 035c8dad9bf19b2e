-- What the whole-state check says, in numbers, and that it is made again from those. Assumes nothing.
use Prim.Native.Nat.{ℕ, ◌+◌, ◌*◌, ◌%◌, ◌≤◌}
use mathlib.Core.Path.{◌≡◌, sym, subst}
use mathlib.Core.Bool.{Bool, true, false, ◌&&◌}
use native.Mathlib.Omega.{arith}
use lib.Dec.{leb, eqb}
use borrow.Author.Tests.{le-leb, leb-true, eq-eqb, eqb-true}
use Rattle.limits.specs.Limits.{word_limit, bucket_limit}
use Rattle.numbers.proofs.Tests.{both, both_true}
use Rattle.memory_arena.specs.Calls.{sensible}
use Rattle.shared_arena_hashmap.specs.Power.{power_of_two}
use Rattle.shared_arena_hashmap.specs.Buckets.{first_bucket}
use Rattle.store_state.specs.declared.State.{State}
use Rattle.store_state.specs.State.{lent_buckets, words_taken, lengths_equal, table_fits, sizes_equal, whole_state}
use Rattle.store_state.specs.State.{first_of}

-- the check, clause by clause
pub record Whole (st : State) (words key_bytes list_bytes : ℕ) : Type 0 where
  pub words_is : st.words ≡ words
  pub key_bytes_is : st.key_bytes ≡ key_bytes
  pub list_bytes_is : st.list_bytes ≡ list_bytes
  pub taken : words_taken words ≡ true
  pub power : power_of_two st.buckets ≡ true
  pub buckets_le : st.buckets ≤ lent_buckets words
  pub keys_le : st.keys ≤ st.buckets
  pub sizes_are : st.key_arena.size ≡ st.list_arena.size
  pub key_arena : sensible st.key_arena key_bytes ≡ true
  pub list_arena : sensible st.list_arena list_bytes ≡ true

pub whole_facts : (st : State) (words key_bytes list_bytes : ℕ) → whole_state st words key_bytes list_bytes ≡ true
    → Whole st words key_bytes list_bytes
unfolding whole_state
whole_facts st w k l e =
    let p = both (lengths_equal st w k l)
    (words_taken w && (table_fits st w
    && (sizes_equal st && (sensible st.key_arena k && sensible st.list_arena l)))) e in
    let q = both (words_taken w)
    (table_fits st w && (sizes_equal st && (sensible st.key_arena k && sensible st.list_arena l)))
    p.1 in
    let r = both (table_fits st w) (sizes_equal st && (sensible st.key_arena k && sensible st.list_arena l))
    q.1 in
    let z = both (sizes_equal st) (sensible st.key_arena k && sensible st.list_arena l) r.1 in
    let s = both (sensible st.key_arena k) (sensible st.list_arena l) z.1 in
    let a = both (eqb st.words w && eqb st.key_bytes k) (eqb st.list_bytes l) p.0 in
    let b = both (eqb st.words w) (eqb st.key_bytes k) a.0 in
    let c = both (power_of_two st.buckets && leb st.buckets (lent_buckets w)) (leb st.keys st.buckets)
    r.0 in
    let d = both (power_of_two st.buckets) (leb st.buckets (lent_buckets w)) c.0 in
    record {
      words_is = eqb-true _ _ b.0;
      key_bytes_is = eqb-true _ _ b.1;
      list_bytes_is = eqb-true _ _ a.1;
      taken = q.0;
      power = d.0;
      buckets_le = leb-true _ _ d.1;
      keys_le = leb-true _ _ c.1;
      sizes_are = eqb-true _ _ z.0;
      key_arena = s.0;
      list_arena = s.1;
    }

pub whole_made : (st : State) (words key_bytes list_bytes : ℕ) → Whole st words key_bytes list_bytes
    → whole_state st words key_bytes list_bytes ≡ true
unfolding whole_state
whole_made st w k l h =
    both_true _ _ (both_true _ _ (both_true _ _ (eq-eqb _ _ h.words_is) (eq-eqb _ _ h.key_bytes_is))
    (eq-eqb _ _ h.list_bytes_is))
    (both_true _ _ h.taken
    (both_true _ _ (both_true _ _ (both_true _ _ h.power (le-leb _ _ h.buckets_le)) (le-leb _ _ h.keys_le))
    (both_true _ _ (eq-eqb _ _ h.sizes_are) (both_true _ _ h.key_arena h.list_arena))))

pub taken_facts : (words : ℕ) → words_taken words ≡ true → (words % 2 ≡ 0) × (words ≤ word_limit)
taken_facts w e = let p = both (eqb (w % 2) 0) (leb w word_limit) e in (eqb-true _ _ p.0, leb-true _ _ p.1)

-- the standing table lies in the lent words, at either end
pub first-in : (st : State) (words : ℕ) → st.words ≡ words → st.buckets ≤ lent_buckets words
    → 2 * (first_of st + st.buckets) ≤ words
first-in st w e h = go st.back
  where
    go : (b : Bool) → 2 * (first_bucket b (lent_buckets st.words) st.buckets + st.buckets) ≤ w
    go true = rw e (omega arith)
    go false = omega arith

-- which is what a search in it asks
pub find_asks : (st : State) (words key_bytes list_bytes : ℕ) → Whole st words key_bytes list_bytes → (first : ℕ)
    → first ≡ first_of st
    → (sensible st.key_arena key_bytes ≡ true)
    × ((power_of_two st.buckets ≡ true) × (2 * (first + st.buckets) ≤ words))
find_asks st w k l h first e = (
  h.key_arena,
  (
    h.power,
    subst (λ (f : ℕ). 2 * (f + st.buckets) ≤ w) (sym e) (first-in st w h.words_is h.buckets_le),
  ),
)

pub buckets_few : (st : State) (words key_bytes list_bytes : ℕ) → Whole st words key_bytes list_bytes
    → st.buckets ≤ bucket_limit
buckets_few st w k l h = omega (arith, h.buckets_le, (taken_facts w h.taken).1)
