-- What `lending::lend_for` tells is enough, and creation takes it. Assumes nothing.
use Prim.Native.Nat.{ℕ, ◌+◌, ◌-◌, ◌*◌, ◌%◌, ◌≤◌, ◌<◌}
use mathlib.Core.Path.{◌≡◌, refl}
use mathlib.Core.Bool.{Bool, true, false, cond, ◌&&◌}
use native.Mathlib.Nat.{suc-mul}
use native.Mathlib.Omega.{arith}
use lib.Dec.{leb}
use borrow.Author.Tests.{leb-true, le-leb, lt-ltb, eq-eqb, eqb-true}
use Rattle.limits.specs.Limits.{page_taken, arena_limit_for, bucket_limit, word_limit, record_extra}
use Rattle.numbers.proofs.Tests.{both, both_true}
use Rattle.shared_arena_hashmap.specs.Power.{rounded_down, power_of_two}
use Rattle.shared_arena_hashmap.proofs.Laws.{power_facts, rounded_is_power, rounded_near}
use Rattle.store_state.specs.State.{lent_buckets}
use Rattle.store_create.specs.Create.{creatable}
use Rattle.lending.specs.declared.Lend.TheVariants.{Areas, TooMuch, NoSuchPage}
use Rattle.lending.specs.Lending.{list_bytes_for, records_on, key_bytes_for, capacity_for, buckets_for, asks_few, lends_few}
use Rattle.lending.specs.Lending.{areas_for, lend_for}
use Rattle.lending.proofs.Laws.{asked_facts}
use Rattle.shift_cost.specs.Promises.{LentFor, TellsEnough}

-- a capacity that needn't grow
capacity_enough : (lanes : ℕ) → lanes ≤ bucket_limit → 2 * lanes ≤ capacity_for lanes + 1
unfolding capacity_for
capacity_enough lanes h = omega (arith, rounded_near (4 * lanes - 3) (omega arith))

capacity_rounded : (lanes : ℕ) → rounded_down (capacity_for lanes) ≡ capacity_for lanes
unfolding capacity_for power_of_two
capacity_rounded lanes =
    eqb-true (rounded_down (rounded_down (4 * lanes - 3))) (rounded_down (4 * lanes - 3))
    (rounded_is_power (4 * lanes - 3))

capacity_some : (lanes : ℕ) → 0 < capacity_for lanes
unfolding capacity_for
capacity_some lanes = (power_facts (rounded_down (4 * lanes - 3)) (rounded_is_power (4 * lanes - 3))).some

table_enough : (lanes : ℕ) → lanes ≤ bucket_limit → buckets_for (capacity_for lanes) lanes
    ≤ lent_buckets (2 * capacity_for lanes)
unfolding buckets_for
table_enough lanes h =
    rw (capacity_rounded lanes, le-leb (2 * lanes - 1) (capacity_for lanes) (omega (arith, capacity_enough lanes h)))
    (omega arith)

module _ (size lanes bytes longest : ℕ) where
  abbrev key_bytes : ℕ
  key_bytes = key_bytes_for size lanes longest

  abbrev list_bytes : ℕ
  list_bytes = list_bytes_for size lanes bytes

  key_some : 0 < key_bytes
  key_some = omega (arith, suc-mul ((lanes - 1) % records_on size longest) (longest + record_extra))

  taken : page_taken size ≡ true → asks_few size lanes bytes longest ≡ true
      → lends_few size (capacity_for lanes) key_bytes list_bytes ≡ true
      → LentFor size lanes bytes longest (capacity_for lanes) (2 * capacity_for lanes) key_bytes list_bytes
      × (creatable (capacity_for lanes) size (2 * capacity_for lanes) key_bytes list_bytes ≡ true)
  unfolding creatable
  taken t a l =
      let f = asked_facts size lanes bytes longest a in
      let p = both (leb (capacity_for lanes) bucket_limit) (leb key_bytes (arena_limit_for size) && leb list_bytes
      (arena_limit_for size)) l in
      let q = both (leb key_bytes (arena_limit_for size)) (leb list_bytes (arena_limit_for size)) p.1 in
      let c : capacity_for lanes ≤ bucket_limit = leb-true (capacity_for lanes) bucket_limit p.0 in (
        record {
          short = omega (arith, f.1.1);
          few = f.0;
          table = table_enough lanes f.0;
          keys = omega arith;
          lists = omega arith;
        },
        both_true _ _ t (both_true _ _ (lt-ltb 0 (capacity_for lanes) (capacity_some lanes))
            (both_true _ _ (both_true _ _ (lt-ltb 0 key_bytes key_some) q.0)
            (both_true _ _ (both_true _ _ (lt-ltb 0 list_bytes (omega arith)) q.1)
            (both_true _ _
            (both_true _ _ (eq-eqb (2 * capacity_for lanes % 2) 0 (omega arith))
            (le-leb (2 * capacity_for lanes) word_limit (omega arith)))
            (rw (capacity_rounded lanes) (le-leb (capacity_for lanes) (lent_buckets (2 * capacity_for lanes))
            (omega arith))))))),
      )

  -- FOURTEEN: what is told to lend is enough
  pub tells_enough : TellsEnough size lanes bytes longest
  unfolding lend_for
  tells_enough capacity words kb lb e =
      go (page_taken size) refl (asks_few size lanes bytes longest) refl
      (lends_few size (capacity_for lanes) key_bytes list_bytes) refl e
    where
      go : (t : Bool) → page_taken size ≡ t → (a : Bool) → asks_few size lanes bytes longest ≡ a → (l : Bool)
          → lends_few size (capacity_for lanes) key_bytes list_bytes ≡ l
          → cond t (cond a (cond l (areas_for size lanes bytes longest) TooMuch) TooMuch) NoSuchPage
          ≡ Areas capacity words kb lb
          → LentFor size lanes bytes longest capacity words kb lb × (creatable capacity size words kb lb ≡ true)
      go true t true p true q e =
          let w : capacity_for lanes ≡ capacity = cc in
          let x : 2 * capacity_for lanes ≡ words = cc in
          let y : key_bytes ≡ kb = cc in
          let z : list_bytes ≡ lb = cc in
          rw (← w, ← x, ← y, ← z) (taken t p q)
      go true t true p false q e = let z : ◌≡◌ {A = ℕ} 0 1 = cc in absurd (omega arith)
      go true t false p l q e = let z : ◌≡◌ {A = ℕ} 0 1 = cc in absurd (omega arith)
      go false t a p l q e = let z : ◌≡◌ {A = ℕ} 0 1 = cc in absurd (omega arith)
