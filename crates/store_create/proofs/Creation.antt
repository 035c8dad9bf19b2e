-- What creation takes, in numbers, and its two cases. Assumes nothing.
use Prim.Native.Nat.{ℕ, ◌+◌, ◌*◌, ◌≤◌, ◌<◌}
use mathlib.Core.Path.{◌≡◌}
use mathlib.Core.Bool.{true, false, ◌&&◌}
use native.Mathlib.Nat.{zero-mul}
use native.Mathlib.Omega.{arith}
use mathlib.Core.List.{List}
use lib.Dec.{leb, ltb}
use lib.ListN.{length}
use borrow.Author.Tests.{leb-true, ltb-true}
use Rattle.limits.specs.Limits.{page_taken, arena_limit_for}
use Rattle.numbers.proofs.Tests.{both}
use Rattle.memory_arena.specs.Pages.{lendable}
use Rattle.memory_arena.specs.Calls.{sensible}
use Rattle.memory_arena.proofs.Laws.{sensible_made, standing_made}
use Rattle.shared_arena_hashmap.specs.Power.{rounded_down}
use Rattle.shared_arena_hashmap.specs.Buckets.{cleared}
use Rattle.std.specs.Prelude.{Ok, Err}
use Rattle.limits.specs.declared.Refusal.TheVariants.{NotCreatable}
use Rattle.store_create.specs.Create.{out, creatable, unused, fresh_state, create_of}
use Rattle.store_state.specs.State.{lent_buckets, words_taken}

-- what creation takes, clause by clause
pub record Creatable (capacity size words key_bytes list_bytes : ℕ) : Type 0 where
  pub sized : page_taken size ≡ true
  pub some : 0 < capacity
  pub key_pages : lendable (arena_limit_for size) key_bytes ≡ true
  pub list_pages : lendable (arena_limit_for size) list_bytes ≡ true
  pub taken : words_taken words ≡ true
  pub buckets_le : rounded_down capacity ≤ lent_buckets words

pub creatable_facts : (capacity size words key_bytes list_bytes : ℕ)
    → creatable capacity size words key_bytes list_bytes ≡ true
    → Creatable capacity size words key_bytes list_bytes
unfolding creatable
creatable_facts c z w k l e =
    let y = lendable (arena_limit_for z) in
    let o = both (page_taken z) (ltb 0 c && (y k && (y l && (words_taken w && leb (rounded_down c) (lent_buckets w))))) e in
    let p = both (ltb 0 c) (y k && (y l && (words_taken w && leb (rounded_down c) (lent_buckets w)))) o.1 in
    let q = both (y k) (y l && (words_taken w && leb (rounded_down c) (lent_buckets w))) p.1 in
    let r = both (y l) (words_taken w && leb (rounded_down c) (lent_buckets w)) q.1 in
    let s = both (words_taken w) (leb (rounded_down c) (lent_buckets w)) r.1 in
    record {
      sized = o.0;
      some = ltb-true _ _ p.0;
      key_pages = q.0;
      list_pages = r.0;
      taken = s.0;
      buckets_le = leb-true _ _ s.1;
    }

pub creatable-room : (capacity size words key_bytes list_bytes : ℕ)
    → creatable capacity size words key_bytes list_bytes ≡ true → 2 * (0 + rounded_down capacity) ≤ words
creatable-room c z w k l e = omega (arith, (creatable_facts c z w k l e).buckets_le)

-- an arena with nothing used is a sensible one
pub unused-sensible : (size len : ℕ) → page_taken size ≡ true → lendable (arena_limit_for size) len ≡ true
    → sensible (unused size) len ≡ true
unused-sensible s len t e =
    let p = both (ltb 0 len) (leb len (arena_limit_for s)) e in
    let z : 0 < len = ltb-true _ _ p.0 in
    sensible_made (unused s) len
    (record {
      sized = t;
      some_bytes = p.0;
      short = p.1;
      stands =
          standing_made (unused s) len
          (record { exists = rw zero-mul z; in_page = omega arith; in_memory = rw zero-mul (omega arith) });
    })

pub create_made : (capacity seed size : ℕ) (table : List ℕ) (key_bytes list_bytes : ℕ)
    → creatable capacity size (length table) key_bytes list_bytes ≡ true
    → create_of capacity seed size table key_bytes list_bytes
    ≡ out (Ok (fresh_state seed size (length table) key_bytes list_bytes (rounded_down capacity)))
    (cleared 0 (rounded_down capacity) table)
unfolding create_of
create_made c s z t k l e = rw e

pub create_barred : (capacity seed size : ℕ) (table : List ℕ) (key_bytes list_bytes : ℕ)
    → creatable capacity size (length table) key_bytes list_bytes ≡ false
    → create_of capacity seed size table key_bytes list_bytes ≡ out (Err NotCreatable) table
unfolding create_of
create_barred c s z t k l e = rw e
