-- The store's promises, one value each. Assumes nothing.
use Prim.Native.Nat.{ℕ}
use mathlib.Core.Path.{◌≡◌, refl, ap, ◌∙◌}
use mathlib.Core.Bool.{Bool, true, false, cond}
use mathlib.Core.List.{List, []}
use native.Mathlib.Omega.{arith}
use lib.ListN.{length}
use Rattle.limits.specs.Refusals.{one-outcome}
use Rattle.shared_arena_hashmap.specs.Power.{rounded_down}
use Rattle.shared_arena_hashmap.specs.Buckets.{cleared}
use Rattle.store_state.specs.declared.State.{State}
use Rattle.store_append.specs.declared.Appended.TheVariants.{Declined}
use Rattle.store_create.specs.Create.{out as creation, creatable, fresh_state, create_of}
use Rattle.store_look.specs.declared.Lookup.{Lookup}
use Rattle.store_look.specs.declared.Lookup.TheVariants.{Missing}
use Rattle.store_look.specs.declared.Answer.TheVariants.{Absent}
use Rattle.store_look.specs.Look.{Lent, checked, lookup_of, on_lookup, on_lookup_read, length_at, length_of, reading, read_at}
use Rattle.store_look.specs.Look.{read_of, block_at, find_block_of}
use Rattle.store_append.specs.Append.{out, declined, append_of}
use Rattle.store.specs.Promises.{Promises, Settled}
use Rattle.store_state.proofs.Guard.{kind-nameless}
use Rattle.store_append.proofs.Cases.{append_13}
use Rattle.store_look.proofs.Found.{lookup-nameless}
use Rattle.store_look.proofs.Fair.{fair-read}
use Rattle.store_append.proofs.Fair.{fair-append}
use Rattle.store.proofs.Kept.{create_whole, append-whole, append_size}
use Rattle.store.proofs.Enters.{append-enters}
use Rattle.std.specs.Prelude.{Ok, Err}
use Rattle.limits.specs.declared.Refusal.{Refusal}
use Rattle.limits.specs.declared.Refusal.TheVariants.{NotCreatable}

create_refused : (capacity seed size : ℕ) (table : List ℕ) (key_bytes list_bytes : ℕ) (e : Refusal)
    → (create_of capacity seed size table key_bytes list_bytes).answer ≡ Err e
    → create_of capacity seed size table key_bytes list_bytes ≡ creation (Err NotCreatable) table
unfolding create_of
create_refused capacity seed size table key_bytes list_bytes e =
    go (creatable capacity size (length table) key_bytes list_bytes)
  where
    fresh : State
    fresh = fresh_state seed size (length table) key_bytes list_bytes (rounded_down capacity)

    go : (b : Bool)
        → (cond b (creation (Ok fresh) (cleared 0 (rounded_down capacity) table))
        (creation (Err NotCreatable) table)).answer ≡ Err e
        → cond b (creation (Ok fresh) (cleared 0 (rounded_down capacity) table)) (creation (Err NotCreatable) table)
        ≡ creation (Err NotCreatable) table
    go true q = let z : ◌≡◌ {A = ℕ} 0 1 = cc in absurd (omega arith)
    go false q = refl

append_refused : (st : State) (m : Lent) (name bytes : List ℕ) (st' : State) (n : ℕ)
    → (append_of st m name bytes).answer ≡ Declined st' n → append_of st m name bytes ≡ declined st m n
append_refused st m name bytes st' n e =
    let k = (fair-append st m name bytes).kept st' n e in
    λ i. out ((e ∙ ap (λ (s : State). Declined s n) k.0) i) (k.1 i)

nameless_absent : (st : State) (m : Lent) → checked st m ≡ true → (lookup_of st m [] ≡ Missing)
    × (length_of st m [] ≡ Absent)
    × ((output : List ℕ) → read_of st m [] output ≡ reading Absent output)
    × ((i : ℕ) → find_block_of st m [] i ≡ Absent)
unfolding length_of read_of find_block_of
nameless_absent st m c =
    let l = lookup-nameless st m [] c (kind-nameless st 0 refl) in (
      l,
      ap (λ (x : Lookup). on_lookup x (length_at m.keys)) l,
      λ output. ap (λ (x : Lookup). on_lookup_read x (λ at. read_at st m at output) output) l,
      λ i. ap (λ (x : Lookup). on_lookup x (block_at st m i)) l,
    )

pub promises : Promises
promises = record {
  create_refused = create_refused;
  append_refused = append_refused;
  read_refused = λ st m name output n told e. λ i. reading (e i) ((fair-read st m name output).kept n told e i);
  read_absent = λ st m name output e. λ i. reading (e i) ((fair-read st m name output).kept_absent e i);
  create_whole = create_whole;
  append-whole = append-whole;
  append_size = append_size;
  append-enters = append-enters;
  nameless_refused = λ st m bytes c. append_13 st m [] bytes c (kind-nameless st 0 refl);
  nameless_absent = nameless_absent;
}

pub settled : Settled
settled = record {
  create_settled = λ capacity seed size table key_bytes list_bytes x y p q. one-outcome p q;
  append_settled = λ st m name bytes x y p q. one-outcome p q;
  lookup_settled = λ st m name x y p q. one-outcome p q;
  length_settled = λ st m name x y p q. one-outcome p q;
  read-settled = λ st m name output x y p q. one-outcome p q;
  block_settled = λ st m name i x y p q. one-outcome p q;
  show_settled = λ st m at n x y p q. one-outcome p q;
  next_settled = λ st m i x y p q. one-outcome p q;
  count_settled = λ st m x y p q. one-outcome p q;
}
