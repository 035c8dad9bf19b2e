-- What the exported calls promise, one value. Assumes nothing.
use Prim.Native.Nat.{ℕ, ◌≤◌, ◌<◌, ◌^◌}
use mathlib.Core.Logic.{◌≢◌}
use mathlib.Core.Path.{◌≡◌, refl, sym, ap, ◌∙◌}
use mathlib.Core.Bool.{Bool, true, false, cond}
use mathlib.Core.List.{List}
use native.Mathlib.Omega.{arith}
use lib.ListN.{length}
use borrow.Author.Tests.{le-leb}
use Rattle.numbers.specs.LittleEndian.{Bytes}
use Rattle.spans.specs.Span.{overwrite}
use Rattle.shared_arena_hashmap.specs.Power.{rounded_down}
use Rattle.shared_arena_hashmap.specs.Buckets.{cleared}
use Rattle.store_state.specs.declared.State.{State}
use Rattle.store_create.specs.Create.{Created}
use Rattle.store_append.specs.declared.Appended.{Appended}
use Rattle.store_append.specs.declared.Appended.TheVariants.{Accepted, Declined}
use Rattle.store_create.specs.Create.{out, creatable, fresh_state, create_of}
use Rattle.store_look.specs.Look.{Lent, lent}
use Rattle.store_append.specs.Append.{Out, append_of}
use Rattle.store.proofs.Kept.{create_whole, append-whole}
use Rattle.store.proofs.Promises.{promises as store_promises}
use Rattle.state_area.specs.Area.{area_size, sensible_area, state_at, area_of, Fits}
use Rattle.state_area.proofs.Laws.{sensible-long}
use Rattle.state_area.proofs.Promises.{promises as area_promises}
use Rattle.c_told.specs.Told.{saved_created, created, saved_appended, appended}
use Rattle.c_told.proofs.Seed.{seed_kept}
use Rattle.c_exports.specs.Calls.{create_in, append_in}
use Rattle.c_exports.specs.Promises.{Held, Promises}
use Rattle.std.specs.Prelude.{Ok, Err}
use Rattle.limits.specs.declared.Refusal.TheVariants.{NotCreatable}

-- a state that fits, saved
held : (x : ℕ × List ℕ) (st : State) (area : List ℕ) → x ≡ (0, overwrite 0 (area_of st) area) → Fits st
    → area_size ≤ length area → Held x st
held x st area e f h =
    let k : x.1 ≡ overwrite 0 (area_of st) area = ap (λ (y : ℕ × List ℕ). y.1) e in (
      ap (λ (y : ℕ × List ℕ). y.0) e,
      (
        ap sensible_area k ∙ area_promises.saved_sensible st area h,
        ap state_at k ∙ area_promises.saved_loaded st area f h,
      ),
    )

-- what an accepted creation says of its settings
made_facts : (capacity seed size : ℕ) (table : List ℕ) (k l : ℕ) (st : State)
    → (create_of capacity seed size table k l).answer ≡ Ok st
    → (creatable capacity size (length table) k l ≡ true) × (st.seed ≡ seed)
unfolding create_of
made_facts capacity seed size table k l st = go (creatable capacity size (length table) k l) refl
  where
    new : State
    new = fresh_state seed size (length table) k l (rounded_down capacity)

    go : (b : Bool) → creatable capacity size (length table) k l ≡ b
        → (cond b (out (Ok new) (cleared 0 (rounded_down capacity) table)) (out (Err NotCreatable) table)).answer ≡ Ok st
        → (creatable capacity size (length table) k l ≡ true) × (st.seed ≡ seed)
    go true c e = let q : new ≡ st = cc in (c, sym (ap (λ (s : State). s.seed) q))
    go false c e = let z : ◌≡◌ {A = ℕ} 0 1 = cc in absurd (omega arith)

create_held : (capacity seed size : ℕ) (area table keys lists : List ℕ) (st : State) → seed < 2 ^ 32
    → area_size ≤ length area → (create_of capacity seed size table (length keys) (length lists)).answer ≡ Ok st
    → Held (create_in capacity seed size area table (length keys) (length lists)).0 st
create_held capacity seed size area table keys lists st s h e =
    let c = made_facts capacity seed size table (length keys) (length lists) st e in
    let o = create_of capacity seed size table (length keys) (length lists) in
    let i : create_in capacity seed size area table (length keys) (length lists) ≡ created o area =
    rw (c.0, le-leb area_size (length area) h) in
    let w = create_whole capacity seed size table keys lists st e in
    let fits = area_promises.whole-fits st (lent o.table keys lists) w (omega (arith, c.1)) in
    held (create_in capacity seed size area table (length keys) (length lists)).0 st area
    (ap (λ (y : (ℕ × List ℕ) × List ℕ). y.0) i ∙ ap (λ (r : Created). saved_created r area) e) fits h

append-held : (area : List ℕ) (m : Lent) (name bytes : List ℕ) (st : State) → Bytes area
    → sensible_area area ≡ true → (append_of (state_at area) m name bytes).answer ≡ Accepted st
    → Held (append_in area m name bytes).0 st
append-held area m name bytes st b g e =
    let h = sensible-long area g in
    let o = append_of (state_at area) m name bytes in
    let i : append_in area m name bytes ≡ appended o area = rw g in
    let n = (area_promises.held_fits area b h).seed_fits in
    let k = seed_kept (state_at area) m name bytes st e in
    let w = append-whole (state_at area) m name bytes st e in
    let fits = area_promises.whole-fits st o.memory w (omega (arith, n, k)) in
    held (append_in area m name bytes).0 st area
    (ap (λ (y : (ℕ × List ℕ) × Lent). y.0) i ∙ ap (λ (r : Appended). saved_appended r area) e) fits h

-- an answer with a code other than 0 is a refusal
unchanged : (st : State) (area : List ℕ) (m : Lent) (name bytes : List ℕ) (r : Appended)
    → (append_of st m name bytes).answer ≡ r → (saved_appended r area).0 ≢ 0
    → ((saved_appended r area).1 ≡ area) × ((append_of st m name bytes).memory ≡ m)
unchanged st area m name bytes (Accepted s) e n = absurd (n refl)
unchanged st area m name bytes (Declined s k) e n =
    (refl, ap (λ (o : Out). o.memory) (store_promises.append_refused st m name bytes s k e))

append_unchanged : (area : List ℕ) (m : Lent) (name bytes : List ℕ) → (append_in area m name bytes).0.0 ≢ 0
    → ((append_in area m name bytes).0.1 ≡ area) × ((append_in area m name bytes).1 ≡ m)
append_unchanged area m name bytes = go (sensible_area area)
  where
    o : Out
    o = append_of (state_at area) m name bytes

    go : (b : Bool) → (cond b (appended o area) ((2, area), m)).0.0 ≢ 0
        → ((cond b (appended o area) ((2, area), m)).0.1 ≡ area) × ((cond b (appended o area) ((2, area), m)).1 ≡ m)
    go true n = unchanged (state_at area) area m name bytes o.answer refl n
    go false n = (refl, refl)

pub promises : Promises
promises = record {
  create_held = create_held;
  append-held = append-held;
  append_unchanged = append_unchanged;
  senseless_2 = λ area m name bytes e. rw e;
}
