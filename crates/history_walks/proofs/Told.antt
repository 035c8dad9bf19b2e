-- What the walk told is: its place in the probe order on any memory, and few in a history. Assumes nothing.
use Prim.Native.Nat.{ℕ, zero, suc, ◌+◌, ◌≤◌, ◌<◌}
use mathlib.Core.Path.{◌≡◌, refl, sym, ap, ◌∙◌}
use mathlib.Core.Bool.{Bool, true, false}
use mathlib.Core.List.{List, []}
use native.Mathlib.Omega.{arith}
use lib.ListN.{length}
use Rattle.murmurhash2.specs.Murmur.{murmur_hash2}
use Rattle.shared_arena_hashmap.specs.Probe.{start_of, probe, lookup}
use Rattle.shared_arena_hashmap.proofs.Room.{start-below}
use Rattle.shared_arena_hashmap.proofs.Laws.{power_facts}
use Rattle.store_state.specs.declared.State.{State}
use Rattle.store_state.specs.declared.Name.{Name}
use Rattle.store_state.specs.declared.Name.TheVariants.{TooLong, Nameless, Proper}
use Rattle.store_state.specs.State.{first_of}
use Rattle.store_state.specs.Name.{name_kind}
use Rattle.store_look.specs.Look.{Lent, checked, walk_of, looked_of, on_met}
use Rattle.store_look.proofs.Found.{lookup-met, looked_2, looked_3, looked-nameless, looked-walk}
use Rattle.store_state.proofs.Guard.{kind-nameless}
use Rattle.store_state.proofs.Whole.{whole_facts}
use Rattle.history.specs.History.{World, Born, Call, play}
use Rattle.history.proofs.Demand.{walk_few}
use Rattle.history_walks.specs.Walks.{seen_in, last_met, WalkTold, Walks, WalksFew}
use Rattle.history_walks.proofs.Order.{Went, probe-went}

-- the walk of a table that has a bucket
went : (st : State) (m : Lent) (name : List ℕ) → 0 < st.buckets
    → Went m.table m.keys st.key_arena (first_of st) st.buckets (murmur_hash2 st.seed name) name
    st.buckets 0 (walk_of st m name)
unfolding walk_of lookup
went st m name h = go st.buckets refl h
  where
    hash : ℕ
    hash = murmur_hash2 st.seed name

    go : (n : ℕ) → st.buckets ≡ n → 0 < n
        → Went m.table m.keys st.key_arena (first_of st) st.buckets hash name
        n 0 (probe m.table m.keys st.key_arena (first_of st) st.buckets hash name n
        (start_of st.buckets hash) 0)
    go zero e h = absurd (omega arith)
    go (suc n) e h =
        probe-went m.table m.keys st.key_arena (first_of st) st.buckets hash name n
        (start_of st.buckets hash) 0 (start-below st.buckets hash (omega (arith, e))) refl

told : (st : State) (m : Lent) (name : List ℕ) → checked st m ≡ true → name_kind st (length name) ≡ Proper
    → WalkTold st m name
told st m name c k =
    let W = whole_facts st (length m.table) (length m.keys) (length m.lists) c in
    let r = went st m name (power_facts st.buckets W.power).some in
    let e : looked_of st m name ≡ (walk_of st m name).looked = looked-walk st m name c k in
    record {
      at_least_one = omega (arith, e, r.on);
      at_most_l = omega (arith, e, r.within);
      passed_by = λ j p q. r.passed j p (omega (arith, e, q));
      answers = lookup-met st m name _ c k r.ends ∙ ap (λ (j : ℕ). on_met (last_met (seen_in st m name j))) (sym e);
      full_lap = λ o. omega (arith, e, r.lap (ap (seen_in st m name) (sym e) ∙ o));
    }

-- RULES N6, V15.
pub walks : Walks
walks = record {
  told = told;
  refused_2 = looked_2;
  refused_3 = λ st m name k. long st m name k (checked st m) refl;
  nameless = λ st m. none st m (checked st m) refl;
}
  where
    long : (st : State) (m : Lent) (name : List ℕ) → name_kind st (length name) ≡ TooLong
        → (b : Bool) → checked st m ≡ b → looked_of st m name ≡ 0
    long st m name k true c = looked_3 st m name c k
    long st m name k false c = looked_2 st m name c

    none : (st : State) (m : Lent) → (b : Bool) → checked st m ≡ b → looked_of st m [] ≡ 0
    none st m true c = looked-nameless st m [] c (kind-nameless st 0 refl)
    none st m false c = looked_2 st m [] c

-- RULES Y14.
pub walks-few : (capacity seed size : ℕ) (table keys lists : List ℕ) (w : World)
    → Born capacity seed size table keys lists w → (calls : List Call) (name : List ℕ) → WalksFew w calls name
walks-few capacity seed size table keys lists w B calls name =
    record { few = go (checked st m) refl (name_kind st (length name)) refl }
  where
    st : State
    st = (play calls w).state

    m : Lent
    m = (play calls w).memory

    go : (b : Bool) → checked st m ≡ b → (x : Name) → name_kind st (length name) ≡ x
        → looked_of st m name ≤ st.keys + 1
    go false c x k = omega (arith, looked_2 st m name c)
    go true c TooLong k = omega (arith, looked_3 st m name c k)
    go true c Nameless k = omega (arith, looked-nameless st m name c k)
    go true c Proper k =
        omega (arith, looked-walk st m name c k, walk_few capacity seed size table keys lists w B calls name)
