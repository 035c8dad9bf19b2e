-- What the exported join promises, one value. Assumes nothing.
use Prim.Native.Nat.{ℕ}
use mathlib.Core.Path.{◌≡◌, refl, ap, ◌∙◌}
use mathlib.Core.Bool.{Bool, true, false, cond, ◌&&◌}
use mathlib.Core.List.{List}
use Rattle.numbers.specs.LittleEndian.{Bytes}
use Rattle.numbers.proofs.Tests.{both}
use Rattle.spans.specs.Span.{overwrite}
use Rattle.store_look.specs.Look.{Lent}
use Rattle.history.specs.History.{World}
use Rattle.join.specs.declared.Joined.{Joined}
use Rattle.join.specs.declared.Joined.TheVariants.{Whole, Halted}
use Rattle.join.specs.Join.{store, lanes_in}
use Rattle.state_area.specs.Area.{sensible_area, state_at, area_of}
use Rattle.state_area.proofs.Laws.{sensible-long}
use Rattle.state_area.proofs.Promises.{promises as area_promises}
use Rattle.c_told.specs.Told.{says}
use Rattle.c_join.specs.Joined.{saved_joined, Joining, joining, joined, join_in}
use Rattle.c_join.specs.Promises.{state_in, outcome_in, Promises}
use Rattle.c_join.proofs.Kept.{join_fits, join_none}

-- the state is saved whatever the answer
saved_is : (r : Joined) (told area : List ℕ) → (saved_joined r told area).1 ≡ overwrite 0 (area_of (state_in r)) area
saved_is (Whole st k) told area = refl
saved_is (Halted st n k) told area = refl

module _ (area : List ℕ) (m : Lent) (area2 : List ℕ) (m2 : Lent) (scratch told : List ℕ) where
  join_held : Bytes area → sensible_area area ≡ true → sensible_area area2 ≡ true
      → (sensible_area (join_in area m area2 m2 scratch told).saved.1 ≡ true)
      × (state_at (join_in area m area2 m2 scratch told).saved.1
      ≡ state_in (outcome_in area m area2 m2 scratch).answer)
  join_held b g h =
      let l = sensible-long area g in
      let r = (outcome_in area m area2 m2 scratch).answer in
      let i : join_in area m area2 m2 scratch told ≡ joined (outcome_in area m area2 m2 scratch) told area = rw (g, h) in
      let k : (join_in area m area2 m2 scratch told).saved.1 ≡ overwrite 0 (area_of (state_in r)) area =
      ap (λ (j : Joining). j.saved.1) i ∙ saved_is r told area in
      let f = join_fits (store (state_at area) m) (store (state_at area2) m2) scratch
      (area_promises.held_fits area b l) in (
        ap sensible_area k ∙ area_promises.saved_sensible (state_in r) area l,
        ap state_at k ∙ area_promises.saved_loaded (state_in r) area f l,
      )

  none_unchanged : Bytes area → lanes_in (outcome_in area m area2 m2 scratch).answer ≡ 0
      → ((join_in area m area2 m2 scratch told).saved.1 ≡ area) × ((join_in area m area2 m2 scratch told).memory ≡ m)
  none_unchanged b z = go (sensible_area area && sensible_area area2) refl
    where
      same : store (state_in (outcome_in area m area2 m2 scratch).answer) (outcome_in area m area2 m2 scratch).memory
          ≡ store (state_at area) m
      same = join_none (store (state_at area) m) (store (state_at area2) m2) scratch z

      go : (c : Bool) → (sensible_area area && sensible_area area2) ≡ c
          → ((cond c (joined (outcome_in area m area2 m2 scratch) told area)
          (joining (says 2 0 0 told, area) m scratch)).saved.1 ≡ area)
          × ((cond c (joined (outcome_in area m area2 m2 scratch) told area)
          (joining (says 2 0 0 told, area) m scratch)).memory ≡ m)
      go true e = (
        saved_is (outcome_in area m area2 m2 scratch).answer told area
            ∙ ap (λ (w : World). overwrite 0 (area_of w.state) area) same
            ∙ area_promises.loaded_saved area b (both (sensible_area area) (sensible_area area2) e).0,
        ap (λ (w : World). w.memory) same,
      )
      go false e = (refl, refl)

pub promises : Promises
promises = record {
  join_held = join_held;
  none_unchanged = none_unchanged;
  senseless_2 = λ area m area2 m2 scratch told e. rw e;
  senseless_2_second = λ area m area2 m2 scratch told e f. rw (e, f);
}
