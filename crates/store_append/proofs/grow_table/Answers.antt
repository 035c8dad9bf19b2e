-- The two reasons not to grow, and growth at the other end. Assumes nothing.
use Prim.Native.Nat.{ℕ, ◌+◌, ◌*◌, ◌/◌, ◌≤◌, ◌<◌}
use mathlib.Core.Bool.{true}
use mathlib.Core.Path.{◌≡◌, sym, ap, subst, ◌∙◌}
use native.Mathlib.Omega.{arith}
use lib.ListN.{length}
use Rattle.store_append.proofs.Cases.{state-stays, state-grows}
use Rattle.store_append.proofs.Cases.{table_stays, table-grows}
use Rattle.store_state.proofs.Whole.{first-in}
use Rattle.numbers.proofs.Tests.{both}
use Rattle.store_append.proofs.Growth.{grown-fits}
use Rattle.store_append.specs.Append.{room_to_grow, is_saturated, grows, grown_state}
use Rattle.store_state.specs.State.{first_of}
use Rattle.store_state.specs.declared.State.{State}
use Rattle.shared_arena_hashmap.specs.Grow.{grown}
use Rattle.shared_arena_hashmap.specs.Power.{grown_length}
use Rattle.store_append.proofs.grow_table.Goals as goal
use Rattle.store_append.proofs.grow_table.Goals.{Else-not-grows}

growing : (c : Else-not-grows) → grows c.args.st ≡ true
growing c = sym c.grows.ensures ∙ c.if-not-grows.false

-- the table has room to grow
room : (c : Else-not-grows) → room_to_grow c.args.st ≡ true
room c = (both (is_saturated c.args.st) (room_to_grow c.args.st) (sym c.grows.ensures ∙ c.if-not-grows.false)).1

pub returns-then-not-grows : goal.returns-then-not-grows
returns-then-not-grows c =
    let g = sym c.grows.ensures ∙ c.if-not-grows.true in (sym (state-stays _ g), sym (table_stays _ _ g))

pub first_bucket-first-requires : goal.first_bucket-first-requires
first_bucket-first-requires c =
    subst (λ (s : State). s.buckets ≤ s.words / 2) (sym c.grown_state-next.ensures) (grown-fits c.args.st (room
    (goal.at.first_bucket-first-requires c).Else-not-grows))

pub resize-requires : goal.resize-requires
resize-requires c =
    let f : c.first_bucket-first.result ≡ first_of (grown_state c.args.st) = c.first_bucket-first.ensures ∙ ap
    first_of c.grown_state-next.ensures in
    let k : 2 * (first_of (grown_state c.args.st) + grown_length c.args.st.buckets) ≤ length c.args.table.now =
    first-in (grown_state c.args.st) (length c.args.table.now) c.requires.0 (subst (λ (w : ℕ). grown_length
    c.args.st.buckets ≤ w / 2) c.requires.0 (grown-fits c.args.st (room (goal.at.resize-requires
    c).Else-not-grows))) in
    let h : 2 * (first_of c.args.st + c.args.st.buckets) ≤ length c.args.table.now = first-in c.args.st (length
    c.args.table.now) c.requires.0 (subst (λ (w : ℕ). c.args.st.buckets ≤ w / 2) c.requires.0 c.requires.1.0) in (
      subst (λ (g : State). 0 < g.buckets) (sym c.grown_state-next.ensures) (omega arith),
      (
        subst (λ (g : State). 2 *
            (c.first_bucket-first.result + g.buckets) ≤ length c.args.table.now) (sym c.grown_state-next.ensures) (subst (λ
            (x : ℕ). 2 * (x + grown_length c.args.st.buckets) ≤ length c.args.table.now) (sym f) k),
        subst (λ (x : ℕ). 2 *
            (x + c.args.st.buckets) ≤ length c.args.table.now) (sym c.first_bucket-old.ensures) h,
      ),
    )

pub returns : goal.returns
returns c =
    let g = growing (goal.at.returns c).Else-not-grows in (
      c.grown_state-next.ensures ∙ sym (state-grows
          c.args.st g),
      c.resize.ensures ∙ (λ i. grown c.args.st.buckets (c.first_bucket-old.ensures i)
          ((c.first_bucket-first.ensures ∙ ap first_of c.grown_state-next.ensures) i) (c.grown_state-next.ensures
          i).buckets c.args.table.now) ∙ sym (table-grows c.args.st c.args.table.now g),
    )
