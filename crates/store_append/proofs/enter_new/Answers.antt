-- The table stands in the lent words; the first empty bucket is known, or probed for. Assumes nothing.
use Prim.Native.Nat.{ℕ, ◌+◌, ◌*◌, ◌%◌, ◌/◌, ◌≤◌}
use mathlib.Core.Path.{◌≡◌, sym, ap, subst, ◌∙◌}
use lib.ListN.{length}
use Rattle.store_state.specs.State.{first_of}
use Rattle.store_state.proofs.Whole.{first-in}
use Rattle.shared_arena_hashmap.specs.Grow.{free_of, entered}
use Rattle.store_append.proofs.enter_new.Goals as goal
use Rattle.store_append.proofs.enter_new.Goals.{Start}

-- the table lies in the lent words
inside : (s : Start) → 2 * (first_of s.args.grown + s.args.grown.buckets) ≤ length s.args.table.now
inside s =
    first-in s.args.grown (length s.args.table.now) s.requires.buckets_nonzero.1.1 (subst (λ (w : ℕ).
    s.args.grown.buckets ≤ w / 2) s.requires.buckets_nonzero.1.1 s.requires.buckets_nonzero.1.0)

pub enter_met-requires : goal.enter_met-requires
enter_met-requires c =
    let e = sym c.first_bucket-first.ensures in
    let l = c.requires.last_empty c.if-grown-before.true in record {
      l_value = (
        l.0,
        subst (λ (x : ℕ). 2 * (x +
            c.args.grown.buckets) ≤ length c.args.table.now) e (inside (goal.at.enter_met-requires c).Start),
      );
      k_le_l = (
        l.1.0,
        subst (λ (x : ℕ). free_of c.args.table.now x c.args.grown.buckets c.args.hash ≡ (c.args.hash +
            c.args.looked) % c.args.grown.buckets) e l.1.1,
      );
    }

pub returns-then-grown-before : goal.returns-then-grown-before
returns-then-grown-before c =
    c.enter_met.ensures ∙ ap (λ (x : ℕ). entered x c.args.grown.buckets c.args.at c.args.hash c.args.table.now)
    c.first_bucket-first.ensures

pub enter-requires : goal.enter-requires
enter-requires c = (
  c.requires.buckets_nonzero.0,
  subst (λ (x : ℕ). 2 * (x + c.args.grown.buckets) ≤ length c.args.table.now) (sym
      c.first_bucket-first.ensures) (inside (goal.at.enter-requires c).Start),
)

pub returns : goal.returns
returns c =
    c.enter.ensures ∙ ap (λ (x : ℕ). entered x c.args.grown.buckets c.args.at c.args.hash c.args.table.now)
    c.first_bucket-first.ensures
