-- The check, then the walk; an index past the table meets no bucket. Assumes nothing.
use Prim.Native.Nat.{ℕ, ◌+◌, ◌-◌, ◌*◌, ◌≤◌}
use mathlib.Core.Bool.{true}
use mathlib.Core.Path.{◌≡◌, refl, sym, ap, subst, ◌∙◌}
use native.Mathlib.Omega.{arith}
use lib.ListN.{length}
use Rattle.store_look.proofs.Fair.{fair-next}
use Rattle.store_look.proofs.Found.{next_2, next_past, next-on}
use Rattle.store_state.proofs.Whole.{Whole, whole_facts, first-in}
use Rattle.store_look.specs.Look.{lent, on_next}
use Rattle.store_look.specs.Said.{said_listed}
use Rattle.store_look.specs.declared.Listed.{Listed}
use Rattle.shared_arena_hashmap.specs.Probe.{occupied_from}
use Rattle.std.specs.Prelude.{Option}
use Rattle.shared_arena_hashmap.specs.declared.Occupied.{Occupied}
use Rattle.limits.specs.Refusals.{listing_buckets, permitted}
use Rattle.store_look.proofs.listing.next_occupied.Goals as goal
use Rattle.store_look.proofs.listing.next_occupied.Goals.{Else-buckets-index}

-- the whole-state check, clause by clause
whole : (c : Else-buckets-index) → Whole c.args.st (length c.args.table.now) (length c.args.keys.now) (length
    c.args.lists.now)
whole c =
    whole_facts c.args.st (length c.args.table.now) (length c.args.keys.now) (length c.args.lists.now) (sym
    c.is_whole_state.ensures ∙ c.if-not-is_whole_state.false)

pub returns-then-not-is_whole_state : goal.returns-then-not-is_whole_state
returns-then-not-is_whole_state c =
    record {
      settled = sym (next_2 c.args.st (lent c.args.table.now c.args.keys.now c.args.lists.now) c.args.index
          (sym c.is_whole_state.ensures ∙ c.if-not-is_whole_state.true));
      numbered = refl;
    }

pub returns-then-buckets-index : goal.returns-then-buckets-index
returns-then-buckets-index c =
    record {
      settled = sym (next_past c.args.st (lent c.args.table.now c.args.keys.now c.args.lists.now)
          c.args.index (sym c.is_whole_state.ensures ∙ c.if-not-is_whole_state.false) c.if-buckets-index.true);
      numbered =
          refl;
    }

pub first_bucket-first-requires : goal.first_bucket-first-requires
first_bucket-first-requires c = omega (arith, whole (goal.at.first_bucket-first-requires c).Else-buckets-index)

pub next_occupied-next-requires : goal.next_occupied-next-requires
next_occupied-next-requires c =
    let h = whole (goal.at.next_occupied-next-requires c).Else-buckets-index in
    let k : 2 * (c.first_bucket-first.result + c.args.st.buckets) ≤ length c.args.table.now = subst (λ (f : ℕ). 2 *
    (f + c.args.st.buckets) ≤ length c.args.table.now) (sym c.first_bucket-first.ensures) (first-in c.args.st
    (length c.args.table.now) h.words_is h.buckets_le) in omega arith

pub on_next-requires : goal.on_next-requires
on_next-requires c = (whole (goal.at.on_next-requires c).Else-buckets-index).key_arena

pub returns : goal.returns
returns c =
    let m = lent c.args.table.now c.args.keys.now c.args.lists.now in
    let e = c.on_next.ensures ∙ ap (λ (n : Option Occupied). on_next n c.args.st.key_arena c.args.keys.now)
    (c.next_occupied-next.ensures ∙ ap (λ (f : ℕ). occupied_from c.args.table.now f (c.args.st.buckets -
    c.args.index) c.args.index) c.first_bucket-first.ensures) ∙ sym (next-on c.args.st m c.args.index (sym
    c.is_whole_state.ensures ∙ c.if-not-is_whole_state.false)) in record {
      settled = e;
      numbered = subst (λ (r :
          Listed). permitted listing_buckets (said_listed r) ≡ true) (sym e) (fair-next c.args.st m c.args.index);
    }
