-- A good span lies in the list pages. Assumes nothing.
use Prim.Native.Nat.{ℕ, ◌+◌, ◌≤◌}
use mathlib.Core.Path.{sym, ap, ◌∙◌}
use native.Mathlib.Nat.{add-sub_cancel_left}
use native.Mathlib.Omega.{arith}
use lib.ListN.{length, take, drop}
use Rattle.store_look.proofs.Found.{show_2, show_bad, show_part}
use Rattle.store_state.proofs.Whole.{whole_facts}
use Rattle.store_look.specs.Look.{lent}
use Rattle.memory_arena.proofs.Laws.{good-in, sensible_facts}
use Rattle.spans.specs.Span.{read_span}
use Rattle.store_look.proofs.lane.show_block.Goals as goal
use Rattle.store_look.proofs.lane.show_block.Goals.{Else-not-is_good_span}

-- the span lies in the list pages
inside : (c : Else-not-is_good_span) → c.args.at + c.args.n ≤ length c.args.lists.now
inside c =
    let w = whole_facts c.args.st (length c.args.table.now) (length c.args.keys.now) (length c.args.lists.now) (sym
    c.is_whole_state.ensures ∙ c.if-not-is_whole_state.false) in good-in c.args.st.list_arena c.args.at c.args.n
    (length c.args.lists.now) (sensible_facts _ _ w.list_arena).stands (sym c.is_good_span.ensures ∙
    c.if-not-is_good_span.false)

pub returns-then-not-is_whole_state : goal.returns-then-not-is_whole_state
returns-then-not-is_whole_state c =
    sym (show_2 c.args.st (lent c.args.table.now c.args.keys.now c.args.lists.now) c.args.at c.args.n (sym
    c.is_whole_state.ensures ∙ c.if-not-is_whole_state.true))

pub is_good_span-requires : goal.is_good_span-requires
is_good_span-requires c =
    let w = whole_facts c.args.st (length c.args.table.now) (length c.args.keys.now) (length c.args.lists.now) (sym
    c.is_whole_state.ensures ∙ c.if-not-is_whole_state.false) in (sensible_facts _ _ w.list_arena).sized

pub returns-then-not-is_good_span : goal.returns-then-not-is_good_span
returns-then-not-is_good_span c =
    sym (show_bad c.args.st (lent c.args.table.now c.args.keys.now c.args.lists.now) c.args.at c.args.n (sym
    c.is_good_span.ensures ∙ c.if-not-is_good_span.true))

pub overflow_add-to : goal.overflow_add-to
overflow_add-to c = omega (arith, inside (goal.at.overflow_add-to c).Else-not-is_good_span)

pub slice_bounds-result-end-2 : goal.slice_bounds-result-end-2
slice_bounds-result-end-2 c = omega (arith, inside (goal.at.slice_bounds-result-end-2 c).Else-not-is_good_span)

pub returns : goal.returns
unfolding read_span
returns c =
    ap (λ (k : ℕ). take k (drop c.args.at c.args.lists.now)) (add-sub_cancel_left c.args.at c.args.n) ∙ sym
    (show_part c.args.st (lent c.args.table.now c.args.keys.now c.args.lists.now) c.args.at c.args.n (sym
    c.is_whole_state.ensures ∙ c.if-not-is_whole_state.false) (sym c.is_good_span.ensures ∙
    c.if-not-is_good_span.false))
