-- Header, blocks, length of the output, in this order. Assumes nothing.
use Prim.Native.Nat.{ℕ, ◌≤◌, ◌<◌}
use mathlib.Core.Bool.{true}
use mathlib.Core.List.{List}
use mathlib.Core.Path.{◌≡◌, sym, ap, ap₂, subst, ◌∙◌}
use native.Mathlib.Omega.{arith}
use lib.ListN.{length}
use Rattle.records.proofs.Laws.{Headed, head-found, head_lost}
use Rattle.store_look.proofs.Found.{read_4, read_4_block, read_8, read_done}
use Rattle.store_look.specs.Look.{lent, reading}
use Rattle.store_look.specs.declared.Outcome.TheVariants.{Reading}
use Rattle.store_look.specs.declared.Answer.TheVariants.{Found, Refused}
use Rattle.expull_header.proofs.Laws.{sound_facts}
use Rattle.expull_walk.specs.Blocks.{good_blocks}
use Rattle.expull_header.specs.Header.{block_count}
use Rattle.store_look.proofs.lane.read_at.Goals as goal
use Rattle.store_look.proofs.lane.read_at.Goals.{Else-not-are_good_blocks, In-Some}

-- what the header that was found says
headed : (c : In-Some) → Headed c.args.keys.now c.args.at c.in-Some.h
headed c = head-found _ _ _ (sym c.in-Some.ensures)

-- all its blocks are good
good : (c : Else-not-are_good_blocks) → good_blocks c.args.st.list_arena c.args.lists.now c.in-Some.h.head
    (block_count c.in-Some.h) ≡ true
good c = sym c.are_good_blocks.ensures ∙ c.if-not-are_good_blocks.false

pub returns-in_default : goal.returns-in_default
returns-in_default c =
    sym (read_4 c.args.st (lent c.args.table.now c.args.keys.now c.args.lists.now) c.args.at c.args.output.now
    (head_lost _ _ (sym c.in_default.ensures)))

pub overflow_sub-h : goal.overflow_sub-h
overflow_sub-h c = omega (arith, (sound_facts _ 0 (headed (goal.at.overflow_sub-h c).In-Some).ends).shape.from)

pub are_good_blocks-requires : goal.are_good_blocks-requires
are_good_blocks-requires c =
    omega (arith, (sound_facts _ 0 (headed (goal.at.are_good_blocks-requires c).In-Some).ends).to)

pub returns-then-not-are_good_blocks : goal.returns-then-not-are_good_blocks
returns-then-not-are_good_blocks c =
    sym (read_4_block c.args.st (lent c.args.table.now c.args.keys.now c.args.lists.now) c.args.at c.args.output.now
    _ (headed (goal.at.returns-then-not-are_good_blocks c).In-Some) (sym c.are_good_blocks.ensures ∙
    c.if-not-are_good_blocks.true))

pub lane_length-n-requires : goal.lane_length-n-requires
lane_length-n-requires c = (headed (goal.at.lane_length-n-requires c).In-Some).ends

pub returns-then-output-n : goal.returns-then-output-n
returns-then-output-n c =
    ap (λ (k : ℕ). reading (Refused 8 k) c.args.output.now) c.lane_length-n.ensures ∙ sym (read_8 c.args.st (lent
    c.args.table.now c.args.keys.now c.args.lists.now) c.args.at c.args.output.now _ (headed
    (goal.at.returns-then-output-n c).In-Some) (good (goal.at.returns-then-output-n c).Else-not-are_good_blocks)
    (subst (λ (k : ℕ). length c.args.output.now < k) c.lane_length-n.ensures c.if-output-n.true))

pub read_to_end-requires : goal.read_to_end-requires
read_to_end-requires c = (
  (headed (goal.at.read_to_end-requires c).In-Some).ends,
  (
    good (goal.at.read_to_end-requires c).Else-not-are_good_blocks,
    subst (λ (k : ℕ). k ≤ length c.args.output.now) c.lane_length-n.ensures c.if-output-n.false,
  ),
)

pub returns : goal.returns
returns c =
    ap₂ (λ (k : ℕ) (o : List ℕ). reading (Found (Reading k)) o) c.lane_length-n.ensures c.read_to_end.ensures ∙ sym
    (read_done c.args.st (lent c.args.table.now c.args.keys.now c.args.lists.now) c.args.at c.args.output.now _
    (headed (goal.at.returns c).In-Some) (good (goal.at.returns c).Else-not-are_good_blocks) (subst (λ (k : ℕ). k ≤
    length c.args.output.now) c.lane_length-n.ensures c.if-output-n.false))
