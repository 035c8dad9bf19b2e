-- `readings::readings_at` meets its contract: header, blocks, whole readings, places, how the bytes end, in this order.
-- Assumes nothing.
use Prim.Native.Nat.{ℕ, ◌≤◌, ◌<◌}
use mathlib.Core.Bool.{true}
use mathlib.Core.Path.{◌≡◌, sym, ap, subst, ◌∙◌}
use native.Mathlib.Omega.{arith}
use lib.ListN.{length}
use Rattle.expull_header.specs.Header.{block_count}
use Rattle.expull_walk.specs.Blocks.{good_blocks, lane_bytes}
use Rattle.expull_header.proofs.Laws.{sound_facts}
use Rattle.store_look.specs.Look.{lent}
use Rattle.records.proofs.Laws.{Headed, head-found, head_lost}
use Rattle.reading_run.specs.Run.{Out}
use Rattle.reading_run.proofs.Came.{ran}
use Rattle.readings.specs.declared.Recalled.TheVariants.{Readings, Refused}
use Rattle.readings.specs.Readings.{out}
use Rattle.readings.proofs.Found.{readings_4, readings_4_block, readings_8, readings_bad, readings_done}
use Rattle.readings.proofs.readings_at.Goals as goal
use Rattle.readings.proofs.readings_at.Goals.{Else-not-are_good_blocks, In-Some}

-- what the header that was found says
headed : (c : In-Some) → Headed c.args.keys.now c.args.at c.in-Some.h
headed c = head-found _ _ _ (sym c.in-Some.ensures)

-- all its blocks are good
good : (c : Else-not-are_good_blocks) → good_blocks c.args.st.list_arena c.args.lists.now c.in-Some.h.head
    (block_count c.in-Some.h) ≡ true
good c = sym c.are_good_blocks.ensures ∙ c.if-not-are_good_blocks.false

pub returns-in_default : goal.returns-in_default
returns-in_default c =
    let m = lent c.args.table.now c.args.keys.now c.args.lists.now in sym (readings_4 c.args.st m c.args.at
    c.args.output.now (head_lost _ _ (sym c.in_default.ensures)))

pub overflow_sub-h : goal.overflow_sub-h
overflow_sub-h c = omega (arith, (sound_facts _ 0 (headed (goal.at.overflow_sub-h c).In-Some).ends).shape.from)

pub are_good_blocks-requires : goal.are_good_blocks-requires
are_good_blocks-requires c =
    omega (arith, (sound_facts _ 0 (headed (goal.at.are_good_blocks-requires c).In-Some).ends).to)

pub returns-then-not-are_good_blocks : goal.returns-then-not-are_good_blocks
returns-then-not-are_good_blocks c =
    let a = c.args in
    let m = lent a.table.now a.keys.now a.lists.now in sym (readings_4_block a.st m a.at a.output.now _ (headed
    (goal.at.returns-then-not-are_good_blocks c).In-Some) (sym c.are_good_blocks.ensures ∙
    c.if-not-are_good_blocks.true))

pub count_lane-counted-requires : goal.count_lane-counted-requires
count_lane-counted-requires c = (
  (headed (goal.at.count_lane-counted-requires c).In-Some).ends,
  good (goal.at.count_lane-counted-requires c).Else-not-are_good_blocks,
)

pub returns-then-output-n : goal.returns-then-output-n
returns-then-output-n c =
    let a = c.args in
    let m = lent a.table.now a.keys.now a.lists.now in ap (λ (k : ℕ). out (Refused 8 k) a.output.now)
    c.count_lane-counted.ensures.0 ∙ sym (readings_8 a.st m a.at a.output.now _ (headed
    (goal.at.returns-then-output-n c).In-Some) (good (goal.at.returns-then-output-n c).Else-not-are_good_blocks)
    (subst (λ (k : ℕ). length a.output.now < k) c.count_lane-counted.ensures.0 c.if-output-n.true))

pub returns-in-Some-end_of : goal.returns-in-Some-end_of
returns-in-Some-end_of c =
    let a = c.args in
    let m = lent a.table.now a.keys.now a.lists.now in
    let f = c.in-Some-end_of.ensures ∙ c.count_lane-counted.ensures.1 in (λ i. out (Refused (c.number.ensures i)
    (c.count_lane-counted.ensures.0 i)) a.output.now) ∙ sym (readings_bad a.st m a.at a.output.now _ (headed
    (goal.at.returns-in-Some-end_of c).In-Some) (good (goal.at.returns-in-Some-end_of c).Else-not-are_good_blocks)
    (subst (λ (k : ℕ). k ≤ length a.output.now) c.count_lane-counted.ensures.0 c.if-output-n.false) c.in-Some-end_of.r (sym f))

pub take_lane-requires : goal.take_lane-requires
take_lane-requires c = (
  (headed (goal.at.take_lane-requires c).In-Some).ends,
  good (goal.at.take_lane-requires c).Else-not-are_good_blocks,
)

pub returns : goal.returns
returns c =
    let a = c.args in
    let m = lent a.table.now a.keys.now a.lists.now in
    let f = sym (c.in_default-end_of.ensures ∙ c.count_lane-counted.ensures.1) in
    let l = subst (λ (k : ℕ). k ≤ length a.output.now) c.count_lane-counted.ensures.0 c.if-output-n.false in
    let o = ap (λ (t : Out). t.output) c.take_lane.ensures ∙ (ran (lane_bytes a.lists.now c.in-Some.h)
    a.output.now).output l in (λ i. out (Readings (c.count_lane-counted.ensures.0 i)) (o i)) ∙ sym (readings_done
    a.st m a.at a.output.now _ (headed (goal.at.returns c).In-Some) (good (goal.at.returns
    c).Else-not-are_good_blocks) l f)
