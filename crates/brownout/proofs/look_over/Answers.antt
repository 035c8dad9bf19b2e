-- Vacant, judged, marked. Assumes nothing.
use Prim.Native.Nat.{◌+◌, ◌*◌}
use mathlib.Core.Bool.{true, false}
use mathlib.Core.Path.{◌≡◌, sym, ap, ◌∙◌}
use native.Mathlib.Omega.{arith}
use lib.ListN.{get_or}
use borrow.Author.Tests.{eq-eqb, ne_eqb}
use Rattle.records.specs.Record.{header_of, header_sound, good_record}
use Rattle.store_look.specs.Look.{lent}
use Rattle.brownout.proofs.Turns.{In, bucket-in, buckets_in, vacant_code, record_code, keys_short, lists_short}
use Rattle.brownout.proofs.Turns.{lists_sense, Held, record-held, over_vacant, over_judged, over_marked}
use Rattle.records.proofs.Laws.{Headed, head-found, head_lost}
use Rattle.numbers.proofs.Tests.{not_both}
use Rattle.expull_header.specs.declared.Header.{Header}
use Rattle.expull_header.specs.Header.{block_count}
use Rattle.expull_walk.specs.Blocks.{good_blocks}
use Rattle.brownout_faults.specs.Check.{vacant, record_in}
use Rattle.brownout.specs.Code.{step, judged}
use Rattle.brownout.proofs.Once.{Judged, judged_facts}
use Rattle.brownout.proofs.look_over.Goals as goal
use Rattle.brownout.proofs.look_over.Goals.{After-first_bucket-first, Else-at, Else-fault-ne0, In-Some}

inside : (c : After-first_bucket-first) → In c.args.st (lent c.args.table.now c.args.keys.now c.args.lists.now)
    c.requires.0 c.first_bucket-first.result c.args.i
inside c =
    bucket-in c.args.st (lent c.args.table.now c.args.keys.now c.args.lists.now) c.requires.0
    c.first_bucket-first.result c.args.i c.first_bucket-first.ensures c.requires.1.0

placed : (c : After-first_bucket-first) → (get_or c.args.table.now (2 * (c.first_bucket-first.result + c.args.i)) 0)
    ≡ record_in c.args.st (lent c.args.table.now c.args.keys.now c.args.lists.now) c.args.i
placed c =
    record_code c.args.st (lent c.args.table.now c.args.keys.now c.args.lists.now) c.first_bucket-first.result
    c.args.i c.first_bucket-first.ensures

full : (c : Else-at) → vacant c.args.st (lent c.args.table.now c.args.keys.now c.args.lists.now) c.args.i ≡ false
full c =
    vacant_code c.args.st (lent c.args.table.now c.args.keys.now c.args.lists.now) c.first_bucket-first.result
    c.args.i c.first_bucket-first.ensures false (ne_eqb _ _ c.if-at.false)

-- nothing was judged: the record, the header and the blocks are good
fine : (c : Else-fault-ne0) → Judged c.args.st (lent c.args.table.now c.args.keys.now c.args.lists.now) c.args.i
fine c =
    judged_facts c.args.st (lent c.args.table.now c.args.keys.now c.args.lists.now) c.args.i (ap (judged c.args.st
    (lent c.args.table.now c.args.keys.now c.args.lists.now) c.args.i) (sym (record_code c.args.st (lent c.args.table.now c.args.keys.now c.args.lists.now)
    c.first_bucket-first.result c.args.i c.first_bucket-first.ensures)) ∙ sym c.judge-fault.ensures ∙
    c.if-fault-ne0.false)

held : (c : Else-fault-ne0) → Held c.args.st (lent c.args.table.now c.args.keys.now c.args.lists.now) c.requires.0
    (get_or c.args.table.now (2 * (c.first_bucket-first.result + c.args.i)) 0)
held c =
    record-held c.args.st (lent c.args.table.now c.args.keys.now c.args.lists.now) c.requires.0 (get_or
    c.args.table.now (2 * (c.first_bucket-first.result + c.args.i)) 0) (ap (good_record c.args.st.key_arena
    c.args.keys.now) (record_code c.args.st
    (lent c.args.table.now c.args.keys.now c.args.lists.now) c.first_bucket-first.result c.args.i
    c.first_bucket-first.ensures) ∙ (judged_facts c.args.st (lent c.args.table.now c.args.keys.now c.args.lists.now)
    c.args.i (ap (judged c.args.st (lent c.args.table.now c.args.keys.now c.args.lists.now) c.args.i) (sym (record_code c.args.st (lent c.args.table.now
    c.args.keys.now c.args.lists.now) c.first_bucket-first.result c.args.i c.first_bucket-first.ensures)) ∙
    sym c.judge-fault.ensures ∙ c.if-fault-ne0.false)).good)

headed : (c : In-Some) → Headed c.args.keys.now (get_or c.args.table.now (2 * (c.first_bucket-first.result +
    c.args.i)) 0) c.in-Some.h
headed c = head-found _ _ _ (sym c.in-Some.ensures)

pub first_bucket-first-requires : goal.first_bucket-first-requires
first_bucket-first-requires c =
    buckets_in c.args.st (lent c.args.table.now c.args.keys.now c.args.lists.now) c.requires.0

pub overflow_add-w : goal.overflow_add-w
overflow_add-w c =
    omega (
      arith,
      (inside (goal.at.overflow_add-w c).After-first_bucket-first).inside,
      (inside
          (goal.at.overflow_add-w c).After-first_bucket-first).short,
    )

pub overflow_mul-w : goal.overflow_mul-w
overflow_mul-w c =
    omega (
      arith,
      (inside (goal.at.overflow_mul-w c).After-first_bucket-first).inside,
      (inside
          (goal.at.overflow_mul-w c).After-first_bucket-first).short,
    )

pub offset_bounds-table-w : goal.offset_bounds-table-w
offset_bounds-table-w c =
    omega (
      arith,
      (inside (goal.at.offset_bounds-table-w c).After-first_bucket-first).inside,
      (inside
          (goal.at.offset_bounds-table-w c).After-first_bucket-first).short,
    )

pub bounds-table-w : goal.bounds-table-w
bounds-table-w c = omega (arith, (inside (goal.at.bounds-table-w c).After-first_bucket-first).inside)

pub returns-then-at : goal.returns-then-at
returns-then-at c =
    let a = c.args in over_vacant a.st (lent c.args.table.now c.args.keys.now c.args.lists.now) a.i a.marks.now
    (vacant_code a.st (lent c.args.table.now c.args.keys.now c.args.lists.now) c.first_bucket-first.result a.i
    c.first_bucket-first.ensures true (eq-eqb _ _ c.if-at.true))

pub judge-fault-requires : goal.judge-fault-requires
judge-fault-requires c = c.requires.0

pub returns-then-fault-ne0 : goal.returns-then-fault-ne0
returns-then-fault-ne0 c =
    let a = c.args in over_judged a.st (lent c.args.table.now c.args.keys.now c.args.lists.now) a.i a.marks.now
    (full (goal.at.returns-then-fault-ne0 c).Else-at) (get_or c.args.table.now (2 * (c.first_bucket-first.result +
    c.args.i)) 0) c.judge-fault.result (placed (goal.at.returns-then-fault-ne0 c).After-first_bucket-first)
    c.judge-fault.ensures c.if-fault-ne0.true

pub get_head-requires : goal.get_head-requires
get_head-requires c = let h = held (goal.at.get_head-requires c).Else-fault-ne0 in (h.length-in, h.value_in)

pub returns-in_default : goal.returns-in_default
returns-in_default c =
    not_both (header_sound c.args.keys.now (get_or c.args.table.now (2 * (c.first_bucket-first.result + c.args.i))
    0)) (ap (header_sound c.args.keys.now) (placed (goal.at.returns-in_default c).After-first_bucket-first) ∙ (fine
    (goal.at.returns-in_default c).Else-fault-ne0).header) (head_lost _ _ (sym c.in_default.ensures))

pub invariant_of-pages : goal.invariant_of-pages
invariant_of-pages c = record {
  fitting = lists_sense c.args.st (lent c.args.table.now c.args.keys.now c.args.lists.now) c.requires.0;
}

pub mark_lane-requires : goal.mark_lane-requires
mark_lane-requires c =
    record {
      record-in = (held (goal.at.mark_lane-requires c).Else-fault-ne0).record-in;
      key_short = keys_short
          c.args.st (lent c.args.table.now c.args.keys.now c.args.lists.now) c.requires.0;
      list_short = lists_short c.args.st (lent
          c.args.table.now c.args.keys.now c.args.lists.now) c.requires.0;
      header = (headed (goal.at.mark_lane-requires
          c).In-Some).ends;
      blocks = ap (λ (x : Header). good_blocks c.args.st.list_arena c.args.lists.now x.head
          (block_count x)) ((headed (goal.at.mark_lane-requires c).In-Some).is ∙ ap (header_of c.args.keys.now) (placed
          (goal.at.mark_lane-requires c).After-first_bucket-first)) ∙ (fine (goal.at.mark_lane-requires
          c).Else-fault-ne0).blocks;
      room = c.requires.1.1;
    }

pub shape_of-marks : goal.shape_of-marks
shape_of-marks c = c.mark_lane.auto.marks

pub returns : goal.returns
returns c =
    let a = c.args in over_marked a.st (lent c.args.table.now c.args.keys.now c.args.lists.now) a.i a.marks.now
    (full (goal.at.returns c).Else-at) (get_or c.args.table.now (2 * (c.first_bucket-first.result + c.args.i)) 0)
    c.judge-fault.result (placed (goal.at.returns c).After-first_bucket-first) c.judge-fault.ensures
    c.if-fault-ne0.false c.in-Some.h (headed (goal.at.returns c).In-Some).is (step c.mark_lane.result
    c.mark_lane.new.marks) c.mark_lane.ensures
