-- The record, then the blocks. Assumes nothing.
use Prim.Native.Nat.{◌+◌}
use mathlib.Core.Bool.{Bool, true, false}
use mathlib.Core.Path.{◌≡◌, subst, ◌∙◌}
use native.Mathlib.Omega.{arith}
use lib.ListN.{length}
use Rattle.store_look.specs.Look.{lent}
use Rattle.brownout.proofs.Turns.{lane_first, lane-then}
use Rattle.expull_header.proofs.Laws.{sound_facts}
use Rattle.marks.specs.Bits.{out as marks_out, mark_span}
use Rattle.brownout.specs.Code.{mark_blocks}
use Rattle.limits.specs.Limits.{record_extra}
use Rattle.expull_header.specs.Header.{block_count}
use Rattle.brownout.proofs.mark_lane.Goals as goal
use Rattle.brownout.proofs.mark_lane.Goals.{After-mark_blocks-again, After-mark_span-met}

-- what marking the record said
spanned : (c : After-mark_span-met) → (b : Bool) → c.mark_span-met.result ≡ b → marks_out b
    c.mark_span-met.new.marks ≡ mark_span c.args.marks.now c.args.at (c.key_length-n.result + record_extra)
spanned c b e =
    subst (λ (x : Bool). marks_out x c.mark_span-met.new.marks ≡ mark_span c.args.marks.now c.args.at
    (c.key_length-n.result + record_extra)) e c.mark_span-met.ensures

blocked : (c : After-mark_blocks-again) → (b : Bool) → c.mark_blocks-again.result ≡ b → marks_out b
    c.mark_blocks-again.new.marks ≡ mark_blocks c.mark_span-met.new.marks (length c.args.keys.now) c.args.lists.now.bytes.now
    c.args.h.head (block_count c.args.h) 0
blocked c b e =
    subst (λ (x : Bool). marks_out x c.mark_blocks-again.new.marks ≡ mark_blocks c.mark_span-met.new.marks (length
    c.args.keys.now) c.args.lists.now.bytes.now c.args.h.head (block_count c.args.h) 0) e c.mark_blocks-again.ensures

pub key_length-n-requires : goal.key_length-n-requires
key_length-n-requires c = omega (arith, c.requires.record-in)

pub mark_span-met-requires : goal.mark_span-met-requires
mark_span-met-requires c = (
  omega (arith, c.key_length-n.ensures.0, c.requires.record-in, c.requires.room),
  omega (
    arith,
    c.key_length-n.ensures.0,
    c.requires.record-in,
    c.requires.key_short,
  ),
)

pub shape_of-marks-then-met : goal.shape_of-marks-then-met
shape_of-marks-then-met c = c.mark_span-met.auto.marks

pub returns-then-met : goal.returns-then-met
returns-then-met c =
    let a = c.args in lane_first (lent a.table.now a.keys.now a.lists.now.bytes.now) a.at a.h a.marks.now
    c.mark_span-met.new.marks c.key_length-n.result c.key_length-n.ensures.0 (spanned (goal.at.returns-then-met
    c).After-mark_span-met true c.if-met.true)

pub overflow_sub-h : goal.overflow_sub-h
overflow_sub-h c = omega (arith, (sound_facts c.args.h 0 c.requires.header).shape.from)

pub mark_blocks-again-requires : goal.mark_blocks-again-requires
mark_blocks-again-requires c = (
  c.requires.blocks,
  (
    omega (arith, (sound_facts c.args.h 0 c.requires.header).to),
    (
      omega (arith, c.requires.room, c.mark_span-met.auto.marks),
      omega (arith, c.requires.key_short, c.requires.list_short),
    ),
  ),
)

pub shape_of-marks-then-again : goal.shape_of-marks-then-again
shape_of-marks-then-again c = c.mark_blocks-again.auto.marks ∙ c.mark_span-met.auto.marks

pub returns-then-again : goal.returns-then-again
returns-then-again c =
    let a = c.args in lane-then (lent a.table.now a.keys.now a.lists.now.bytes.now) a.at a.h a.marks.now
    c.mark_span-met.new.marks c.key_length-n.result c.key_length-n.ensures.0 (spanned (goal.at.returns-then-again
    c).After-mark_span-met false c.if-met.false) true c.mark_blocks-again.new.marks (blocked
    (goal.at.returns-then-again c).After-mark_blocks-again true c.if-again.true)

pub shape_of-marks : goal.shape_of-marks
shape_of-marks c = c.mark_blocks-again.auto.marks ∙ c.mark_span-met.auto.marks

pub returns : goal.returns
returns c =
    let a = c.args in lane-then (lent a.table.now a.keys.now a.lists.now.bytes.now) a.at a.h a.marks.now
    c.mark_span-met.new.marks c.key_length-n.result c.key_length-n.ensures.0 (spanned (goal.at.returns
    c).After-mark_span-met false c.if-met.false) false c.mark_blocks-again.new.marks (blocked (goal.at.returns
    c).After-mark_blocks-again false c.if-again.false)
