-- `join::join_lanes` meets its contract. Assumes nothing.
use mathlib.Core.Path.{◌≡◌, sym, ap, ◌∙◌}
use Prim.Native.Nat.{ℕ, ◌+◌, ◌-◌}
use native.Mathlib.Omega.{arith}
use Rattle.std.specs.Prelude.{Ok, Some}
use Rattle.store_look.specs.Look.{lent}
use Rattle.report_lanes.specs.Measure.{next_lane_of}
use Rattle.join.specs.declared.Joined.{Joined}
use Rattle.join.specs.declared.Joined.TheVariants.{Halted}
use Rattle.join.specs.Join.{store, out, told_from, join_lanes}
use Rattle.join.proofs.Laws.{met-ready, turn_short, turn_accepted}
use Rattle.join.proofs.Laws.{turn-declined, turn_over, turn_broken, turns_end}
use Rattle.join.proofs.join_lanes.Goals as goal
use Rattle.join.proofs.join_lanes.Goals.{In-Ok-Some}

met : (k : In-Ok-Some) → next_lane_of k.args.st2 (lent k.args.table2.now k.args.keys2.now k.args.lists2.now)
    k.loop.index ≡ Ok (Some k.in-Ok-Some.lane)
met k = sym k.in-Ok-Some.ensures.0 ∙ ap Ok k.in-Ok-Some.field-0-is

pub returns-in-Ok-None : goal.returns-in-Ok-None
returns-in-Ok-None c =
    sym (c.loop.invariant.rest ∙ turn_over (store c.args.st2 (lent c.args.table2.now c.args.keys2.now
    c.args.lists2.now)) (c.args.st2.buckets - c.loop.counter) c.loop.index (store c.loop.state (lent c.loop.table
    c.loop.keys c.loop.lists)) c.loop.lanes c.loop.scratch (omega arith)
    (sym c.in-Ok-None.ensures.0 ∙ ap Ok c.in-Ok-None.field-0-is))

pub returns-in-Err : goal.returns-in-Err
returns-in-Err c =
    ap (λ n. out (Halted c.loop.state n c.loop.lanes) (lent c.loop.table c.loop.keys
    c.loop.lists) c.loop.scratch) c.number.ensures
    ∙ sym (c.loop.invariant.rest ∙ turn_broken (store c.args.st2 (lent c.args.table2.now c.args.keys2.now
    c.args.lists2.now)) (c.args.st2.buckets - c.loop.counter) c.loop.index (store c.loop.state (lent c.loop.table
    c.loop.keys c.loop.lists)) c.loop.lanes c.loop.scratch (omega arith) _
    (sym c.in-Err.ensures.0))

pub returns-then-scratch-next : goal.returns-then-scratch-next
returns-then-scratch-next c =
    sym (c.loop.invariant.rest ∙ turn_short (store c.args.st2 (lent c.args.table2.now c.args.keys2.now
    c.args.lists2.now)) (c.args.st2.buckets - c.loop.counter) c.loop.index (store c.loop.state (lent c.loop.table
    c.loop.keys c.loop.lists)) c.loop.lanes c.loop.scratch (omega arith) c.requires _ (met
    (goal.at.returns-then-scratch-next c).In-Ok-Some) (omega arith))

pub bring-a-requires : goal.bring-a-requires
bring-a-requires c =
    met-ready (store c.args.st2 (lent c.args.table2.now c.args.keys2.now c.args.lists2.now)) (c.args.st2.buckets - c.loop.counter)
    c.loop.index (store c.loop.state (lent c.loop.table c.loop.keys c.loop.lists))
    c.loop.lanes c.loop.scratch (omega arith) c.requires _ (met (goal.at.bring-a-requires c).In-Ok-Some)
    (omega arith)

pub returns-in_default : goal.returns-in_default
returns-in_default c =
    ap (λ (r : Joined). out r (lent c.bring-a.new.table c.bring-a.new.keys c.bring-a.new.lists)
    (c.bring-a.new.scratch)) c.halted.ensures ∙ sym (c.loop.invariant.rest ∙ turn-declined (store c.args.st2
    (lent c.args.table2.now c.args.keys2.now c.args.lists2.now)) (c.args.st2.buckets - c.loop.counter) c.loop.index (store
    c.loop.state (lent c.loop.table c.loop.keys c.loop.lists)) c.loop.lanes
    c.loop.scratch (omega arith) c.requires _ (met (goal.at.returns-in_default c).In-Ok-Some) (omega arith)
    c.bring-a.result (lent c.bring-a.new.table c.bring-a.new.keys c.bring-a.new.lists) (c.bring-a.new.scratch)
    c.bring-a.ensures _ _ c.in_default.is)

pub loop-preserved : goal.loop-preserved
loop-preserved c =
    let z : c.args.st2.buckets - c.loop.counter - 1 ≡ c.args.st2.buckets - (c.loop.counter + 1) = omega arith in
    record {
      turns = omega (arith, c.loop.invariant.turns);
      rest = c.loop.invariant.rest ∙ turn_accepted (store c.args.st2 (lent c.args.table2.now c.args.keys2.now
          c.args.lists2.now)) (c.args.st2.buckets - c.loop.counter) c.loop.index (store c.loop.state (lent c.loop.table
          c.loop.keys c.loop.lists)) c.loop.lanes c.loop.scratch (omega arith) c.requires _ (met
          (goal.at.loop-preserved c).In-Ok-Some) (omega arith) c.bring-a.result (lent c.bring-a.new.table
          c.bring-a.new.keys c.bring-a.new.lists) (c.bring-a.new.scratch) c.bring-a.ensures _ c.in-Accepted.is
          ∙ ap (λ (l : ℕ). join_lanes (told_from (store c.args.st2 (lent c.args.table2.now c.args.keys2.now c.args.lists2.now)) l
          (c.in-Ok-Some.lane.bucket + 1)) (store c.in-Accepted.s (lent c.bring-a.new.table c.bring-a.new.keys
          c.bring-a.new.lists)) (c.loop.lanes + 1) c.bring-a.new.scratch) z;
      table = c.bring-a.auto.table ∙ c.loop.invariant.table;
      keys = c.bring-a.auto.keys ∙ c.loop.invariant.keys;
      lists = c.bring-a.auto.lists ∙ c.loop.invariant.lists;
      scratch = c.bring-a.auto.scratch ∙ c.loop.invariant.scratch;
    }

pub returns : goal.returns
returns c =
    sym (c.loop.invariant.rest ∙ turns_end (store c.args.st2 (lent c.args.table2.now c.args.keys2.now
    c.args.lists2.now)) (c.args.st2.buckets - c.loop.counter) c.loop.index (store c.loop.state (lent c.loop.table
    c.loop.keys c.loop.lists)) c.loop.lanes c.loop.scratch (omega arith))
