-- The append of the whole is the append of the bytes that still wait. Assumes nothing.
use Rattle.std.proofs.Common.{refl, arith, ◌<◌, length}
use Rattle.expull_header.proofs.Laws.{sound_facts}
use Rattle.expull_append.proofs.Laws.{working_made, onward_none}
use Rattle.expull_append.proofs.Loops.{extending-few, extending-room, extending-ready, chunk-fits}
use Rattle.expull_append.proofs.Loops.{extending-next, extending-end}
use Rattle.expull_append.specs.Append.{writing}
use Rattle.expull_append.proofs.extend_from_slice.Goals as goal

pub loop-rest-init : goal.loop-rest-init
loop-rest-init c =
    let w = writing c.args.lists.now c.args.arena c.args.h in record {
      reached = record {
        working = working_made w c.requires.0 c.requires.1.0 c.requires.1.1.0;
        onward = onward_none w;
      };
      same = refl;
    }

pub ensure_capacity-v-requires : goal.ensure_capacity-v-requires
ensure_capacity-v-requires c = (
  c.loop-rest.invariant.reached.working.sense,
  (
    c.loop-rest.invariant.reached.working.tail,
    (
      extending-few c.loop-rest.invariant (sound_facts c.args.h 0 c.requires.1.0).to,
      extending-room c.loop-rest.invariant (grind arith) c.requires.1.1.1,
    ),
  ),
)

pub put_chunk-w-requires : goal.put_chunk-w-requires
put_chunk-w-requires c =
    let k = chunk-fits c.min-n.result (extending-ready c.loop-rest.invariant c.ensure_capacity-v.ensures) (omega
    (arith, c.min-n.ensures)) in
    let l = c.split_at.ensures.front_len in (omega (arith, k.remains), (omega (arith, k.in_memory), k.short))

pub loop-rest-smaller : goal.loop-rest-smaller
loop-rest-smaller c =
    let r = extending-ready c.loop-rest.invariant c.ensure_capacity-v.ensures in
    let h : 0 < length c.loop-rest.rest.now = grind arith in
    omega (arith, r.room, c.min-n.ensures, c.split_at.ensures.back_len)

pub loop-rest-preserved : goal.loop-rest-preserved
loop-rest-preserved c =
    extending-next c.loop-rest.invariant (grind arith) c.ensure_capacity-v.ensures c.min-n.ensures
    c.split_at.ensures.front c.split_at.ensures.back c.put_chunk-w.ensures

pub shape_of-lists : goal.shape_of-lists
shape_of-lists c = c.loop-rest.invariant.reached.onward.long

pub returns : goal.returns
returns c = extending-end c.loop-rest.invariant (grind arith)
