-- The short way, or nothing. Assumes nothing.
use lib.ListN.{length}
use Rattle.memory_arena.proofs.Laws.{sensible_facts}
use Rattle.store_look.specs.Look.{lent}
use Rattle.store_state.proofs.Whole.{Whole, whole_facts}
use Rattle.store_append.proofs.Growth.{growable}
use Rattle.store_quick.proofs.Shortcut.{quick_done}
use Rattle.store_quick.proofs.quick_standing.Goals as goal
use Rattle.store_quick.proofs.quick_standing.Goals.{Start}

-- what the whole-state check has shown
whole : (c : Start) → Whole c.args.st (length c.args.table.now) (length c.args.keys.now) (length c.args.lists.now)
whole c =
    whole_facts c.args.st (length c.args.table.now) (length c.args.keys.now) (length c.args.lists.now) c.requires.0

pub is_quick-requires : goal.is_quick-requires
is_quick-requires c =
    let g = growable c.args.st (length c.args.table.now) (length c.args.keys.now) (length c.args.lists.now) (whole
    (goal.at.is_quick-requires c).Start) in
    let k = sensible_facts c.args.st.list_arena (length c.args.lists.now) (whole (goal.at.is_quick-requires
    c).Start).list_arena in record {
      at_in_bounds = c.requires.1;
      keys_le_buckets = (g.keys_le, g.few);
      list_arena_value = k.sized;
    }

pub write_quick-requires : goal.write_quick-requires
write_quick-requires c =
    record {
      quick = c.is_quick.ensures c.if-is_quick.true;
      lists_value = (
        (whole (goal.at.write_quick-requires
            c).Start).list_arena,
        c.requires.1,
      );
    }

pub returns-then-is_quick : goal.returns-then-is_quick
returns-then-is_quick c =
    quick_done c.args.st (lent c.args.table.now c.args.keys.now c.args.lists.now) c.args.at c.args.bytes.now _ _
    (c.is_quick.ensures c.if-is_quick.true) c.write_quick.ensures.0 c.write_quick.ensures.1
