-- `join::join` meets its contract. Assumes nothing.
use mathlib.Core.Path.{sym, ◌∙◌}
use Rattle.store_look.specs.Look.{lent}
use Rattle.join.specs.Join.{store}
use Rattle.join.proofs.Fair.{told, join_2, join_2_second, join_on}
use Rattle.join.proofs.join.Goals as goal

pub returns-then-not-is_whole_state : goal.returns-then-not-is_whole_state
returns-then-not-is_whole_state c =
    let it = told (store c.args.st (lent c.args.table.now c.args.keys.now c.args.lists.now)) (store c.args.st2 (lent
    c.args.table2.now c.args.keys2.now c.args.lists2.now)) c.args.scratch.now _ (sym (join_2 (store c.args.st (lent
    c.args.table.now c.args.keys.now c.args.lists.now)) (store c.args.st2 (lent c.args.table2.now c.args.keys2.now
    c.args.lists2.now)) c.args.scratch.now (sym c.is_whole_state.ensures ∙ c.if-not-is_whole_state.true))) in record
    { settled = it.0; numbered = it.1 }

pub returns-then-not-is_whole_state-2 : goal.returns-then-not-is_whole_state-2
returns-then-not-is_whole_state-2 c =
    let it = told (store c.args.st (lent c.args.table.now c.args.keys.now c.args.lists.now)) (store c.args.st2 (lent
    c.args.table2.now c.args.keys2.now c.args.lists2.now)) c.args.scratch.now _ (sym (join_2_second (store c.args.st
    (lent c.args.table.now c.args.keys.now c.args.lists.now)) (store c.args.st2 (lent c.args.table2.now
    c.args.keys2.now c.args.lists2.now)) c.args.scratch.now (sym c.is_whole_state.ensures ∙
    c.if-not-is_whole_state.false) (sym c.is_whole_state-2.ensures ∙ c.if-not-is_whole_state-2.true))) in record {
      settled = it.0;
      numbered = it.1;
    }

pub join_lanes-requires : goal.join_lanes-requires
join_lanes-requires c = sym c.is_whole_state-2.ensures ∙ c.if-not-is_whole_state-2.false

pub returns : goal.returns
returns c =
    let it = told (store c.args.st (lent c.args.table.now c.args.keys.now c.args.lists.now)) (store c.args.st2 (lent
    c.args.table2.now c.args.keys2.now c.args.lists2.now)) c.args.scratch.now _ (c.join_lanes.ensures ∙ sym (join_on
    (store c.args.st (lent c.args.table.now c.args.keys.now c.args.lists.now)) (store c.args.st2 (lent
    c.args.table2.now c.args.keys2.now c.args.lists2.now)) c.args.scratch.now (sym c.is_whole_state.ensures ∙
    c.if-not-is_whole_state.false) (sym c.is_whole_state-2.ensures ∙ c.if-not-is_whole_state-2.false))) in record { settled = it.0; numbered = it.1 }
