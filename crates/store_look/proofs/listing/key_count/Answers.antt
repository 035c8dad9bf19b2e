-- The check, then the count. Assumes nothing.
use mathlib.Core.Path.{refl, sym, ◌∙◌}
use Rattle.store_look.proofs.Found.{count_keys, count_2}
use Rattle.store_look.specs.Look.{lent}
use Rattle.store_look.proofs.listing.key_count.Goals as goal

pub returns-then-is_whole_state : goal.returns-then-is_whole_state
returns-then-is_whole_state c =
    record {
      settled = sym (count_keys c.args.st (lent c.args.table.now c.args.keys.now c.args.lists.now) (sym
          c.is_whole_state.ensures ∙ c.if-is_whole_state.true));
      numbered = refl;
    }

pub returns : goal.returns
returns c =
    record {
      settled = sym (count_2 c.args.st (lent c.args.table.now c.args.keys.now c.args.lists.now) (sym
          c.is_whole_state.ensures ∙ c.if-is_whole_state.false));
      numbered = refl;
    }
