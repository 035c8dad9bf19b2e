-- `shared_arena_hashmap::is_good_record` meets its contract. The length bytes lie in the key pages once their span is
-- good. Assumes nothing.
use mathlib.Core.Path.{sym, ◌∙◌}
use lib.ListN.{length}
use Rattle.memory_arena.proofs.Laws.{good-in, sensible_facts}
use Rattle.records.proofs.Laws.{record_short, record-whole}
use Rattle.records.proofs.is_good_record.Goals as goal

pub is_good_span-requires : goal.is_good_span-requires
is_good_span-requires c = (sensible_facts _ _ c.requires).sized

pub returns-then-not-is_good_span : goal.returns-then-not-is_good_span
returns-then-not-is_good_span c =
    sym (record_short c.args.arena c.args.keys.now c.args.at (sym c.is_good_span.ensures ∙
    c.if-not-is_good_span.true))

pub key_length-n-requires : goal.key_length-n-requires
key_length-n-requires c =
    good-in c.args.arena c.args.at 2 (length c.args.keys.now) (sensible_facts c.args.arena (length c.args.keys.now)
    c.requires).stands (sym c.is_good_span.ensures ∙ c.if-not-is_good_span.false)

pub is_good_span-requires-2 : goal.is_good_span-requires-2
is_good_span-requires-2 c = (sensible_facts _ _ c.requires).sized

pub returns : goal.returns
returns c =
    c.is_good_span-2.ensures ∙ record-whole c.args.arena c.args.keys.now c.args.at c.key_length-n.result (sym
    c.is_good_span.ensures ∙ c.if-not-is_good_span.false) c.key_length-n.ensures.0
