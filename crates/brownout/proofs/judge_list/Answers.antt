-- Blocks, then the tail. Assumes nothing.
use mathlib.Core.Bool.{true, false}
use mathlib.Core.Path.{sym, ◌∙◌}
use native.Mathlib.Omega.{arith}
use Rattle.store_look.specs.Look.{lent}
use Rattle.brownout.proofs.Turns.{list_5, list_rest}
use Rattle.expull_header.proofs.Laws.{sound_facts}
use Rattle.brownout.proofs.judge_list.Goals as goal

pub overflow_sub-h : goal.overflow_sub-h
overflow_sub-h c = omega (arith, (sound_facts c.args.h 0 c.requires.1).shape.from)

pub are_good_blocks-requires : goal.are_good_blocks-requires
are_good_blocks-requires c = omega (arith, (sound_facts c.args.h 0 c.requires.1).to)

pub returns-then-not-are_good_blocks : goal.returns-then-not-are_good_blocks
returns-then-not-are_good_blocks c =
    let a = c.args in list_5 a.st (lent a.table.now a.keys.now a.lists.now) a.h (sym c.are_good_blocks.ensures ∙
    c.if-not-are_good_blocks.true)

pub is_tail_good-requires : goal.is_tail_good-requires
is_tail_good-requires c =
    (c.requires.1, sym c.are_good_blocks.ensures ∙ c.if-not-are_good_blocks.false)

pub returns-then-is_tail_good : goal.returns-then-is_tail_good
returns-then-is_tail_good c =
    let a = c.args in list_rest a.st (lent a.table.now a.keys.now a.lists.now) a.h true (sym
    c.are_good_blocks.ensures ∙ c.if-not-are_good_blocks.false) (sym c.is_tail_good.ensures ∙
    c.if-is_tail_good.true)

pub returns : goal.returns
returns c =
    let a = c.args in list_rest a.st (lent a.table.now a.keys.now a.lists.now) a.h false (sym
    c.are_good_blocks.ensures ∙ c.if-not-are_good_blocks.false) (sym c.is_tail_good.ensures ∙
    c.if-is_tail_good.false)
