-- The last block tells where its filled bytes end. Assumes nothing.
use Prim.Native.Nat.{◌-◌}
use mathlib.Core.Path.{◌≡◌, refl, sym, ap, ◌∙◌}
use native.Mathlib.Omega.{arith}
use Rattle.std.specs.Prelude.{Option, Result, Ok}
use Rattle.limits.specs.declared.Refusal.{Refusal}
use Rattle.expull_walk.specs.declared.Block.{Block}
use Rattle.store_look.specs.Look.{lent}
use Rattle.brownout.proofs.Turns.{tail_none, tail_some, last_found}
use Rattle.expull_header.proofs.Laws.{sound_facts}
use Rattle.brownout.proofs.is_tail_good.Goals as goal

pub returns-then-h-eq2 : goal.returns-then-h-eq2
returns-then-h-eq2 c =
    tail_none (lent c.args.table.now c.args.keys.now c.args.lists.now.bytes.now) c.args.lists.now.arena c.args.h c.if-h-eq2.true

pub overflow_sub-last : goal.overflow_sub-last
overflow_sub-last c = omega (arith, (sound_facts c.args.h 0 c.requires.0).shape.from, c.if-h-eq2.false)

pub find_block-requires : goal.find_block-requires
find_block-requires c = c.requires.0

-- two values found are one
some-of_ok : {x y : Option Block} → ◌≡◌ {A = Result (Option Block) Refusal} (Ok x) (Ok y) → x ≡ y
some-of_ok e = cc

pub unwrap-requires : goal.unwrap-requires
unwrap-requires c =
    let a = c.args in
    let l = last_found (lent a.table.now a.keys.now a.lists.now.bytes.now) a.lists.now.arena a.h c.requires.0 c.requires.1
    c.if-h-eq2.false (a.h.number - 3) refl in
    rw (c.find_block.ensures, l) refl

pub unwrap-block-requires : goal.unwrap-block-requires
unwrap-block-requires c =
    let a = c.args in
    let l = last_found (lent a.table.now a.keys.now a.lists.now.bytes.now) a.lists.now.arena a.h c.requires.0 c.requires.1
    c.if-h-eq2.false (a.h.number - 3) refl in
    rw (some-of_ok (sym c.unwrap.ensures ∙ c.find_block.ensures ∙ l)) refl

pub returns : goal.returns
returns c =
    let a = c.args in tail_some (lent a.table.now a.keys.now a.lists.now.bytes.now) a.lists.now.arena a.h c.requires.0 c.requires.1
    c.if-h-eq2.false (a.h.number - 3) c.unwrap-block.result refl
    (sym c.find_block.ensures ∙ c.unwrap.ensures ∙ ap Ok c.unwrap-block.ensures)
