-- `expull_walk::Lists::find_block` meets its contract. What the block's place says. Assumes nothing.
use Prim.Native.Nat.{ℕ}
use Rattle.std.specs.Prelude.{Option}
use Rattle.std.proofs.lemmas.Result.{err_from_is_err_and}
use mathlib.Core.Path.{sym, ap, ◌∙◌}
use native.Mathlib.Omega.{arith}
use Rattle.std.specs.Option.{ok_or}
use Rattle.limits.specs.declared.Refusal.TheVariants.{Damage}
use Rattle.expull_header.proofs.Laws.{sound_facts}
use Rattle.expull_walk.proofs.Laws.{find_none, block_met, block_refused}
use Rattle.expull_walk.proofs.Lists.find_block.Goals as goal

pub overflow_sub-count : goal.overflow_sub-count
overflow_sub-count c = (sound_facts c.args.h 0 c.requires).shape.from

pub returns-then-count-index : goal.returns-then-count-index
returns-then-count-index c = sym (find_none c.args.self.now.arena c.args.self.now.bytes.now c.args.h c.args.index c.if-count-index.true)

pub find_place-requires : goal.find_place-requires
find_place-requires c =
    omega (arith, (sound_facts c.args.h 0 c.requires).to, c.if-count-index.false)

pub returns-in_err-at : goal.returns-in_err-at
returns-in_err-at c =
    let p = err_from_is_err_and c.from_residual.result c.from_residual.ensures.1 in
    rw (p.1, p.2) (sym (block_refused c.args.self.now.arena c.args.self.now.bytes.now c.args.h c.args.index _ c.if-count-index.false
    (ap (λ (o : Option ℕ). ok_or o Damage) (sym c.find_place.ensures) ∙ sym c.ok_or.ensures.value ∙ c.in_err-at.was)))

pub returns : goal.returns
returns c =
    sym (rw c.block_length.ensures (block_met c.args.self.now.arena c.args.self.now.bytes.now c.args.h c.args.index c.in_ok-at.at
    c.if-count-index.false
    (ap (λ (o : Option ℕ). ok_or o Damage) (sym c.find_place.ensures) ∙ sym c.ok_or.ensures.value ∙ c.in_ok-at.was)))
