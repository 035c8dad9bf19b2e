-- The refusals before the lookup, then the short way of a name that the guard lets through. Assumes nothing.
use mathlib.Core.Bool.{true}
use mathlib.Core.Path.{◌≡◌, refl, sym, ◌∙◌}
use native.Mathlib.Omega.{arith}
use lib.ListN.{length}
use Rattle.store_look.specs.Look.{lent, checked}
use Rattle.store_append.proofs.Cases.{append_2, append_3, append_13}
use Rattle.store_state.proofs.Guard.{kind-long, kind-nameless, kind_proper}
use Rattle.store_quick.proofs.try_append.Goals as goal
use Rattle.store_quick.proofs.try_append.Goals.{Else-not-is_whole_state}

-- the state is whole
whole : (c : Else-not-is_whole_state) → checked c.args.st (lent c.args.table.now c.args.keys.now c.args.lists.now) ≡
    true
whole c = sym c.is_whole_state.ensures ∙ c.if-not-is_whole_state.false

pub returns-then-not-is_whole_state : goal.returns-then-not-is_whole_state
returns-then-not-is_whole_state c = (
  refl,
  append_2 c.args.st (lent c.args.table.now c.args.keys.now c.args.lists.now) c.args.name.now
      c.args.bytes.now (sym c.is_whole_state.ensures ∙ c.if-not-is_whole_state.true),
)

pub returns-then-n-eq0 : goal.returns-then-n-eq0
returns-then-n-eq0 c = (
  refl,
  append_13 c.args.st (lent c.args.table.now c.args.keys.now c.args.lists.now) c.args.name.now
      c.args.bytes.now (whole (goal.at.returns-then-n-eq0 c).Else-not-is_whole_state) (kind-nameless c.args.st (length
      c.args.name.now) c.if-n-eq0.true),
)

pub returns-then-name_limit-n : goal.returns-then-name_limit-n
returns-then-name_limit-n c = (
  refl,
  append_3 c.args.st (lent c.args.table.now c.args.keys.now c.args.lists.now) c.args.name.now
      c.args.bytes.now (whole (goal.at.returns-then-name_limit-n c).Else-not-is_whole_state) (kind-long c.args.st
      (length c.args.name.now) (omega (arith, c.name_limit.ensures, c.if-name_limit-n.true))),
)

pub try_proper-requires : goal.try_proper-requires
try_proper-requires c = (
  whole (goal.at.try_proper-requires c).Else-not-is_whole_state,
  kind_proper c.args.st (length c.args.name.now)
      (omega (arith, c.if-n-eq0.false)) (omega (arith, c.name_limit.ensures, c.if-name_limit-n.false)),
)

pub returns : goal.returns
returns c = c.try_proper.ensures
