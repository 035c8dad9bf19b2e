-- `lending::with_tails` meets its contract. Assumes nothing.
use Prim.Native.Nat.{◌-◌}
use native.Mathlib.Omega.{arith}
use native.Mathlib.Nat.{div-le_self}
use Rattle.lending.proofs.Laws.{tails_one, tails_more, tails_small}
use Rattle.lending.proofs.with_tails.Goals as goal

pub returns-then-total-page : goal.returns-then-total-page
returns-then-total-page c = let a = c.args in tails_one a.page a.tail a.total c.if-total-page.true

pub overflow_add-result : goal.overflow_add-result
overflow_add-result c = let a = c.args in omega (arith, div-le_self a.total (a.page - a.tail))

pub overflow_mul-result : goal.overflow_mul-result
overflow_mul-result c =
    let a = c.args in omega (arith, tails_small a.page a.tail a.total c.requires.0 c.requires.1.0 c.requires.1.1)

pub overflow_add-result-2 : goal.overflow_add-result-2
overflow_add-result-2 c =
    let a = c.args in omega (arith, tails_small a.page a.tail a.total c.requires.0 c.requires.1.0 c.requires.1.1)

pub returns : goal.returns
returns c = let a = c.args in tails_more a.page a.tail a.total c.if-total-page.false
