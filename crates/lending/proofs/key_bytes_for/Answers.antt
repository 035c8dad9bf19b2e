-- `lending::key_bytes_for` meets its contract. Assumes nothing.
use Prim.Native.Nat.{ℕ, ◌+◌, ◌*◌, ◌/◌, ◌%◌, ◌≤◌, ◌<◌}
use mathlib.Core.Path.{ap}
use native.Mathlib.Nat.{mod-le}
use native.Mathlib.Omega.{arith}
use Rattle.lending.proofs.Laws.{records_some, pages_small, rest-small}
use Rattle.lending.proofs.key_bytes_for.Goals as goal
use Rattle.lending.proofs.key_bytes_for.Goals.{After-saturating_sub-before}

-- a page holds a record
some_on : (c : After-saturating_sub-before) → 0 < c.args.page / (c.args.longest + 18)
some_on c = let a = c.args in let p = c.requires in records_some a.page a.lanes a.longest p.1.0 p.1.1.0 p.1.1.1 p.0

-- the pages left behind, and the rest, are no large numbers
pages : (c : After-saturating_sub-before) → c.saturating_sub-before.result / (c.args.page / (c.args.longest + 18)) * c.args.page ≤
    4194304 * 1048576
pages c =
    let a = c.args in
    let p = c.requires in pages_small a.page a.lanes a.longest p.1.0 p.1.1.0 p.1.1.1 p.0 c.saturating_sub-before.result
    (omega arith)

rest : (c : After-saturating_sub-before) → (c.saturating_sub-before.result % (c.args.page / (c.args.longest + 18)) + 1) *
    (c.args.longest + 18) ≤ 4194305 * 65553
rest c =
    let a = c.args in
    let p = c.requires in rest-small a.page a.lanes a.longest p.1.0 p.1.1.0 p.1.1.1 p.0 c.saturating_sub-before.result
    (omega arith)

pub nonzero_div-result : goal.nonzero_div-result
nonzero_div-result c = omega (arith, some_on (goal.at.nonzero_div-result c).After-saturating_sub-before)

pub overflow_mul-result : goal.overflow_mul-result
overflow_mul-result c = omega (arith, pages (goal.at.overflow_mul-result c).After-saturating_sub-before)

pub nonzero_rem-result : goal.nonzero_rem-result
nonzero_rem-result c = omega (arith, some_on (goal.at.nonzero_rem-result c).After-saturating_sub-before)

pub overflow_add-result : goal.overflow_add-result
overflow_add-result c =
    let a = c.args in omega (arith, mod-le c.saturating_sub-before.result (a.page / (a.longest + 18)), c.requires.1.1.0)

pub overflow_mul-result-2 : goal.overflow_mul-result-2
overflow_mul-result-2 c = omega (arith, rest (goal.at.overflow_mul-result-2 c).After-saturating_sub-before)

pub overflow_add-result-2 : goal.overflow_add-result-2
overflow_add-result-2 c =
    omega (
      arith,
      pages (goal.at.overflow_add-result-2 c).After-saturating_sub-before,
      rest (goal.at.overflow_add-result-2
          c).After-saturating_sub-before,
    )

pub returns : goal.returns
returns c =
    let a = c.args in ap (λ (n : ℕ). n / (a.page / (a.longest + 18)) * a.page + (n % (a.page / (a.longest + 18)) + 1) * (a.longest +
    18)) c.saturating_sub-before.ensures
