-- A page that no arena has is sorted out before the product, which then can't wrap. Assumes nothing.
use Rattle.std.proofs.Common.{arith}
use Rattle.std.proofs.lemmas.Bool.Decides.{nat_tests}
use Rattle.memory_arena.proofs.Laws.{sensible_code, sensible_past, sensible_unsized}
use Rattle.memory_arena.proofs.Arena.is_sensible.Goals as goal
use Rattle.memory_arena.proofs.Arena.is_sensible.Goals.{then-is_page_size, else-is_page_size, then-page-lt-PAGE_LIMIT}
use Rattle.memory_arena.proofs.Arena.is_sensible.Goals.{else-page-lt-PAGE_LIMIT, then-len-size, else-len-size}

pub returns-then-page-size : goal.returns-then-page-size
returns-then-page-size c =
    elim c.if-is_page_size.branch [
      | then-is_page_size u ↦ elim c.if-page-lt-PAGE_LIMIT.branch [
        | then-page-lt-PAGE_LIMIT v ↦ elim c.if-len-size.branch [
          | then-len-size w ↦ grind (arith, nat_tests, sensible_code)
          | else-len-size w ↦ grind arith
        ]
        | else-page-lt-PAGE_LIMIT v ↦ elim c.if-len-size.branch [ then-len-size w ↦ grind arith | else-len-size w ↦ grind arith ]
      ]
      | else-is_page_size u ↦ elim c.if-page-lt-PAGE_LIMIT.branch [ then-page-lt-PAGE_LIMIT v ↦ grind arith | else-page-lt-PAGE_LIMIT v ↦ grind arith ]
    ]

pub returns-else-page-size : goal.returns-else-page-size
returns-else-page-size c =
    elim c.if-is_page_size.branch [
      | then-is_page_size u ↦ elim c.if-page-lt-PAGE_LIMIT.branch [
        | then-page-lt-PAGE_LIMIT v ↦ elim c.if-len-size.branch [
          | then-len-size w ↦ grind (arith, nat_tests, sensible_code)
          | else-len-size w ↦ grind (arith, nat_tests, sensible_code)
        ]
        | else-page-lt-PAGE_LIMIT v ↦ grind (arith, sensible_past)
      ]
      | else-is_page_size u ↦ grind (arith, sensible_unsized)
    ]
