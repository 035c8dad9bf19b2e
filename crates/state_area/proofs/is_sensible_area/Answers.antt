-- Each test in turn, behind the area's length. Assumes nothing.
use mathlib.Core.Path.{◌∙◌}
use mathlib.Core.Bool.{◌&&◌}
use lib.Dec.{leb, eqb}
use borrow.Author.Tests.{le-leb, lt-leb}
use Rattle.state_area.specs.Area.{sensible_area}
use Rattle.state_area.proofs.is_sensible_area.Goals as goal

pub returns-then-area-lt-AREA_SIZE : goal.returns-then-area-lt-AREA_SIZE
unfolding sensible_area
returns-then-area-lt-AREA_SIZE c = rw (lt-leb _ _ c.if-area-lt-AREA_SIZE.true)

pub returns : goal.returns
unfolding sensible_area
returns c =
    (λ i. eqb (c.get_u32-mark.ensures i) 827741518 && leb (c.get_u32-end.ensures i) 1 && eqb (c.get_u64-rest.ensures
    i) 0 && eqb (c.get_u32-last.ensures i) 0) ∙ rw (le-leb _ _ c.if-area-lt-AREA_SIZE.false)
