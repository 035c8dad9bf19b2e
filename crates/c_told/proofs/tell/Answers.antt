-- Three words in a row are one write. Assumes nothing.
use Prim.Native.Nat.{ℕ, ◌/◌, ◌%◌, ◌≤◌}
use mathlib.Core.Path.{ap, ◌∙◌}
use mathlib.Core.List.{List, [], ◌∷◌}
use native.Mathlib.Omega.{arith}
use lib.ListN.{length, length-set}
use borrow.Author.Tests.{le-leb, lt-leb}
use Rattle.spans.proofs.Laws.{stores}
use Rattle.c_told.proofs.tell.Goals as goal

pub returns-then-told-lt3 : goal.returns-then-told-lt3
returns-then-told-lt3 c = rw (lt-leb _ _ c.if-told-lt3.true)

pub bounds-told-1 : goal.bounds-told-1
bounds-told-1 c = simp length-set (omega arith)

pub bounds-told-2 : goal.bounds-told-2
bounds-told-2 c = simp length-set (omega arith)

pub returns : goal.returns
returns c =
    let a = c.args in
    let n = a.number in
    let h : 3 ≤ length a.told.now = c.if-told-lt3.false in ap (λ (t : List ℕ). (a.code, t)) (stores a.told.now 0 (n
    % 4294967296 ∷ n / 4294967296 ∷ a.beside ∷ []) h) ∙ rw (le-leb _ _ h)
