-- The state is written where there is a new one. Assumes nothing.
use Prim.Native.Nat.{ℕ}
use mathlib.Core.Path.{sym, ap, ◌∙◌}
use mathlib.Core.List.{List}
use Rattle.store_append.specs.declared.Appended.{Appended}
use Rattle.c_told.specs.Told.{saved_appended}
use Rattle.c_told.proofs.save_appended.Goals as goal

pub returns-in-Accepted : goal.returns-in-Accepted
returns-in-Accepted c =
    let none : ℕ = 0 in ap (λ (a : List ℕ). (none, a)) c.save.ensures ∙ ap (λ (x : Appended). saved_appended x
    c.args.state.now) (sym c.in-Accepted.is)

pub returns-in-Declined : goal.returns-in-Declined
returns-in-Declined c = ap (λ (x : Appended). saved_appended x c.args.state.now) (sym c.in-Declined.is)
