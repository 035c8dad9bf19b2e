-- `join::halted` meets its contract. Assumes nothing.
use mathlib.Core.Path.{sym, ap}
use Rattle.store_append.specs.declared.Appended.{Appended}
use Rattle.join.specs.Bring.{halted_of}
use Rattle.join.proofs.halted.Goals as goal

pub returns-in-Accepted : goal.returns-in-Accepted
returns-in-Accepted c = sym (ap (λ (a : Appended). halted_of a c.args.lanes) c.in-Accepted.is)

pub returns-in-Declined : goal.returns-in-Declined
returns-in-Declined c = sym (ap (λ (a : Appended). halted_of a c.args.lanes) c.in-Declined.is)
