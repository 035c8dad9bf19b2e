-- 1, then 2, and else the store's answer and the state saved. Assumes nothing.
use Prim.Native.Nat.{ℕ}
use mathlib.Core.Path.{sym, ap, ◌∙◌}
use mathlib.Core.List.{List}
use borrow.Author.Tests.{le-leb, lt-leb}
use Rattle.store_create.specs.Create.{Out}
use Rattle.c_told.specs.Told.{created}
use Rattle.c_exports.proofs.nuvrisel_create.Goals as goal

pub returns-then-not-is_creatable : goal.returns-then-not-is_creatable
returns-then-not-is_creatable c = record { settled = rw (sym c.is_creatable.ensures ∙ c.if-not-is_creatable.true) }

pub returns-then-state-lt-AREA_SIZE : goal.returns-then-state-lt-AREA_SIZE
returns-then-state-lt-AREA_SIZE c =
    record {
      settled = rw (
        sym c.is_creatable.ensures ∙ c.if-not-is_creatable.false,
        lt-leb _ _
            c.if-state-lt-AREA_SIZE.true,
      );
    }

pub returns : goal.returns
returns c =
    let e = sym c.is_creatable.ensures ∙ c.if-not-is_creatable.false in record {
      settled = ap (λ (p : ℕ × List ℕ).
          (p, c.create-answer.new.table)) c.save_created.ensures ∙ ap (λ (o : Out). created o c.args.state.now)
          c.create-answer.ensures.settled ∙ rw (e, le-leb _ _ c.if-state-lt-AREA_SIZE.false);
    }
