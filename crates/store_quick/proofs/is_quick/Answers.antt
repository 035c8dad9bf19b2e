-- Each test in turn. Assumes nothing.
use Prim.Native.Nat.{◌≤◌}
use mathlib.Core.Path.{sym, ap, subst, ◌∙◌}
use mathlib.Core.Bool.{false≢true}
use native.Mathlib.Omega.{arith}
use borrow.Author.Tests.{not-true}
use Rattle.expull_header.specs.declared.Header.{Header}
use Rattle.expull_append.specs.Append.{good_tail}
use Rattle.records.proofs.Laws.{head-found}
use Rattle.store_quick.proofs.is_quick.Goals as goal

pub returns-in_default : goal.returns-in_default
returns-in_default c = λ e. absurd (false≢true e)

pub returns-then-not-is_good_tail : goal.returns-then-not-is_good_tail
returns-then-not-is_good_tail c = λ e. absurd (false≢true e)

pub returns-then-h-n : goal.returns-then-h-n
returns-then-h-n c = λ e. absurd (false≢true e)

pub returns-then-n-eq0 : goal.returns-then-n-eq0
returns-then-n-eq0 c = λ e. absurd (false≢true e)

pub returns : goal.returns
returns c =
    let h = head-found c.args.keys.now c.args.at _ (sym c.in-Some.ensures) in λ e. record {
      sound = h.sound;
      tail = sym (c.is_good_tail.ensures ∙ ap (good_tail c.args.st.list_arena) h.is) ∙
          c.if-not-is_good_tail.false;
      some = omega arith;
      fits = subst (λ (k : Header). c.args.n ≤ k.remaining) h.is
          c.if-h-n.false;
      calm = sym c.is_saturated.ensures ∙ not-true _ e;
    }
