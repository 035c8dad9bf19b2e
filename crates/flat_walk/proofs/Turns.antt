-- Laws of the counting loop: an entry, a turn, its two ends. Assumes nothing.
use Prim.Native.Nat.{ℕ, ◌+◌, ◌-◌, ◌≤◌, ◌<◌}
use mathlib.Core.Path.{◌≡◌, refl, sym, ap, ◌∙◌}
use mathlib.Core.Bool.{Bool, true, false, cond}
use mathlib.Core.List.{List, []}
use native.Mathlib.Omega.{arith}
use lib.Dec.{eqb}
use lib.ListN.{length}
use borrow.Author.Tests.{eq-eqb, ne_eqb}
use Rattle.spans.specs.Span.{read_span}
use Rattle.spans.proofs.Laws.{length_span}
use Rattle.fastcmp.specs.Equal.{equal_bytes}
use Rattle.std.specs.Prelude.{Some, None, Ok, Err}
use Rattle.limits.specs.declared.Refusal.TheVariants.{Damage}
use Rattle.entries.specs.declared.Entry.{Entry as Places}
use Rattle.entries.specs.Log.{Entry, entry}
use Rattle.entries.specs.Form.{entry_at, Inside, Met, met, in_front, entries_from, entries_of}
use Rattle.entries.proofs.Laws.{entries_none, entries-end, entries-whole}
use Rattle.flat_walk.specs.Walk.{Tally, count, tally_on, tally_in, walked}

-- an entry of the name asked for, or of another
module _ (name other : List ℕ) (n : ℕ) (t : Tally) where
  pub tally-same : equal_bytes name other ≡ true → Some (count t + n) ≡ tally_on name other n t
  unfolding tally_on
  tally-same e = rw e

  pub tally_other : equal_bytes name other ≡ false → t ≡ tally_on name other n t
  unfolding tally_on
  tally_other e = rw e

tally_most : (name other : List ℕ) (n : ℕ) (t : Tally) → count (tally_on name other n t) ≤ count t + n
unfolding tally_on
tally_most name other n t = go (equal_bytes name other)
  where
    go : (b : Bool) → count (cond b (Some (count t + n)) t) ≤ count t + n
    go true = omega arith
    go false = omega arith

-- the loop on its way: with what it has met so far, and the entries from a place on. That many turns are enough, though
-- the code counts none
pub record Going (run name : List ℕ) (t : Tally) (at : ℕ) : Type 0 where
  pub inside : at ≤ length run
  pub few : count t ≤ at
  pub turns : ℕ
  pub enough : length run ≤ at + turns
  pub rest : walked name (length run) (entries_of run) None
      ≡ walked name (length run) (entries_from turns run at) t

pub going_start : (run name : List ℕ) → Going run name None 0
going_start run name =
    record { inside = omega arith; few = omega arith; turns = length run; enough = omega arith; rest = refl }

walked-front : (name : List ℕ) (len : ℕ) (e : Entry) (m : Met) (t : Tally)
    → walked name len (in_front e m) t ≡ walked name len m (tally_on name e.name (length e.bytes) t)
unfolding tally_in
walked-front name len e m t = refl

module _ {run name : List ℕ} {t : Tally} {at : ℕ} (G : Going run name t at) where
  pub going-turn : (e : Places) → at < length run → entry_at run at ≡ Some e → Inside (length run) at (Some e)
      → Going run name (tally_on name (read_span (at + 2) (e.name_end - (at + 2)) run) (e.to - e.from) t) e.to
  going-turn e g q I =
      let other : List ℕ = read_span (at + 2) (e.name_end - (at + 2)) run in
      let bytes : List ℕ = read_span e.from (e.to - e.from) run in
      let size : length bytes ≡ e.to - e.from = length_span e.from (e.to - e.from) run (omega arith) in
      let n : ℕ = G.turns - 1 in
      record {
        inside = I.1.1.1;
        few = omega (arith, tally_most name other (e.to - e.from) t);
        turns = n;
        enough = omega arith;
        rest =
            G.rest
            ∙ ap (λ (m : Met). walked name (length run) m t)
            (entries-whole run at G.turns e.name_end e.from e.to (omega arith) q)
            ∙ walked-front name (length run) (entry other bytes) (entries_from n run e.to) t
            ∙ ap (λ (k : ℕ). walked name (length run) (entries_from n run e.to) (tally_on name other k t)) size;
      }

  -- no entry is left: all is well at the run's end, and only there
  stopped : entries_from G.turns run at ≡ met [] at
      → walked name (length run) (entries_of run) None ≡ cond (eqb at (length run)) (Ok t) (Err Damage)
  unfolding tally_in
  stopped e = G.rest ∙ ap (λ (m : Met). walked name (length run) m t) e

  pub going-broken : at < length run → entry_at run at ≡ None
      → Err Damage ≡ walked name (length run) (entries_of run) None
  going-broken g e = sym (stopped (entries_none run at G.turns e) ∙ rw (ne_eqb at (length run) (λ q. omega arith)))

  pub going_over : length run ≤ at → Ok t ≡ walked name (length run) (entries_of run) None
  going_over h =
      let same : at ≡ length run = omega (arith, G.inside) in
      sym (stopped (entries-end run at G.turns h) ∙ rw (eq-eqb at (length run) same))
