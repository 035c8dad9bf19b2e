-- Laws of the copying loop: an entry, a turn, its end. Assumes nothing.
use Prim.Native.Nat.{ℕ, ◌+◌, ◌-◌, ◌≤◌, ◌<◌}
use mathlib.Core.Path.{◌≡◌, refl, sym, ap, ◌∙◌, subst}
use mathlib.Core.Bool.{Bool, true, false, cond}
use mathlib.Core.List.{List, [], ◌∷◌}
use native.Mathlib.Omega.{arith}
use lib.ListN.{length}
use Rattle.spans.specs.Span.{read_span, overwrite}
use Rattle.fastcmp.specs.Equal.{equal_bytes}
use Rattle.std.specs.Prelude.{Some, None}
use Rattle.entries.specs.declared.Entry.{Entry as Places}
use Rattle.entries.specs.Log.{Entry, entry}
use Rattle.entries.specs.Form.{entry_at, Inside, Met, met, entries_from, entries_of}
use Rattle.entries.proofs.Laws.{entries_none, entries-end, entries-whole}
use Rattle.flat_walk.specs.Walk.{place_on, output_on, place_in, output_in}

-- ---- one entry

-- of the name asked for, or of another: the place behind it
module _ (name other : List ℕ) (n at : ℕ) where
  pub place_same : equal_bytes name other ≡ true → at + n ≡ place_on name other n at
  unfolding place_on
  place_same e = rw e

  pub place_other : equal_bytes name other ≡ false → at ≡ place_on name other n at
  unfolding place_on
  place_other e = rw e

-- and the output
module _ (name other bytes : List ℕ) (at : ℕ) (output : List ℕ) where
  pub output_same : equal_bytes name other ≡ true → overwrite at bytes output ≡ output_on name other bytes at output
  unfolding output_on
  output_same e = rw e

  pub output_other : equal_bytes name other ≡ false → output ≡ output_on name other bytes at output
  unfolding output_on
  output_other e = rw e

place_least : (name other : List ℕ) (n at : ℕ) → at ≤ place_on name other n at
unfolding place_on
place_least name other n at = go (equal_bytes name other)
  where
    go : (b : Bool) → at ≤ cond b (at + n) at
    go true = omega arith
    go false = omega arith

place_after : (name : List ℕ) (es : List Entry) (at : ℕ) → at ≤ place_in name es at
unfolding place_in
place_after name [] at = omega arith
place_after name (e ∷ es) at =
    omega (
      arith,
      place_least name e.name (length e.bytes) at,
      place_after name es (place_on name e.name (length e.bytes) at),
    )

-- ---- the loop on its way

pub record Copying (run name output₀ output : List ℕ) (at done : ℕ) : Type 0 where
  pub inside : at ≤ length run
  pub turns : ℕ
  pub enough : length run ≤ at + turns
  pub room : place_in name (entries_from turns run at).entries done ≤ length output
  pub same : length output ≡ length output₀
  pub rest : output_in name (entries_of run).entries 0 output₀
      ≡ output_in name (entries_from turns run at).entries done output

pub copying-start : (run name output : List ℕ) → place_in name (entries_of run).entries 0 ≤ length output
    → Copying run name output output 0 0
copying-start run name output h = record {
  inside = omega arith;
  turns = length run;
  enough = omega arith;
  room = h;
  same = refl;
  rest = refl;
}

module _ {run name output₀ output : List ℕ} {at done : ℕ} (C : Copying run name output₀ output at done) where
  -- no entry is left, at the run's end or before it
  over : entries_from C.turns run at ≡ met [] at → output ≡ output_in name (entries_of run).entries 0 output₀
  unfolding output_in
  over e = sym (C.rest ∙ ap (λ (m : Met). output_in name m.entries done output) e)

  pub copying_none : entry_at run at ≡ None → output ≡ output_in name (entries_of run).entries 0 output₀
  copying_none e = over (entries_none run at C.turns e)

  pub copying_over : length run ≤ at → output ≡ output_in name (entries_of run).entries 0 output₀
  copying_over h = over (entries-end run at C.turns h)

  module _ (e : Places) (g : at < length run) (q : entry_at run at ≡ Some e) (I : Inside (length run) at (Some e)) where
    other : List ℕ
    other = read_span (at + 2) (e.name_end - (at + 2)) run

    bytes : List ℕ
    bytes = read_span e.from (e.to - e.from) run

    behind : List Entry
    behind = (entries_from (C.turns - 1) run e.to).entries

    here : (entries_from C.turns run at).entries ≡ entry other bytes ∷ behind
    unfolding other bytes behind
    here =
        ap (λ (m : Met). m.entries) (entries-whole run at C.turns e.name_end e.from e.to (omega arith) q)

    room-behind : place_in name behind (place_on name other (length bytes) done) ≤ length output
    unfolding place_in
    room-behind = subst (λ (es : List Entry). place_in name es done ≤ length output) here C.room

    pub copying-room : place_on name (read_span (at + 2) (e.name_end - (at + 2)) run)
        (length (read_span e.from (e.to - e.from) run)) done ≤ length output
    unfolding other bytes
    copying-room = omega (arith, room-behind, place_after name behind (place_on name other (length bytes) done))

    pub copying-turn : (output' : List ℕ) → length output' ≡ length output
        → output'
        ≡ output_on name (read_span (at + 2) (e.name_end - (at + 2)) run) (read_span e.from (e.to - e.from) run) done
        output
        → Copying run name output₀ output' e.to (place_on name (read_span (at + 2) (e.name_end - (at + 2)) run)
        (length (read_span e.from (e.to - e.from) run)) done)
    unfolding other bytes behind output_in
    copying-turn output' l p = record {
      inside = I.1.1.1;
      turns = C.turns - 1;
      enough = omega arith;
      room =
          subst (λ (n : ℕ). place_in name behind (place_on name other (length bytes) done) ≤ n) (sym l) room-behind;
      same = l ∙ C.same;
      rest =
          C.rest ∙ ap (λ (es : List Entry). output_in name es done output) here
          ∙ ap (output_in name behind (place_on name other (length bytes) done)) (sym p);
    }
