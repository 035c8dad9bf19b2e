-- Of any bytes: what is gone through as entries is these entries written, and it goes as far as whole ones follow.
-- Assumes nothing.
use Prim.Native.Nat.{ℕ, zero, suc, ◌+◌, ◌-◌, ◌≤◌}
use mathlib.Core.Path.{◌≡◌, refl, sym, ap, ◌∙◌, subst}
use mathlib.Core.Logic.{◌⊎◌, inl, inr}
use mathlib.Core.Bool.{Bool, true, false}
use mathlib.Core.List.{List, [], ◌∷◌}
use native.Mathlib.Omega.{arith}
use lib.Dec.{leb}
use lib.ListN.{length, take, drop}
use borrow.Author.Tests.{leb-true, leb-false}
use Rattle.numbers.specs.LittleEndian.{le_number, le_bytes, Bytes}
use Rattle.numbers.proofs.Laws.{le_back}
use Rattle.spans.specs.Span.{read_span}
use Rattle.spans.proofs.Laws.{length_span, span_add, span_none}
use Rattle.std.specs.Prelude.{None}
use Rattle.entries.specs.Log.{Entry, entry}
use Rattle.entries.specs.Form.{encoded, encoded_all, whole, entry_at, Met, met, in_front, entries_from, entries_of}
use Rattle.entries.proofs.Laws.{entry_short, entry_cut, entry-long, entry_whole, entries_none, entries-whole}

-- ---- bytes in a span

bytes_drop : (n : ℕ) (l : List ℕ) → Bytes l → Bytes (drop n l)
bytes_drop zero l b = b
bytes_drop (suc n) [] b = tt
bytes_drop (suc n) (x ∷ l) b = bytes_drop n l b.1

bytes_take : (n : ℕ) (l : List ℕ) → Bytes l → Bytes (take n l)
bytes_take zero l b = tt
bytes_take (suc n) [] b = tt
bytes_take (suc n) (x ∷ l) b = (b.0, bytes_take n l b.1)

bytes_span : (p n : ℕ) (l : List ℕ) → Bytes l → Bytes (read_span p n l)
unfolding read_span
bytes_span p n l b = bytes_take n (drop p l) (bytes_drop p l b)

number_span : (run : List ℕ) (p w k : ℕ) → Bytes run → p + w ≤ length run → k ≡ le_number (read_span p w run)
    → read_span p w run ≡ le_bytes w k
number_span run p w k b h e =
    let s : List ℕ = read_span p w run in
    sym (ap (le_bytes w) e
    ∙ subst (λ (n : ℕ). le_bytes n (le_number s) ≡ s) (length_span p w run h) (le_back s (bytes_span p w run b)))

-- ---- what stands at a place: no whole entry, or one of n name bytes and m bytes

record Entered (run : List ℕ) (at : ℕ) : Type 0 where
  n : ℕ
  m : ℕ
  n_is : n ≡ le_number (read_span at 2 run)
  m_is : m ≡ le_number (read_span (at + 2 + n) 4 run)
  within : at + 2 + n + 4 + m ≤ length run
  told : entry_at run at ≡ whole (at + 2 + n) (at + 2 + n + 4) (at + 2 + n + 4 + m)

entry_cases : (run : List ℕ) (at : ℕ) → (entry_at run at ≡ None) ⊎ Entered run at
entry_cases run at = go1 (leb 6 (length run - at)) refl
  where
    k : ℕ
    k = le_number (read_span at 2 run)

    l : ℕ
    l = le_number (read_span (at + 2 + k) 4 run)

    go3 : (t : Bool) → leb l (length run - at - 6 - k) ≡ t → 6 ≤ length run - at → k ≤ length run - at - 6
        → (entry_at run at ≡ None) ⊎ Entered run at
    go3 true q h i =
        let j : l ≤ length run - at - 6 - k = leb-true _ _ q in
        inr (record {
          n = k;
          m = l;
          n_is = refl;
          m_is = refl;
          within = omega arith;
          told = entry_whole run at k l refl refl h i j;
        })
    go3 false q h i = inl (entry-long run at k l refl refl h i (leb-false _ _ q))

    go2 : (t : Bool) → leb k (length run - at - 6) ≡ t → 6 ≤ length run - at
        → (entry_at run at ≡ None) ⊎ Entered run at
    go2 true q h = go3 (leb l (length run - at - 6 - k)) refl h (leb-true _ _ q)
    go2 false q h = inl (entry_cut run at k refl h (leb-false _ _ q))

    go1 : (t : Bool) → leb 6 (length run - at) ≡ t → (entry_at run at ≡ None) ⊎ Entered run at
    go1 true q = go2 (leb k (length run - at - 6)) refl (leb-true _ _ q)
    go1 false q = inl (entry_short run at (leb-false _ _ q))

-- an entry in front of what follows it
module _ (run : List ℕ) (at : ℕ) (W : Entered run at) where
  to : ℕ
  to = at + 2 + W.n + 4 + W.m

  its : Entry
  its = entry (read_span (at + 2) W.n run) (read_span (at + 2 + W.n + 4) W.m run)

  entered-turn : (k : ℕ) → entries_from (suc k) run at ≡ in_front its (entries_from k run to)
  unfolding to its
  entered-turn k =
      let en : at + 2 + W.n - (at + 2) ≡ W.n = omega arith in
      let em : at + 2 + W.n + 4 + W.m - (at + 2 + W.n + 4) ≡ W.m = omega arith in
      let one : suc k - 1 ≡ k = omega arith in
      entries-whole run at (suc k) (at + 2 + W.n) (at + 2 + W.n + 4) (at + 2 + W.n + 4 + W.m) (omega arith)
      W.told
      ∙ rw (en, em, one)

  -- it is its name and bytes written
  entered_span : Bytes run → read_span at (2 + W.n + 4 + W.m) run ≡ encoded its
  unfolding its encoded
  entered_span b =
      let name : List ℕ = read_span (at + 2) W.n run in
      let bytes : List ℕ = read_span (at + 2 + W.n + 4) W.m run in
      let ln : W.n ≡ length name = sym (length_span (at + 2) W.n run (omega (arith, W.within))) in
      let lm : W.m ≡ length bytes = sym (length_span (at + 2 + W.n + 4) W.m run (omega (arith, W.within))) in
      let p1 : read_span at 2 run ≡ le_bytes 2 (length name) =
      number_span run at 2 (length name) b (omega (arith, W.within)) (sym ln ∙ W.n_is) in
      let p3 : read_span (at + 2 + W.n) 4 run ≡ le_bytes 4 (length bytes) =
      number_span run (at + 2 + W.n) 4 (length bytes) b (omega (arith, W.within)) (sym lm ∙ W.m_is) in
      let sum : 2 + W.n + 4 + W.m ≡ 2 + (W.n + (4 + W.m)) = omega arith in
      ap (λ (k : ℕ). read_span at k run) sum
      ∙ span_add at 2 (W.n + (4 + W.m)) run
      ∙ rw (span_add (at + 2) W.n (4 + W.m) run, span_add (at + 2 + W.n) 4 W.m run, p1, p3)

-- ---- ENCODE OF PARSE

record Exact (run : List ℕ) (at : ℕ) (m : Met) : Type 0 where
  least : at ≤ m.end
  same : read_span at (m.end - at) run ≡ encoded_all m.entries

exact_none : (run : List ℕ) (at : ℕ) → Exact run at (met [] at)
unfolding encoded_all
exact_none run at =
    let none : at - at ≡ 0 = omega arith in
    record { least = omega arith; same = ap (λ (k : ℕ). read_span at k run) none ∙ span_none at run }

exact-front : (run : List ℕ) (at : ℕ) (W : Entered run at) (m : Met) → Bytes run → Exact run (to run at W) m
    → Exact run at (in_front (its run at W) m)
unfolding to encoded_all
exact-front run at W m b E =
    let far : m.end - at ≡ (2 + W.n + 4 + W.m) + (m.end - (at + 2 + W.n + 4 + W.m)) = omega (arith, E.least) in
    let there : at + (2 + W.n + 4 + W.m) ≡ at + 2 + W.n + 4 + W.m = omega arith in
    record {
      least = omega (arith, E.least);
      same =
          ap (λ (k : ℕ). read_span at k run) far
          ∙ span_add at (2 + W.n + 4 + W.m) (m.end - (at + 2 + W.n + 4 + W.m)) run
          ∙ rw (entered_span run at W b, there, E.same);
    }

from_exact : (n : ℕ) (run : List ℕ) (at : ℕ) → Bytes run → Exact run at (entries_from n run at)
unfolding entries_from
from_exact zero run at b = exact_none run at
from_exact (suc n) run at b = go (entry_cases run at) (λ p. from_exact n run p b)
  where
    go : (entry_at run at ≡ None) ⊎ Entered run at → ((p : ℕ) → Exact run p (entries_from n run p))
        → Exact run at (entries_from (suc n) run at)
    go (inl e) more = subst (Exact run at) (sym (entries_none run at (suc n) e)) (exact_none run at)
    go (inr W) more =
        subst (Exact run at) (sym (entered-turn run at W n))
        (exact-front run at W (entries_from n run (to run at W)) b (more (to run at W)))

pub exact : (run : List ℕ) → Bytes run → read_span 0 (entries_of run).end run ≡ encoded_all (entries_of run).entries
exact run b =
    let none : (entries_of run).end - 0 ≡ (entries_of run).end = omega arith in
    ap (λ (k : ℕ). read_span 0 k run) (sym none) ∙ (from_exact (length run) run 0 b).same

-- ---- no entry is left out

from_all : (n : ℕ) (run : List ℕ) (at : ℕ) → length run ≤ at + n → entry_at run (entries_from n run at).end ≡ None
unfolding entries_from to
from_all zero run at h = entry_short run at (omega arith)
from_all (suc n) run at h = go (entry_cases run at) (λ p k. from_all n run p k)
  where
    go : (entry_at run at ≡ None) ⊎ Entered run at
        → ((p : ℕ) → length run ≤ p + n → entry_at run (entries_from n run p).end ≡ None)
        → entry_at run (entries_from (suc n) run at).end ≡ None
    go (inl e) more = ap (λ (m : Met). entry_at run m.end) (entries_none run at (suc n) e) ∙ e
    go (inr W) more =
        ap (λ (m : Met). entry_at run m.end) (entered-turn run at W n)
        ∙ more (to run at W) (omega arith)

pub all-met : (run : List ℕ) → entry_at run (entries_of run).end ≡ None
all-met run = from_all (length run) run 0 (omega arith)
