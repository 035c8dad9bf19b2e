-- What holds while the code's loops run, and what a turn of each does: blocks tested on from one of them, and copied.
-- Assumes nothing.
use Prim.Native.Nat.{ℕ, zero, suc, ◌+◌, ◌-◌, ◌≤◌, ◌<◌, min}
use mathlib.Core.Path.{◌≡◌, refl, sym, ap, ◌∙◌, subst}
use mathlib.Core.Bool.{Bool, true, false, ◌&&◌}
use mathlib.Core.List.{List, [], ◌++◌}
use native.Mathlib.Nat.{add-zero}
use native.Mathlib.Numerals.{add-one}
use native.Mathlib.Omega.{arith}
use lib.ListN.{length, take, drop}
use Rattle.limits.specs.Limits.{link_size}
use Rattle.numbers.specs.LittleEndian.{le_number}
use Rattle.numbers.proofs.Tests.{both, left_false}
use Rattle.spans.specs.Span.{read_span, overwrite}
use Rattle.spans.proofs.Laws.{length_span, span_add, span_none, span_within, length-overwrite, overwrite-append}
use Rattle.spans.proofs.Laws.{overwrite_none}
use Rattle.memory_arena.specs.declared.Arena.{Arena}
use Rattle.memory_arena.specs.Pages.{good_span}
use Rattle.memory_arena.specs.Calls.{sensible}
use Rattle.memory_arena.proofs.Laws.{good-in, sensible_facts}
use Rattle.expull_header.specs.Header.{block_size}
use Rattle.lane_pieces.specs.Onward.{next_place, good_on, bytes_on, held_on, last_on, LieOn, Copyable}
use Rattle.lane_pieces.proofs.Onward.{good_more, held_more, held_none, span_behind, span_in-front}

-- ---- blocks tested

-- good blocks lie in the memory
pub good_lie : (a : Arena) (m : List ℕ) (i place k : ℕ) → sensible a (length m) ≡ true → good_on a m i place k ≡ true
    → LieOn m i place k
good_lie a m i place zero s e = tt
good_lie a m i place (suc k) s e =
    let p = both (good_span a place (block_size (i + 3) + link_size)) (good_on a m (suc i) (next_place m i place) k)
    (sym (good_more a m i place k) ∙ e) in (
      good-in a place (block_size (i + 3) + link_size) (length m) (sensible_facts a (length m) s).stands p.0,
      good_lie a m (suc i) (next_place m i place) k s p.1,
    )

-- those before block i are good: the rest decides
pub record Testing (a : Arena) (m : List ℕ) (first end place b i : ℕ) : Type 0 where
  pub rest : good_on a m first place (end - first) ≡ good_on a m i b (end - i)

module _ {a : Arena} {m : List ℕ} {first end place b i : ℕ} (w : Testing a m first end place b i) where
  abbrev test : ℕ → Bool
  test size = good_span a b (size + link_size)

  turned : i < end → good_on a m first place (end - first)
      ≡ (test (block_size (i + 3)) && good_on a m (suc i) (next_place m i b) (end - suc i))
  turned h =
      let z : end - i ≡ suc (end - suc i) = omega arith in
      w.rest ∙ ap (good_on a m i b) z ∙ good_more a m i b (end - suc i)

  pub testing_stop : {size : ℕ} {t : Bool} → i < end → size ≡ block_size (i + 3) → t ≡ test size → t ≡ false
      → good_on a m first place (end - first) ≡ false
  testing_stop h e f g =
      turned h ∙ left_false (test (block_size (i + 3))) _ (ap test (sym e) ∙ sym f ∙ g)

  pub testing-next : {size next : ℕ} {t : Bool} → i < end → size ≡ block_size (i + 3) → t ≡ test size → t ≡ true
      → next ≡ le_number (read_span (b + size) link_size m) → Testing a m first end place next (i + 1)
  unfolding next_place
  testing-next h e f g q = record {
    rest =
        turned h ∙ ap (λ (t : Bool). t && good_on a m (suc i) (next_place m i b) (end - suc i))
        (ap test (sym e) ∙ sym f ∙ g)
        ∙ rw (q, e, add-one i);
  }

  pub testing-end : end ≤ i → good_on a m first place (end - first) ≡ true
  unfolding good_on
  testing-end h = let z : end - i ≡ 0 = omega arith in w.rest ∙ ap (good_on a m i b) z

  pub testing-in : (size : ℕ) {t : Bool} → sensible a (length m) ≡ true → t ≡ test size → t ≡ true
      → b + (size + link_size) ≤ length m
  testing-in size s f g =
      good-in a b (size + link_size) (length m) (sensible_facts a (length m) s).stands (sym f ∙ g)

-- ---- blocks copied

pub record Copying (m : List ℕ) (first end place skip n : ℕ) (output₀ output : List ℕ) (b last i from at : ℕ)
    : Type 0 where
  pub before_end : i ≤ end
  pub copied : at ≤ n
  pub within : from ≤ block_size (i + 3)
  pub held : from + (n - at) ≤ held_on i (end - i)
  pub lie : LieOn m i b (end - i)
  pub same : length output ≡ length output₀
  pub rest : overwrite 0 (read_span skip n (bytes_on m first place (end - first))) output₀
      ≡ overwrite at (read_span from (n - at) (bytes_on m i b (end - i))) output
  pub ends : last_on m first place place (end - first) ≡ last_on m i b last (end - i)

pub copying-begun : (m : List ℕ) (first end place skip n : ℕ) (output : List ℕ)
    → Copyable m first end place skip n (length output)
    → Copying m first end place skip n output output place place first skip 0
copying-begun m first end place skip n output k = let z : n - 0 ≡ n = omega arith in record {
  before_end = k.from;
  copied = omega arith;
  within = k.within;
  held = omega (arith, k.held);
  lie = k.lie;
  same = refl;
  rest = rw z;
  ends = refl;
}

-- a part of a slice, as code lends it
part_span : (m : List ℕ) (p n : ℕ) → take (p + n - p) (drop p m) ≡ read_span p n m
unfolding read_span
part_span m p n = let e : p + n - p ≡ n = omega arith in rw e

pub length_part : (m : List ℕ) (p n : ℕ) → p + n ≤ length m → length (take (p + n - p) (drop p m)) ≡ n
length_part m p n h = ap length (part_span m p n) ∙ length_span p n m h

-- a part that begins in a block: what lies in it, then the rest from the next one's start
parted : (from k d : ℕ) (s r : List ℕ) → from + k ≤ length s → (0 < d → from + k ≡ length s)
    → read_span from (k + d) (s ++ r) ≡ read_span from k s ++ read_span 0 d r
parted from k zero s r l f =
    span_add from k 0 (s ++ r) ∙ rw (span_none, span_none) (ap (λ (x : List ℕ). x ++ []) (span_in-front from k s r l))
parted from k (suc d) s r l f =
    let e : length s ≡ from + k = sym (f (omega arith)) in
    let b : read_span (from + k) (suc d) (s ++ r) ≡ read_span 0 (suc d) r =
    rw add-zero at (span_behind (from + k) 0 (suc d) s r e) in
    span_add from k (suc d) (s ++ r) ∙ rw (b, span_in-front from k s r l)

module _ {m : List ℕ} {first end place skip n : ℕ} {output₀ output : List ℕ} {b last i from at : ℕ}
    (w : Copying m first end place skip n output₀ output b last i from at) where
  -- the block of a turn lies in the memory
  pub copying-in : {size : ℕ} → i < end → size ≡ block_size (i + 3) → b + (size + link_size) ≤ length m
  copying-in {size} h e =
      let z : end - i ≡ suc (end - suc i) = omega arith in
      rw e (subst (LieOn m i b) z w.lie).0

  -- what is copied of it fits the output, and lies in it
  pub copying-fits : {size k : ℕ} → size ≡ block_size (i + 3) → k ≡ min (size - from) (n - at)
      → (at + k ≤ n) × (from + k ≤ size)
  copying-fits e f = (omega (arith, w.copied), omega (arith, w.within))

  pub copying-next : {size k next : ℕ} {output' : List ℕ} → i < end → size ≡ block_size (i + 3)
      → k ≡ min (size - from) (n - at)
      → output' ≡ overwrite at (take (b + from + k - (b + from)) (drop (b + from) m)) output
      → next ≡ le_number (read_span (b + size) link_size m)
      → Copying m first end place skip n output₀ output' next b (i + 1) 0 (at + k)
  unfolding next_place bytes_on last_on
  copying-next {size} {k} {next} {output'} h e f o g =
      let z : end - i ≡ suc (end - suc i) = omega arith in
      let y : suc i ≡ i + 1 = omega arith in
      let x : next ≡ next_place m i b = g ∙ rw e in
      let fits = copying-fits e f in
      let in_memory = copying-in h e in
      let d : ℕ = n - (at + k) in
      let split : n - at ≡ k + d = omega (arith, w.copied) in
      let block : List ℕ = read_span b (block_size (i + 3)) m in
      let long : length block ≡ block_size (i + 3) = length_span b (block_size (i + 3)) m (omega (arith, in_memory)) in
      let others : List ℕ = bytes_on m (suc i) (next_place m i b) (end - suc i) in
      let here : read_span from k block ≡ read_span (b + from) k m =
      span_within b (block_size (i + 3)) from k m (omega (arith, fits)) in
      let wide : length (read_span from k block) ≡ k = length_span from k block (omega (arith, fits)) in
      let written : output' ≡ overwrite at (read_span from k block) output =
      o ∙ ap (λ (l : List ℕ). overwrite at l output) (part_span m (b + from) k ∙ sym here) in
      record {
        before_end = omega arith;
        copied = fits.0;
        within = omega arith;
        held = omega (arith, w.held, ap (held_on i) z, held_more i (end - suc i), ap (λ (j : ℕ). held_on j (end - j)) y);
        lie = rw (x, ← y) (subst (LieOn m i b) z w.lie).1;
        same = ap length written ∙ length-overwrite at (read_span from k block) output ∙ w.same;
        rest =
            w.rest
            ∙ ap (λ (j : ℕ). overwrite at (read_span from (n - at) (bytes_on m i b j)) output) z
            ∙ ap (λ (j : ℕ). overwrite at (read_span from j (block ++ others)) output) split
            ∙ ap (λ (l : List ℕ). overwrite at l output)
            (parted from k d block others (omega (arith, fits)) (λ l. omega (arith, fits)))
            ∙ overwrite-append at (read_span from k block) (read_span 0 d others) output
            ∙ (λ t. overwrite (at + wide t) (read_span 0 d (bytes_on m (y t) (sym x t) (end - y t))) (sym written t));
        ends = w.ends ∙ ap (last_on m i b last) z ∙ (λ t. last_on m (y t) (sym x t) b (end - y t));
      }

  pub copying-end : end ≤ i → (last ≡ last_on m first place place (end - first))
      × (output ≡ overwrite 0 (read_span skip n (bytes_on m first place (end - first))) output₀)
  unfolding last_on
  copying-end h =
      let z : end - i ≡ 0 = omega arith in
      let y : n - at ≡ 0 = omega (arith, w.held, ap (held_on i) z, held_none i) in (
        sym (w.ends ∙ ap (last_on m i b last) z),
        sym (w.rest ∙ rw (y, span_none) (overwrite_none at output)),
      )
