-- What a write beside a record, or of its header, leaves of it, whatever its bytes were. Assumes nothing.
use Prim.Native.Nat.{ℕ, ◌+◌, ◌≤◌, ◌<◌}
use mathlib.Core.Path.{◌≡◌, sym, ap, ◌∙◌, subst}
use mathlib.Core.Logic.{inr}
use mathlib.Core.Bool.{true}
use mathlib.Core.List.{List}
use native.Mathlib.Nat.{le_refl, add-zero}
use native.Mathlib.Omega.{arith}
use lib.ListN.{length}
use Rattle.limits.specs.Limits.{record_extra, value_size}
use Rattle.numbers.specs.LittleEndian.{le_number}
use Rattle.numbers.proofs.Tests.{both, both_true}
use Rattle.spans.specs.Span.{read_span, overwrite, Apart}
use Rattle.spans.proofs.Laws.{read-apart}
use Rattle.memory_arena.specs.declared.Arena.{Arena}
use Rattle.memory_arena.specs.Address.{place_of}
use Rattle.memory_arena.specs.Pages.{standing, good_span}
use Rattle.memory_arena.proofs.Laws.{standing_facts, good-end, good_page, good-below}
use Rattle.records.specs.Record.{key_length, key_at, good_record, value_place, header_of, header_sound}
use Rattle.expull_header.specs.declared.Header.{Header}
use Rattle.expull_header.specs.Header.{header_bytes, header_at, end_bytes_at, sound_header}
use Rattle.expull_header.proofs.Laws.{header_back, ends_back}
use Rattle.history_lanes.specs.Lane.{used_end, HeaderFits}
use Rattle.history_lanes.proofs.Blocks.{apart-within}

-- a good span stays good in an arena that is used further
good-on : (a b : Arena) (len at n : ℕ) → b.size ≡ a.size → standing a len ≡ true → standing b len ≡ true
    → used_end a ≤ used_end b → 0 < n → good_span a at n ≡ true → good_span b at n ≡ true
good-on a b len at n e s t u z g =
    good-below b at n z (subst (λ (w : ℕ). place_of w at + n ≤ w) (sym e) (good_page a at n len s g))
    (omega (arith, good-end a at n len s g, u)) (standing_facts b len t).in_page

pub record-on : (a b : Arena) (keys : List ℕ) (at : ℕ) → b.size ≡ a.size
    → standing a (length keys) ≡ true → standing b (length keys) ≡ true → used_end a ≤ used_end b
    → good_record a keys at ≡ true → good_record b keys at ≡ true
unfolding good_record
record-on a b keys at e s t u g =
    let p = both (good_span a at 2) (good_span a at (key_length keys at + record_extra)) g in
    both_true _ _ (good-on a b (length keys) at 2 e s t u (omega arith) p.0)
    (good-on a b (length keys) at (key_length keys at + record_extra) e s t u (omega arith) p.1)

module _ (keys : List ℕ) (at : ℕ) (k : List ℕ) (is : key_length keys at ≡ length k) (p : ℕ) (bs : List ℕ) where
  abbrev after : List ℕ
  after = overwrite p bs keys

  -- a write that spares the length and the name
  module _ (d : Apart p (length bs) at (2 + length k)) where
    part : (q n : ℕ) → at ≤ q → q + n ≤ at + (2 + length k) → read_span q n after ≡ read_span q n keys
    part q n x y =
        read-apart q n p bs keys
        (apart-within p (length bs) at (2 + length k) p (length bs) q n (le_refl p) (le_refl (p + length bs)) x y d)

    pub length-kept : key_length after at ≡ key_length keys at
    unfolding key_length
    length-kept = ap le_number (part at 2 (le_refl at) (omega arith))

    pub key_kept : key_at after at ≡ key_at keys at
    unfolding key_at
    key_kept = rw (length-kept, is) (part (at + 2) (length k) (omega arith) (omega arith))

    pub good-kept : (a : Arena) → good_record a after at ≡ good_record a keys at
    unfolding good_record
    good-kept a = rw length-kept

    pub place_kept : value_place after at ≡ value_place keys at
    unfolding value_place
    place_kept = ap (λ (n : ℕ). at + 2 + n) length-kept

  -- a write that spares all of it
  module _ (d : Apart p (length bs) at (length k + record_extra)) where
    front : Apart p (length bs) at (2 + length k)
    front =
        apart-within p (length bs) at (length k + record_extra) p (length bs) at (2 + length k)
        (le_refl p) (le_refl (p + length bs)) (le_refl at) (omega arith) d

    value : (i n : ℕ) → i + n ≤ value_size
        → le_number (read_span (value_place keys at + i) n after) ≡ le_number (read_span (value_place keys at + i) n keys)
    unfolding value_place
    value i n h =
        rw is (ap le_number (read-apart (at + 2 + length k + i) n p bs keys
        (apart-within p (length bs) at (length k + record_extra) p (length bs) (at + 2 + length k + i) n
        (le_refl p) (le_refl (p + length bs)) (omega arith) (omega arith) d)))

    pub header-kept : header_of after at ≡ header_of keys at
    unfolding header_at
    header-kept =
        ap (λ (q : ℕ). header_at q after) (place_kept front)
        ∙ (λ i. record {
          number = (rw add-zero at (value 0 4 (omega arith))) i;
          head = value 4 4 (omega arith) i;
          tail = value 8 4 (omega arith) i;
          remaining = value 12 2 (omega arith) i;
        })

    pub sound-kept : header_sound after at ≡ header_sound keys at
    unfolding header_sound end_bytes_at
    sound-kept =
        (λ i. sound_header (header-kept i) (le_number (read_span (place_kept front i + 14) 2 after)))
        ∙ ap (λ (x : ℕ). sound_header (header_of keys at) x) (value 14 2 (omega arith))

-- the header written anew
module _ (keys : List ℕ) (at : ℕ) (k : List ℕ) (is : key_length keys at ≡ length k) (h : Header) (F : HeaderFits h)
    (inside : value_place keys at + value_size ≤ length keys) where
  abbrev revalued : List ℕ
  revalued = overwrite (value_place keys at) (header_bytes h) keys

  pub spares : Apart (value_place keys at) (length (header_bytes h)) at (2 + length k)
  unfolding value_place
  spares = inr (omega (arith, is))

  pub header-new : header_of revalued at ≡ h
  header-new =
      ap (λ (q : ℕ). header_at q revalued) (place_kept keys at k is (value_place keys at) (header_bytes h) spares)
      ∙ header_back (value_place keys at) h keys inside
      (record { number = F.number; head = F.head; tail = F.tail; remaining = F.remaining })

  pub sound-new : header_sound revalued at ≡ true
  unfolding header_sound
  sound-new =
      (λ i. sound_header (header-new i) (end_bytes_at
      (place_kept keys at k is (value_place keys at) (header_bytes h) spares i) revalued))
      ∙ ap (λ (x : ℕ). sound_header h x) (ends_back (value_place keys at) h keys inside)
      ∙ F.sound
