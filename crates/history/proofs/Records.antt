-- The record of a name in the key pages: what the calls read in it, what writes beside it leave, how it is written.
-- Assumes nothing.
use Prim.Native.Nat.{ℕ, ◌+◌, ◌≤◌, ◌<◌}
use mathlib.Core.Path.{◌≡◌, sym, ap, ◌∙◌, subst}
use mathlib.Core.Bool.{true}
use mathlib.Core.List.{List, ◌++◌}
use native.Mathlib.Nat.{le_refl}
use native.Mathlib.Omega.{arith}
use lib.ListN.{length, length-append}
use Rattle.limits.specs.Limits.{name_limit, name_limit_for, record_extra, value_size}
use Rattle.numbers.specs.LittleEndian.{le_bytes}
use Rattle.numbers.proofs.Laws.{length_le, le_round}
use Rattle.numbers.proofs.Tests.{both_true}
use Rattle.spans.specs.Span.{read_span, overwrite, Apart}
use Rattle.spans.proofs.Laws.{length-overwrite, read_written, read_before, read-apart, overwrite-same}
use Rattle.memory_arena.specs.declared.Arena.{Arena}
use Rattle.memory_arena.specs.Address.{place_of}
use Rattle.memory_arena.specs.Pages.{standing}
use Rattle.memory_arena.proofs.Laws.{standing_facts, good-below}
use Rattle.records.specs.Record.{key_length, good_record, key_at, value_place, header_of, header_sound, record_bytes}
use Rattle.expull_header.specs.declared.Header.{Header}
use Rattle.expull_header.specs.Header.{header_bytes, header_at, end_bytes_at, sound_header}
use Rattle.expull_header.proofs.Laws.{header-length, header_back, ends_back}
use Rattle.store_state.specs.declared.State.{State}
use Rattle.store_state.specs.declared.Name.TheVariants.{Proper}
use Rattle.store_state.specs.Name.{name_kind}
use Rattle.store_state.proofs.Guard.{kind_proper}
use Rattle.records.proofs.Laws.{record_written as three_writes}
use Rattle.history_lanes.specs.Lane.{used_end, HeaderFits}
use Rattle.history_lanes.proofs.Blocks.{apart-within}
use Rattle.history.specs.Sound.{Record}

-- ---- what is read in it

module _ {keys : List ℕ} {a : Arena} {at : ℕ} {k : List ℕ} {h : Header} (R : Record keys a at k h) where
  -- its name is within the limit of a store with such pages
  pub record_short : length k ≤ name_limit_for a.size
  record_short = omega (arith, R.short, R.paged)

  pub record-length : key_length keys at ≡ length k
  unfolding key_length
  record-length = rw R.size (le_round 2 (length k) (omega (arith, R.short)))

  -- a store looks its name up
  pub record_proper : (st : State) → st.key_arena.size ≡ a.size → name_kind st (length k) ≡ Proper
  record_proper st e =
      kind_proper st (length k) R.some (subst (λ (s : ℕ). length k ≤ name_limit_for s) (sym e) record_short)

  pub record-place : value_place keys at ≡ at + 2 + length k
  unfolding value_place
  record-place = ap (λ (n : ℕ). at + 2 + n) record-length

  pub record_key : key_at keys at ≡ k
  unfolding key_at
  record_key = rw record-length R.key

  module _ (s : standing a (length keys) ≡ true) where
    pub record-good : good_record a keys at ≡ true
    unfolding good_record
    record-good =
        let u = (standing_facts a (length keys) s).in_page in
        rw record-length
        (both_true _ _ (good-below a at 2 (omega arith) (omega (arith, R.paged)) (omega (arith, R.ends)) u)
        (good-below a at (length k + record_extra) (omega arith) R.paged R.ends u))

    pub record-in : at + (length k + record_extra) ≤ length keys
    record-in = omega (arith, R.ends, (standing_facts a (length keys) s).in_memory)

    -- the memory is what writing the header that stands there leaves
    rewritten : overwrite (at + 2 + length k) (header_bytes h) keys ≡ keys
    rewritten =
        ap (λ (bs : List ℕ). overwrite (at + 2 + length k) bs keys) (sym R.value)
        ∙ overwrite-same (at + 2 + length k) value_size keys

    module _ (F : HeaderFits h) where
      pub record-header : header_of keys at ≡ h
      record-header =
          rw record-place
          (ap (header_at (at + 2 + length k)) (sym rewritten)
          ∙ header_back (at + 2 + length k) h keys (omega (arith, record-in))
          (record { number = F.number; head = F.head; tail = F.tail; remaining = F.remaining }))

      record-ends : end_bytes_at (value_place keys at) keys ≡ 0
      record-ends =
          rw record-place
          (ap (end_bytes_at (at + 2 + length k)) (sym rewritten)
          ∙ ends_back (at + 2 + length k) h keys (omega (arith, record-in)))

      pub record-sound : header_sound keys at ≡ true
      unfolding header_sound
      record-sound = (λ i. sound_header (record-header i) (record-ends i)) ∙ F.sound

-- ---- what is written

-- beside it
pub record-kept : {keys : List ℕ} {a : Arena} {at : ℕ} {k : List ℕ} {h : Header} → Record keys a at k h
    → (p : ℕ) (bs : List ℕ)
    → Apart p (length bs) at (length k + record_extra) → Record (overwrite p bs keys) a at k h
record-kept {keys} {a} {at} {k} {h} R p bs d = record {
  some = R.some;
  short = R.short;
  ends = R.ends;
  paged = R.paged;
  size = part at 2 (le_refl at) (omega arith) ∙ R.size;
  key = part (at + 2) (length k) (omega arith) (omega arith) ∙ R.key;
  value = part (at + 2 + length k) value_size (omega arith) (omega arith) ∙ R.value;
}
  where
    part : (q n : ℕ) → at ≤ q → q + n ≤ at + (length k + record_extra)
        → read_span q n (overwrite p bs keys) ≡ read_span q n keys
    part q n x y =
        read-apart q n p bs keys
        (apart-within p (length bs) at (length k + record_extra) p (length bs) q n (le_refl p)
        (le_refl (p + length bs)) x y d)

-- a used part that grows
pub record_up : {keys : List ℕ} {a b : Arena} {at : ℕ} {k : List ℕ} {h : Header} → b.size ≡ a.size
    → used_end a ≤ used_end b → Record keys a at k h → Record keys b at k h
record_up {at = at} {k = k} e g R = record {
  some = R.some;
  short = R.short;
  ends = omega (arith, R.ends);
  paged = subst (λ (s : ℕ). place_of s at + (length k + record_extra) ≤ s) (sym e) R.paged;
  size = R.size;
  key = R.key;
  value = R.value;
}

-- another header in it
pub record-revalued : {keys : List ℕ} {a : Arena} {at : ℕ} {k : List ℕ} {h : Header} → Record keys a at k h
    → standing a (length keys) ≡ true → (g : Header)
    → Record (overwrite (at + 2 + length k) (header_bytes g) keys) a at k g
record-revalued {keys} {a} {at} {k} {h} R s g = record {
  some = R.some;
  short = R.short;
  ends = R.ends;
  paged = R.paged;
  size = read_before at 2 (at + 2 + length k) (header_bytes g) keys (omega arith) ∙ R.size;
  key = read_before (at + 2) (length k) (at + 2 + length k) (header_bytes g) keys (omega arith) ∙ R.key;
  value =
      rw header-length at (read_written (at + 2 + length k) (header_bytes g) keys
      (omega (arith, header-length g, record-in R s)));
}

pub length-record : (k : List ℕ) (h : Header) → length (record_bytes k h) ≡ length k + record_extra
unfolding record_bytes
length-record k h =
    omega (
      arith,
      length-append (le_bytes 2 (length k)) (k ++ header_bytes h),
      length-append k (header_bytes h),
      length_le 2 (length k),
      header-length h,
    )

-- a whole record
pub record_written : (keys : List ℕ) (a : Arena) (at : ℕ) (k : List ℕ) (h : Header) → 0 < length k
    → length k ≤ name_limit → at + (length k + record_extra) ≤ used_end a
    → place_of a.size at + (length k + record_extra) ≤ a.size → at + (length k + record_extra) ≤ length keys
    → Record (overwrite at (record_bytes k h) keys) a at k h
record_written keys a at k h z s e p i =
    subst (λ (m : List ℕ). Record m a at k h) (three_writes at k h keys) (record {
      some = z;
      short = s;
      ends = e;
      paged = p;
      size =
          read_before at 2 (at + 2 + length k) (header_bytes h) _ (omega arith)
          ∙ read_before at 2 (at + 2) k (overwrite at (le_bytes 2 (length k)) keys) (omega arith)
          ∙ rw length_le at (read_written at (le_bytes 2 (length k)) keys (omega (arith, length_le 2 (length k))));
      key =
          read_before (at + 2) (length k) (at + 2 + length k) (header_bytes h) _ (omega arith)
          ∙ read_written (at + 2) k (overwrite at (le_bytes 2 (length k)) keys) (simp length-overwrite (omega arith));
      value =
          rw header-length at (read_written (at + 2 + length k) (header_bytes h)
          (overwrite (at + 2) k (overwrite at (le_bytes 2 (length k)) keys))
          (simp (length-overwrite, header-length) (omega arith)));
    })
