-- Laws of entries: one by its tests, a turn of going through, and that what was written is gone through. Assumes
-- nothing.
use Prim.Native.Nat.{ℕ, zero, suc, ◌+◌, ◌-◌, ◌≤◌, ◌<◌}
use mathlib.Core.Path.{◌≡◌, refl, sym, ap, ◌∙◌}
use mathlib.Core.List.{List, [], ◌∷◌, ◌++◌, append_assoc, append-nil}
use native.Mathlib.Omega.{arith}
use lib.ListN.{length, drop, length-append, length-drop}
use lib.Seq.{take_at, drop_at, drop-drop}
use borrow.Author.Tests.{lt-ltb, le-ltb}
use Rattle.numbers.specs.LittleEndian.{le_number, le_bytes}
use Rattle.numbers.proofs.Laws.{length_le, le_round}
use Rattle.spans.specs.Span.{read_span, overwrite}
use Rattle.spans.proofs.Laws.{overwrite-append}
use Rattle.std.specs.Prelude.{None}
use Rattle.entries.specs.Log.{Entry, entry}
use Rattle.entries.specs.Form.{encoded, entry_size, encoded_all, Fits, AllFit, Next, whole, entry_at, Inside, met, in_front}
use Rattle.entries.specs.Form.{on_next, entries_from, entries_of}

-- ---- an entry, by its tests

module _ (run : List ℕ) (at : ℕ) where
  pub entry_short : length run - at < 6 → entry_at run at ≡ None
  unfolding entry_at
  entry_short h = rw (lt-ltb (length run - at) 6 h)

  pub entry_cut : (n : ℕ) → n ≡ le_number (read_span at 2 run) → 6 ≤ length run - at → length run - at - 6 < n
      → entry_at run at ≡ None
  unfolding entry_at
  entry_cut n e h k = rw (le-ltb (length run - at) 6 h, ← e, lt-ltb (length run - at - 6) n k)

  pub entry-long : (n m : ℕ) → n ≡ le_number (read_span at 2 run) → m ≡ le_number (read_span (at + 2 + n) 4 run)
      → 6 ≤ length run - at → n ≤ length run - at - 6 → length run - at - 6 - n < m → entry_at run at ≡ None
  unfolding entry_at
  entry-long n m e f h k l =
      rw (
        ← e,
        ← f,
        le-ltb (length run - at) 6 h,
        le-ltb (length run - at - 6) n k,
        lt-ltb (length run - at - 6 - n) m l,
      )

  pub entry_whole : (n m : ℕ) → n ≡ le_number (read_span at 2 run) → m ≡ le_number (read_span (at + 2 + n) 4 run)
      → 6 ≤ length run - at → n ≤ length run - at - 6 → m ≤ length run - at - 6 - n
      → entry_at run at ≡ whole (at + 2 + n) (at + 2 + n + 4) (at + 2 + n + 4 + m)
  unfolding entry_at
  entry_whole n m e f h k l =
      rw (
        ← e,
        ← f,
        le-ltb (length run - at) 6 h,
        le-ltb (length run - at - 6) n k,
        le-ltb (length run - at - 6 - n) m l,
      )

  -- ---- a turn

  pub entries_none : (n : ℕ) → entry_at run at ≡ None → entries_from n run at ≡ met [] at
  unfolding entries_from
  entries_none zero e = refl
  entries_none (suc n) e = ap (λ (x : Next). on_next x run at (entries_from n run)) e

  pub entries-end : (n : ℕ) → length run ≤ at → entries_from n run at ≡ met [] at
  entries-end n h = entries_none n (entry_short (omega arith))

  pub entries-whole : (n nameEnd from to : ℕ) → 0 < n → entry_at run at ≡ whole nameEnd from to
      → entries_from n run at
      ≡ in_front (entry (read_span (at + 2) (nameEnd - (at + 2)) run) (read_span from (to - from) run))
      (entries_from (n - 1) run to)
  unfolding entries_from
  entries-whole zero nameEnd from to h e = absurd (omega arith)
  entries-whole (suc n) nameEnd from to h e =
      let one : n ≡ suc n - 1 = omega arith in
      ap (λ (x : Next). on_next x run at (entries_from n run)) e
      ∙ ap (λ (k : ℕ). on_next (whole nameEnd from to) run at (entries_from k run)) one

-- an entry that the bytes suffice for lies inside
pub whole-inside : (len at n m : ℕ) → at ≤ len → 6 ≤ len - at → n ≤ len - at - 6 → m ≤ len - at - 6 - n
    → Inside len at (whole (at + 2 + n) (at + 2 + n + 4) (at + 2 + n + 4 + m))
whole-inside len at n m h i j k = (omega arith, (omega arith, (omega arith, omega arith)))

-- ---- what is written

pub length-encoded : (e : Entry) → length (encoded e) ≡ entry_size e.name e.bytes
unfolding encoded
length-encoded e = simp (length-append, length_le) (omega arith)

-- four writes in a row are one
pub entry_written : (run : List ℕ) (at : ℕ) (name bytes : List ℕ)
    → overwrite (at + 2 + length name + 4) bytes (overwrite (at + 2 + length name) (le_bytes 4 (length bytes))
    (overwrite (at + 2) name (overwrite at (le_bytes 2 (length name)) run)))
    ≡ overwrite at (encoded (entry name bytes)) run
unfolding encoded
entry_written run at name bytes =
    let ns : List ℕ = le_bytes 2 (length name) in
    let ms : List ℕ = le_bytes 4 (length bytes) in
    sym (overwrite-append at ns (name ++ (ms ++ bytes)) run
    ∙ rw (length_le 2 (length name)) (overwrite-append (at + 2) name (ms ++ bytes) (overwrite at ns run)
    ∙ overwrite-append (at + 2 + length name) ms bytes (overwrite (at + 2) name (overwrite at ns run))
    ∙ rw (length_le 4 (length bytes)) refl))

pub encoded-more : (es : List Entry) (e : Entry) → encoded_all (es ++ (e ∷ [])) ≡ encoded_all es ++ encoded e
unfolding encoded_all
encoded-more [] e = append-nil (encoded e)
encoded-more (x ∷ es) e =
    ap (λ (l : List ℕ). encoded x ++ l) (encoded-more es e) ∙ sym (append_assoc (encoded x) (encoded_all es) (encoded e))

pub all_more : (es : List Entry) (e : Entry) → AllFit es → Fits e → AllFit (es ++ (e ∷ []))
all_more [] e A F = (F, tt)
all_more (x ∷ es) e A F = (A.0, all_more es e A.1 F)

-- ---- what is written is gone through

-- parts of what follows a place
from_there : (run rest more : List ℕ) (at n q : ℕ) → drop at run ≡ rest ++ more → length rest ≡ n → q ≡ at + n
    → drop q run ≡ more
from_there run rest more at n q d l e = rw (e, ← drop-drop n at run, d) (drop_at rest more n l)

read_there_lem : (run rest more : List ℕ) (at n : ℕ) → drop at run ≡ rest ++ more → length rest ≡ n
    → read_span at n run ≡ rest
unfolding read_span
read_there_lem run rest more at n d l = rw d (take_at rest more n l)

-- an entry that stands at a place, with the rest behind it
record Stands (run : List ℕ) (at : ℕ) (e : Entry) (rest : List ℕ) : Type 0 where
  whole : entry_at run at
      ≡ whole (at + 2 + length e.name) (at + 2 + length e.name + 4)
      (at + 2 + length e.name + 4 + length e.bytes)
  its_name : read_span (at + 2) (length e.name) run ≡ e.name
  its_bytes : read_span (at + 2 + length e.name + 4) (length e.bytes) run ≡ e.bytes
  behind : drop (at + 2 + length e.name + 4 + length e.bytes) run ≡ rest
  within : at + 2 + length e.name + 4 + length e.bytes ≤ length run

stands-encoded : (run : List ℕ) (at : ℕ) (e : Entry) (rest : List ℕ) → Fits e → drop at run ≡ encoded e ++ rest
    → Stands run at e rest
unfolding encoded
stands-encoded run at e rest F d =
    let n : ℕ = length e.name in
    let m : ℕ = length e.bytes in
    let ns : List ℕ = le_bytes 2 n in
    let ms : List ℕ = le_bytes 4 m in
    let d1 : drop at run ≡ ns ++ (e.name ++ (ms ++ (e.bytes ++ rest))) = d ∙ simp append_assoc in
    let d2 : drop (at + 2) run ≡ e.name ++ (ms ++ (e.bytes ++ rest)) =
    from_there run ns _ at 2 (at + 2) d1 (length_le 2 n) refl in
    let d3 : drop (at + 2 + n) run ≡ ms ++ (e.bytes ++ rest) =
    from_there run e.name _ (at + 2) n (at + 2 + n) d2 refl refl in
    let d4 : drop (at + 2 + n + 4) run ≡ e.bytes ++ rest =
    from_there run ms _ (at + 2 + n) 4 (at + 2 + n + 4) d3 (length_le 4 m) refl in
    let size : length run - at ≡ n + m + 6 + length rest =
    sym (length-drop at run) ∙ ap length d ∙ length-append (encoded e) rest
    ∙ ap (λ (k : ℕ). k + length rest) (length-encoded e) in
    let en : n ≡ le_number (read_span at 2 run) =
    sym (ap le_number (read_there_lem run ns _ at 2 d1 (length_le 2 n)) ∙ le_round 2 n (omega (arith, F.short))) in
    let em : m ≡ le_number (read_span (at + 2 + n) 4 run) =
    sym (ap le_number (read_there_lem run ms _ (at + 2 + n) 4 d3 (length_le 4 m))
    ∙ le_round 4 m (omega (arith, F.counted))) in
    record {
      whole = entry_whole run at n m en em (omega (arith, size)) (omega (arith, size)) (omega (arith, size));
      its_name = read_there_lem run e.name _ (at + 2) n d2 refl;
      its_bytes = read_there_lem run e.bytes rest (at + 2 + n + 4) m d4 refl;
      behind = from_there run e.bytes rest (at + 2 + n + 4) m (at + 2 + n + 4 + m) d4 refl refl;
      within = omega (arith, size);
    }

entries-met : (n : ℕ) (run : List ℕ) (at : ℕ) (es : List Entry) → AllFit es → length es ≤ n → at ≤ length run
    → drop at run ≡ encoded_all es → entries_from n run at ≡ met es (length run)
unfolding encoded_all
entries-met n run at [] F h i d =
    let over : length run ≡ at = omega (arith, length-drop at run, ap length d) in
    entries-end run at n (omega arith) ∙ ap (met []) (sym over)
entries-met zero run at (e ∷ es) F h i d = absurd (omega arith)
entries-met (suc n) run at (e ∷ es) F h i d =
    let S : Stands run at e (encoded_all es) = stands-encoded run at e (encoded_all es) F.0 d in
    let ln : ℕ = length e.name in
    let lb : ℕ = length e.bytes in
    let en : at + 2 + ln - (at + 2) ≡ ln = omega arith in
    let eb : at + 2 + ln + 4 + lb - (at + 2 + ln + 4) ≡ lb = omega arith in
    let one : suc n - 1 ≡ n = omega arith in
    entries-whole run at (suc n) (at + 2 + ln) (at + 2 + ln + 4) (at + 2 + ln + 4 + lb) (omega arith) S.whole
    ∙ rw (
      en,
      eb,
      one,
      S.its_name,
      S.its_bytes,
      entries-met n run (at + 2 + ln + 4 + lb) es F.1 (omega arith) S.within S.behind,
    )

-- as many entries as the run has bytes, at most
entries-few : (es : List Entry) → length es ≤ length (encoded_all es)
unfolding encoded_all
entries-few [] = omega arith
entries-few (e ∷ es) = omega (arith, entries-few es, length-append (encoded e) (encoded_all es), length-encoded e)

-- PARSE OF ENCODE
pub read_back : (es : List Entry) → AllFit es → entries_of (encoded_all es) ≡ met es (length (encoded_all es))
read_back es F = entries-met (length (encoded_all es)) (encoded_all es) 0 es F (entries-few es) (omega arith) refl
