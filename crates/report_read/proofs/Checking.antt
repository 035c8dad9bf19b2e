-- Laws of the check's loop and of its dispatch. Assumes nothing.
use Prim.Native.Nat.{ℕ, suc, ◌+◌, ◌-◌, ◌*◌, ◌≤◌, ◌<◌, zero-le}
use mathlib.Core.Path.{◌≡◌, refl, sym, ap, ◌∙◌, subst}
use mathlib.Core.Bool.{Bool, true, false, cond, ◌&&◌, not}
use Rattle.std.specs.Prelude.{Option, None, Some, Result, Err, ok_or, option_map}
use mathlib.Core.List.{List, [], ◌∷◌}
use native.Mathlib.Numerals.{add-one}
use native.Mathlib.Omega.{arith}
use lib.Dec.{leb, eqb}
use lib.ListN.{length, take, drop, length-drop}
use Rattle.limits.specs.Limits.{name_limit}
use Rattle.limits.specs.Refusals.{unreporting, permitted}
use Rattle.fastcmp.specs.Equal.{equal_bytes}
use Rattle.marks.specs.Bits.{out}
use Rattle.report_text.specs.Text.{store_line, terms_word, total_word, term_word, len_word, bytes_word, end_line}
use Rattle.report_text.specs.Reader.{ended, lines_of, number_in, bytes_in, Told, lanes, bad, text_read}
use Rattle.report_read.specs.declared.check.Progress.{Progress}
use Rattle.report_read.specs.declared.check.Expected.{Expected}
use Rattle.report_read.specs.declared.check.Expected.TheVariants.{Store as ToStore, Terms as ToTerms, Total as ToTotal, Lane as ToLane}
use Rattle.report_read.specs.declared.check.Expected.TheVariants.{Length as ToLength, Bytes as ToBytes, Nothing as ToNothing}
use Rattle.report_read.specs.declared.check.Lanes.{Lanes}
use Rattle.report_read.specs.declared.check.BadLine.{BadLine}
use Rattle.report_read.specs.Lines.{line_length, line_end, line_at, next_line, first_lane}
use Rattle.report_read.specs.Counted.{seen_among, progress, good_if, on_number, on_bytes, store_counted, terms_counted}
use Rattle.report_read.specs.Counted.{total_counted, name_counted, end_counted, lane_counted, length_counted}
use Rattle.report_read.specs.Counted.{bytes_counted, counted_as, line_counted, is_nothing, lanes_counted, bad_line, end_of, on_line, lines_counted, text_counted}
use Rattle.report_read.specs.Counted.{checked_of}
use Rattle.report_read.specs.Noted.{noted_of, Vouched}
use Rattle.report_read.specs.Said.{said_checked}
use Rattle.report_read.proofs.Lines.{line-long, ended_at, unended-at, next-found}
use Rattle.report_read.proofs.LineKinds.{bytes_most}
use Rattle.report_read.proofs.Counted.{counted_is}
use Rattle.report_read.proofs.Noting.{Notes, notes-start, notes_vouch, notes_on}

-- ---- a good line has some bytes, and counts no more than they allow

abbrev Bounded : Progress → List ℕ → Option Progress → Type 0
Bounded p l None = Unit {0}
Bounded p l (Some q) = (1 ≤ length l) × (q.lanes ≤ p.lanes + 1) × (q.bytes ≤ p.bytes + length l)

module _ (p : Progress) (l : List ℕ) where
  bounded_cond : (b : Bool) (x y : Option Progress) → Bounded p l x → Bounded p l y → Bounded p l (cond b x y)
  bounded_cond true x y a b = a
  bounded_cond false x y a b = b

  bounded_if : (b : Bool) (q : Progress) → Bounded p l (Some q) → Bounded p l (good_if b q)
  bounded_if b q a = bounded_cond b (Some q) None a tt

  bounded_number : (o : Option ℕ) (f : ℕ → Progress) → ((n : ℕ) → Bounded p l (Some (f n)))
      → Bounded p l (on_number o (λ n. Some (f n)))
  bounded_number None f a = tt
  bounded_number (Some n) f a = a n

  module _ (t : List ℕ) (some_bytes : 1 ≤ length l) where
    bounded-line : Bounded p l (line_counted t p l)
    unfolding line_counted counted_as store_counted terms_counted total_counted lane_counted length_counted bytes_counted
        name_counted end_counted
    bounded-line = go p.expected
      where
        name : (o : Option (List ℕ))
            → Bounded p l (on_bytes o (λ n. good_if (leb n name_limit && not (seen_among p.lanes l t (first_lane t)))
            (progress ToLength p.terms p.total p.lanes p.bytes 0)))
        name None = tt
        name (Some bs) =
            bounded_if (leb (length bs) name_limit && not (seen_among p.lanes l t (first_lane t)))
            (progress ToLength p.terms p.total p.lanes p.bytes 0) (some_bytes, omega arith, omega arith)

        bytes : (o : Option (List ℕ)) → bytes_in bytes_word l ≡ o
            → Bounded p l (on_bytes o (λ n. good_if (eqb n p.length)
            (progress ToLane p.terms p.total (p.lanes + 1) (p.bytes + n) 0)))
        bytes None e = tt
        bytes (Some bs) e =
            bounded_if (eqb (length bs) p.length)
            (progress ToLane p.terms p.total (p.lanes + 1) (p.bytes + length bs) 0)
            (some_bytes, omega arith, omega (arith, bytes_most bytes_word l (length bs) (sym (ap (option_map length) e))))

        go : (e : Expected) → Bounded p l (counted_as e t p l)
        go ToStore = bounded_if (equal_bytes l store_line) (progress ToTerms 0 0 0 0 0) (some_bytes, omega arith, omega arith)
        go ToTerms =
            bounded_number (number_in terms_word l) (λ n. progress ToTotal n 0 0 0 0)
            (λ n. (some_bytes, omega arith, omega arith))
        go ToTotal =
            bounded_number (number_in total_word l) (λ n. progress ToLane p.terms n 0 0 0)
            (λ n. (some_bytes, omega arith, omega arith))
        go ToLane =
            bounded_cond (equal_bytes l end_line) (end_counted p) (name_counted t p l)
            (bounded_if (eqb p.lanes p.terms && eqb p.bytes p.total)
            (progress ToNothing p.terms p.total p.lanes p.bytes 0) (some_bytes, omega arith, omega arith))
            (name (bytes_in term_word l))
        go ToLength =
            bounded_number (number_in len_word l) (λ n. progress ToBytes p.terms p.total p.lanes p.bytes n)
            (λ n. (some_bytes, omega arith, omega arith))
        go ToBytes = bytes (bytes_in bytes_word l) refl
        go ToNothing = tt

empty_bad : (t : List ℕ) (p : Progress) → line_counted t p [] ≡ None
unfolding line_counted counted_as store_counted terms_counted total_counted lane_counted length_counted bytes_counted
    name_counted
empty_bad t p = go p.expected
  where
    go : (e : Expected) → counted_as e t p [] ≡ None
    go ToStore = refl
    go ToTerms = refl
    go ToTotal = refl
    go ToLane = refl
    go ToLength = refl
    go ToBytes = refl
    go ToNothing = refl

pub good_bounds : (t : List ℕ) (p : Progress) (l : List ℕ) (q : Progress) → line_counted t p l ≡ Some q
    → (1 ≤ length l) × (q.lanes ≤ p.lanes + 1) × (q.bytes ≤ p.bytes + length l)
good_bounds t p [] q e = let f = empty_bad t p in let z : ◌≡◌ {A = ℕ} 0 1 = cc in absurd (omega arith)
good_bounds t p (c ∷ l) q e = subst (Bounded p (c ∷ l)) e (bounded-line p (c ∷ l) t (omega arith))

-- ---- what `ok_or` was given

pub was_none : (o : Option Progress) (b x : BadLine) → ◌≡◌ {A = Result Progress BadLine} (Err x) (ok_or o b)
    → (o ≡ None) × (x ≡ b)
was_none None b x e = (refl, cc)
was_none (Some p) b x e = let z : ◌≡◌ {A = ℕ} 0 1 = cc in absurd (omega arith)

-- ---- the loop

pub record Checking (t : List ℕ) (p : Progress) (at lines : ℕ) : Type 0 where
  pub within : at ≤ length t
  pub lanes_le : p.lanes ≤ at
  pub bytes_le : p.bytes ≤ at
  pub lines_le : 2 * lines ≤ at
  pub whole : checked_of (text_read t) ≡ lines_counted t p lines (lines_of (drop at t))

pub checking_starts : (t : List ℕ) → Checking t (progress ToStore 0 0 0 0 0) 0 0
unfolding text_counted
checking_starts t = record {
  within = zero-le;
  lanes_le = zero-le;
  bytes_le = zero-le;
  lines_le = omega arith;
  whole = counted_is t;
}

pub end-good : (p : Progress) (n k : ℕ) → (is_nothing p.expected && eqb k 0) ≡ true
    → end_of p n k ≡ lanes_counted p.lanes p.bytes
end-good p n k e = rw e

pub end_bad : (p : Progress) (n k : ℕ) → (is_nothing p.expected && eqb k 0) ≡ false → end_of p n k ≡ bad_line n
end_bad p n k e = rw e

module _ {t : List ℕ} {p : Progress} {at lines : ℕ} (h : Checking t p at lines) (e : ℕ) (s : e ≡ line_end t at) where
  pub checking-rest : length t ≤ e → end_of p (lines + 1) (length t - at) ≡ checked_of (text_read t)
  unfolding lines_counted
  checking-rest l =
      sym (h.whole ∙ ap (lines_counted t p lines) (unended-at t at h.within (omega arith))
      ∙ (λ i. end_of p (sym (add-one lines) i) (length-drop at t i)))

  -- the part that the code cuts out is that line
  part : List ℕ
  part = take (e - at) (drop at t)

  line_is : part ≡ line_at t at
  unfolding part
  line_is = let x : e - at ≡ line_length (drop at t) = omega arith in ap (λ (n : ℕ). take n (drop at t)) x

  line_size : length (line_at t at) ≡ e - at
  line_size = omega (arith, line-long t at)

  next_is : e < length t → e + 1 ≡ next_line t at
  next_is l = next-found t at e s l

  -- the lines from here on are this one and those behind it
  pub line_here : e < length t → lines_of (drop at t) ≡ ended (take (e - at) (drop at t)) (lines_of (drop (e + 1) t))
  unfolding part
  line_here l =
      ended_at t at (omega arith) ∙ (λ i. ended (sym line_is i) (lines_of (drop (sym (next_is l) i) t)))

  pub line-room : e < length t → at + length (take (e - at) (drop at t)) ≤ e
  unfolding part
  line-room l = omega (arith, ap length line_is, line_size)

  -- what is said of all is what this line makes of it
  here : e < length t → checked_of (text_read t)
      ≡ on_line (line_counted t p (take (e - at) (drop at t))) (suc lines)
      (λ q. lines_counted t q (suc lines) (lines_of (drop (e + 1) t)))
  unfolding lines_counted part
  here l =
      h.whole ∙ ap (lines_counted t p lines) (ended_at t at (omega arith))
      ∙ (λ i. on_line (line_counted t p (sym line_is i)) (suc lines)
      (λ q. lines_counted t q (suc lines) (lines_of (drop (sym (next_is l) i) t))))

  pub checking_bad : e < length t → line_counted t p (take (e - at) (drop at t)) ≡ None
      → bad_line (lines + 1) ≡ checked_of (text_read t)
  checking_bad l b =
      sym (here l
      ∙ ap (λ (x : Option Progress). on_line x (suc lines) (λ q. lines_counted t q (suc lines) (lines_of (drop (e + 1) t)))) b
      ∙ ap (bad_line) (sym (add-one lines)))

  pub checking-on : e < length t → (q : Progress) → line_counted t p (take (e - at) (drop at t)) ≡ Some q
      → Checking t q (e + 1) (lines + 1)
  unfolding part
  checking-on l q g =
      let b = good_bounds t p (take (e - at) (drop at t)) q g in
      let k : length (take (e - at) (drop at t)) ≡ e - at = ap length line_is ∙ line_size in
      record {
        within = omega arith;
        lanes_le = omega (arith, b.1, k, b.0, h.lanes_le);
        bytes_le = omega (arith, b.2, k, h.bytes_le);
        lines_le = omega (arith, b.0, k, h.lines_le);
        whole =
            here l
            ∙ ap (λ (x : Option Progress). on_line x (suc lines) (λ q. lines_counted t q (suc lines) (lines_of (drop (e + 1) t)))) g
            ∙ ap (λ (k : ℕ). lines_counted t q k (lines_of (drop (e + 1) t))) (sym (add-one lines));
      }

-- ---- the loop with its notes

pub record Noting (t : List ℕ) (p : Progress) (at lines : ℕ) (notes : List ℕ) : Type 0 where
  pub checking : Checking t p at lines
  pub noted : Notes t p notes (lines_of (drop at t))

pub noting_starts : (t notes : List ℕ) → length notes ≡ 65536 → Noting t (progress ToStore 0 0 0 0 0) 0 0 notes
noting_starts t notes n = record { checking = checking_starts t; noted = notes-start t notes n }

module _ {t : List ℕ} {p : Progress} {at lines : ℕ} {notes : List ℕ} (h : Noting t p at lines notes) (e : ℕ)
    (s : e ≡ line_end t at)
    (l : e < length t)
    (maybe : Bool)
    (notes' : List ℕ)
    (o : out maybe notes' ≡ noted_of notes p (take (e - at) (drop at t))) where
  noted_here : Notes t p notes (ended (take (e - at) (drop at t)) (lines_of (drop (e + 1) t)))
  noted_here = subst (Notes t p notes) (line_here h.checking e s l) h.noted

  pub noting_vouch : p.expected ≡ ToLane → Vouched maybe t p (take (e - at) (drop at t))
  noting_vouch x =
      notes_vouch t (take (e - at) (drop at t)) (lines_of (drop (e + 1) t)) p notes maybe notes' noted_here o x

  pub noting-on : (q : Progress) → line_counted t p (take (e - at) (drop at t)) ≡ Some q
      → Noting t q (e + 1) (lines + 1) notes'
  noting-on q g = record {
    checking = checking-on h.checking e s l q g;
    noted = notes_on t (take (e - at) (drop at t)) (lines_of (drop (e + 1) t)) p notes maybe notes' q noted_here o g;
  }

-- ---- its numbers are those that are listed for it

fair : (r : Told) → permitted unreporting (said_checked (checked_of r)) ≡ true
fair (lanes ls) = refl
fair (bad n) = refl

pub told : (t : List ℕ) (r : Result Lanes BadLine) → r ≡ checked_of (text_read t)
    → (r ≡ checked_of (text_read t)) × (permitted unreporting (said_checked r) ≡ true)
told t r e = (e, ap (λ (x : Result Lanes BadLine). permitted unreporting (said_checked x)) e ∙ fair (text_read t))
