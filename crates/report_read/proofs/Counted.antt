-- The reader by counts answers what the reader says, without its lanes; and where it says lanes, they stand in the text
-- one behind the other. Assumes nothing.
use Prim.Native.Nat.{ℕ, zero, suc, ◌+◌, ◌-◌, ◌*◌, ◌≤◌}
use mathlib.Core.Path.{◌≡◌, refl, sym, ap, ◌∙◌, subst}
use mathlib.Core.Bool.{Bool, true, false, cond, ◌&&◌, not}
use Rattle.std.specs.Prelude.{Option, None, Some, Result}
use mathlib.Core.List.{List, [], ◌∷◌, ◌++◌}
use native.Mathlib.Omega.{arith}
use lib.Dec.{leb, eqb}
use lib.ListN.{length, drop, length-append}
use borrow.Author.Tests.{le-ltb, ne_eqb, eqb-true}
use Rattle.limits.specs.Limits.{name_limit}
use Rattle.numbers.specs.LittleEndian.{Bytes}
use Rattle.fastcmp.specs.Equal.{equal_bytes}
use Rattle.fastcmp.proofs.Laws.{equal_both}
use Rattle.report_text.specs.Text.{Lane, lane, total_of, store_line, terms_word, total_word, term_word, len_word, bytes_word}
use Rattle.report_text.specs.Text.{end_line, hex}
use Rattle.report_text.specs.Reader.{Lines, ended, unended, lines_of, and_then, number_in, bytes_in, bytes_of, named}
use Rattle.report_text.specs.Reader.{Expects, a_store, a_terms, a_total, a_lane, a_length, some_bytes, nothing, provided}
use Rattle.report_text.specs.Reader.{name_taken, end_taken, bytes_taken, line_read, Told, lanes, bad, rest_read, or_bad}
use Rattle.report_text.specs.Reader.{lines_read, text_read}
use Rattle.report_text.proofs.Values.{hex_back, hex-length}
use Rattle.report_text.proofs.Forms.{bytes_form}
use Rattle.report_read.specs.declared.check.Progress.{Progress}
use Rattle.report_read.specs.declared.check.Expected.TheVariants.{Store as ToStore, Terms as ToTerms, Total as ToTotal, Lane as ToLane}
use Rattle.report_read.specs.declared.check.Expected.TheVariants.{Length as ToLength, Bytes as ToBytes, Nothing as ToNothing}
use Rattle.report_read.specs.declared.check.Lanes.{Lanes}
use Rattle.report_read.specs.declared.check.BadLine.{BadLine}
use Rattle.report_read.specs.Lines.{line_length, line_at, next_line, ahead, or_zero, length_told, next_lane}
use Rattle.report_read.specs.Lines.{lanes_on, first_lane}
use Rattle.report_read.specs.Counted.{seen_among, progress, good_if, on_number, on_bytes, store_counted, terms_counted}
use Rattle.report_read.specs.Counted.{total_counted, name_counted, end_counted, lane_counted, length_counted}
use Rattle.report_read.specs.Counted.{bytes_counted, line_counted, counted_as, rest_counted, on_line, lanes_counted, bad_line, lines_counted, text_counted}
use Rattle.report_read.specs.Counted.{checked_of}
use Rattle.report_read.proofs.Lines.{next-in, line-long, Whole, whole-line}

-- ---- lanes of a text from a place on

-- a lane's three lines
pub record OneLane (t : List ℕ) (at : ℕ) (a : Lane) : Type 0 where
  pub within : at ≤ length t
  pub name : bytes_in term_word (line_at t at) ≡ Some a.name
  pub bytes : bytes_in bytes_word (line_at t (next_line t (next_line t at))) ≡ Some a.bytes

abbrev pub LanesAt : List ℕ → ℕ → List Lane → Type 0
LanesAt t at [] = Unit {0}
LanesAt t at (a ∷ ls) = OneLane t at a × LanesAt t (next_lane t at) ls

-- where another lane begins
on-next : (k : ℕ) (t : List ℕ) (at : ℕ) → lanes_on (suc k) t at ≡ next_lane t (lanes_on k t at)
unfolding lanes_on
on-next zero t at = refl
on-next (suc k) t at = on-next k t (next_lane t at)

on-more : (ls : List Lane) (a : Lane) (t : List ℕ) (at : ℕ)
    → lanes_on (length (ls ++ (a ∷ []))) t at ≡ next_lane t (lanes_on (length ls) t at)
on-more ls a t at =
    let e : length (ls ++ (a ∷ [])) ≡ suc (length ls) = omega (arith, length-append ls (a ∷ [])) in
    ap (λ (k : ℕ). lanes_on k t at) e ∙ on-next (length ls) t at

lanes-more : (t : List ℕ) (at : ℕ) (ls : List Lane) (a : Lane) → LanesAt t at ls
    → OneLane t (lanes_on (length ls) t at) a
    → LanesAt t at (ls ++ (a ∷ []))
unfolding lanes_on
lanes-more t at [] a f o = (o, tt)
lanes-more t at (b ∷ ls) a f o = (f.0, lanes-more t (next_lane t at) ls a f.1 o)

-- a name's line is a name's line of the same name only
hex-same : (n x : List ℕ) → Bytes n → Bytes x → equal_bytes (term_word ++ hex n) (term_word ++ hex x) ≡ equal_bytes x n
unfolding equal_bytes
hex-same n x b c =
    equal_both (hex n) (hex x) x n
    (λ e. let q : Some n ≡ Some x = sym (hex_back n b) ∙ ap bytes_of e ∙ hex_back x c in cc)
    (λ e. ap hex (sym e))

seen-named : (t : List ℕ) (at : ℕ) (ls : List Lane) (x : List ℕ) → Bytes x → LanesAt t at ls
    → seen_among (length ls) (term_word ++ hex x) t at ≡ named x ls
unfolding seen_among named
seen-named t at [] x b f = refl
seen-named t at (a ∷ ls) x b f =
    let q = bytes_form term_word (line_at t at) a.name f.0.name in
    rw (q.0, hex-same a.name x q.1 b, seen-named t (next_lane t at) ls x b f.1)

total_end : (ls : List Lane) (a : Lane) → total_of (ls ++ (a ∷ [])) ≡ total_of ls + length a.bytes
unfolding total_of
total_end [] a = omega arith
total_end (b ∷ ls) a = omega (arith, total_end ls a)

-- a bytes= line of the length told ends where the next lane begins
next-behind : (t : List ℕ) (at : ℕ) (bs l : List ℕ) (ls : Lines) (len : ℕ)
    → number_in len_word (line_at t (next_line t at)) ≡ Some len → Whole t (next_line t (next_line t at)) l ls
    → bytes_in bytes_word l ≡ Some bs → length bs ≡ len → next_lane t at ≡ next_line t (next_line t (next_line t at))
unfolding next_lane length_told
next-behind t at bs l ls len n w b e =
    let v = next_line t (next_line t at) in
    let q = bytes_form bytes_word l bs b in
    let k : line_length (drop v t) ≡ 6 + 2 * len =
    sym (line-long t v) ∙ ap length (w.line_is ∙ q.0) ∙ omega (arith, hex-length bs) in
    ap (λ (o : Option ℕ). ahead t v (7 + 2 * or_zero o)) n
    ∙ rw (le-ltb (length t - v) (7 + 2 * len) (omega (arith, w.ends)))
    (omega (arith, w.next))

-- ---- what the two readers know

module _ (t : List ℕ) where
  abbrev pub lane-at : List Lane → ℕ
  lane-at ls = lanes_on (length ls) t (first_lane t)

  -- the lines left are those from a place on
  abbrev pub At : ℕ → Lines → Type 0
  At at ls = (at ≤ length t) × (lines_of (drop at t) ≡ ls)

  abbrev pub Seen : List Lane → Type 0
  Seen ls = LanesAt t (first_lane t) ls

  -- a lane's name was read, and its length
  abbrev pub Name : List Lane → List ℕ → Type 0
  Name ls x = (lane-at ls ≤ length t) × (bytes_in term_word (line_at t (lane-at ls)) ≡ Some x)

  abbrev pub Length : List Lane → ℕ → Type 0
  Length ls len = number_in len_word (line_at t (next_line t (lane-at ls))) ≡ Some len

  abbrev pub Rel : Expects → Progress → Lines → Type 0
  Rel a_store p L = (p ≡ progress ToStore 0 0 0 0 0) × At 0 L
  Rel a_terms p L = (p ≡ progress ToTerms 0 0 0 0 0) × At (next_line t 0) L
  Rel (a_total k) p L = (p ≡ progress ToTotal k 0 0 0 0) × At (next_line t (next_line t 0)) L
  Rel (a_lane k n ls) p L = (p ≡ progress ToLane k n (length ls) (total_of ls) 0) × At (lane-at ls) L × Seen ls
  Rel (a_length k n ls x) p L =
      (p ≡ progress ToLength k n (length ls) (total_of ls) 0) × At (next_line t (lane-at ls)) L × Seen ls × Name ls x
  Rel (some_bytes k n ls x len) p L =
      (p ≡ progress ToBytes k n (length ls) (total_of ls) len) × At (next_line t (next_line t (lane-at ls))) L × Seen ls
      × Name ls x × Length ls len
  Rel (nothing ls) p L = (p.expected ≡ ToNothing) × (p.lanes ≡ length ls) × (p.bytes ≡ total_of ls) × Seen ls

  abbrev pub LineRel : Option Expects → Option Progress → Lines → Type 0
  LineRel None None L = Unit {0}
  LineRel None (Some q) L = ⊥
  LineRel (Some s) None L = ⊥
  LineRel (Some s) (Some q) L = Rel s q L

  both_rel : (b : Bool) (s : Expects) (q : Progress) (L : Lines) → (b ≡ true → Rel s q L)
      → LineRel (provided b s) (good_if b q) L
  both_rel true s q L f = f refl
  both_rel false s q L f = tt

  module _ (l : List ℕ) (L : Lines) where
    -- behind this line
    whole : (at : ℕ) → At at (ended l L) → Whole t at l L
    whole at a = whole-line t at l L a.0 a.1

    behind : (at : ℕ) → At at (ended l L) → At (next_line t at) L
    behind at a = (next-in t at a.0, (whole at a).left_is)

    here : (at : ℕ) → At at (ended l L) → l ≡ line_at t at
    here at a = sym (whole at a).line_is

    pub name-seen : (seen : List Lane) (x : List ℕ) → Seen seen → bytes_in term_word l ≡ Some x
        → seen_among (length seen) l t (first_lane t) ≡ named x seen
    name-seen seen x S e =
        let q = bytes_form term_word l x e in
        ap (λ (y : List ℕ). seen_among (length seen) y t (first_lane t)) q.0
        ∙ seen-named t (first_lane t) seen x q.1 S

    -- a whole lane more
    lane-more : (seen : List Lane) (x bs : List ℕ) (len : ℕ) → At (next_line t (next_line t (lane-at seen))) (ended l L)
        → Seen seen → Name seen x → Length seen len → bytes_in bytes_word l ≡ Some bs → length bs ≡ len
        → At (lane-at (seen ++ (lane x bs ∷ []))) L × Seen (seen ++ (lane x bs ∷ []))
    lane-more seen x bs len a S N M e k =
        let v = next_line t (next_line t (lane-at seen)) in
        let m = on-more seen (lane x bs) t (first_lane t) in
        let p : next_line t v ≡ lane-at (seen ++ (lane x bs ∷ [])) =
        sym (m ∙ next-behind t (lane-at seen) bs l L len M (whole v a) e k) in (
          subst (λ (n : ℕ). At n L) p (behind v a),
          lanes-more t (first_lane t) seen (lane x bs) S
              (record { within = N.0; name = N.1; bytes = ap (bytes_in bytes_word) (sym (here v a)) ∙ e }),
        )

    pub line-rel : (s : Expects) (p : Progress) → Rel s p (ended l L) → LineRel (line_read s l) (line_counted t p l) L
    unfolding line_read line_counted counted_as store_counted terms_counted total_counted lane_counted length_counted bytes_counted
        name_counted end_counted name_taken end_taken
    line-rel a_store p R =
        rw R.0 (both_rel (equal_bytes l store_line) a_terms (progress ToTerms 0 0 0 0 0) L (λ e. (refl, behind 0 R.1)))
    line-rel a_terms p R = rw R.0 (go (number_in terms_word l))
      where
        go : (o : Option ℕ)
            → LineRel (and_then o (λ k. Some (a_total k))) (on_number o (λ n. Some (progress ToTotal n 0 0 0 0))) L
        go None = tt
        go (Some n) = (refl, behind (next_line t 0) R.1)
    line-rel (a_total k) p R = rw R.0 (go (number_in total_word l))
      where
        go : (o : Option ℕ)
            → LineRel (and_then o (λ n. Some (a_lane k n []))) (on_number o (λ n. Some (progress ToLane k n 0 0 0))) L
        go None = tt
        go (Some n) =
            ((unfold total_of in refl), (unfold lanes_on in behind (next_line t (next_line t 0)) R.1), tt)
    line-rel (a_lane k n seen) p R = rw R.0 (go (equal_bytes l end_line) (bytes_in term_word l) refl)
      where
        q : Progress
        q = progress ToLength k n (length seen) (total_of seen) 0

        go : (b : Bool) (o : Option (List ℕ)) → bytes_in term_word l ≡ o
            → LineRel (cond b (end_taken k n seen) (and_then o (λ x. name_taken k n seen x)))
            (cond b (end_counted (progress ToLane k n (length seen) (total_of seen) 0))
            (on_bytes o (λ m. good_if (leb m name_limit && not (seen_among (length seen) l t (first_lane t))) q))) L
        go true o e =
            both_rel (eqb (length seen) k && eqb (total_of seen) n) (nothing seen)
            (progress ToNothing k n (length seen) (total_of seen) 0) L (λ z. (refl, refl, refl, R.2))
        go false None e = tt
        go false (Some x) e =
            rw (name-seen seen x R.2 e)
            (both_rel (leb (length x) name_limit && not (named x seen)) (a_length k n seen x) q L
            (λ z. (
              refl,
              behind (lane-at seen) R.1,
              R.2,
              (R.1.0, ap (bytes_in term_word) (sym (here (lane-at seen) R.1)) ∙ e),
            )))
    line-rel (a_length k n seen x) p R = rw R.0 (go (number_in len_word l) refl)
      where
        at : ℕ
        at = next_line t (lane-at seen)

        go : (o : Option ℕ) → number_in len_word l ≡ o
            → LineRel (and_then o (λ len. Some (some_bytes k n seen x len)))
            (on_number o (λ m. Some (progress ToBytes k n (length seen) (total_of seen) m))) L
        go None e = tt
        go (Some m) e =
            (refl, behind at R.1, R.2, R.3, ap (number_in len_word) (sym (here at R.1)) ∙ e)
    line-rel (some_bytes k n seen x len) p R = rw R.0 (go (bytes_in bytes_word l) refl)
      where
        go : (o : Option (List ℕ)) → bytes_in bytes_word l ≡ o
            → LineRel (and_then o (λ bs. bytes_taken k n seen x len bs))
            (on_bytes o (λ m. good_if (eqb m len) (progress ToLane k n (length seen + 1) (total_of seen + m) 0))) L
        go None e = tt
        go (Some bs) e =
            both_rel (eqb (length bs) len) (a_lane k n (seen ++ (lane x bs ∷ [])))
            (progress ToLane k n (length seen + 1) (total_of seen + length bs) 0) L
            (λ z. let r = lane-more seen x bs len R.1 R.2 R.3 R.4 e (eqb-true (length bs) len z) in (
              (λ i. progress ToLane k n (sym (length-append seen (lane x bs ∷ [])) i)
                  (sym (total_end seen (lane x bs)) i) 0),
              r.0,
              r.1,
            ))
    line-rel (nothing seen) p R = rw R.0 tt

  -- the same answer, and the lanes it speaks of
  abbrev SeenOf : Told → Type 0
  SeenOf (lanes ls) = Seen ls
  SeenOf (bad n) = Unit {0}

  abbrev Same : Told → Result Lanes BadLine → Type 0
  Same r x = (checked_of r ≡ x) × SeenOf r

  rest-rel : (s : Expects) (p : Progress) (n : ℕ) (l : List ℕ) (L : Lines) → Rel s p L
      → Same (rest_read s n l) (rest_counted p n l)
  rest-rel a_store p n l L R = rw R.0 (refl, tt)
  rest-rel a_terms p n l L R = rw R.0 (refl, tt)
  rest-rel (a_total k) p n l L R = rw R.0 (refl, tt)
  rest-rel (a_lane k m seen) p n l L R = rw R.0 (refl, tt)
  rest-rel (a_length k m seen x) p n l L R = rw R.0 (refl, tt)
  rest-rel (some_bytes k m seen x len) p n l L R = rw R.0 (refl, tt)
  rest-rel (nothing seen) p n l L R = rw R.0 (go l)
    where
      go : (l : List ℕ)
          → Same (rest_read (nothing seen) n l)
          (cond (true && eqb (length l) 0) (lanes_counted p.lanes p.bytes) (bad_line n))
      go [] = ((λ i. lanes_counted (sym R.1 i) (sym R.2 i)), R.3)
      go (c ∷ cs) = (rw (ne_eqb (length (c ∷ cs)) 0 (λ e. omega arith)), tt)

  lines_same : (L : Lines) (s : Expects) (p : Progress) (k : ℕ) → Rel s p L
      → Same (lines_read s (suc k) L) (lines_counted t p k L)
  unfolding lines_read lines_counted
  lines_same (ended l L) s p k R =
      go (line_read s l) (line_counted t p l) (line-rel l L s p R) (λ s q R. lines_same L s q (suc k) R)
    where
      go : (o : Option Expects) (x : Option Progress) → LineRel o x L
          → ((s : Expects) (q : Progress) → Rel s q L → Same (lines_read s (suc (suc k)) L) (lines_counted t q (suc k) L))
          → Same (or_bad o (suc k) (λ s. lines_read s (suc (suc k)) L))
          (on_line x (suc k) (λ q. lines_counted t q (suc k) L))
      go None None R f = (refl, tt)
      go None (Some q) R f = absurd R
      go (Some s) None R f = absurd R
      go (Some s) (Some q) R f = f s q R
  lines_same (unended l) s p k R = rest-rel s p (suc k) l (unended l) R

  text_same : Same (text_read t) (text_counted t)
  unfolding text_read text_counted
  text_same = lines_same (lines_of t) a_store (progress ToStore 0 0 0 0 0) 0 (refl, (omega arith, refl))

-- THE SAME ANSWER
pub counted_is : (t : List ℕ) → checked_of (text_read t) ≡ text_counted t
counted_is t = (text_same t).0

-- and the lanes stand in the text
pub lanes_stand : (t : List ℕ) (ls : List Lane) → text_read t ≡ lanes ls → LanesAt t (first_lane t) ls
lanes_stand t ls e = subst (SeenOf t) e (text_same t).1
