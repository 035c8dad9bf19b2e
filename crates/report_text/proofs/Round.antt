-- The round trip: the reader gives back the lanes whose text was written. Assumes nothing.
use Prim.Native.Nat.{ℕ, suc, ◌+◌, ◌^◌, ◌≤◌, ◌<◌}
use mathlib.Core.Path.{◌≡◌, refl, sym, ap, ◌∙◌}
use mathlib.Core.Bool.{false}
use Rattle.std.specs.Prelude.{Option, Some}
use mathlib.Core.List.{List, [], ◌∷◌, ◌++◌, append_assoc, append-nil}
use native.Mathlib.Omega.{arith}
use lib.Dec.{lit<}
use lib.ListN.{length}
use borrow.Author.Tests.{le-leb, eq-eqb, ne_eqb}
use Rattle.limits.specs.Limits.{name_limit, digit_limit}
use Rattle.numbers.specs.LittleEndian.{Bytes}
use Rattle.report_text.specs.Text.{Lane, lane, total_of, newline, store_line, terms_word, total_word, term_word}
use Rattle.report_text.specs.Text.{len_word, bytes_word, end_line, decimal, hex, line, lane_text}
use Rattle.report_text.specs.Text.{lanes_text, head_text, report_text}
use Rattle.report_text.specs.Reader.{ended, lines_of, value_after, number_in}
use Rattle.report_text.specs.Reader.{bytes_in, named, Expects, a_store, a_terms, a_total, a_lane, a_length, some_bytes}
use Rattle.report_text.specs.Reader.{nothing, name_taken, end_taken, line_read, lanes, or_bad, lines_read}
use Rattle.report_text.specs.Reader.{text_read}
use Rattle.report_text.specs.Reportable.{Fits, EachFits, Unseen, Reportable}
use Rattle.report_text.proofs.Values.{Plain, plain-append, digits-plain, hex-plain, decimal_back, hex_back}

-- ---- lines

lines-plain : (l t : List ℕ) → Plain l → lines_of (l ++ (newline ∷ t)) ≡ ended l (lines_of t)
unfolding lines_of
lines-plain [] t p = refl
lines-plain (c ∷ l) t p = rw (ne_eqb c newline (λ e. omega (arith, p.0)), lines-plain l t p.1)

word_value : (w v : List ℕ) → value_after w (w ++ v) ≡ Some v
unfolding value_after
word_value [] v = refl
word_value (c ∷ w) v = rw (eq-eqb c c refl) (word_value w v)

-- a line in front of a text
pub line_text : (w v t : List ℕ) → line w v ++ t ≡ (w ++ v) ++ (newline ∷ t)
line_text w v t = simp append_assoc

-- one line is read
read-on : (s s' : Expects) (n : ℕ) (w v t : List ℕ) → Plain w → Plain v → line_read s (w ++ v) ≡ Some s'
    → lines_read s n (lines_of (line w v ++ t)) ≡ lines_read s' (suc n) (lines_of t)
unfolding lines_read
read-on s s' n w v t p q e =
    ap (λ (x : List ℕ). lines_read s n (lines_of x)) (line_text w v t)
    ∙ ap (lines_read s n) (lines-plain (w ++ v) t (plain-append w v p q))
    ∙ ap (λ (x : Option Expects). or_bad x n (λ s. lines_read s (suc n) (lines_of t))) e

number_in_lem : (w : List ℕ) (n : ℕ) → n < 10 ^ digit_limit → number_in w (w ++ decimal n) ≡ Some n
unfolding number_in
number_in_lem w n h = rw (word_value w (decimal n)) (decimal_back n h)

bytes-in : (w bs : List ℕ) → Bytes bs → bytes_in w (w ++ hex bs) ≡ Some bs
unfolding bytes_in
bytes-in w bs h = rw (word_value w (hex bs)) (hex_back bs h)

-- ---- each kind of line

plain_value : (n : ℕ) → Plain (decimal n)
plain_value n = digits-plain digit_limit n

store-read : line_read a_store (store_line ++ []) ≡ Some a_terms
unfolding line_read
store-read = refl

terms_read : (k : ℕ) → k < 10 ^ digit_limit → line_read a_terms (terms_word ++ decimal k) ≡ Some (a_total k)
unfolding line_read
terms_read k h = rw (number_in_lem terms_word k h)

total_read : (k n : ℕ) → n < 10 ^ digit_limit → line_read (a_total k) (total_word ++ decimal n) ≡ Some (a_lane k n [])
unfolding line_read
total_read k n h = rw (number_in_lem total_word n h)

name-read : (k n : ℕ) (ls : List Lane) (name : List ℕ) → Bytes name → length name ≤ name_limit → named name ls ≡ false
    → line_read (a_lane k n ls) (term_word ++ hex name) ≡ Some (a_length k n ls name)
unfolding line_read name_taken
name-read k n ls name b h f = rw (bytes-in term_word name b, le-leb (length name) name_limit h, f)

length-read : (k n : ℕ) (ls : List Lane) (name : List ℕ) (len : ℕ) → len < 10 ^ digit_limit
    → line_read (a_length k n ls name) (len_word ++ decimal len) ≡ Some (some_bytes k n ls name len)
unfolding line_read
length-read k n ls name len h = rw (number_in_lem len_word len h)

bytes_read : (k n : ℕ) (ls : List Lane) (name bs : List ℕ) → Bytes bs
    → line_read (some_bytes k n ls name (length bs)) (bytes_word ++ hex bs) ≡ Some (a_lane k n (ls ++ (lane name bs ∷ [])))
unfolding line_read
bytes_read k n ls name bs b = rw (bytes-in bytes_word bs b, eq-eqb (length bs) (length bs) refl)

end_read : (ls : List Lane) → line_read (a_lane (length ls) (total_of ls) ls) (end_line ++ []) ≡ Some (nothing ls)
unfolding line_read end_taken
end_read ls = rw (eq-eqb (length ls) (length ls) refl, eq-eqb (total_of ls) (total_of ls) refl)

plain_words : Plain store_line × Plain terms_word × Plain total_word × Plain term_word × Plain len_word × Plain bytes_word
    × Plain end_line
plain_words =
    let p : (c : ℕ) → 10 < 48 + c = λ c. omega arith in (
      (lit< tt, (lit< tt, (lit< tt, (lit< tt, (lit< tt, (lit< tt, (lit< tt, tt))))))),
      (lit< tt, (lit< tt, (lit< tt, (lit< tt, (lit< tt, (lit< tt, tt)))))),
      (lit< tt, (lit< tt, (lit< tt, (lit< tt, (lit< tt, (lit< tt, tt)))))),
      (lit< tt, (lit< tt, (lit< tt, (lit< tt, (lit< tt, tt))))),
      (lit< tt, (lit< tt, (lit< tt, (lit< tt, tt)))),
      (lit< tt, (lit< tt, (lit< tt, (lit< tt, (lit< tt, (lit< tt, tt)))))),
      (lit< tt, (lit< tt, (lit< tt, (lit< tt, (lit< tt, tt))))),
    )

-- ---- a lane, and all of them

-- the text of a lane in front of a text
pub lane_text_lem : (a : Lane) (t : List ℕ)
    → lane_text a ++ t ≡ line term_word
    (hex a.name) ++ (line len_word (decimal (length a.bytes)) ++ (line bytes_word (hex a.bytes) ++ t))
unfolding lane_text
lane_text_lem a t =
    append_assoc (line term_word (hex a.name))
    (line len_word (decimal (length a.bytes)) ++ line bytes_word (hex a.bytes)) t
    ∙ ap (λ (x : List ℕ). line term_word (hex a.name) ++ x)
    (append_assoc (line len_word (decimal (length a.bytes))) (line bytes_word (hex a.bytes)) t)

lane-read : (k n i : ℕ) (seen : List Lane) (a : Lane) (t : List ℕ) → Fits a → named a.name seen ≡ false
    → length a.bytes < 10 ^ digit_limit
    → lines_read (a_lane k n seen) i (lines_of (lane_text a ++ t))
    ≡ lines_read (a_lane k n (seen ++ (a ∷ []))) (suc (suc (suc i))) (lines_of t)
lane-read k n i seen a t f u h =
    ap (λ (x : List ℕ). lines_read (a_lane k n seen) i (lines_of x)) (lane_text_lem a t)
    ∙ read-on (a_lane k n seen) (a_length k n seen a.name) i term_word (hex a.name)
    (line len_word (decimal (length a.bytes)) ++ (line bytes_word (hex a.bytes) ++ t))
    plain_words.3 (hex-plain a.name f.name_bytes) (name-read k n seen a.name f.name_bytes f.short u)
    ∙ read-on (a_length k n seen a.name) (some_bytes k n seen a.name (length a.bytes)) (suc i) len_word
    (decimal (length a.bytes))
    (line bytes_word (hex a.bytes) ++ t)
    plain_words.4 (plain_value (length a.bytes)) (length-read k n seen a.name (length a.bytes) h)
    ∙ read-on (some_bytes k n seen a.name (length a.bytes)) (a_lane k n (seen ++ (a ∷ []))) (suc (suc i)) bytes_word
    (hex a.bytes) t
    plain_words.5 (hex-plain a.bytes f.all-bytes) (bytes_read k n seen a.name a.bytes f.all-bytes)

lanes-read : (k n i : ℕ) (seen ls : List Lane) (t : List ℕ) → EachFits ls → Unseen seen ls
    → total_of ls < 10 ^ digit_limit
    → (j : ℕ) × (lines_read (a_lane k n seen) i (lines_of (lanes_text ls ++ t))
    ≡ lines_read (a_lane k n (seen ++ ls)) j (lines_of t))
unfolding lanes_text total_of
lanes-read k n i seen [] t f u h =
    (i, ap (λ (x : List Lane). lines_read (a_lane k n x) i (lines_of t)) (sym (append-nil seen)))
lanes-read k n i seen (a ∷ ls) t f u h =
    let r = lanes-read k n (suc (suc (suc i))) (seen ++ (a ∷ [])) ls t f.1 u.1 (omega arith) in (
      r.0,
      ap (λ (x : List ℕ). lines_read (a_lane k n seen) i (lines_of x)) (append_assoc (lane_text a) (lanes_text ls) t)
          ∙ lane-read k n i seen a (lanes_text ls ++ t) f.0 u.0 (omega arith)
          ∙ r.1
          ∙ ap (λ (x : List Lane). lines_read (a_lane k n x) r.0 (lines_of t)) (append_assoc seen (a ∷ []) ls),
    )

-- the text of any lanes that a report can hold reads back as the same lanes in order
pub round_trip : (ls : List Lane) → Reportable ls → text_read (report_text ls) ≡ lanes ls
unfolding text_read report_text head_text lines_read
round_trip ls R =
    let k = length ls in
    let n = total_of ls in
    let r = lanes-read k n 4 [] ls (line end_line []) R.each R.distinct R.small in
    ap (λ (x : List ℕ). lines_read a_store 1 (lines_of x))
    (append_assoc (line store_line []) (line terms_word (decimal k) ++ line total_word (decimal n))
    (lanes_text ls ++ line end_line [])
    ∙ ap (λ (x : List ℕ). line store_line [] ++ x)
    (append_assoc (line terms_word (decimal k)) (line total_word (decimal n)) (lanes_text ls ++ line end_line [])))
    ∙ read-on a_store a_terms 1 store_line []
    (line terms_word (decimal k) ++ (line total_word (decimal n) ++ (lanes_text ls ++ line end_line [])))
    plain_words.0 tt store-read
    ∙ read-on a_terms (a_total k) 2 terms_word (decimal k)
    (line total_word (decimal n) ++ (lanes_text ls ++ line end_line []))
    plain_words.1 (plain_value k) (terms_read k R.few)
    ∙ read-on (a_total k) (a_lane k n []) 3 total_word (decimal n) (lanes_text ls ++ line end_line [])
    plain_words.2 (plain_value n) (total_read k n R.small)
    ∙ r.1
    ∙ ap (λ (x : List ℕ). lines_read (a_lane k n ls) r.0 (lines_of x)) (sym (append-nil (line end_line [])))
    ∙ read-on (a_lane k n ls) (nothing ls) r.0 end_line [] [] plain_words.6 tt (end_read ls)
