-- Only the text of its lanes is accepted: what the reader takes is what the writer writes of the lanes it told, and
-- these are lanes that a report can hold. Assumes nothing.
use Prim.Native.Nat.{ℕ, suc, ◌^◌, ◌<◌}
use mathlib.Core.Path.{◌≡◌, refl, sym, ap, ◌∙◌, subst}
use mathlib.Core.Bool.{Bool, true, false, cond, ◌&&◌, not}
use Rattle.std.specs.Prelude.{Option, None, Some}
use mathlib.Core.List.{List, [], ◌∷◌, ◌++◌, append_assoc, append-nil}
use native.Mathlib.Omega.{arith}
use lib.Dec.{leb, eqb}
use lib.ListN.{length}
use borrow.Author.Tests.{leb-true, eqb-true, not-true}
use Rattle.limits.specs.Limits.{name_limit, digit_limit}
use Rattle.numbers.specs.LittleEndian.{Bytes}
use Rattle.numbers.proofs.Tests.{both}
use Rattle.fastcmp.specs.Equal.{equal_bytes}
use Rattle.fastcmp.proofs.Laws.{equal_true}
use Rattle.report_text.specs.Text.{Lane, lane, total_of, newline, store_line, terms_word, total_word, term_word}
use Rattle.report_text.specs.Text.{len_word, bytes_word, end_line, decimal, hex, line, lane_text, lanes_text, head_text}
use Rattle.report_text.specs.Text.{report_text}
use Rattle.report_text.specs.Reader.{Lines, ended, unended, in_front, lines_of, and_then, number_in, bytes_in, named}
use Rattle.report_text.specs.Reader.{Expects, a_store, a_terms, a_total, a_lane, a_length, some_bytes, nothing}
use Rattle.report_text.specs.Reader.{provided, name_taken, end_taken, line_read, lanes, bad, or_bad}
use Rattle.report_text.specs.Reader.{bytes_taken, rest_read, lines_read, text_read}
use Rattle.report_text.specs.Reportable.{EachFits, Unseen, Reportable}
use Rattle.report_text.proofs.Forms.{bytes_form, number_form}
use Rattle.report_text.proofs.Round.{line_text, lane_text_lem}

-- ---- a text is its lines joined again

text_of : Lines → List ℕ
text_of (ended l ls) = l ++ (newline ∷ text_of ls)
text_of (unended l) = l

lines_text : (t : List ℕ) → text_of (lines_of t) ≡ t
unfolding lines_of text_of
lines_text [] = refl
lines_text (c ∷ t) = go (eqb c newline) refl (lines_text t)
  where
    front : (ls : Lines) → text_of (in_front c ls) ≡ c ∷ text_of ls
    front (ended l ls) = refl
    front (unended l) = refl

    go : (b : Bool) → eqb c newline ≡ b → text_of (lines_of t) ≡ t
        → text_of (cond b (ended [] (lines_of t)) (in_front c (lines_of t))) ≡ c ∷ t
    go true e h = λ i. sym (eqb-true c newline e) i ∷ h i
    go false e h = front (lines_of t) ∙ ap (λ (x : List ℕ). c ∷ x) h

-- ---- what is still due, line by line, for a text to be read as these lanes

-- the text of the lanes that are left, and the end
abbrev end_text : List Lane → List ℕ
end_text rest = lanes_text rest ++ line end_line []

-- the lanes are those seen and those left, and these fit a report
record Left (seen rest ls : List Lane) : Type 0 where
  all : ls ≡ seen ++ rest
  each : EachFits rest
  distinct : Unseen seen rest

-- and they are as many, with as many bytes, as was told
record Meets (k n : ℕ) (ls : List Lane) : Type 0 where
  terms : length ls ≡ k
  total : total_of ls ≡ n

-- with a name read and not yet its bytes
record Begun (k n : ℕ) (seen : List Lane) (name : List ℕ) (ls rest : List Lane) (bs : List ℕ) : Type 0 where
  all : ls ≡ (seen ++ (lane name bs ∷ [])) ++ rest
  bytes : Bytes bs
  each : EachFits rest
  distinct : Unseen (seen ++ (lane name bs ∷ [])) rest
  meets : Meets k n ls

abbrev Due : Expects → List Lane → List ℕ → Type 0
Due a_store ls t = (t ≡ report_text ls) × Reportable ls
Due a_terms ls t =
    (t ≡ line terms_word (decimal (length ls)) ++ (line total_word (decimal (total_of ls)) ++ end_text ls)) × Reportable ls
Due (a_total k) ls t =
    (t ≡ line total_word (decimal (total_of ls)) ++ end_text ls) × (length ls ≡ k) × (total_of ls < 10 ^ digit_limit)
    × Left [] ls ls
Due (a_lane k n seen) ls t = (rest : List Lane) × (t ≡ end_text rest) × Left seen rest ls × Meets k n ls
Due (a_length k n seen name) ls t =
    (rest : List Lane) × (bs : List ℕ)
    × (t ≡ line len_word (decimal (length bs)) ++ (line bytes_word (hex bs) ++ end_text rest))
    × Begun k n seen name ls rest bs
Due (some_bytes k n seen name len) ls t =
    (rest : List Lane) × (bs : List ℕ) × (t ≡ line bytes_word (hex bs) ++ end_text rest) × (length bs ≡ len)
    × Begun k n seen name ls rest bs
Due (nothing seen) ls t = (t ≡ []) × (ls ≡ seen)

-- ---- a line more in front: each kind

-- a line of a word and a value, in front of what is due behind it
in-front : (w v l t u : List ℕ) → l ≡ w ++ v → t ≡ u → l ++ (newline ∷ t) ≡ line w v ++ u
in-front w v l t u p q = (λ i. p i ++ (newline ∷ q i)) ∙ sym (line_text w v u)

store-due : (l t : List ℕ) (s : Expects) (ls : List Lane) → line_read a_store l ≡ Some s → Due s ls t
    → Due a_store ls (l ++ (newline ∷ t))
unfolding line_read report_text head_text
store-due l t s ls e d = go (equal_bytes l store_line) refl e
  where
    head : l ≡ store_line → Due a_terms ls t → Due a_store ls (l ++ (newline ∷ t))
    head p d =
        let terms = line terms_word (decimal (length ls)) in
        let total = line total_word (decimal (total_of ls)) in (
          in-front store_line [] l t (terms ++ (total ++ end_text ls)) (p ∙ sym (append-nil store_line)) d.0
              ∙ ap (λ (x : List ℕ). line store_line [] ++ x) (sym (append_assoc terms total (end_text ls)))
              ∙ sym (append_assoc (line store_line []) (terms ++ total) (end_text ls)),
          d.1,
        )

    go : (b : Bool) → equal_bytes l store_line ≡ b → provided b a_terms ≡ Some s → Due a_store ls (l ++ (newline ∷ t))
    go true p e =
        let q : a_terms ≡ s = cc in
        head (equal_true l store_line p) (subst (λ (x : Expects). Due x ls t) (sym q) d)
    go false p e = let z : ◌≡◌ {A = ℕ} 0 1 = cc in absurd (omega arith)

-- a step after another gave something: so did both
pub then_some : {A B : Type 0} (o : Option A) (f : A → Option B) (s : B) → and_then o f ≡ Some s
    → (x : A) × (o ≡ Some x) × (f x ≡ Some s)
then_some None f s e = let z : ◌≡◌ {A = ℕ} 0 1 = cc in absurd (omega arith)
then_some (Some x) f s e = (x, refl, e)

-- a test that gave something holds
pub provided_some : (b : Bool) (r s : Expects) → provided b r ≡ Some s → (b ≡ true) × (r ≡ s)
provided_some true r s e = (refl, cc)
provided_some false r s e = let z : ◌≡◌ {A = ℕ} 0 1 = cc in absurd (omega arith)

terms_due : (l t : List ℕ) (s : Expects) (ls : List Lane) → line_read a_terms l ≡ Some s → Due s ls t
    → Due a_terms ls (l ++ (newline ∷ t))
unfolding line_read
terms_due l t s ls e d =
    let x = then_some (number_in terms_word l) (λ (k : ℕ). Some (a_total k)) s e in
    let f = number_form terms_word l x.0 x.1 in
    let q : a_total x.0 ≡ s = cc in
    let d = subst (λ (y : Expects). Due y ls t) (sym q) d in
    let k : length ls ≡ x.0 = d.1 in (
      in-front terms_word (decimal (length ls)) l t (line total_word (decimal (total_of ls)) ++ end_text ls)
          (f.0 ∙ ap (λ (y : ℕ). terms_word ++ decimal y) (sym k)) d.0,
      record { each = d.3.each; distinct = d.3.distinct; few = rw k f.1; small = d.2 },
    )

total_due : (k : ℕ) (l t : List ℕ) (s : Expects) (ls : List Lane) → line_read (a_total k) l ≡ Some s → Due s ls t
    → Due (a_total k) ls (l ++ (newline ∷ t))
unfolding line_read
total_due k l t s ls e d =
    let x = then_some (number_in total_word l) (λ (n : ℕ). Some (a_lane k n [])) s e in
    let f = number_form total_word l x.0 x.1 in
    let q : a_lane k x.0 [] ≡ s = cc in
    let d = subst (λ (y : Expects). Due y ls t) (sym q) d in
    let L = d.2 in
    let n : total_of ls ≡ x.0 = d.3.total in
    let r : d.0 ≡ ls = sym L.all in (
      in-front total_word (decimal (total_of ls)) l t (end_text ls)
          (f.0 ∙ ap (λ (y : ℕ). total_word ++ decimal y) (sym n)) (d.1 ∙ ap end_text r),
      d.3.terms,
      rw n f.1,
      subst (λ (y : List Lane). Left [] y ls) r L,
    )

-- the end, and a lane's name
end-due : (k n : ℕ) (seen : List Lane) (l t : List ℕ) (s : Expects) (ls : List Lane) → l ≡ end_line
    → end_taken k n seen ≡ Some s → Due s ls t → Due (a_lane k n seen) ls (l ++ (newline ∷ t))
unfolding end_taken lanes_text
end-due k n seen l t s ls p e d =
    let x = provided_some (eqb (length seen) k && eqb (total_of seen) n) (nothing seen) s e in
    let b = both (eqb (length seen) k) (eqb (total_of seen) n) x.0 in
    let d = subst (λ (y : Expects). Due y ls t) (sym x.1) d in (
      [],
      in-front end_line [] l t [] (p ∙ sym (append-nil end_line)) d.0 ∙ append-nil (line end_line []),
      record { all = d.1 ∙ sym (append-nil seen); each = tt; distinct = tt },
      record {
        terms = ap (λ (y : List Lane). length y) d.1 ∙ eqb-true (length seen) k b.0;
        total = ap total_of d.1 ∙ eqb-true (total_of seen) n b.1;
      },
    )

name-due : (k n : ℕ) (seen : List Lane) (l t : List ℕ) (s : Expects) (ls : List Lane)
    → and_then (bytes_in term_word l) (λ (name : List ℕ). name_taken k n seen name) ≡ Some s → Due s ls t
    → Due (a_lane k n seen) ls (l ++ (newline ∷ t))
unfolding name_taken lanes_text
name-due k n seen l t s ls e d =
    let x = then_some (bytes_in term_word l) (λ (name : List ℕ). name_taken k n seen name) s e in
    let name = x.0 in
    let f = bytes_form term_word l name x.1 in
    let y = provided_some (leb (length name) name_limit && not (named name seen)) (a_length k n seen name) s x.2 in
    let b = both (leb (length name) name_limit) (not (named name seen)) y.0 in
    let d = subst (λ (y : Expects). Due y ls t) (sym y.1) d in
    let rest = d.0 in
    let bs = d.1 in
    let B = d.3 in
    let a = lane name bs in (
      a ∷ rest,
      in-front term_word (hex name) l t (line len_word (decimal (length bs)) ++ (line bytes_word (hex bs) ++ end_text rest))
          f.0 d.2
          ∙ sym (append_assoc (lane_text a) (lanes_text rest) (line end_line []) ∙ lane_text_lem a (end_text rest)),
      record {
        all = B.all ∙ append_assoc seen (a ∷ []) rest;
        each = (
          record { short = leb-true (length name) name_limit b.0; name_bytes = f.1; all-bytes = B.bytes },
          B.each,
        );
        distinct = (not-true (named name seen) b.1, B.distinct);
      },
      B.meets,
    )

lane-due : (k n : ℕ) (seen : List Lane) (l t : List ℕ) (s : Expects) (ls : List Lane)
    → line_read (a_lane k n seen) l ≡ Some s → Due s ls t
    → Due (a_lane k n seen) ls (l ++ (newline ∷ t))
unfolding line_read
lane-due k n seen l t s ls e d = go (equal_bytes l end_line) refl e
  where
    go : (b : Bool) → equal_bytes l end_line ≡ b
        → cond b (end_taken k n seen) (and_then (bytes_in term_word l) (λ (name : List ℕ). name_taken k n seen name))
        ≡ Some s
        → Due (a_lane k n seen) ls (l ++ (newline ∷ t))
    go true p e = end-due k n seen l t s ls (equal_true l end_line p) e d
    go false p e = name-due k n seen l t s ls e d

length-due : (k n : ℕ) (seen : List Lane) (name l t : List ℕ) (s : Expects) (ls : List Lane)
    → line_read (a_length k n seen name) l ≡ Some s → Due s ls t
    → Due (a_length k n seen name) ls (l ++ (newline ∷ t))
unfolding line_read
length-due k n seen name l t s ls e d =
    let x = then_some (number_in len_word l) (λ (len : ℕ). Some (some_bytes k n seen name len)) s e in
    let f = number_form len_word l x.0 x.1 in
    let q : some_bytes k n seen name x.0 ≡ s = cc in
    let d = subst (λ (y : Expects). Due y ls t) (sym q) d in
    let m : length d.1 ≡ x.0 = d.3 in (
      d.0,
      d.1,
      in-front len_word (decimal (length d.1)) l t (line bytes_word (hex d.1) ++ end_text d.0)
          (f.0 ∙ ap (λ (y : ℕ). len_word ++ decimal y) (sym m)) d.2,
      d.4,
    )

bytes-due : (k n : ℕ) (seen : List Lane) (name : List ℕ) (len : ℕ) (l t : List ℕ) (s : Expects) (ls : List Lane)
    → line_read (some_bytes k n seen name len) l ≡ Some s → Due s ls t
    → Due (some_bytes k n seen name len) ls (l ++ (newline ∷ t))
unfolding line_read
bytes-due k n seen name len l t s ls e d =
    let x = then_some (bytes_in bytes_word l) (λ (bs : List ℕ). bytes_taken k n seen name len bs) s e in
    let bs = x.0 in
    let f = bytes_form bytes_word l bs x.1 in
    let y = provided_some (eqb (length bs) len) (a_lane k n (seen ++ (lane name bs ∷ []))) s x.2 in
    let d = subst (λ (y : Expects). Due y ls t) (sym y.1) d in (
      d.0,
      bs,
      in-front bytes_word (hex bs) l t (end_text d.0) f.0 d.1,
      eqb-true (length bs) len y.0,
      record { all = d.2.all; bytes = f.1; each = d.2.each; distinct = d.2.distinct; meets = d.3 },
    )

-- ---- the whole text

line-due : (s : Expects) (l t : List ℕ) (s' : Expects) (ls : List Lane) → line_read s l ≡ Some s' → Due s' ls t
    → Due s ls (l ++ (newline ∷ t))
unfolding line_read
line-due a_store l t s' ls e d = store-due l t s' ls e d
line-due a_terms l t s' ls e d = terms_due l t s' ls e d
line-due (a_total k) l t s' ls e d = total_due k l t s' ls e d
line-due (a_lane k n seen) l t s' ls e d = lane-due k n seen l t s' ls e d
line-due (a_length k n seen name) l t s' ls e d = length-due k n seen name l t s' ls e d
line-due (some_bytes k n seen name len) l t s' ls e d = bytes-due k n seen name len l t s' ls e d
line-due (nothing seen) l t s' ls e d = let z : ◌≡◌ {A = ℕ} 0 1 = cc in absurd (omega arith)

told-apart : (n : ℕ) (ls : List Lane) {A : Type 0} → bad n ≡ lanes ls → A
told-apart n ls e = let z : ◌≡◌ {A = ℕ} 0 1 = cc in absurd (omega arith)

rest-due : (s : Expects) (n : ℕ) (l : List ℕ) (ls : List Lane) → rest_read s n l ≡ lanes ls → Due s ls l
rest-due a_store n l ls e = told-apart n ls e
rest-due a_terms n l ls e = told-apart n ls e
rest-due (a_total k) n l ls e = told-apart n ls e
rest-due (a_lane k m seen) n l ls e = told-apart n ls e
rest-due (a_length k m seen name) n l ls e = told-apart n ls e
rest-due (some_bytes k m seen name len) n l ls e = told-apart n ls e
rest-due (nothing seen) n [] ls e = (refl, cc)
rest-due (nothing seen) n (c ∷ l) ls e = told-apart n ls e

all-due : (s : Expects) (n : ℕ) (L : Lines) (ls : List Lane) → lines_read s n L ≡ lanes ls → Due s ls (text_of L)
unfolding lines_read text_of
all-due s n (unended l) ls e = rest-due s n l ls e
all-due s n (ended l L) ls e = go (line_read s l) refl (λ s' f. all-due s' (suc n) L ls f) e
  where
    go : (o : Option Expects) → line_read s l ≡ o
        → ((s' : Expects) → lines_read s' (suc n) L ≡ lanes ls → Due s' ls (text_of L))
        → or_bad o n (λ s'. lines_read s' (suc n) L) ≡ lanes ls
        → Due s ls (l ++ (newline ∷ text_of L))
    go None p f e = told-apart n ls e
    go (Some s') p f e = line-due s l (text_of L) s' ls p (f s' e)

-- what is accepted is the text of the lanes told, and a report can hold them
pub only_text : (t : List ℕ) (ls : List Lane) → text_read t ≡ lanes ls → (t ≡ report_text ls) × Reportable ls
unfolding text_read
only_text t ls e =
    let d = all-due a_store 1 (lines_of t) ls e in
    (sym (lines_text t) ∙ d.0, d.1)
