-- The notes: a name seen before finds its place taken. Assumes nothing.
use Prim.Native.Nat.{ℕ, ◌*◌, ◌%◌, ◌<◌}
use mathlib.Core.Path.{◌≡◌, refl, sym, ap, ◌∙◌, subst}
use mathlib.Core.Bool.{Bool, true, false, cond, ◌&&◌, not}
use Rattle.std.specs.Prelude.{Option, None, Some, option_map}
use mathlib.Core.List.{List, [], ◌∷◌, ◌++◌}
use native.Mathlib.Omega.{arith}
use native.Mathlib.Decide.{ℕ_discrete}
use lib.Dec.{leb, eqb}
use lib.ListN.{length}
use Rattle.limits.specs.Limits.{name_limit}
use Rattle.numbers.proofs.Tests.{not_both}
use Rattle.fastcmp.specs.Equal.{equal_bytes}
use Rattle.fastcmp.proofs.Laws.{equal_true}
use Rattle.murmurhash2.specs.Murmur.{murmur_hash2}
use Rattle.marks.specs.Bits.{marked, with_mark, Out, out, mark_one}
use Rattle.marks.proofs.Laws.{length_mark, mark_here, mark_other}
use Rattle.report_text.specs.Text.{Lane, lane, total_of, store_line, terms_word, total_word, term_word, len_word, bytes_word}
use Rattle.report_text.specs.Text.{end_line, hex}
use Rattle.report_text.specs.Reader.{Lines, ended, lines_of, and_then, number_in, bytes_in, named, Expects, a_store, a_terms}
use Rattle.report_text.specs.Reader.{a_total, a_lane, a_length, some_bytes, nothing, name_taken, end_taken}
use Rattle.report_text.specs.Reader.{bytes_taken, line_read}
use Rattle.report_text.proofs.Forms.{bytes_form}
use Rattle.report_text.proofs.Exact.{then_some, provided_some}
use Rattle.report_read.specs.declared.check.Progress.{Progress}
use Rattle.report_read.specs.declared.check.Expected.{Expected}
use Rattle.report_read.specs.declared.check.Expected.TheVariants.{Store as ToStore, Terms as ToTerms, Total as ToTotal, Lane as ToLane}
use Rattle.report_read.specs.declared.check.Expected.TheVariants.{Length as ToLength, Bytes as ToBytes, Nothing as ToNothing}
use Rattle.report_read.specs.Lines.{first_lane}
use Rattle.report_read.specs.Counted.{seen_among, progress, line_counted}
use Rattle.report_read.specs.Noted.{is_lane, note_of, noted_of, Vouched}
use Rattle.report_read.proofs.Counted.{Rel, LineRel, name-seen, line-rel}

-- ---- where a name may stand

is_it_lane : (e : Expected) → Dec (e ≡ ToLane)
is_it_lane ToStore = no (λ e. cc)
is_it_lane ToTerms = no (λ e. cc)
is_it_lane ToTotal = no (λ e. cc)
is_it_lane ToLane = yes refl
is_it_lane ToLength = no (λ e. cc)
is_it_lane ToBytes = no (λ e. cc)
is_it_lane ToNothing = no (λ e. cc)

not_lane : (e : Expected) → (e ≡ ToLane → ⊥) → is_lane e ≡ false
not_lane ToStore f = refl
not_lane ToTerms f = refl
not_lane ToTotal f = refl
not_lane ToLane f = absurd (f refl)
not_lane ToLength f = refl
not_lane ToBytes f = refl
not_lane ToNothing f = refl

-- ---- one line noted

pub note_place : (l notes : List ℕ) → length notes ≡ 65536 → note_of l < 8 * length notes
unfolding note_of
note_place l notes n = omega arith

-- every place that was taken stays so
abbrev Grows : List ℕ → List ℕ → Type 0
Grows notes notes' = (k : ℕ) → marked notes k ≡ true → marked notes' k ≡ true

record Noted (notes : List ℕ) (k : ℕ) (maybe : Bool) (notes' : List ℕ) : Type 0 where
  free : maybe ≡ false → marked notes k ≡ false
  here : marked notes' k ≡ true
  grows : Grows notes notes'
  size : length notes' ≡ length notes

mark_noted : (notes : List ℕ) (k : ℕ) (maybe : Bool) (notes' : List ℕ) → k < 8 * length notes
    → out maybe notes' ≡ mark_one notes k → Noted notes k maybe notes'
unfolding mark_one
mark_noted notes k maybe notes' h e = go (marked notes k) refl e
  where
    go : (b : Bool) → marked notes k ≡ b → out maybe notes' ≡ cond b (out true notes) (out false (with_mark notes k))
        → Noted notes k maybe notes'
    go true p e =
        let q : notes ≡ notes' = sym (ap (λ (o : Out). o.marks) e) in
        let m : maybe ≡ true = ap (λ (o : Out). o.met) e in
        subst (Noted notes k maybe) q (record {
          free = λ f. not_both maybe m f;
          here = p;
          grows = λ j t. t;
          size = refl;
        })
    go false p e =
        let q : with_mark notes k ≡ notes' = sym (ap (λ (o : Out). o.marks) e) in
        subst (Noted notes k maybe) q (record {
          free = λ f. p;
          here = mark_here notes k h p;
          grows = λ j t. other j (ℕ_discrete j k) t;
          size = length_mark notes k;
        })
      where
        other : (j : ℕ) → Dec (j ≡ k) → marked notes j ≡ true → marked (with_mark notes k) j ≡ true
        other j (yes z) t = subst (λ (x : ℕ). marked (with_mark notes k) x ≡ true) (sym z) (mark_here notes k h p)
        other j (no z) t = mark_other notes k j h p z ∙ t

-- ---- what the notes hold of a reading under way

-- the line of a name
abbrev line_of : List ℕ → List ℕ
line_of x = term_word ++ hex x

abbrev IsNoted : List ℕ → List ℕ → Type 0
IsNoted notes x = marked notes (note_of (line_of x)) ≡ true

abbrev EachNoted : List ℕ → List Lane → Type 0
EachNoted notes [] = Unit {0}
EachNoted notes (a ∷ ls) = IsNoted notes a.name × EachNoted notes ls

-- every name so far is noted
abbrev NotedIn : List ℕ → Expects → Type 0
NotedIn notes a_store = Unit {0}
NotedIn notes a_terms = Unit {0}
NotedIn notes (a_total k) = Unit {0}
NotedIn notes (a_lane k n seen) = EachNoted notes seen
NotedIn notes (a_length k n seen x) = EachNoted notes seen × IsNoted notes x
NotedIn notes (some_bytes k n seen x len) = EachNoted notes seen × IsNoted notes x
NotedIn notes (nothing seen) = Unit {0}

each-grows : (notes notes' : List ℕ) (ls : List Lane) → Grows notes notes' → EachNoted notes ls → EachNoted notes' ls
each-grows notes notes' [] g e = tt
each-grows notes notes' (a ∷ ls) g e = (g (note_of (line_of a.name)) e.0, each-grows notes notes' ls g e.1)

each_more : (notes : List ℕ) (ls : List Lane) (a : Lane) → EachNoted notes ls → IsNoted notes a.name
    → EachNoted notes (ls ++ (a ∷ []))
each_more notes [] a e n = (n, tt)
each_more notes (b ∷ ls) a e n = (e.0, each_more notes ls a e.1 n)

-- a name whose place is free isn't among them
free_unnamed : (notes : List ℕ) (ls : List Lane) (x : List ℕ) → EachNoted notes ls
    → marked notes (note_of (line_of x)) ≡ false → named x ls ≡ false
unfolding named
free_unnamed notes [] x e f = refl
free_unnamed notes (a ∷ ls) x e f = go (equal_bytes x a.name) refl (free_unnamed notes ls x e.1 f)
  where
    go : (b : Bool) → equal_bytes x a.name ≡ b → named x ls ≡ false → cond b true (named x ls) ≡ false
    go true p h =
        let q : IsNoted notes x = subst (IsNoted notes) (sym (equal_true x a.name p)) e.0 in
        not_both (marked notes (note_of (line_of x))) q f
    go false p h = h

-- ---- a line judged with the notes

-- what is known before a line: what the reader expects, and that it has noted what it read
pub record Notes (t : List ℕ) (p : Progress) (notes : List ℕ) (L : Lines) : Type 0 where
  size : length notes ≡ 65536
  state : Expects
  rel : Rel t state p L
  noted : NotedIn notes state

pub notes_size : {t : List ℕ} {p : Progress} {notes : List ℕ} {L : Lines} → Notes t p notes L → length notes ≡ 65536
notes_size N = N.size

pub notes-start : (t notes : List ℕ) → length notes ≡ 65536 → Notes t (progress ToStore 0 0 0 0 0) notes (lines_of t)
notes-start t notes n = record { size = n; state = a_store; rel = (refl, (omega arith, refl)); noted = tt }

module _ (t l : List ℕ) (L : Lines) (p : Progress) (notes : List ℕ) (maybe : Bool) (notes' : List ℕ) where
  -- where a name may stand
  noted-three : p.expected ≡ ToLane → length notes ≡ 65536 → out maybe notes' ≡ noted_of notes p l
      → Noted notes (note_of l) maybe notes'
  unfolding noted_of
  noted-three e n o = mark_noted notes (note_of l) maybe notes' (note_place l notes n) (o ∙ rw e)

  -- elsewhere nothing is noted
  noted_not : (p.expected ≡ ToLane → ⊥) → out maybe notes' ≡ noted_of notes p l → notes ≡ notes'
  unfolding noted_of
  noted_not e o =
      let q : out maybe notes' ≡ out true notes = o ∙ rw (not_lane p.expected e) in
      sym (ap (λ (x : Out). x.marks) q)

  vouched : Noted notes (note_of l) maybe notes' → (s : Expects) → Rel t s p (ended l L) → NotedIn notes s
      → p.expected ≡ ToLane → Vouched maybe t p l
  vouched N a_store R D e = absurd (no0 R.0)
    where
      no0 : p ≡ progress ToStore 0 0 0 0 0 → ⊥
      no0 q = let z = sym (ap (λ (x : Progress). x.expected) q) ∙ e in cc
  vouched N a_terms R D e = absurd (no R.0)
    where
      no : p ≡ progress ToTerms 0 0 0 0 0 → ⊥
      no q = let z = sym (ap (λ (x : Progress). x.expected) q) ∙ e in cc
  vouched N (a_total k) R D e = absurd (no R.0)
    where
      no : p ≡ progress ToTotal k 0 0 0 0 → ⊥
      no q = let z = sym (ap (λ (x : Progress). x.expected) q) ∙ e in cc
  vouched N (a_lane k n seen) R D e = λ m x b.
      let f = bytes_form term_word l x b in
      let u = free_unnamed notes seen x D
      (subst (λ (y : List ℕ). marked notes (note_of y) ≡ false) f.0 (N.free m)) in
      ap (λ (q : Progress). seen_among q.lanes l t (first_lane t)) R.0 ∙ name-seen t l L seen x R.2 b ∙ u
  vouched N (a_length k n seen x) R D e = absurd (no R.0)
    where
      no : p ≡ progress ToLength k n (length seen) (total_of seen) 0 → ⊥
      no q = let z = sym (ap (λ (x : Progress). x.expected) q) ∙ e in cc
  vouched N (some_bytes k n seen x len) R D e = absurd (no R.0)
    where
      no : p ≡ progress ToBytes k n (length seen) (total_of seen) len → ⊥
      no q = let z = sym (ap (λ (x : Progress). x.expected) q) ∙ e in cc
  vouched N (nothing seen) R D e = let z = sym R.0 ∙ e in cc

  -- THE NOTES VOUCH: a line whose place was free was no name's line
  pub notes_vouch : Notes t p notes (ended l L) → out maybe notes' ≡ noted_of notes p l → p.expected ≡ ToLane
      → Vouched maybe t p l
  notes_vouch N o e = vouched (noted-three e N.size o) N.state N.rel N.noted e

  -- what a line adds is noted
  noted-on : (s s' : Expects) → Grows notes notes' → (p.expected ≡ ToLane → marked notes' (note_of l) ≡ true)
      → Rel t s p (ended l L) → NotedIn notes s → line_read s l ≡ Some s' → NotedIn notes' s'
  unfolding line_read name_taken end_taken
  noted-on a_store s' G H R D e =
      subst (NotedIn notes') (provided_some (equal_bytes l store_line) a_terms s' e).1 tt
  noted-on a_terms s' G H R D e =
      let x = then_some (number_in terms_word l) (λ (k : ℕ). Some (a_total k)) s' e in
      let q : a_total x.0 ≡ s' = cc in
      subst (NotedIn notes') q tt
  noted-on (a_total k) s' G H R D e =
      let x = then_some (number_in total_word l) (λ (n : ℕ). Some (a_lane k n [])) s' e in
      let q : a_lane k x.0 [] ≡ s' = cc in
      subst (NotedIn notes') q tt
  noted-on (a_lane k n seen) s' G H R D e = go (equal_bytes l end_line) e
    where
      name : and_then (bytes_in term_word l) (λ (x : List ℕ). name_taken k n seen x) ≡ Some s' → NotedIn notes' s'
      name e =
          let x = then_some (bytes_in term_word l) (λ (y : List ℕ). name_taken k n seen y) s' e in
          let f = bytes_form term_word l x.0 x.1 in
          let y = provided_some (leb (length x.0) name_limit && not (named x.0 seen)) (a_length k n seen x.0) s'
          x.2 in
          let h = H (ap (λ (q : Progress). q.expected) R.0) in
          subst (NotedIn notes') y.1 (
            each-grows notes notes' seen G D,
            subst (λ (z : List ℕ). marked notes' (note_of z) ≡ true) f.0 h,
          )

      go : (b : Bool)
          → cond b (end_taken k n seen) (and_then (bytes_in term_word l) (λ (x : List ℕ). name_taken k n seen x)) ≡ Some s'
          → NotedIn notes' s'
      go true e =
          subst (NotedIn notes')
          (provided_some (eqb (length seen) k && eqb (total_of seen) n) (nothing seen) s' e).1 tt
      go false e = name e
  noted-on (a_length k n seen x) s' G H R D e =
      let y = then_some (number_in len_word l) (λ (len : ℕ). Some (some_bytes k n seen x len)) s' e in
      let q : some_bytes k n seen x y.0 ≡ s' = cc in
      subst (NotedIn notes') q (each-grows notes notes' seen G D.0, G (note_of (line_of x)) D.1)
  noted-on (some_bytes k n seen x len) s' G H R D e =
      let y = then_some (bytes_in bytes_word l) (λ (bs : List ℕ). bytes_taken k n seen x len bs) s' e in
      let z = provided_some (eqb (length y.0) len) (a_lane k n (seen ++ (lane x y.0 ∷ []))) s' y.2 in
      subst (NotedIn notes') z.1
      (each_more notes' seen (lane x y.0) (each-grows notes notes' seen G D.0) (G (note_of (line_of x)) D.1))
  noted-on (nothing seen) s' G H R D e = let z : ◌≡◌ {A = ℕ} 0 1 = cc in absurd (omega arith)

  -- and the reading goes on
  pub notes_on : (q : Progress) → Notes t p notes (ended l L) → out maybe notes' ≡ noted_of notes p l
      → line_counted t p l ≡ Some q → Notes t q notes' L
  notes_on q N o g = which (is_it_lane p.expected)
    where
      onward : length notes' ≡ length notes → Grows notes notes'
          → (p.expected ≡ ToLane → marked notes' (note_of l) ≡ true) → (r : Option Expects) → line_read N.state l ≡ r
          → LineRel t r (Some q) L → Notes t q notes' L
      onward z G H None e R = absurd R
      onward z G H (Some s') e R = record {
        size = z ∙ N.size;
        state = s';
        rel = R;
        noted = noted-on N.state s' G H N.rel N.noted e;
      }

      related : LineRel t (line_read N.state l) (Some q) L
      related = subst (λ (x : Option Progress). LineRel t (line_read N.state l) x L) g (line-rel t l L N.state p N.rel)

      which : Dec (p.expected ≡ ToLane) → Notes t q notes' L
      which (yes e) =
          let M = noted-three e N.size o in
          onward M.size M.grows (λ z. M.here) (line_read N.state l) refl related
      which (no e) =
          let z = noted_not e o in
          onward (ap length (sym z)) (subst (Grows notes) z (λ j h. h)) (λ h. absurd (e h))
          (line_read N.state l) refl related

-- ---- the code of a note

module _ (notes : List ℕ) (p : Progress) (l : List ℕ) where
  pub note_elsewhere : (p.expected ≡ ToLane → ⊥) → out true notes ≡ noted_of notes p l
  unfolding noted_of
  note_elsewhere e = rw (not_lane p.expected e)

  pub note_here : (hash : ℕ) (o : Out) → p.expected ≡ ToLane → hash ≡ murmur_hash2 0 l → o ≡ mark_one notes (hash % 524288)
      → o ≡ noted_of notes p l
  unfolding noted_of note_of
  note_here hash o e h q = q ∙ rw (e, h)

-- what was vouched for, of a line in which a name was read
pub vouched-name : (maybe : Bool) (t : List ℕ) (p : Progress) (l : List ℕ) (n : ℕ) → Vouched maybe t p l
    → Some n ≡ option_map length (bytes_in term_word l) → maybe ≡ false → seen_among p.lanes l t (first_lane t) ≡ false
vouched-name maybe t p l n W e m = go (bytes_in term_word l) refl e
  where
    go : (o : Option (List ℕ)) → bytes_in term_word l ≡ o → Some n ≡ option_map length o
        → seen_among p.lanes l t (first_lane t) ≡ false
    go None q e = let z : ◌≡◌ {A = ℕ} 0 1 = cc in absurd (omega arith)
    go (Some x) q e = W m x q
