-- Laws of lines and lanes by their places. Assumes nothing.
use Prim.Native.Nat.{ℕ, zero, suc, ◌+◌, ◌-◌, ◌*◌, ◌≤◌, ◌<◌}
use mathlib.Core.Path.{◌≡◌, refl, sym, ap, ◌∙◌}
use mathlib.Core.Bool.{Bool, true, false, cond}
use Rattle.std.specs.Prelude.{min, Option, None, Some, unwrap_or, not, nat_eq, position}
use Rattle.std.specs.List.{position_or_len}
use mathlib.Core.List.{List, [], ◌∷◌}
use native.Mathlib.Numerals.{add-one}
use native.Mathlib.Omega.{arith}
use lib.Dec.{ltb, eqb}
use lib.ListN.{length, take, drop, get_or, drop_of_length-le, length-drop, length-take}
use lib.Seq.{drop-cons, take_all, drop-drop}
use borrow.Author.Tests.{lt-ltb, le-ltb, ltb-true, ltb-false, eq-eqb, ne_eqb}
use Rattle.report_text.specs.Text.{newline, len_word}
use Rattle.report_text.specs.Reader.{Lines, ended, unended, in_front, lines_of, number_in}
use Rattle.report_read.specs.Lines.{line_length, line_end, line_at, next_line, ahead, or_zero, length_told, next_lane}
use Rattle.report_read.specs.Lines.{lanes_on}

-- ---- where a line ends

-- byte by byte
pub length-turn : (t : List ℕ) (i : ℕ) → i < length t
    → line_length (drop i t) ≡ cond (eqb (get_or t i 0) newline) 0 (suc (line_length (drop (suc i) t)))
unfolding line_length
length-turn t i h = rw (drop-cons t i 0 h)

pub length_stop : (t : List ℕ) (i : ℕ) → i < length t → get_or t i 0 ≡ newline → line_length (drop i t) ≡ 0
length_stop t i h e = length-turn t i h ∙ rw (eq-eqb (get_or t i 0) newline e)

pub length_goes : (t : List ℕ) (i : ℕ) → i < length t → (get_or t i 0 ≡ newline → ⊥)
    → line_length (drop i t) ≡ suc (line_length (drop (i + 1) t))
length_goes t i h e = rw (add-one, length-turn t i h, ne_eqb (get_or t i 0) newline e)

pub length-end : (t : List ℕ) (i : ℕ) → length t ≤ i → line_length (drop i t) ≡ 0
unfolding line_length
length-end t i h = rw (drop_of_length-le t h)

-- by the library's search
to_newline : (t : List ℕ) → position_or_len (λ x. nat_eq x newline) t ≡ line_length t
unfolding line_length
to_newline [] = refl
to_newline (c ∷ t) = go (eqb c newline) (to_newline t)
  where
    go : (b : Bool) → position_or_len (λ x. nat_eq x newline) t ≡ line_length t
        → cond (not b) (1 + position_or_len (λ x. nat_eq x newline) t) 0 ≡ cond b 0 (suc (line_length t))
    go true e = refl
    go false e = omega (arith, e)

-- the part of a list from a place to its end
pub rest_part : (t : List ℕ) (n : ℕ) → take (length t - n) (drop n t) ≡ drop n t
rest_part t n = take_all (length t - n) (drop n t) (omega (arith, length-drop n t))

-- the library's first newline, or none
module _ (t : List ℕ) where
  pub line_found : (n : ℕ) → position (λ x. nat_eq x newline) t ≡ Some n → (n ≡ line_length t) × (n < length t)
  line_found n e = go (ltb (position_or_len (λ x. nat_eq x newline) t) (length t)) refl e
    where
      go : (b : Bool) → ltb (position_or_len (λ x. nat_eq x newline) t) (length t) ≡ b
          → cond b (Some (position_or_len (λ x. nat_eq x newline) t)) None ≡ Some n
          → (n ≡ line_length t) × (n < length t)
      go true p e =
          let z : n ≡ position_or_len (λ x. nat_eq x newline) t = cc in
          let l = ltb-true (position_or_len (λ x. nat_eq x newline) t) (length t) p in
          (z ∙ to_newline t, omega arith)
      go false p e = let z : ◌≡◌ {A = ℕ} 0 1 = cc in absurd (omega arith)

  pub line_open : position (λ x. nat_eq x newline) t ≡ None → length t ≤ line_length t
  line_open e = go (ltb (position_or_len (λ x. nat_eq x newline) t) (length t)) refl e
    where
      go : (b : Bool) → ltb (position_or_len (λ x. nat_eq x newline) t) (length t) ≡ b
          → cond b (Some (position_or_len (λ x. nat_eq x newline) t)) None ≡ None → length t ≤ line_length t
      go true p e = let z : ◌≡◌ {A = ℕ} 0 1 = cc in absurd (omega arith)
      go false p e = omega (arith, ltb-false (position_or_len (λ x. nat_eq x newline) t) (length t) p, to_newline t)

line_most : (t : List ℕ) → line_length t ≤ length t
unfolding line_length
line_most [] = omega arith
line_most (c ∷ t) = go (eqb c newline) (line_most t)
  where
    go : (b : Bool) → line_length t ≤ length t → cond b 0 (suc (line_length t)) ≤ suc (length t)
    go true h = omega arith
    go false h = omega arith

pub line-in : (t : List ℕ) (at : ℕ) → at ≤ length t → line_end t at ≤ length t
line-in t at h = omega (arith, line_most (drop at t), length-drop at t)

pub line-long : (t : List ℕ) (at : ℕ) → length (line_at t at) ≡ line_length (drop at t)
line-long t at = simp length-take (omega (arith, line_most (drop at t)))

-- ---- a text's lines, by their ends

lines-ended : (t : List ℕ) → line_length t < length t
    → lines_of t ≡ ended (take (line_length t) t) (lines_of (drop (suc (line_length t)) t))
unfolding line_length lines_of
lines-ended [] h = absurd (omega arith)
lines-ended (c ∷ t) h = go (eqb c newline) (lines-ended t) h
  where
    go : (b : Bool)
        → (line_length t < length t → lines_of t ≡ ended (take (line_length t) t) (lines_of (drop (suc (line_length t)) t)))
        → cond b 0 (suc (line_length t)) < suc (length t)
        → cond b (ended [] (lines_of t)) (in_front c (lines_of t))
        ≡ ended (take (cond b 0 (suc (line_length t))) (c ∷ t))
        (lines_of (drop (suc (cond b 0 (suc (line_length t)))) (c ∷ t)))
    go true f h = refl
    go false f h = ap (in_front c) (f (omega arith))

lines-unended : (t : List ℕ) → length t ≤ line_length t → lines_of t ≡ unended t
unfolding line_length lines_of
lines-unended [] h = refl
lines-unended (c ∷ t) h = go (eqb c newline) (lines-unended t) h
  where
    go : (b : Bool) → (length t ≤ line_length t → lines_of t ≡ unended t) → suc (length t) ≤ cond b 0 (suc (line_length t))
        → cond b (ended [] (lines_of t)) (in_front c (lines_of t)) ≡ unended (c ∷ t)
    go true f h = absurd (omega arith)
    go false f h = ap (in_front c) (f (omega arith))

next_is : (t : List ℕ) (at : ℕ) → line_end t at < length t → next_line t at ≡ line_end t at + 1
unfolding next_line
next_is t at h = rw (lt-ltb (line_end t at) (length t) h)

next-end : (t : List ℕ) (at : ℕ) → length t ≤ line_end t at → next_line t at ≡ line_end t at
unfolding next_line
next-end t at h = rw (le-ltb (line_end t at) (length t) h)

pub next-in : (t : List ℕ) (at : ℕ) → at ≤ length t → next_line t at ≤ length t
next-in t at h = go (ltb (line_end t at) (length t)) refl
  where
    go : (b : Bool) → ltb (line_end t at) (length t) ≡ b → next_line t at ≤ length t
    go true e = let h = ltb-true (line_end t at) (length t) e in omega (arith, next_is t at h)
    go false e = omega (arith, next-end t at (ltb-false (line_end t at) (length t) e), line-in t at h)

-- the code's next line
pub next-found : (t : List ℕ) (at e : ℕ) → e ≡ line_end t at → e < length t → e + 1 ≡ next_line t at
next-found t at e p h = sym (next_is t at (omega arith) ∙ ap (λ (n : ℕ). n + 1) (sym p))

-- none where the line goes to the text's end
pub next_none : (t : List ℕ) (at e : ℕ) → e ≡ line_end t at → length t ≤ e → e ≡ next_line t at
next_none t at e p h = p ∙ sym (next-end t at (omega arith))

-- by the lesser of two places
pub next_least : (t : List ℕ) (at e r : ℕ) → e ≡ line_end t at → e ≤ length t → r ≡ min (length t) (e + 1)
    → r ≡ next_line t at
unfolding next_line
next_least t at e r p l q = go (ltb (line_end t at) (length t)) refl
  where
    go : (b : Bool) → ltb (line_end t at) (length t) ≡ b → r ≡ cond b (line_end t at + 1) (line_end t at)
    go true h = let k = ltb-true (line_end t at) (length t) h in omega arith
    go false h = let k = ltb-false (line_end t at) (length t) h in omega arith

-- from a place on
pub ended_at : (t : List ℕ) (at : ℕ) → line_end t at < length t
    → lines_of (drop at t) ≡ ended (line_at t at) (lines_of (drop (next_line t at) t))
ended_at t at h =
    let q : line_length (drop at t) < length (drop at t) = omega (arith, length-drop at t) in
    let y : at + suc (line_length (drop at t)) ≡ next_line t at = omega (arith, next_is t at h) in
    lines-ended (drop at t) q
    ∙ ap (λ (l : List ℕ). ended (line_at t at) (lines_of l))
    (drop-drop (suc (line_length (drop at t))) at t ∙ ap (λ (n : ℕ). drop n t) y)

pub unended-at : (t : List ℕ) (at : ℕ) → at ≤ length t → length t ≤ line_end t at
    → lines_of (drop at t) ≡ unended (drop at t)
unended-at t at l h = lines-unended (drop at t) (omega (arith, length-drop at t))

-- where a whole line is left, it is the line from there, and what is left behind it begins at the next line
pub record Whole (t : List ℕ) (at : ℕ) (l : List ℕ) (ls : Lines) : Type 0 where
  pub line_is : line_at t at ≡ l
  pub left_is : lines_of (drop (next_line t at) t) ≡ ls
  pub ends : line_end t at < length t
  pub next : next_line t at ≡ line_end t at + 1

lines-whole : {l l' : List ℕ} {ls ls' : Lines} → ended l ls ≡ ended l' ls' → (l ≡ l') × (ls ≡ ls')
lines-whole e = (cc, cc)

pub whole-line : (t : List ℕ) (at : ℕ) (l : List ℕ) (ls : Lines) → at ≤ length t
    → lines_of (drop at t) ≡ ended l ls → Whole t at l ls
whole-line t at l ls i e = go (ltb (line_end t at) (length t)) refl
  where
    go : (b : Bool) → ltb (line_end t at) (length t) ≡ b → Whole t at l ls
    go true p =
        let h = ltb-true (line_end t at) (length t) p in
        let q = lines-whole (sym (ended_at t at h) ∙ e) in
        record { line_is = q.0; left_is = q.1; ends = h; next = next_is t at h }
    go false p =
        let q = sym (unended-at t at i (ltb-false (line_end t at) (length t) p)) ∙ e in
        let z : ◌≡◌ {A = ℕ} 0 1 = cc in absurd (omega arith)

-- ---- bytes ahead

pub ahead_short : (t : List ℕ) (at n : ℕ) → length t - at < n → length t ≡ ahead t at n
ahead_short t at n h = rw (lt-ltb (length t - at) n h)

pub ahead_far : (t : List ℕ) (at n : ℕ) → n ≤ length t - at → at + n ≡ ahead t at n
ahead_far t at n h = rw (le-ltb (length t - at) n h)

-- ---- lanes on

pub lanes_none : (t : List ℕ) (at k : ℕ) → k ≡ 0 → lanes_on k t at ≡ at
unfolding lanes_on
lanes_none t at k e = rw e

pub lanes_next : (t : List ℕ) (at k n : ℕ) → 0 < k → n ≡ next_lane t at → lanes_on k t at ≡ lanes_on (k - 1) t n
unfolding lanes_on
lanes_next t at zero n h e = absurd (omega arith)
lanes_next t at (suc k) n h e =
    let p : suc k - 1 ≡ k = omega arith in
    λ i. lanes_on (sym p i) t (sym e i)

told_number : (o : Option ℕ) → unwrap_or o 0 ≡ or_zero o
told_number None = refl
told_number (Some n) = refl

-- the part of a text that a line is
pub line_part : (t : List ℕ) (at e : ℕ) → e ≡ line_end t at → take (e - at) (drop at t) ≡ line_at t at
line_part t at e p = let x : e - at ≡ line_length (drop at t) = omega arith in ap (λ (n : ℕ). take n (drop at t)) x

-- the code's next lane
pub lane-found : (t : List ℕ) (at a e b n r : ℕ) → a ≡ next_line t at → e ≡ line_end t a → b ≡ next_line t a
    → n ≡ unwrap_or (number_in len_word (take (e - a) (drop a t))) 0 → r ≡ ahead t b (7 + 2 * n)
    → r ≡ next_lane t at
unfolding next_lane length_told
lane-found t at a e b n r p q s f g =
    let l : take (e - a) (drop a t) ≡ line_at t (next_line t at) = line_part t a e q ∙ ap (line_at t) p in
    let k : n ≡ or_zero (number_in len_word (line_at t (next_line t at))) =
    f ∙ told_number (number_in len_word (take (e - a) (drop a t))) ∙ ap (λ (x : List ℕ). or_zero (number_in len_word x)) l in
    g ∙ (λ i. ahead t ((s ∙ ap (next_line t) p) i) (7 + 2 * k i))
