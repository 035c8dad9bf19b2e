-- Laws of what stands in a line: a word in front, and the test of hex. Assumes nothing.
use Prim.Native.Nat.{ℕ, suc, ◌+◌, ◌*◌, ◌/◌, ◌%◌, ◌≤◌, ◌<◌}
use mathlib.Core.Path.{◌≡◌, refl, sym, ap, ◌∙◌}
use mathlib.Core.Bool.{Bool, true, false, cond, ◌&&◌}
use Rattle.std.specs.Prelude.{Option, None, Some, nat_eq, option_map}
use Rattle.std.specs.Cmp.Lexicographic.{pointwise}
use mathlib.Core.List.{List, [], ◌∷◌}
use native.Mathlib.Omega.{arith}
use lib.Dec.{leb, eqb}
use lib.ListN.{length, take, drop, length-take}
use borrow.Author.Tests.{le-leb, lt-leb, leb-true, eq-eqb, ne_eqb, eqb-true, eqb-false}
use Rattle.fastcmp.specs.Equal.{equal_bytes}
use Rattle.fastcmp.proofs.Laws.{equal_long}
use Rattle.report_text.specs.Reader.{value_after, number_of, is_hex}
use Rattle.report_text.specs.Reader.{hex_value, byte_before, bytes_of, number_in, bytes_in}
use Rattle.report_text.specs.Values.{begins_with, all_hex, hex_text}

-- ---- a word in front

pub begins_short : (w l : List ℕ) → length l < length w → begins_with w l ≡ false
unfolding begins_with
begins_short w l h = rw (lt-leb (length w) (length l) h)

-- the library's test of a word in front
equal_pointwise : (a b : List ℕ) → pointwise nat_eq a b ≡ equal_bytes a b
unfolding equal_bytes
equal_pointwise [] [] = refl
equal_pointwise [] (y ∷ ys) = refl
equal_pointwise (x ∷ xs) [] = refl
equal_pointwise (x ∷ xs) (y ∷ ys) = ap (λ (t : Bool). eqb x y && t) (equal_pointwise xs ys)

pub begins_test : (w l : List ℕ) → pointwise nat_eq (take (length w) l) w ≡ begins_with w l
unfolding begins_with
begins_test w l = equal_pointwise (take (length w) l) w ∙ go (leb (length w) (length l)) refl
  where
    go : (t : Bool) → leb (length w) (length l) ≡ t
        → equal_bytes (take (length w) l) w ≡ cond t (equal_bytes (take (length w) l) w) false
    go true p = refl
    go false p =
        let h : length l < length w = borrow.Author.Tests.leb-false (length w) (length l) p in
        equal_long (take (length w) l) w (λ e. omega (arith, length-take (length w) l, e))

begins_nil : (l : List ℕ) → begins_with [] l ≡ true
unfolding begins_with equal_bytes
begins_nil l = rw (le-leb 0 (length l) (omega arith))

begins_none : (x : ℕ) (w : List ℕ) → begins_with (x ∷ w) [] ≡ false
begins_none x w = begins_short (x ∷ w) [] (omega arith)

begins_cons : (x y : ℕ) (w l : List ℕ) → begins_with (x ∷ w) (y ∷ l) ≡ cond (eqb x y) (begins_with w l) false
unfolding begins_with equal_bytes
begins_cons x y w l = go (leb (length w) (length l)) refl (eqb x y) refl
  where
    go : (t : Bool) → leb (length w) (length l) ≡ t → (u : Bool) → eqb x y ≡ u → begins_with (x ∷ w) (y ∷ l)
        ≡ cond (eqb x y) (begins_with w l) false
    go true p true q =
        let a : length w ≤ length l = leb-true (length w) (length l) p in
        rw (le-leb (suc (length w)) (suc (length l)) (omega arith), p, q, eq-eqb y x (sym (eqb-true x y q)))
    go true p false q =
        let a : length w ≤ length l = leb-true (length w) (length l) p in
        rw (le-leb (suc (length w)) (suc (length l)) (omega arith), p, q, ne_eqb y x (λ e. eqb-false x y q (sym e)))
    go false p true q = rw (
      lt-leb (suc (length w)) (suc (length l))
          (omega (arith, borrow.Author.Tests.leb-false (length w) (length l) p)),
      p,
      q,
    )
    go false p false q = rw (
      lt-leb (suc (length w)) (suc (length l))
          (omega (arith, borrow.Author.Tests.leb-false (length w) (length l) p)),
      p,
      q,
    )

-- what follows a word, by that test
pub value_is : (w l : List ℕ) → value_after w l ≡ cond (begins_with w l) (Some (drop (length w) l)) None
unfolding value_after
value_is [] l = rw (begins_nil l)
value_is (x ∷ w) [] = rw (begins_none x w)
value_is (x ∷ w) (y ∷ l) = rw (begins_cons x y w l) (go (eqb x y) (value_is w l))
  where
    go : (t : Bool) → value_after w l ≡ cond (begins_with w l) (Some (drop (length w) l)) None
        → cond t (value_after w l) None ≡ cond (cond t (begins_with w l) false) (Some (drop (length w) l)) None
    go true e = e
    go false e = refl

-- and by the library's
module _ (w l : List ℕ) where
  module _ (rest : List ℕ) (t : pointwise nat_eq (take (length w) l) w ≡ true) (e : rest ≡ drop (length w) l) where
    behind : value_after w l ≡ Some rest
    behind = let h = sym (begins_test w l) ∙ t in rw (value_is w l, h, e)

    pub number_in_is : number_of rest ≡ number_in w l
    unfolding number_in
    number_in_is = rw behind

    pub bytes-in_is : bytes_in w l ≡ bytes_of rest
    unfolding bytes_in
    bytes-in_is = rw behind

  module _ (t : pointwise nat_eq (take (length w) l) w ≡ false) where
    not_behind : value_after w l ≡ None
    not_behind = let h = sym (begins_test w l) ∙ t in rw (value_is w l, h)

    pub number_in_not : None ≡ number_in w l
    unfolding number_in
    number_in_not = rw not_behind

    pub bytes-in_not : bytes_in w l ≡ None
    unfolding bytes_in
    bytes-in_not = rw not_behind

-- ---- hex, by the test of its digits

hexed_before : (o : Option (List ℕ)) (t : Bool) (x k : ℕ) → option_map length o ≡ cond t (Some k) None
    → option_map length (byte_before x o) ≡ cond t (Some (suc k)) None
hexed_before None true x k e = let z : ◌≡◌ {A = ℕ} 0 1 = cc in absurd (omega arith)
hexed_before None false x k e = refl
hexed_before (Some bs) true x k e = let z : length bs ≡ k = cc in ap (λ (n : ℕ). Some (suc n)) z
hexed_before (Some bs) false x k e = let z : ◌≡◌ {A = ℕ} 0 1 = cc in absurd (omega arith)

pub hexed_is : (cs : List ℕ) → option_map length (bytes_of cs) ≡ cond (hex_text cs) (Some (length cs / 2)) None
unfolding bytes_of hex_text all_hex
hexed_is [] = refl
hexed_is (c ∷ []) = refl
hexed_is (c ∷ d ∷ cs) =
    let m : suc (suc (length cs)) % 2 ≡ length cs % 2 = omega arith in
    let k : suc (suc (length cs)) / 2 ≡ suc (length cs / 2) = omega arith in
    rw (m, k) (go (is_hex c) (is_hex d) (eqb (length cs % 2) 0) (hexed_is cs))
  where
    go : (s t u : Bool) → option_map length (bytes_of cs) ≡ cond (cond u (all_hex cs) false) (Some (length cs / 2)) None
        → option_map length (cond (s && t) (byte_before (16 * hex_value c + hex_value d) (bytes_of cs)) None)
        ≡ cond (cond u (cond s (cond t (all_hex cs) false) false) false) (Some (suc (length cs / 2))) None
    go true true u e =
        hexed_before (bytes_of cs) (cond u (all_hex cs) false) (16 * hex_value c + hex_value d) (length cs / 2) e
    go true false true e = refl
    go true false false e = refl
    go false t true e = refl
    go false t false e = refl

-- and behind a word
pub hexed_in : (w l rest : List ℕ) → pointwise nat_eq (take (length w) l) w ≡ true → rest ≡ drop (length w) l
    → (t : Bool) → hex_text rest ≡ t → cond t (Some (length rest / 2)) None ≡ option_map length (bytes_in w l)
hexed_in w l rest p e t h =
    ap (λ (b : Bool). cond b (Some (length rest / 2)) None) (sym h)
    ∙ sym (ap (option_map length) (bytes-in_is w l rest p e) ∙ hexed_is rest)
