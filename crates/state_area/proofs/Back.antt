-- The state that a sensible area of bytes holds has the bytes that stand there. Assumes nothing.
use Prim.Native.Nat.{ℕ, ◌+◌, ◌≤◌}
use mathlib.Core.Path.{◌≡◌, refl, sym, ap, ◌∙◌}
use mathlib.Core.Bool.{Bool, true, false, cond, ◌&&◌}
use mathlib.Core.List.{List, ◌++◌}
use native.Mathlib.Omega.{arith}
use lib.Dec.{leb, eqb}
use lib.ListN.{length}
use borrow.Author.Tests.{leb-true, eqb-true, eqb-false}
use Rattle.numbers.specs.LittleEndian.{le_bytes, Bytes}
use Rattle.numbers.proofs.Tests.{both}
use Rattle.numbers.proofs.Laws.{le_back}
use Rattle.spans.specs.Span.{read_span, overwrite}
use Rattle.spans.proofs.Laws.{span_add, span_bytes, length_span, number_8, overwrite-same}
use Rattle.state_area.specs.Area.{area_size, area_mark, number_at, sensible_area, state_at, four_bytes, area_of}
use Rattle.state_area.proofs.Laws.{sensible-long, bytes-at}

-- an end that is one is its own number
end_is : (n : ℕ) → n ≤ 1 → cond (eqb n 1) 1 0 ≡ n
end_is n h = go (eqb n 1) refl
  where
    go : (b : Bool) → eqb n 1 ≡ b → cond b 1 0 ≡ n
    go true e = sym (eqb-true n 1 e)
    go false e = let z : n ≡ 1 → ⊥ = eqb-false n 1 e in omega arith

-- what a sensible area has besides the state's numbers
record Marked (area : List ℕ) : Type 0 where
  mark_is : number_at 4 0 area ≡ area_mark
  end-small : number_at 4 24 area ≤ 1
  zeros : (number_at 4 52 area ≡ 0) × (number_at 4 56 area ≡ 0)
  last_zero : number_at 4 60 area ≡ 0

marked : (area : List ℕ) → sensible_area area ≡ true → Marked area
unfolding sensible_area
marked area e =
    let l = sensible-long area e in
    let m : Bool = eqb (number_at 4 0 area) area_mark in
    let n : Bool = leb (number_at 4 24 area) 1 in
    let r : Bool = eqb (number_at 8 52 area) 0 in
    let q : Bool = eqb (number_at 4 60 area) 0 in
    let a = (both (leb area_size (length area)) (m && n && r && q) e).1 in
    let b = both (m && n && r) q a in
    let c = both (m && n) r b.0 in
    let d = both m n c.0 in
    let z : number_at 8 52 area ≡ 0 = eqb-true _ _ c.1 in
    let s = number_8 52 area (omega (arith, l)) in
    record {
      mark_is = eqb-true _ _ d.0;
      end-small = leb-true _ _ d.1;
      zeros = (omega (arith, z, s), omega (arith, z, s));
      last_zero = eqb-true _ _ b.1;
    }

module _ (area : List ℕ) (b : Bytes area) where
  -- a number's four bytes
  number_bytes : (p : ℕ) → p + 4 ≤ length area → le_bytes 4 (number_at 4 p area) ≡ read_span p 4 area
  number_bytes p h =
      rw (length_span p 4 area h) at (le_back (read_span p 4 area) (span_bytes area p 4 (bytes-at area b)))

  -- and of four of them, sixteen
  four_bytes_lem : (p x y z w : ℕ) → p + 16 ≤ length area → x ≡ number_at 4 p area → y ≡ number_at 4 (p + 4) area
      → z ≡ number_at 4 (p + 8) area → w ≡ number_at 4 (p + 12) area → four_bytes x y z w ≡ read_span p 16 area
  unfolding four_bytes
  four_bytes_lem p x y z w h e f g k =
      let i : p + 4 + 4 ≡ p + 8 = omega arith in
      let j : p + 8 + 4 ≡ p + 12 = omega arith in
      (λ t. le_bytes 4 (e t) ++ (le_bytes 4 (f t) ++ (le_bytes 4 (g t) ++ le_bytes 4 (k t))))
      ∙ (λ t. number_bytes p (omega arith) t ++ (number_bytes (p + 4) (omega arith) t
      ++ (number_bytes (p + 8) (omega arith) t ++ number_bytes (p + 12) (omega arith) t)))
      ∙ sym (span_add p 4 12 area
      ∙ ap (λ (l : List ℕ). read_span p 4 area ++ l) (span_add (p + 4) 4 8 area
      ∙ ap (λ (n : ℕ). read_span (p + 4) 4 area ++ read_span n 8 area) i
      ∙ ap (λ (l : List ℕ). read_span (p + 4) 4 area ++ l) (span_add (p + 8) 4 4 area
      ∙ ap (λ (n : ℕ). read_span (p + 8) 4 area ++ read_span n 4 area) j)))

  area_bytes : sensible_area area ≡ true → area_of (state_at area) ≡ read_span 0 64 area
  unfolding area_of state_at
  area_bytes e =
      let l = sensible-long area e in
      let m = marked area e in
      (λ t. four_bytes_lem 0 _ _ _ _ (omega (arith, l)) (sym m.mark_is) refl refl refl t
      ++ (four_bytes_lem 16 _ _ _ _ (omega (arith, l)) refl refl (end_is _ m.end-small) refl t
      ++ (four_bytes_lem 32 _ _ _ _ (omega (arith, l)) refl refl refl refl t
      ++ four_bytes_lem 48 _ _ _ _ (omega (arith, l)) refl (sym m.zeros.0) (sym m.zeros.1) (sym m.last_zero) t)))
      ∙ sym (span_add 0 16 48 area
      ∙ ap (λ (k : List ℕ). read_span 0 16 area ++ k) (span_add 16 16 32 area
      ∙ ap (λ (k : List ℕ). read_span 16 16 area ++ k) (span_add 32 16 16 area)))

  pub loaded_saved : sensible_area area ≡ true → overwrite 0 (area_of (state_at area)) area ≡ area
  loaded_saved e = ap (λ (l : List ℕ). overwrite 0 l area) (area_bytes e) ∙ overwrite-same 0 64 area
