-- A state's bytes: written run by run, they are one write, and each number is read back from its place. Assumes
-- nothing.
use Prim.Native.Nat.{ℕ, zero, suc, ◌+◌, ◌%◌, ◌^◌, ◌≤◌, ◌<◌}
use mathlib.Core.Path.{◌≡◌, refl, sym, ap, ◌∙◌}
use mathlib.Core.Bool.{true}
use mathlib.Core.List.{List, [], ◌∷◌, ◌++◌}
use native.Mathlib.Nat.{zero-add}
use native.Mathlib.Omega.{arith}
use lib.Dec.{leb}
use lib.ListN.{length, get_or}
use borrow.Author.Tests.{leb-true}
use Rattle.numbers.specs.LittleEndian.{le_number, le_bytes, Bytes}
use Rattle.numbers.proofs.Tests.{both}
use Rattle.numbers.proofs.Laws.{length_le, le_bytes_lem, le_number_lem, le_round, le_same, le_below}
use Rattle.spans.specs.Span.{read_span, overwrite}
use Rattle.spans.proofs.Laws.{overwrite-append, read_written, span_within, span_bytes, length_span}
use Rattle.store_state.specs.declared.State.{State}
use Rattle.state_area.specs.Area.{area_size, number_at, sensible_area, four_bytes, area_of}

-- ---- written

-- four bytes are those of the number modulo 2^32
pub low_four : (x : ℕ) → le_bytes 4 (x % 4294967296) ≡ le_bytes 4 x
low_four x =
    let low : ℕ = x % 4294967296 in
    let e : low % 256 ^ 4 ≡ x % 256 ^ 4 = omega arith in
    le_same (le_bytes 4 low) (le_bytes 4 x) (le_bytes_lem 4 low) (le_bytes_lem 4 x) (length_le 4 low ∙ sym (length_le 4 x))
    (le_number_lem 4 low ∙ e ∙ sym (le_number_lem 4 x))

-- four runs, each written where the one before it ends, are one write
pub four_runs : (p q r s : ℕ) (as' bs cs ds m : List ℕ) → q ≡ p + length as' → r ≡ q + length bs → s ≡ r + length cs
    → overwrite s ds (overwrite r cs (overwrite q bs (overwrite p as' m))) ≡ overwrite p (as' ++ (bs ++ (cs ++ ds))) m
four_runs p q r s as' bs cs ds m e f g =
    let x : List ℕ = overwrite p as' m in
    let y : List ℕ = overwrite q bs x in
    let z : List ℕ = overwrite r cs y in
    sym (overwrite-append p as' (bs ++ (cs ++ ds)) m
    ∙ ap (λ (k : ℕ). overwrite k (bs ++ (cs ++ ds)) x) (sym e)
    ∙ overwrite-append q bs (cs ++ ds) x
    ∙ ap (λ (k : ℕ). overwrite k (cs ++ ds) y) (sym f)
    ∙ overwrite-append r cs ds y
    ∙ ap (λ (k : ℕ). overwrite k ds z) (sym g))

pub length-four : (a b c d : ℕ) → length (four_bytes a b c d) ≡ 16
unfolding four_bytes le_bytes
length-four a b c d = refl

pub length_area : (st : State) → length (area_of st) ≡ area_size
unfolding area_of four_bytes le_bytes
length_area st = refl

-- ---- read

-- a sensible area is long enough
pub sensible-long : (area : List ℕ) → sensible_area area ≡ true → area_size ≤ length area
unfolding sensible_area
sensible-long area e = leb-true _ _ (both (leb area_size (length area)) _ e).0

module _ (st : State) (area : List ℕ) (h : area_size ≤ length area) where
  -- a span of the area afterwards is one of the state's bytes
  pub span_back : (p w : ℕ) → p + w ≤ area_size → read_span p w (overwrite 0 (area_of st) area) ≡ read_span p w (area_of st)
  span_back p w k =
      let l = length_area st in
      let m : List ℕ = overwrite 0 (area_of st) area in
      let e : read_span 0 area_size m ≡ area_of st = rw l at (read_written 0 (area_of st) area (omega (arith, l))) in
      sym (ap (read_span p w) (sym e) ∙ rw zero-add at (span_within 0 area_size p w m k))

  -- a number of four bytes that stands among them
  pub number_back : (p x : ℕ) → p + 4 ≤ area_size → read_span p 4 (area_of st) ≡ le_bytes 4 x → x < 2 ^ 32
      → number_at 4 p (overwrite 0 (area_of st) area) ≡ x
  number_back p x k e f = ap le_number (span_back p 4 k ∙ e) ∙ le_round 4 x (omega arith)

-- a byte at each place
pub bytes-at : (l : List ℕ) → Bytes l → (i : ℕ) → get_or l i 0 < 256
bytes-at [] h i = omega arith
bytes-at (x ∷ l) h zero = h.0
bytes-at (x ∷ l) h (suc i) = bytes-at l h.1 i

-- four bytes make a number below 2^32
pub number_fits : (area : List ℕ) → Bytes area → (p : ℕ) → p + 4 ≤ length area → number_at 4 p area < 2 ^ 32
number_fits area h p k =
    let b = le_below (read_span p 4 area) (span_bytes area p 4 (bytes-at area h)) in
    omega (arith, rw (length_span p 4 area k) at b)
