-- Readings written one after the other read back. Assumes nothing.
use Prim.Native.Nat.{ℕ, zero, suc, ◌≤◌, ◌<◌, ◌^◌}
use mathlib.Core.Path.{◌≡◌, refl, ap, ◌∙◌}
use mathlib.Core.List.{List, [], ◌∷◌, ◌++◌}
use native.Mathlib.Nat.{le_refl}
use native.Mathlib.Omega.{arith}
use lib.ListN.{length, length-append}
use lib.IntN.{ℤ}
use Rattle.std.specs.Prelude.{None}
use Rattle.vint.specs.Vint.{Unvint, write_vint}
use Rattle.vint.proofs.Laws.{vint_length}
use Rattle.vint.proofs.Forms.{read_back}
use Rattle.signed.specs.Signed.{Signed32, difference, stored}
use Rattle.signed.proofs.Laws.{stored-fits, difference-fits, following-stored}
use Rattle.reading_run.specs.Readings.{readings_bytes, AllSigned, split, in_front, on_vint, split_up}
use Rattle.reading_run.specs.Readings.{vints_of, readings_from}
use Rattle.reading_run.proofs.Split.{drop-front, split_step, split_none}

-- the numbers that readings are stored as
abbrev pub stored_from : ℤ → List ℤ → List ℕ
stored_from last [] = []
stored_from last (r ∷ rs) = stored (difference last r) ∷ stored_from r rs

split_vint : (f u : ℕ) (rest : List ℕ) → u < 2 ^ 32
    → split_up (suc f) (write_vint u ++ rest) ≡ in_front u (split_up f rest)
split_vint f u rest h =
    split_step f (write_vint u ++ rest) (rw length-append (omega (arith, (vint_length u).0)))
    ∙ ap (λ (r : Unvint). on_vint r (write_vint u ++ rest) (λ bs. split_up f bs)) (read_back u rest h)
    ∙ ap (λ (bs : List ℕ). in_front u (split_up f bs)) (drop-front (write_vint u) rest)

longer : (last r : ℤ) (rs : List ℤ) → length (readings_bytes r rs) < length (readings_bytes last (r ∷ rs))
longer last r rs =
    rw length-append (omega (arith, (vint_length (stored (difference last r))).0))

-- the bytes of readings split into their numbers, with nothing left over
splits : (f : ℕ) (last : ℤ) (rs : List ℤ) → length (readings_bytes last rs) ≤ f
    → split_up f (readings_bytes last rs) ≡ split (stored_from last rs) None
splits f last [] h = split_none f
splits zero last (r ∷ rs) h = absurd (omega (arith, longer last r rs))
splits (suc f) last (r ∷ rs) h =
    split_vint f (stored (difference last r)) (readings_bytes r rs)
    (stored-fits (difference last r) (difference-fits last r))
    ∙ ap (in_front (stored (difference last r))) (splits f r rs (omega (arith, longer last r rs)))

pub written_splits : (last : ℤ) (rs : List ℤ) → vints_of (readings_bytes last rs) ≡ split (stored_from last rs) None
written_splits last rs =
    splits (length (readings_bytes last rs)) last rs (le_refl (length (readings_bytes last rs)))

-- and the numbers make the readings
pub stored_readings : (last : ℤ) (rs : List ℤ) → Signed32 last → AllSigned rs
    → readings_from last (stored_from last rs) ≡ rs
stored_readings last [] h a = refl
stored_readings last (r ∷ rs) h a =
    (λ i. following-stored last r h a.0 i ∷ readings_from (following-stored last r h a.0 i) (stored_from r rs))
    ∙ ap (λ (l : List ℤ). r ∷ l) (stored_readings r rs a.0 a.1)

pub stored_count : (last : ℤ) (rs : List ℤ) → length (stored_from last rs) ≡ length rs
stored_count last [] = refl
stored_count last (r ∷ rs) = ap suc (stored_count r rs)
