-- What was told of a line's bytes, as the code comes to it. Assumes nothing.
use Prim.Native.Nat.{ℕ, ◌≤◌}
use mathlib.Core.Path.{◌≡◌, refl, ap, ◌∙◌}
use mathlib.Core.List.{List}
use native.Mathlib.Omega.{arith}
use lib.ListN.{length, length-append}
use Rattle.std.specs.Prelude.{Option, None, Some, option_map}
use Rattle.report_text.specs.Text.{hex}
use Rattle.report_text.specs.Reader.{bytes_in}
use Rattle.report_text.proofs.Values.{hex-length}
use Rattle.report_text.proofs.Forms.{bytes_form}
use Rattle.report_read.specs.declared.check.Progress.{Progress}
use Rattle.report_read.specs.Counted.{on_bytes}

-- ---- what was told of a value

pub bytes-told : (o : Option (List ℕ)) (n : ℕ) (k : ℕ → Option Progress) → Some n ≡ option_map length o
    → on_bytes o k ≡ k n
bytes-told None n k e = let z : ◌≡◌ {A = ℕ} 0 1 = cc in absurd (omega arith)
bytes-told (Some bs) n k e = let z : length bs ≡ n = cc in ap k z

pub no_bytes : (o : Option (List ℕ)) (k : ℕ → Option Progress) → None ≡ option_map length o → on_bytes o k ≡ None
no_bytes None k e = refl
no_bytes (Some bs) k e = let z : ◌≡◌ {A = ℕ} 0 1 = cc in absurd (omega arith)

-- hex is no longer than its line
pub bytes_most : (w l : List ℕ) (n : ℕ) → Some n ≡ option_map length (bytes_in w l) → n ≤ length l
bytes_most w l n e = go (bytes_in w l) refl e
  where
    go : (o : Option (List ℕ)) → bytes_in w l ≡ o → Some n ≡ option_map length o → n ≤ length l
    go None q e = let z : ◌≡◌ {A = ℕ} 0 1 = cc in absurd (omega arith)
    go (Some bs) q e =
        let z : n ≡ length bs = cc in
        omega (arith, ap length (bytes_form w l bs q).0 ∙ length-append w (hex bs), hex-length bs)
