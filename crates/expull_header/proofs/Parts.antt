-- Parts of a slice, as code lends them. Assumes nothing.
use Prim.Native.Nat.{ℕ, ◌+◌, ◌-◌, ◌≤◌}
use mathlib.Core.Path.{◌≡◌}
use mathlib.Core.List.{List}
use native.Mathlib.Omega.{arith}
use lib.ListN.{length, take, drop, length-take, length-drop}
use Rattle.spans.specs.Span.{read_span}

pub length_part : (m : List ℕ) (p n : ℕ) → p + n ≤ length m → length (take (p + n - p) (drop p m)) ≡ n
length_part m p n h = simp (length-take, length-drop) (omega arith)

pub part_span : (m : List ℕ) (p n : ℕ) → take (p + n - p) (drop p m) ≡ read_span p n m
unfolding read_span
part_span m p n = let e : p + n - p ≡ n = omega arith in rw e
