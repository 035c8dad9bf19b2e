-- Words of a table beside what clearing it writes. Assumes nothing.
use Prim.Native.Nat.{ℕ, ◌+◌, ◌*◌, ◌≤◌, ◌<◌}
use mathlib.Core.Path.{◌≡◌}
use mathlib.Core.Logic.{◌⊎◌, inl, inr}
use mathlib.Core.List.{List}
use native.Mathlib.Omega.{arith}
use lib.ListN.{length, get_or}
use Rattle.shared_arena_hashmap.specs.Buckets.{empty_buckets, cleared}
use Rattle.shared_arena_hashmap.proofs.Words.{word-apart, length_empty}
use Rattle.history_names.specs.Table.{Outside}

-- every word outside the new table is as it was
pub clear_frame : (b l : ℕ) (t : List ℕ) (q : ℕ) → Outside b l q → get_or (cleared b l t) q 0 ≡ get_or t q 0
unfolding cleared
clear_frame b l t q d = word-apart (2 * b) q (empty_buckets l) t (apart d)
  where
    apart : Outside b l q → (q < 2 * b) ⊎ (2 * b + length (empty_buckets l) ≤ q)
    apart (inl h) = inl h
    apart (inr h) = inr (omega (arith, length_empty l))
