-- A log of accepted appends, and what it comes to for a name. The store's histories and the flat store's have this one.
use Rattle.std.specs.Prelude.{ℕ, cond, List, [], ◌∷◌, ◌++◌}
use Rattle.std.proofs.Math.Option.{Option, none, some}
use Rattle.fastcmp.specs.Equal.{equal_bytes}

-- RULES Y2. An accepted append: the name, and the bytes
pub record Entry : Type 0 where
  pub name : List ℕ
  pub bytes : List ℕ

abbrev pub entry : List ℕ → List ℕ → Entry
entry name bytes = record { name = name; bytes = bytes }

-- RULES Y2. Bytes joined on behind those that stand; a first append makes the name stand
abbrev pub joined_on : Option (List ℕ) → List ℕ → Option (List ℕ)
joined_on none bytes = some bytes
joined_on (some bs) bytes = some (bs ++ bytes)

-- RULES Y2. The entries of name j joined on, in order
unfoldable pub joined_in : List ℕ → List Entry → Option (List ℕ) → Option (List ℕ)
unfolding equal_bytes
joined_in j [] stood = stood
joined_in j (e ∷ log) stood = joined_in j log (cond (equal_bytes j e.name) (joined_on stood e.bytes) stood)

-- RULES Y2. The bytes of name j's entries, one behind the other
unfoldable pub bytes_for : List ℕ → List Entry → List ℕ
unfolding equal_bytes
bytes_for j [] = []
bytes_for j (e ∷ log) = cond (equal_bytes j e.name) (e.bytes ++ bytes_for j log) (bytes_for j log)
