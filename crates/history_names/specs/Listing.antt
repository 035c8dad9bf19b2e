-- Document 01, "Buckets": "Listing goes in bucket order: the next occupied bucket from i, or none". What it meets, in
-- terms of the names that a table stands for, and what going through the whole table collects.
use Rattle.std.specs.Prelude.{ℕ, zero, suc, ◌+◌, ◌-◌, ◌≤◌, ◌<◌, ◌≡◌, cond, List, [], ◌∷◌, Option, Some, None}
use Rattle.std.proofs.Math.Option.{none, some}
use Rattle.fastcmp.specs.Equal.{equal_bytes}
use Rattle.shared_arena_hashmap.specs.declared.Occupied.{Occupied}
use Rattle.shared_arena_hashmap.specs.Probe.{occupied_from}
use Rattle.history_names.specs.Table.{Names, name_at}

-- from bucket i on, bucket j is the first with a name, and the name is k
pub record FirstName (g : Names) (i j : ℕ) (k : List ℕ) : Type 0 where
  pub from : i ≤ j
  pub named : name_at g j ≡ some k
  pub least : (x : ℕ) → i ≤ x → x < j → name_at g x ≡ none

-- from bucket i on no name stands
abbrev pub NoName : Names → ℕ → Type 0
NoName g i = (x : ℕ) → i ≤ x → name_at g x ≡ none

-- the names in bucket order
abbrev pub in_order : Names → List (List ℕ)
in_order [] = []
in_order (none ∷ g) = in_order g
in_order (some k ∷ g) = k ∷ in_order g

-- how often k is among the names
unfoldable pub times : List ℕ → List (List ℕ) → ℕ
unfolding equal_bytes
times k [] = 0
times k (n ∷ ns) = cond (equal_bytes k n) (suc (times k ns)) (times k ns)

-- the address of the record that is met, and what the way on from the bucket behind it collects
abbrev pub listed_next : Option Occupied → (ℕ → List ℕ) → List ℕ
listed_next None rest = []
listed_next (Some o) rest = o.place ∷ rest (o.bucket + 1)

-- a way through the table by at most n questions for the next occupied bucket, the first of them from bucket i: the
-- record addresses
unfoldable pub listing : List ℕ → ℕ → ℕ → ℕ → ℕ → List ℕ
unfolding occupied_from
listing t first l zero i = []
listing t first l (suc n) i = listed_next (occupied_from t first (l - i) i) (λ j. listing t first l n j)
