-- RULES AK7 to AK9. The store's calls in C's calling form (document 02, Twelve): the code, and each lent area as the
-- call leaves it. Each makes of the lent area a state, asks the store, and says in numbers what it answered.
use Rattle.std.specs.Prelude.{ℕ, cond, List, leb, length}
use Rattle.store_create.specs.Create.{creatable, create_of}
use Rattle.store_look.specs.Look.{Lent, lookup_of, length_of, Read, read_of, next_of}
use Rattle.store_append.specs.Append.{append_of}
use Rattle.state_area.specs.Area.{area_size, sensible_area, state_at}
use Rattle.c_told.specs.Told.{says, answer_told, lookup_told, listed_told, created, appended}

-- RULES AK7. Create: 1, then 2 for a short area. What the area held doesn't matter.
abbrev pub create_in : ℕ → ℕ → ℕ → List ℕ → List ℕ → ℕ → ℕ → (ℕ × List ℕ) × List ℕ
create_in capacity seed size area table key_bytes list_bytes =
    cond (creatable capacity size (length table) key_bytes list_bytes)
    (cond (leb area_size (length area)) (created (create_of capacity seed size table key_bytes list_bytes) area)
    ((2, area), table))
    ((1, area), table)

-- RULES AK8. Append.
abbrev pub append_in : List ℕ → Lent → List ℕ → List ℕ → (ℕ × List ℕ) × Lent
append_in area m name bytes =
    cond (sensible_area area) (appended (append_of (state_at area) m name bytes) area) ((2, area), m)

-- RULES AK9. Lookup, length, the next occupied bucket: the code and what is told.
abbrev pub lookup_in : List ℕ → Lent → List ℕ → List ℕ → ℕ × List ℕ
lookup_in area m name told =
    cond (sensible_area area) (lookup_told (lookup_of (state_at area) m name) told) (says 2 0 0 told)

-- RULES AK9.
abbrev pub length_in : List ℕ → Lent → List ℕ → List ℕ → ℕ × List ℕ
length_in area m name told =
    cond (sensible_area area) (answer_told (length_of (state_at area) m name) told) (says 2 0 0 told)

-- RULES AK9.
abbrev pub next_in : List ℕ → Lent → ℕ → List ℕ → ℕ × List ℕ
next_in area m i told = cond (sensible_area area) (listed_told (next_of (state_at area) m i) told) (says 2 0 0 told)

-- RULES AK9. Read: the code and what is told, the output.
abbrev pub read_told : Read → List ℕ → (ℕ × List ℕ) × List ℕ
read_told o told = (answer_told o.answer told, o.output)

-- RULES AK9.
abbrev pub read_in : List ℕ → Lent → List ℕ → List ℕ → List ℕ → (ℕ × List ℕ) × List ℕ
read_in area m name output told =
    cond (sensible_area area) (read_told (read_of (state_at area) m name output) told) (says 2 0 0 told, output)
