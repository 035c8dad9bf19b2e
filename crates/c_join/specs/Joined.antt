-- RULES AK12. The join of two stores in C's calling form: join's own answer on the states that the two areas hold
-- (AI3), the state that it gives saved, and how many lanes went across told.
use Rattle.std.specs.Prelude.{ℕ, cond, ◌&&◌, List}
use Rattle.spans.specs.Span.{overwrite}
use Rattle.store_look.specs.Look.{Lent}
use Rattle.join.specs.declared.Joined.{Joined}
use Rattle.join.specs.declared.Joined.TheVariants.{Whole, Halted}
use Rattle.join.specs.Join.{store, Out, join_of}
use Rattle.state_area.specs.Area.{sensible_area, state_at, area_of}
use Rattle.c_told.specs.Told.{says}

-- RULES AK12. The code, what is told and the first store's state area: the state that the join gives is saved whether
-- it is whole or was stopped, since lanes that went across stay.
abbrev pub saved_joined : Joined → List ℕ → List ℕ → (ℕ × List ℕ) × List ℕ
saved_joined (Whole st k) told area = (says 0 k 0 told, overwrite 0 (area_of st) area)
saved_joined (Halted st n k) told area = (says n k 0 told, overwrite 0 (area_of st) area)

-- RULES AK12. What the call leaves: the code, what is told and the first store's state area; its memory; the scratch.
-- The second store's areas are lent to be read only.
pub record Joining : Type 0 where
  pub saved : (ℕ × List ℕ) × List ℕ
  pub memory : Lent
  pub scratch : List ℕ

-- RULES AK12. All put together.
abbrev pub joining : (ℕ × List ℕ) × List ℕ → Lent → List ℕ → Joining
joining x m s = record { saved = x; memory = m; scratch = s }

-- RULES AK12.
abbrev pub joined : Out → List ℕ → List ℕ → Joining
joined o told area = joining (saved_joined o.answer told area) o.memory o.scratch

-- RULES AK12. Join: 2 for a short or senseless area of either store, and nothing has changed; else the join.
abbrev pub join_in : List ℕ → Lent → List ℕ → Lent → List ℕ → List ℕ → Joining
join_in area m area2 m2 scratch told =
    cond (sensible_area area && sensible_area area2)
    (joined (join_of (store (state_at area) m) (store (state_at area2) m2) scratch) told area)
    (joining (says 2 0 0 told, area) m scratch)
