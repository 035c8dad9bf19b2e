-- Lists whose blocks share no place. Assumes nothing.
use Prim.Native.Nat.{ℕ}
use mathlib.Core.List.{List, [], ◌∷◌}
use Rattle.memory_arena.specs.declared.Arena.{Arena}
use Rattle.expull_header.specs.declared.Header.{Header}
use Rattle.history_lanes.specs.Lane.{wide_on, Below, Clear, TipClear, used_end, After}
use Rattle.history_lanes.proofs.Blocks.{apart_sym}
use Rattle.history.specs.Sound.{BlocksApart}

pub apart_none : (ks : List ℕ) → BlocksApart ks []
apart_none [] = tt
apart_none (x ∷ ks) = (tt, apart_none ks)

-- of the second list the first block, and the others
apart-first : (ks : List ℕ) (y : ℕ) (js : List ℕ) → BlocksApart ks (y ∷ js) → Clear y (wide_on js) ks
apart-first [] y js b = tt
apart-first (x ∷ ks) y js b = (apart_sym x (wide_on ks) y (wide_on js) b.0.0, apart-first ks y js b.1)

apart-rest : (ks : List ℕ) (y : ℕ) (js : List ℕ) → BlocksApart ks (y ∷ js) → BlocksApart ks js
apart-rest [] y js b = tt
apart-rest (x ∷ ks) y js b = (b.0.1, apart-rest ks y js b.1)

-- either way round
pub apart-turned : (ks js : List ℕ) → BlocksApart ks js → BlocksApart js ks
apart-turned ks [] b = tt
apart-turned ks (y ∷ js) b = (apart-first ks y js b, apart-turned ks js (apart-rest ks y js b))

-- so the newest block of one is clear of the other
pub apart-tip : (ks js : List ℕ) → BlocksApart ks js → TipClear ks js
apart-tip [] js b = tt
apart-tip (x ∷ ks) js b = b.0

-- what an append does to its own list leaves another's blocks apart from it
pub apart-after : (m : List ℕ) (a : Arena) (h : Header) (ks bs m' : List ℕ) (a' : Arena) (h' : Header) (ks' : List ℕ)
    → After m a h ks bs m' a' h' ks'
    → (js : List ℕ) → Below (used_end a) js → BlocksApart js ks → BlocksApart js ks'
apart-after m a h ks bs m' a' h' ks' A [] b c = tt
apart-after m a h ks bs m' a' h' ks' A (y ∷ js) b c =
    (A.back y (wide_on js) b.0 c.0, apart-after m a h ks bs m' a' h' ks' A js b.1 c.1)
