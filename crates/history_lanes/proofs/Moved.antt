-- What an append to one lane keeps of another. Assumes nothing.
use Prim.Native.Nat.{ℕ, ◌+◌, ◌-◌, ◌≤◌}
use mathlib.Core.Path.{◌≡◌, refl, sym, subst}
use mathlib.Core.List.{List, [], ◌∷◌}
use native.Mathlib.Nat.{le_refl}
use native.Mathlib.Omega.{arith}
use Rattle.limits.specs.Limits.{link_size}
use Rattle.spans.specs.Span.{read_span}
use Rattle.memory_arena.specs.declared.Arena.{Arena}
use Rattle.expull_header.specs.declared.Header.{Header}
use Rattle.history_lanes.specs.Lane.{size_on, wide_on, full_content, content, LinkTo, Links, Below, Paged, TipApart}
use Rattle.history_lanes.specs.Lane.{TipClear, used_end, Lane, After}
use Rattle.history_lanes.proofs.Blocks.{apart-within, below_up}

-- a newest block that is clear of blocks is apart from the first of them, and clear of the others
clear_first : (ks : List ℕ) (y : ℕ) (js : List ℕ) → TipClear ks (y ∷ js) → TipApart y (wide_on js) ks × TipClear ks js
clear_first [] y js t = (tt, tt)
clear_first (x ∷ ks) y js t = (t.0, t.1)

apart_part : (q n q' n' : ℕ) (ks : List ℕ) → q ≤ q' → q' + n' ≤ q + n → TipApart q n ks → TipApart q' n' ks
apart_part q n q' n' [] h k t = tt
apart_part q n q' n' (x ∷ ks) h k t =
    apart-within x (wide_on ks) q n x (wide_on ks) q' n' (le_refl x) (le_refl (x + wide_on ks)) h k t

module _ (m : List ℕ) (a : Arena) (h : Header) (ks bs m' : List ℕ) (a' : Arena) (h' : Header) (ks' : List ℕ)
    (A : After m a h ks bs m' a' h' ks') where
  -- a part of a block of another lane
  keep_part : (y : ℕ) (js : List ℕ) (q n : ℕ) → Below (used_end a) (y ∷ js) → TipClear ks (y ∷ js) → y ≤ q
      → q + n ≤ y + wide_on js
      → read_span q n m' ≡ read_span q n m
  keep_part y js q n b t h k =
      A.span q n (omega (arith, b.0)) (apart_part y (wide_on js) q n ks h k (clear_first ks y js t).0)

  keep_full : (js : List ℕ) → Below (used_end a) js → TipClear ks js → full_content m' js ≡ full_content m js
  keep_full [] b t = refl
  keep_full (y ∷ js) b t =
      rw (keep_full js b.1 (clear_first ks y js t).1, keep_part y js y (size_on js) b t (le_refl y) (omega arith))

  keep_content : (js : List ℕ) (r : ℕ) → Below (used_end a) js → TipClear ks js → content m' js r ≡ content m js r
  keep_content [] r b t = refl
  keep_content (y ∷ js) r b t =
      rw (
        keep_full js b.1 (clear_first ks y js t).1,
        keep_part y js y (size_on js - r) b t (le_refl y) (omega arith),
      )

  keep_link : (js : List ℕ) (x : ℕ) → Below (used_end a) js → TipClear ks js → LinkTo m js x → LinkTo m' js x
  keep_link [] x b t l = tt
  keep_link (y ∷ js) x b t l = rw (keep_part y js (y + size_on js) link_size b t (omega arith) (omega arith)) l

  keep_links : (js : List ℕ) → Below (used_end a) js → TipClear ks js → Links m js → Links m' js
  keep_links [] b t l = tt
  keep_links (y ∷ js) b t l =
      let s = (clear_first ks y js t).1 in
      (keep_link js y b.1 s l.0, keep_links js b.1 s l.1)

  -- another lane stays a lane, with the same blocks and the same bytes, if the newest block of the one appended to is
  -- none of its blocks
  pub lane-moved : (g : Header) (js : List ℕ) → Lane m a g js → TipClear ks js
      → Lane m' a' g js × (content m' js g.remaining ≡ content m js g.remaining)
  lane-moved g js L t = (
    record {
      number = L.number;
      links = keep_links js L.below t L.links;
      below = below_up (used_end a) (used_end a') js A.grows L.below;
      paged = subst (λ (s : ℕ). Paged s js) (sym A.size) L.paged;
      tip = L.tip;
      begun = L.begun;
      stands = A.lane.stands;
      short = A.lane.short;
    },
    keep_content js g.remaining L.below t,
  )
