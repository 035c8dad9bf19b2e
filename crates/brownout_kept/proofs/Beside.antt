-- What an append to one list leaves of another that shares no place with it. Assumes nothing.
use Prim.Native.Nat.{ℕ, ◌+◌}
use mathlib.Core.Path.{sym, subst}
use mathlib.Core.List.{List, [], ◌∷◌}
use native.Mathlib.Omega.{arith}
use Rattle.limits.specs.Limits.{link_size}
use Rattle.memory_arena.specs.declared.Arena.{Arena}
use Rattle.expull_header.specs.declared.Header.{Header}
use Rattle.history_lanes.specs.Lane.{size_on, wide_on, LinkTo, Links, Below, Paged, used_end}
use Rattle.history_lanes.proofs.Blocks.{clear_within, below_up}
use Rattle.history.specs.Sound.{BlocksApart}
use Rattle.brownout_kept.specs.Laid.{Chain}
use Rattle.brownout_kept.proofs.Chain.{Step}

module _ {m : List ℕ} {a : Arena} {ks m' : List ℕ} {a' : Arena} {ks' : List ℕ} (S : Step m a ks m' a' ks') where
  keep_link : (js : List ℕ) (x : ℕ) → Below (used_end a) js → BlocksApart js ks → LinkTo m js x → LinkTo m' js x
  keep_link [] x b c l = tt
  keep_link (y ∷ js) x b c l =
      rw (S.kept (y + size_on js) link_size (omega (arith, b.0))
      (clear_within y (wide_on js) (y + size_on js) link_size ks (omega arith) (omega arith) c.0)) l

  keep_links : (js : List ℕ) → Below (used_end a) js → BlocksApart js ks → Links m js → Links m' js
  keep_links [] b c l = tt
  keep_links (y ∷ js) b c l = (keep_link js y b.1 c.1 l.0, keep_links js b.1 c.1 l.1)

  -- it stays the list that it is
  pub chain-moved : {h g : Header} {js : List ℕ} → Chain m' a' h ks' → Chain m a g js → BlocksApart js ks
      → Chain m' a' g js
  chain-moved {h} {g} {js} L K c = record {
    number = K.number;
    links = keep_links js K.below c K.links;
    below = below_up (used_end a) (used_end a') js S.grows K.below;
    paged = subst (λ (s : ℕ). Paged s js) (sym S.size) K.paged;
    ends = K.ends;
    own = K.own;
    stands = L.stands;
    short = L.short;
  }

  -- and shares no place with what the append took
  pub apart-moved : (js : List ℕ) → Below (used_end a) js → BlocksApart js ks → BlocksApart js ks'
  apart-moved [] b c = tt
  apart-moved (y ∷ js) b c = (S.clear y (wide_on js) b.0 c.0, apart-moved js b.1 c.1)
