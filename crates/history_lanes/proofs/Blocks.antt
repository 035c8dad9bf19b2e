-- Laws of blocks: sizes, spans that share no place, what a write leaves of blocks that it doesn't touch. Assumes
-- nothing.
use Prim.Native.Nat.{ℕ, ◌+◌, ◌^◌, ◌≤◌, ◌<◌}
use mathlib.Core.Path.{◌≡◌, refl}
use mathlib.Core.Logic.{inl, inr}
use mathlib.Core.List.{List, [], ◌∷◌}
use native.Mathlib.Nat.{le_refl, min-le_right, min-eq_right}
use native.Mathlib.Omega.{arith}
use lib.Pow.{pow_mono}
use lib.ListN.{length}
use Rattle.limits.specs.Limits.{size_top, link_size}
use Rattle.spans.specs.Span.{overwrite, Apart}
use Rattle.spans.proofs.Laws.{read-apart}
use Rattle.memory_arena.specs.Address.{page_of, place_of, address_of}
use Rattle.memory_arena.proofs.Laws.{split, place_of_lem}
use Rattle.expull_header.specs.Header.{block_size}
use Rattle.history_lanes.specs.Lane.{size_on, wide_on, full_content, LinkTo, Links, Below, Clear}

-- ---- sizes

pub size_top_lem : (b : ℕ) → block_size b ≤ 2 ^ size_top
unfolding block_size
size_top_lem b = pow_mono (min-le_right b size_top)

pub size_full : (b : ℕ) → size_top ≤ b → block_size b ≡ 2 ^ size_top
unfolding block_size
size_full b h = rw (min-eq_right h)

-- ---- spans

pub apart-within : (p n q k p' n' q' k' : ℕ) → p ≤ p' → p' + n' ≤ p + n → q ≤ q' → q' + k' ≤ q + k → Apart p n q k
    → Apart p' n' q' k'
apart-within p n q k p' n' q' k' a b c d (inl h) = inl (omega arith)
apart-within p n q k p' n' q' k' a b c d (inr h) = inr (omega arith)

pub apart_sym : (p n q k : ℕ) → Apart p n q k → Apart q k p n
apart_sym p n q k (inl h) = inr h
apart_sym p n q k (inr h) = inl h

pub clear_within : (p n p' n' : ℕ) (ks : List ℕ) → p ≤ p' → p' + n' ≤ p + n → Clear p n ks → Clear p' n' ks
clear_within p n p' n' [] a b c = tt
clear_within p n p' n' (x ∷ ks) a b c = (
  apart-within p n x (wide_on ks) p' n' x (wide_on ks) a b (le_refl x) (le_refl (x + wide_on ks)) c.0,
  clear_within p n p' n' ks a b c.1,
)

pub clear_above : (u p n : ℕ) (ks : List ℕ) → u ≤ p → Below u ks → Clear p n ks
clear_above u p n [] h b = tt
clear_above u p n (x ∷ ks) h b = (inr (omega (arith, b.0)), clear_above u p n ks h b.1)

pub below_up : (u u' : ℕ) (ks : List ℕ) → u ≤ u' → Below u ks → Below u' ks
below_up u u' [] h b = tt
below_up u u' (x ∷ ks) h b = (omega (arith, b.0), below_up u u' ks h b.1)

-- a span that lies on one page: a part of it does so too
pub placed_within : (s x w k n : ℕ) → 0 < n → k + n ≤ w → place_of s x + w ≤ s → place_of s (x + k) + n ≤ s
placed_within s x w k n z h p =
    let e : x + k ≡ address_of s (page_of s x) (place_of s x + k) = omega (arith, split s x) in
    rw (e, place_of_lem s (page_of s x) (place_of s x + k) (omega arith)) (omega arith)

-- ---- a write that shares no place with blocks

pub full-kept : (p : ℕ) (cs m ks : List ℕ) → Clear p (length cs) ks
    → full_content (overwrite p cs m) ks ≡ full_content m ks
full-kept p cs m [] c = refl
full-kept p cs m (x ∷ ks) c =
    rw (
      full-kept p cs m ks c.1,
      read-apart x (size_on ks) p cs m
          (apart-within p (length cs) x (wide_on ks) p (length cs) x (size_on ks) (le_refl p) (le_refl (p + length cs))
          (le_refl x) (omega arith) c.0),
    )

pub link_to_kept : (p : ℕ) (cs m ks : List ℕ) (y : ℕ) → Clear p (length cs) ks → LinkTo m ks y
    → LinkTo (overwrite p cs m) ks y
link_to_kept p cs m [] y c l = tt
link_to_kept p cs m (x ∷ ks) y c l =
    rw (read-apart (x + size_on ks) link_size p cs m
    (apart-within p (length cs) x (wide_on ks) p (length cs) (x + size_on ks) link_size (le_refl p)
    (le_refl (p + length cs)) (omega arith) (omega arith) c.0)) l

pub links-kept : (p : ℕ) (cs m ks : List ℕ) → Clear p (length cs) ks → Links m ks → Links (overwrite p cs m) ks
links-kept p cs m [] c l = tt
links-kept p cs m (x ∷ ks) c l = (link_to_kept p cs m ks x c.1 l.0, links-kept p cs m ks c.1 l.1)
