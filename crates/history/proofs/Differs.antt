-- From what stays to where a byte that differs lies. Assumes nothing.
use Prim.Native.Nat.{ℕ, zero, suc, ◌+◌, ◌≤◌, ◌<◌}
use mathlib.Core.Path.{◌≡◌, sym, ap, ◌∙◌}
use mathlib.Core.Logic.{◌⊎◌, inl, inr, ⊎_elim}
use mathlib.Core.List.{List}
use native.Mathlib.Nat.{add-zero}
use native.Mathlib.Decide.{ℕ_discrete, dec_le}
use native.Mathlib.Omega.{arith}
use lib.ListN.{get_or}
use Rattle.limits.specs.Limits.{link_size}
use Rattle.spans.specs.Span.{read_span, Apart}
use Rattle.spans.proofs.Laws.{span_at}
use Rattle.expull_header.specs.declared.Header.{Header}
use Rattle.expull_header.specs.Header.{block_size, block_count}
use Rattle.expull_walk.specs.Blocks.{block_place}
use Rattle.history.specs.Frames.{Kept, Differs, Within, ApartFromBlocks, InBlocks}

-- a span of one is a byte
pub byte_kept : (m m' : List ℕ) (q : ℕ) → Kept m m' q 1 → get_or m' q 0 ≡ get_or m q 0
byte_kept m m' q e = one m' ∙ ap (λ (l : List ℕ). get_or l 0 0) e ∙ sym (one m)
  where
    one : (m : List ℕ) → get_or m q 0 ≡ get_or (read_span q 1 m) 0 0
    one m = rw (span_at q 1 0 m (omega arith), add-zero)

-- a place lies in a span or apart from it
pub within_or_apart : (p n q : ℕ) → Within p n q ⊎ Apart p n q 1
within_or_apart p n q = go (dec_le p q) (dec_le (p + n) q)
  where
    go : Dec (p ≤ q) → Dec (p + n ≤ q) → Within p n q ⊎ Apart p n q 1
    go (yes a) (yes b) = inr (inl b)
    go (yes a) (no b) = inl (a, omega arith)
    go (no a) b = inr (inr (omega arith))

-- what differs lies in the span that all that stays is apart from
pub differs-within : (m m' : List ℕ) (p n q : ℕ) → (Apart p n q 1 → Kept m m' q 1) → Differs m m' q → Within p n q
differs-within m m' p n q f d = ⊎_elim (λ x. x) (λ a. absurd (d (byte_kept m m' q (f a)))) (within_or_apart p n q)

-- and so for the blocks of a list
module _ (m : List ℕ) (h : Header) (q : ℕ) where
  abbrev InBlock : ℕ → Type 0
  InBlock i = Within (block_place m h.head i) (block_size (i + 3) + link_size) q

  abbrev Beside : ℕ → Type 0
  Beside i = Apart q 1 (block_place m h.head i) (block_size (i + 3) + link_size)

  block_cases : (n : ℕ) → ((i : ℕ) × (i < n) × InBlock i) ⊎ ((i : ℕ) → i < n → Beside i)
  block_cases zero = inr (λ i k. absurd (omega arith))
  block_cases (suc n) =
      go (within_or_apart (block_place m h.head n) (block_size (n + 3) + link_size) q) (block_cases n)
    where
      turned : Apart (block_place m h.head n) (block_size (n + 3) + link_size) q 1 → Beside n
      turned (inl a) = inr a
      turned (inr a) = inl a

      go : InBlock n ⊎ Apart (block_place m h.head n) (block_size (n + 3) + link_size) q 1
          → ((i : ℕ) × (i < n) × InBlock i) ⊎ ((i : ℕ) → i < n → Beside i)
          → ((i : ℕ) × (i < suc n) × InBlock i) ⊎ ((i : ℕ) → i < suc n → Beside i)
      go (inl x) r = inl (n, omega arith, x)
      go (inr x) (inl r) = inl (r.0, omega (arith, r.1), r.2)
      go (inr x) (inr f) = inr (λ i k. at i k (ℕ_discrete i n))
        where
          at : (i : ℕ) → i < suc n → Dec (i ≡ n) → Beside i
          at i k (yes e) = rw e (turned x)
          at i k (no e) = f i (omega arith)

  pub differs-blocks : (m₀ : List ℕ) → (ApartFromBlocks m h q 1 → Kept m₀ m q 1) → Differs m₀ m q → InBlocks m h q
  differs-blocks m₀ f d = ⊎_elim (λ x. x) (λ a. absurd (d (byte_kept m₀ m q (f a)))) (block_cases (block_count h))
