-- A lane's length settles its header's block number and remaining bytes, so all that an append to it needs. Assumes
-- nothing.
use Prim.Native.Nat.{ℕ, zero, suc, ◌+◌, ◌-◌, ◌*◌, ◌≤◌, ◌<◌}
use mathlib.Core.Path.{◌≡◌, refl, sym, ap, ◌∙◌}
use mathlib.Core.Bool.{Bool, true, false}
use mathlib.Core.List.{List, [], ◌∷◌}
use native.Mathlib.Omega.{arith}
use lib.Dec.{eqb, ltb}
use lib.ListN.{length}
use borrow.Author.Tests.{eqb-true, eqb-false, ltb-true, ltb-false}
use Rattle.limits.specs.Limits.{fresh_number, link_size}
use Rattle.memory_arena.specs.declared.Arena.{Arena}
use Rattle.expull_header.specs.declared.Header.{Header}
use Rattle.expull_header.specs.Header.{block_size, full_bytes, block_count}
use Rattle.expull_append.specs.Append.{planned, plan_of}
use Rattle.expull_header.proofs.Laws.{size_pos, full-more}
use Rattle.expull_walk.proofs.Laws.{full-within}
use Rattle.store_state.specs.declared.State.{State}
use Rattle.store_look.specs.Look.{Lent}
use Rattle.history_lanes.specs.Lane.{content, Lane}
use Rattle.history_lanes.proofs.Readings.{content-length, lane_count}
use Rattle.history_lanes.proofs.Room.{wide_sum, lane_room}
use Rattle.history.specs.Due.{one_more, shape_of, due_blocks, due_list}
use Rattle.history.specs.Promises.{blocks_for}

-- n bytes fill k blocks up to r bytes of the last, in which at least one byte stands
pub record Fills (n k r : ℕ) : Type 0 where
  pub all : n + r ≡ full_bytes k
  pub none_left : k ≡ 0 → r ≡ 0
  pub begun : (j : ℕ) → k ≡ suc j → r < block_size (j + 3)

full_none : full_bytes 0 ≡ 0
unfolding full_bytes
full_none = refl

-- so many blocks and no more
fills_most : (n k r k' r' : ℕ) → Fills n k r → Fills n k' r' → k' ≤ k
fills_most n zero r zero r' F F' = omega arith
fills_most n zero r (suc j) r' F F' =
    absurd (omega (arith, F.all, F.none_left refl, F'.all, F'.begun j refl, full-more j, full_none))
fills_most n (suc i) r k' r' F F' = go (ltb (suc i) k') refl k' refl
  where
    go : (b : Bool) → ltb (suc i) k' ≡ b → (x : ℕ) → k' ≡ x → k' ≤ suc i
    go false e x q = ltb-false (suc i) k' e
    go true e zero q = omega arith
    go true e (suc j) q = let l : suc i < k' = ltb-true (suc i) k' e in absurd (over (ltb (suc i) j) refl)
      where
        over : (b : Bool) → ltb (suc i) j ≡ b → ⊥
        over true p =
            omega (
              arith,
              ltb-true (suc i) j p,
              F.all,
              F'.all,
              ap full_bytes q,
              F'.begun j q,
              full-more j,
              full-within (suc i) j (ltb-true (suc i) j p),
            )
        over false p =
            let z : j ≡ suc i = omega (arith, ltb-true (suc i) k' e, ltb-false (suc i) j p) in
            omega (arith, F.all, F'.all, ap full_bytes q, F'.begun j q, full-more j, ap full_bytes z)

fills_same : (n k r k' r' : ℕ) → Fills n k r → Fills n k' r' → (k ≡ k') × (r ≡ r')
fills_same n k r k' r' F F' =
    let e : k ≡ k' = omega (arith, fills_most n k r k' r' F F', fills_most n k' r' k r F' F) in
    (e, omega (arith, F.all, F'.all, ap full_bytes e))

-- ---- the two of them

-- one byte more
more-fills : (n : ℕ) (h : Header) → fresh_number ≤ h.number → Fills n (block_count h) h.remaining
    → (fresh_number ≤ (one_more h).number) × Fills (suc n) (block_count (one_more h)) (one_more h).remaining
unfolding one_more
more-fills n h l F = go (eqb h.remaining 0) refl
  where
    grows : h.remaining ≡ 0 → Fills (suc n) (h.number + 1 - fresh_number) (block_size (h.number + 1) - 1)
    grows z =
        let k : ℕ = h.number - 2 in
        let e : h.number + 1 - fresh_number ≡ suc k = omega arith in
        let s : h.number + 1 ≡ k + 3 = omega arith in
        rw (e, s) (record {
          all = omega (arith, F.all, full-more k, size_pos (k + 3));
          none_left = λ q. absurd (omega arith);
          begun = λ j q. let x : j ≡ k = omega arith in rw x (omega (arith, size_pos (k + 3)));
        })

    stays : (h.remaining ≡ 0 → ⊥) → Fills (suc n) (block_count h) (h.remaining - 1)
    stays z = record {
      all = omega (arith, F.all);
      none_left = λ q. absurd (z (F.none_left q));
      begun = λ j q. omega (arith, F.begun j q);
    }

    go : (b : Bool) → eqb h.remaining 0 ≡ b
        → (fresh_number ≤ (one_more h).number) × Fills (suc n) (block_count (one_more h)) (one_more h).remaining
    go true e = rw e (omega arith, grows (eqb-true h.remaining 0 e))
    go false e = rw e (l, stays (eqb-false h.remaining 0 e))

pub shape-fills : (n : ℕ) → (fresh_number ≤ (shape_of n).number) × Fills n (block_count (shape_of n)) (shape_of n).remaining
unfolding shape_of full_bytes
shape-fills zero = (omega arith, record { all = refl; none_left = λ z. refl; begun = λ j z. absurd (omega arith) })
shape-fills (suc n) = more-fills n (shape_of n) (shape-fills n).0 (shape-fills n).1

lane-fills : (m : List ℕ) (a : Arena) (h : Header) (ks : List ℕ) → Lane m a h ks
    → Fills (length (content m ks h.remaining)) (length ks) h.remaining
lane-fills m a h [] L =
    record { all = content-length m a h [] L; none_left = λ z. L.tip.2; begun = λ j z. absurd (omega arith) }
lane-fills m a h (x ∷ ks) L = record {
  all = content-length m a h (x ∷ ks) L;
  none_left = λ z. absurd (omega arith);
  begun = λ j z. let e : j ≡ length ks = omega arith in rw e L.begun;
}

-- a dry run knows of the header nothing else
due-same : (st : State) (l : Lent) (h g : Header) (k : ℕ) → h.number ≡ g.number → h.remaining ≡ g.remaining
    → due_list st l h k ≡ due_list st l g k
unfolding due_list plan_of
due-same st l h g k p q = λ i. due_blocks (planned (k - q i) (length l.lists) st.list_arena (p i) (k - q i))

module _ (m : List ℕ) (a : Arena) (h : Header) (ks : List ℕ) (L : Lane m a h ks) where
  abbrev n : ℕ
  n = length (content m ks h.remaining)

  same : (length ks ≡ block_count (shape_of n)) × (h.remaining ≡ (shape_of n).remaining)
  same =
      fills_same n (length ks) h.remaining (block_count (shape_of n)) (shape_of n).remaining (lane-fills m a h ks L)
      (shape-fills n).1

  -- the header's numbers are those that its length settles
  pub lane_number : h.number ≡ (shape_of n).number
  lane_number = omega (arith, L.number, same.0, (shape-fills n).0)

  pub lane_remaining : h.remaining ≡ (shape_of n).remaining
  lane_remaining = same.1

  pub lane-blocks_for : block_count h ≡ blocks_for n
  unfolding blocks_for
  lane-blocks_for = ap (λ (b : ℕ). b - fresh_number) lane_number

  -- so an append is due the same by either
  pub lane-due : (st : State) (l : Lent) (k : ℕ) → due_list st l h k ≡ due_list st l (shape_of n) k
  lane-due st l k = due-same st l h (shape_of n) k lane_number lane_remaining

  -- what the blocks take, by their number
  pub lane-room_for : full_bytes (blocks_for n) + link_size * blocks_for n ≤ 2 * n + 6 + 4 * blocks_for n
  lane-room_for =
      omega (
        arith,
        lane_room m a h ks L,
        wide_sum ks,
        same.0,
        lane_count m a h ks L,
        lane-blocks_for,
        ap full_bytes (sym lane-blocks_for ∙ lane_count m a h ks L),
      )
