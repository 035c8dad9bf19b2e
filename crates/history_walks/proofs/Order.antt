-- A walk goes through the buckets in their probe order, on any memory: the k-th that it looks at is bucket
-- (hash + k) mod L. Assumes nothing.
use Prim.Native.Nat.{ℕ, zero, suc, ◌+◌, ◌%◌, ◌≤◌, ◌<◌}
use mathlib.Core.Path.{◌≡◌, refl, sym, ap, ◌∙◌}
use mathlib.Core.Logic.{◌≢◌}
use mathlib.Core.Bool.{Bool, true, false}
use mathlib.Core.List.{List}
use native.Mathlib.Omega.{arith}
use lib.Dec.{eqb}
use borrow.Author.Tests.{eqb-true, eqb-false}
use Rattle.memory_arena.specs.declared.Arena.{Arena}
use Rattle.shared_arena_hashmap.specs.declared.Seen.{Seen}
use Rattle.shared_arena_hashmap.specs.declared.Seen.TheVariants.{Nothing, Same, Broken, Other}
use Rattle.shared_arena_hashmap.specs.declared.Walk.{Walk}
use Rattle.shared_arena_hashmap.specs.Probe.{seen_at, next_bucket, on_seen, probe}
use Rattle.shared_arena_hashmap.proofs.Room.{next-mod, next-below}
use Rattle.history_walks.specs.Walks.{last_met}

module _ (t keys : List ℕ) (a : Arena) (first l hash : ℕ) (name : List ℕ) where
  -- what is seen in place k of the probe order
  abbrev seen : ℕ → Seen
  seen k = seen_at t keys a (first + (hash + k) % l) hash name

  -- a walk of at most n buckets, k looked at before
  pub record Went (n k : ℕ) (w : Walk) : Type 0 where
    pub on : k + 1 ≤ w.looked
    pub within : w.looked ≤ k + n
    pub passed : (j : ℕ) → k + 1 ≤ j → j < w.looked → seen j ≡ Other
    pub ends : w.met ≡ last_met (seen w.looked)
    pub lap : seen w.looked ≡ Other → w.looked ≡ k + n

  -- the next bucket ends it
  last : (n k : ℕ) (w : Walk) → w.looked ≡ k + 1 → 1 ≤ n → w.met ≡ last_met (seen (k + 1))
      → (seen (k + 1) ≡ Other → n ≡ 1)
      → Went n k w
  last n k w e h m o = record {
    on = omega (arith, e);
    within = omega (arith, e);
    passed = λ j p q. absurd (omega (arith, e, p, q));
    ends = rw e m;
    lap = λ s. let z : n ≡ 1 = o (rw e at s) in omega (arith, e, z);
  }

  -- it is another's, and the rest of the walk ends it
  later : (n k : ℕ) (w : Walk) → seen (k + 1) ≡ Other → Went n (k + 1) w → Went (suc n) k w
  later n k w s r = record {
    on = omega (arith, r.on);
    within = omega (arith, r.within);
    passed = λ j p q. go j p q (eqb j (k + 1)) refl;
    ends = r.ends;
    lap = λ o. omega (arith, r.lap o);
  }
    where
      go : (j : ℕ) → k + 1 ≤ j → j < w.looked → (b : Bool) → eqb j (k + 1) ≡ b → seen j ≡ Other
      go j p q true e = ap seen (eqb-true j (k + 1) e) ∙ s
      go j p q false e = let d : j ≢ k + 1 = eqb-false j (k + 1) e in r.passed j (omega arith) q

  -- one turn: the bucket in place k + 1 ends the walk, or is another's
  turn : (n i k : ℕ) → i ≡ (hash + (k + 1)) % l
      → (seen (k + 1) ≡ Other → Went (suc n) k (probe t keys a first l hash name n (next_bucket l i) (k + 1)))
      → Went (suc n) k (probe t keys a first l hash name (suc n) i k)
  unfolding probe
  turn n i k e rest =
      go (seen_at t keys a (first + i) hash name) (ap (λ (b : ℕ). seen_at t keys a (first + b) hash name) (sym e))
    where
      go : (s : Seen) → seen (k + 1) ≡ s
          → Went (suc n) k (on_seen s (k + 1) (probe t keys a first l hash name n (next_bucket l i) (k + 1)))
      go Nothing q =
          last (suc n) k _ refl (omega arith) (sym (ap last_met q))
          (λ o. let z : ◌≡◌ {A = ℕ} 0 1 = cc in absurd (omega arith))
      go (Same x) q =
          last (suc n) k _ refl (omega arith) (sym (ap last_met q))
          (λ o. let z : ◌≡◌ {A = ℕ} 0 1 = cc in absurd (omega arith))
      go Broken q =
          last (suc n) k _ refl (omega arith) (sym (ap last_met q))
          (λ o. let z : ◌≡◌ {A = ℕ} 0 1 = cc in absurd (omega arith))
      go Other q = rest q

  pub probe-went : (n i k : ℕ) → i < l → i ≡ (hash + (k + 1)) % l
      → Went (suc n) k (probe t keys a first l hash name (suc n) i k)
  unfolding probe
  probe-went zero i k h e = turn zero i k e (λ q. last 1 k _ refl (omega arith) (sym (ap last_met q)) (λ o. refl))
  probe-went (suc n) i k h e =
      turn (suc n) i k e
      (λ q. later (suc n) k _ q
      (probe-went n (next_bucket l i) (k + 1) (next-below l i h)
      (next-mod l (hash + (k + 1)) i h e ∙ ap (λ (y : ℕ). y % l) (omega arith))))
