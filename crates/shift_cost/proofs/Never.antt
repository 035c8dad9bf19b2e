-- An append that keeps a shift within what was lent for it is due no number. Assumes nothing.
use Prim.Native.Nat.{ℕ, suc, ◌+◌, ◌-◌, ◌*◌, ◌^◌, ◌≤◌, ◌<◌}
use mathlib.Core.Path.{◌≡◌, refl, sym, subst}
use mathlib.Core.Bool.{Bool, true, false, cond}
use mathlib.Core.Option.{Option, none, some}
use mathlib.Core.List.{List, [], ◌∷◌}
use native.Mathlib.Omega.{arith}
use lib.Dec.{leb}
use lib.ListN.{length}
use lib.Pow.{pow_mono}
use borrow.Author.Tests.{leb-true, leb-false, le-leb}
use Rattle.limits.specs.Limits.{bucket_limit}
use Rattle.shared_arena_hashmap.specs.Power.{rounded_down, power_of_two, grown_length}
use Rattle.shared_arena_hashmap.proofs.Laws.{Power, power_facts, rounded_is_power, rounded_near}
use Rattle.store_state.specs.declared.State.{State}
use Rattle.store_state.specs.State.{lent_buckets}
use Rattle.store_append.specs.Append.{is_crowded}
use Rattle.history.specs.History.{Entry, joined_in, names_in}
use Rattle.lending.specs.Lending.{taken_at_most, buckets_for}
use Rattle.shift_cost.specs.Shift.{sum_of, over_lanes, length_in, with_bytes, blocks_in, taken_in}
use Rattle.shift_cost.specs.Shift.{bytes_of_all, lanes_with_bytes, blocks_of_all, taken_of_all}
use Rattle.shift_cost.proofs.Lanes.{lane_cost, lane_short, lane-long}

-- ---- the table

-- a power of two that is at most m is at most m rounded down
power-within : (l m : ℕ) → power_of_two l ≡ true → l ≤ m → m < 2 ^ 64 → l ≤ rounded_down m
power-within l m e h s = go (power_facts l e) (power_facts (rounded_down m) (rounded_is_power m))
  where
    go : Power l → Power (rounded_down m) → l ≤ rounded_down m
    go p q = at (leb p.exponent q.exponent) refl
      where
        at : (b : Bool) → leb p.exponent q.exponent ≡ b → l ≤ rounded_down m
        at true f =
            subst (λ (x : ℕ). x ≤ rounded_down m) (sym p.is)
            (subst (λ (x : ℕ). 2 ^ p.exponent ≤ x) (sym q.is) (pow_mono (leb-true _ _ f)))
        at false f =
            let d : 2 ^ suc q.exponent ≤ 2 ^ p.exponent = pow_mono (leb-false _ _ f) in
            absurd (omega (arith, p.is, q.is, rounded_near m s))

-- a table with room for so many lanes isn't crowded while fewer stand
pub not_crowded : (st : State) (capacity lanes words : ℕ) → power_of_two st.buckets ≡ true → st.words ≡ words
    → rounded_down capacity ≤ st.buckets → buckets_for capacity lanes ≤ lent_buckets words → lanes ≤ bucket_limit
    → st.keys + 1 ≤ lanes → is_crowded st ≡ false
unfolding buckets_for
not_crowded st capacity lanes words p e h f m k =
    go (leb (2 * lanes - 1) (rounded_down capacity)) refl f (leb st.buckets (2 * st.keys)) refl
  where
    go : (b : Bool) → leb (2 * lanes - 1) (rounded_down capacity) ≡ b
        → cond b (rounded_down capacity) (rounded_down (2 * lanes - 2) + grown_length (rounded_down (2 * lanes - 2)))
        ≤ lent_buckets words
        → (c : Bool) → leb st.buckets (2 * st.keys) ≡ c → is_crowded st ≡ false
    go b q f false s = rw s
    go true q f true s = absurd (omega (
      arith,
      leb-true (2 * lanes - 1) (rounded_down capacity) q,
      leb-true
          st.buckets (2 * st.keys) s,
    ))
    go false q f true s =
        let l = power-within st.buckets (2 * lanes - 2) p (omega (arith, leb-true st.buckets (2 * st.keys) s))
        (omega arith) in
        rw (s, e, le-leb (st.buckets + grown_length st.buckets) (lent_buckets words) (omega (arith, l)))

-- ---- the sums of a log

module _ (log : List Entry) where
  abbrev ns : List (List ℕ)
  ns = names_in log []

  abbrev f : List ℕ → Option (List ℕ)
  f j = joined_in j log none

  lanes-few : (ms : List (List ℕ)) → sum_of (λ j. with_bytes (f j)) ms ≤ length ms
  unfolding sum_of
  lanes-few [] = omega arith
  lanes-few (m ∷ ms) = omega (arith, one (f m), lanes-few ms)
    where
      one : (o : Option (List ℕ)) → with_bytes o ≤ 1
      one none = omega arith
      one (some []) = omega arith
      one (some (b ∷ bs)) = omega arith

  lanes_cost : (ms : List (List ℕ))
      → sum_of (λ j. taken_in (f j)) ms
      ≤ 2 * sum_of (λ j. length_in (f j)) ms + 6 * sum_of (λ j. with_bytes (f j)) ms + 4 * sum_of (λ j. blocks_in (f j)) ms
  unfolding sum_of
  lanes_cost [] = omega arith
  lanes_cost (m ∷ ms) = omega (arith, lane_cost (f m), lanes_cost ms)

  lanes_short : (ms : List (List ℕ))
      → 2 * sum_of (λ j. taken_in (f j)) ms
      ≤ 5 * sum_of (λ j. length_in (f j)) ms + 20 * sum_of (λ j. with_bytes (f j)) ms
  unfolding sum_of
  lanes_short [] = omega arith
  lanes_short (m ∷ ms) = omega (arith, lane_short (f m), lanes_short ms)

  lanes-long : (ms : List (List ℕ))
      → 8192 * sum_of (λ j. taken_in (f j)) ms
      ≤ 8193 * sum_of (λ j. length_in (f j)) ms + 8192 * (32816 * sum_of (λ j. with_bytes (f j)) ms)
  unfolding sum_of
  lanes-long [] = omega arith
  lanes-long (m ∷ ms) = omega (arith, lane-long (f m), lanes-long ms)

  -- "at most twice the accepted bytes, plus 6 for each lane that has bytes, plus 4 for each block"
  pub taken_cost : taken_of_all log ≤ 2 * bytes_of_all log + 6 * lanes_with_bytes log + 4 * blocks_of_all log
  unfolding over_lanes
  taken_cost = lanes_cost ns

  pub taken-few : (lanes bytes : ℕ) → length ns ≤ lanes → bytes_of_all log ≤ bytes → taken_of_all log
      ≤ taken_at_most lanes bytes
  unfolding over_lanes
  taken-few lanes bytes h g = omega (arith, lanes_short ns, lanes-long ns, lanes-few ns)
