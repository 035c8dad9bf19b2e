-- Blocks that share no place are not many, in whatever order they lie: so an append's block number never passes its
-- limit, and the header that it writes isn't damage. Assumes nothing.
use Prim.Native.Nat.{ℕ, zero, suc, ◌+◌, ◌-◌, ◌*◌, ◌^◌, ◌≤◌, ◌<◌, min}
use mathlib.Core.Path.{◌≡◌, refl, sym, ◌∙◌}
use mathlib.Core.Logic.{inl, inr}
use mathlib.Core.Bool.{Bool, true, false, cond, ◌&&◌, ◌||◌}
use mathlib.Core.List.{List, [], ◌∷◌}
use native.Mathlib.Omega.{arith}
use lib.Dec.{leb, ltb}
use lib.ListN.{length}
use borrow.Author.Tests.{eq-eqb, ne_eqb, le-leb, le-ltb, leb-true, leb-false, ltb-true, ltb-false}
use Rattle.limits.specs.Limits.{null_address, fresh_number, number_limit, size_top, link_size}
use Rattle.numbers.proofs.Tests.{both, left_false, right_false}
use Rattle.spans.specs.Span.{Apart}
use Rattle.memory_arena.specs.declared.Arena.{Arena}
use Rattle.memory_arena.proofs.Laws.{standing_facts}
use Rattle.expull_header.specs.declared.Header.{Header}
use Rattle.expull_header.specs.Header.{block_size, sound_header}
use Rattle.history_lanes.specs.Lane.{wide_on, blocks_wide, Below, oldest, Clear, used_end, HeaderFits}
use Rattle.history_lanes.proofs.Blocks.{size_top_lem, size_full}
use Rattle.brownout_kept.specs.Laid.{Own, Chain}

-- ---- places counted

-- how many of the first n places a test picks
abbrev tally : (ℕ → Bool) → ℕ → ℕ
tally f zero = 0
tally f (suc n) = cond (f n) (suc (tally f n)) (tally f n)

tally_most : (f : ℕ → Bool) (n : ℕ) → tally f n ≤ n
tally_most f zero = omega arith
tally_most f (suc n) = go (f n) (tally_most f n)
  where
    go : (b : Bool) → tally f n ≤ n → cond b (suc (tally f n)) (tally f n) ≤ suc n
    go true h = omega arith
    go false h = omega arith

tally_both : (f g : ℕ → Bool) → ((b : ℕ) → f b ≡ true → g b ≡ false) → (n : ℕ)
    → tally (λ b. f b || g b) n ≡ tally f n + tally g n
tally_both f g d zero = refl
tally_both f g d (suc n) = go (f n) refl (g n) refl (tally_both f g d n)
  where
    go : (x : Bool) → f n ≡ x → (y : Bool) → g n ≡ y → tally (λ b. f b || g b) n ≡ tally f n + tally g n
        → cond (x || y) (suc (tally (λ b. f b || g b) n)) (tally (λ b. f b || g b) n)
        ≡ cond x (suc (tally f n)) (tally f n) + cond y (suc (tally g n)) (tally g n)
    go true p true q ih = let z = d n p in absurd (clash (sym q ∙ z))
      where
        clash : true ≡ false → ⊥
        clash e = let z : ◌≡◌ {A = ℕ} 0 1 = cc in omega arith
    go true p false q ih = omega arith
    go false p true q ih = omega arith
    go false p false q ih = ih

-- place b is one of the w from x
abbrev in_span : ℕ → ℕ → ℕ → Bool
in_span x w b = leb x b && ltb b (x + w)

tally_span : (x w n : ℕ) → tally (in_span x w) n ≡ min (n - x) w
tally_span x w zero = omega arith
tally_span x w (suc n) = go (leb x n) refl (ltb n (x + w)) refl (tally_span x w n)
  where
    go : (p : Bool) → leb x n ≡ p → (q : Bool) → ltb n (x + w) ≡ q → tally (in_span x w) n ≡ min (n - x) w
        → cond (p && q) (suc (tally (in_span x w) n)) (tally (in_span x w) n) ≡ min (suc n - x) w
    go true e true f ih =
        let a : x ≤ n = leb-true x n e in
        let b : n < x + w = ltb-true n (x + w) f in
        omega arith
    go true e false f ih = let b : x + w ≤ n = ltb-false n (x + w) f in omega arith
    go false e q f ih = let a : n < x = leb-false x n e in omega arith

-- ---- blocks counted

abbrev covered : List ℕ → ℕ → Bool
covered [] b = false
covered (x ∷ ks) b = in_span x (wide_on ks) b || covered ks b

-- a place of a span that is clear of blocks lies in none of them
clear_uncovered : (p n : ℕ) (ks : List ℕ) → Clear p n ks → (b : ℕ) → in_span p n b ≡ true → covered ks b ≡ false
clear_uncovered p n [] c b e = refl
clear_uncovered p n (x ∷ ks) c b e =
    let r = both (leb p b) (ltb b (p + n)) e in
    let l : p ≤ b = leb-true p b r.0 in
    let h : b < p + n = ltb-true b (p + n) r.1 in
    rw (outside l h c.0) (clear_uncovered p n ks c.1 b e)
  where
    outside : p ≤ b → b < p + n → Apart p n x (wide_on ks) → in_span x (wide_on ks) b ≡ false
    outside l h (inl k) = left_false (leb x b) (ltb b (x + wide_on ks)) (above (leb x b) refl)
      where
        above : (t : Bool) → leb x b ≡ t → leb x b ≡ false
        above true t = let z : x ≤ b = leb-true x b t in absurd (omega arith)
        above false t = t
    outside l h (inr k) = right_false (leb x b) (ltb b (x + wide_on ks)) (le-ltb b (x + wide_on ks) (omega arith))

-- blocks that share no place, below an end: together they take no more than lies below it
packed : (u : ℕ) (ks : List ℕ) → Below u ks → Own ks → tally (covered ks) u ≡ blocks_wide ks
packed u [] b o = none u
  where
    none : (n : ℕ) → tally (λ b. false) n ≡ 0
    none zero = refl
    none (suc n) = none n
packed u (x ∷ ks) b o =
    tally_both (in_span x (wide_on ks)) (covered ks) (λ q e. clear_uncovered x (wide_on ks) ks o.0 q e) u
    ∙ omega (arith, tally_span x (wide_on ks) u, packed u ks b.1 o.1, b.0)

-- blocks from number 15 on all take the same
wide_few : (ks : List ℕ) → length ks * (2 ^ size_top + link_size) ≤ blocks_wide ks + 12 * (2 ^ size_top + link_size)
wide_few [] = omega arith
wide_few (x ∷ ks) = go (leb 12 (length ks)) refl (wide_few ks)
  where
    go : (t : Bool) → leb 12 (length ks) ≡ t
        → length ks * (2 ^ size_top + link_size) ≤ blocks_wide ks + 12 * (2 ^ size_top + link_size)
        → suc (length ks) * (2 ^ size_top + link_size) ≤ blocks_wide ks + wide_on ks + 12 * (2 ^ size_top + link_size)
    go true e i =
        let l : 12 ≤ length ks = leb-true _ _ e in
        omega (arith, size_full (length ks + 3) (omega arith))
    go false e i = let l : length ks < 12 = leb-false _ _ e in omega arith

-- ---- the header

oldest-below : (u x : ℕ) (ks : List ℕ) → Below u (x ∷ ks) → oldest x ks + link_size ≤ u
oldest-below u x [] b = omega (arith, b.0)
oldest-below u x (y ∷ ks) b = oldest-below u y ks b.1

pub chain-header : (m : List ℕ) (a : Arena) (h : Header) (ks : List ℕ) → Chain m a h ks → HeaderFits h
unfolding sound_header
chain-header m a h [] L =
    let e : h.number ≡ fresh_number = L.number in
    record {
      sound =
          rw (
            le-leb fresh_number h.number (omega arith),
            le-leb h.number number_limit (omega arith),
            eq-eqb h.number fresh_number e,
            eq-eqb h.head null_address L.ends.0,
            eq-eqb h.tail null_address L.ends.1,
            eq-eqb h.remaining 0 L.ends.2,
          );
      few = omega arith;
      number = omega arith;
      head = omega (arith, L.ends);
      tail = omega (arith, L.ends);
      remaining = omega (arith, L.ends);
    }
chain-header m a h (x ∷ ks) L =
    let e : h.number ≡ length ks + 3 = omega (arith, L.number) in
    let i : used_end a ≤ length m = (standing_facts a (length m) L.stands).in_memory in
    let s : length m ≤ 4294901760 = L.short in
    let t = packed (used_end a) (x ∷ ks) L.below L.own in
    let w = wide_few (x ∷ ks) in
    let q = tally_most (covered (x ∷ ks)) (used_end a) in
    let c : suc (length ks) * 32772 ≤ 4294901760 + 12 * 32772 = omega (arith, t, w, q) in
    let o : h.head + link_size ≤ used_end a = rw L.ends.0 (oldest-below (used_end a) x ks L.below) in
    let r : h.remaining ≤ block_size h.number = rw e L.ends.1 in
    record {
      sound =
          rw (
            le-leb fresh_number h.number (omega arith),
            le-leb h.number number_limit (omega arith),
            ne_eqb h.number fresh_number (λ z. omega arith),
            ne_eqb h.head null_address (λ z. omega arith),
            le-leb h.remaining (block_size h.number) r,
          );
      few = omega arith;
      number = omega arith;
      head = omega arith;
      tail = omega (arith, L.ends.2, L.below.0);
      remaining = omega (arith, L.ends.1, size_top_lem (length ks + 3));
    }
