-- What follows from the rules of pages and addresses, for every page size. A law about an arena speaks of that arena's
-- own size. Assumes nothing.
use Prim.Native.Nat.{ℕ, suc, ◌+◌, ◌-◌, ◌*◌, ◌/◌, ◌%◌, ◌^◌, ◌≤◌, ◌<◌, min}
use mathlib.Core.Path.{◌≡◌, refl, sym, ap, subst}
use mathlib.Core.Bool.{Bool, true, false, cond, ◌&&◌}
use native.Mathlib.Nat.{add-mul, div-add-mod', div-le_self, mul-le-mul_right, suc-mul}
use native.Mathlib.Omega.{arith}
use lib.Arith.{digits_div, digits_mod}
use lib.Bits.{bit_and, and_mask}
use lib.Count.{count_trailing_zeros}
use lib.Dec.{leb, ltb, eqb, lit<}
use borrow.Author.Tests.{le-leb, lt-leb, lt-ltb, leb-true, ltb-true, ltb-false, eqb-true, eqb-false, eq-eqb, ne_eqb}
use Rattle.limits.specs.Limits.{page_taken, arena_limit_for, arena_limit, each_size, page_least, page_most, null_outside, limit_within}
use Rattle.limits.specs.Refusals.{Asked, permitted}
use Rattle.numbers.proofs.Tests.{both, both_true, left_false, right_false, same_test}
use Rattle.memory_arena.specs.Address.{address_of, page_of, place_of}
use Rattle.memory_arena.specs.declared.Arena.{Arena}
use Rattle.memory_arena.specs.declared.Room.{Room}
use Rattle.std.specs.Prelude.{None, Ok}
use Rattle.memory_arena.specs.Pages.{capacity_of, lendable, standing, used_on, good_span, room_at, room_for}
use Rattle.memory_arena.specs.Calls.{sensible, reachable, said_allocated}

-- ---- addresses: the split and the sum are inverse

pub split : (s at : ℕ) → address_of s (page_of s at) (place_of s at) ≡ at
split s at = div-add-mod' at s

pub page_of_lem : (s page place : ℕ) → place < s → page_of s (address_of s page place) ≡ page
page_of_lem s page place h = digits_div page h

pub place_of_lem : (s page place : ℕ) → place < s → place_of s (address_of s page place) ≡ place
place_of_lem s page place h = digits_mod page h

-- how far a size that is taken shifts: its last zero bits, so that it is 2 to that power
pub shift_size : (s : ℕ) → page_taken s ≡ true → (2 ^ count_trailing_zeros 64 s ≡ s) × (count_trailing_zeros 64 s < 32)
unfolding count_trailing_zeros
shift_size =
    each_size (λ s. (2 ^ count_trailing_zeros 64 s ≡ s) × (count_trailing_zeros 64 s < 32))
    (refl, lit< tt) (refl, lit< tt) (refl, lit< tt) (refl, lit< tt) (refl, lit< tt)

-- so a shift and a mask split an address
pub shift_page : (s at : ℕ) → page_taken s ≡ true → at / 2 ^ count_trailing_zeros 64 s ≡ page_of s at
shift_page s at e = ap (λ (k : ℕ). at / k) (shift_size s e).0

pub mask_place : (s at : ℕ) → page_taken s ≡ true → bit_and at (s - 1) ≡ place_of s at
mask_place s at e = subst (λ (k : ℕ). bit_and at (k - 1) ≡ at % k) (shift_size s e).0 (and_mask at (count_trailing_zeros 64 s))

-- the page is at most the address
pub page_small : (s at : ℕ) → page_of s at ≤ at
page_small s at = div-le_self at s

-- page p ends where a later page q starts, or before
pub page_before : (s p q : ℕ) → p < q → p * s + s ≤ q * s
page_before s p q h = let k : suc p * s ≤ q * s = mul-le-mul_right s h in omega (arith, suc-mul p s)

-- ---- the state

pub record Standing (a : Arena) (len : ℕ) : Type 0 where
  pub exists : a.page * a.size < len
  pub in_page : a.used ≤ a.size
  pub in_memory : a.page * a.size + a.used ≤ len

pub standing_facts : (a : Arena) (len : ℕ) → standing a len ≡ true → Standing a len
unfolding standing
standing_facts a len e =
    let p = both _ _ e in
    let x : a.page * a.size < len = ltb-true _ _ p.0 in
    let u : a.used ≤ min a.size (len - a.page * a.size) = leb-true _ _ p.1 in
    record { exists = x; in_page = omega arith; in_memory = omega arith }

pub standing_made : (a : Arena) (len : ℕ) → Standing a len → standing a len ≡ true
unfolding standing
standing_made a len h =
    both_true _ _ (lt-ltb _ _ h.exists) (le-leb a.used (min a.size (len - a.page * a.size)) (omega arith))

-- ---- good spans

pub record Good (a : Arena) (at n : ℕ) : Type 0 where
  pub page_in : page_of a.size at ≤ a.page
  pub current : page_of a.size at ≡ a.page → place_of a.size at + n ≤ a.used
  pub earlier : page_of a.size at < a.page → place_of a.size at + n ≤ a.size

pub good_facts : (a : Arena) (at n : ℕ) → good_span a at n ≡ true → Good a at n
unfolding good_span
good_facts a at n e =
    let p = both _ _ e in
    let w : place_of a.size at + n ≤ used_on a (page_of a.size at) = leb-true _ _ p.1 in
    record {
      page_in = leb-true _ _ p.0;
      current = λ q. rw (eq-eqb (page_of a.size at) a.page q) at w;
      earlier = λ q. rw (ne_eqb (page_of a.size at) a.page (λ z. omega arith)) at w;
    }

pub good_made : (a : Arena) (at n : ℕ) → Good a at n → good_span a at n ≡ true
unfolding good_span
good_made a at n g =
    both_true _ _ (le-leb _ _ g.page_in) (le-leb _ _ (go (eqb (page_of a.size at) a.page) refl))
  where
    go : (t : Bool) → eqb (page_of a.size at) a.page ≡ t → place_of a.size at + n ≤ cond t a.used a.size
    go true e = g.current (eqb-true _ _ e)
    go false e = let z : (page_of a.size at ≡ a.page → ⊥) = eqb-false _ _ e in g.earlier (omega (arith, g.page_in))

-- a good span ends within the used end, and on its page
pub good-end : (a : Arena) (at n len : ℕ) → standing a len ≡ true → good_span a at n ≡ true
    → at + n ≤ a.page * a.size + a.used
good-end a at n len e f =
    let h = standing_facts a len e in
    let g = good_facts a at n f in
    go (ltb (page_of a.size at) a.page) refl h g
  where
    go : (t : Bool) → ltb (page_of a.size at) a.page ≡ t → Standing a len → Good a at n
        → at + n ≤ a.page * a.size + a.used
    go true e h g =
        let q : page_of a.size at < a.page = ltb-true _ _ e in
        omega (arith, split a.size at, page_before a.size (page_of a.size at) a.page q, g.earlier q)
    go false e h g =
        let k : a.page ≤ page_of a.size at = ltb-false _ _ e in
        let q : page_of a.size at ≡ a.page = omega (arith, g.page_in) in
        let z : page_of a.size at * a.size ≡ a.page * a.size = ap (λ (p : ℕ). p * a.size) q in
        omega (arith, split a.size at, g.current q)

-- so it lies in the memory
pub good-in : (a : Arena) (at n len : ℕ) → standing a len ≡ true → good_span a at n ≡ true → at + n ≤ len
good-in a at n len e f = omega (arith, good-end a at n len e f, (standing_facts a len e).in_memory)

pub good_page : (a : Arena) (at n len : ℕ) → standing a len ≡ true → good_span a at n ≡ true
    → place_of a.size at + n ≤ a.size
good_page a at n len e f = go (ltb (page_of a.size at) a.page) refl (standing_facts a len e) (good_facts a at n f)
  where
    go : (t : Bool) → ltb (page_of a.size at) a.page ≡ t → Standing a len → Good a at n
        → place_of a.size at + n ≤ a.size
    go true e h g = g.earlier (ltb-true _ _ e)
    go false e h g =
        let k : a.page ≤ page_of a.size at = ltb-false _ _ e in
        omega (arith, g.current (omega (arith, g.page_in)), h.in_page)

-- a shorter span at the same address is good too
pub good_shorter : (a : Arena) (at n k : ℕ) → k ≤ n → good_span a at n ≡ true → good_span a at k ≡ true
good_shorter a at n k h f =
    let g = good_facts a at n f in
    good_made a at k
    (record {
      page_in = g.page_in;
      current = λ q. omega (arith, g.current q);
      earlier = λ q. omega (arith, g.earlier q);
    })

-- a span that ends within the used end and on its page is good
pub good-below : (a : Arena) (at n : ℕ) → 0 < n → place_of a.size at + n ≤ a.size
    → at + n ≤ a.page * a.size + a.used → a.used ≤ a.size → good_span a at n ≡ true
good-below a at n z p q u =
    good_made a at n
    (record {
      page_in = inside (ltb a.page (page_of a.size at)) refl;
      current =
          λ e. let k : page_of a.size at * a.size ≡ a.page * a.size = ap (λ (x : ℕ). x * a.size) e in
          omega (arith, split a.size at);
      earlier = λ e. p;
    })
  where
    inside : (t : Bool) → ltb a.page (page_of a.size at) ≡ t → page_of a.size at ≤ a.page
    inside true e =
        let h : a.page < page_of a.size at = ltb-true _ _ e in
        absurd (omega (arith, split a.size at, page_before a.size a.page (page_of a.size at) h))
    inside false e = ltb-false _ _ e

-- ---- room

-- what an allocation gives: a span from the used end on, on one page, that the state after it takes in
pub record Placed (a : Arena) (len n at : ℕ) (b : Arena) : Type 0 where
  pub above : a.page * a.size + a.used ≤ at
  pub end : b.page * b.size + b.used ≡ at + n
  pub page_on : at ≡ b.page * b.size + (b.used - n)
  pub wide : n ≤ b.used
  pub after : Standing b len
  pub page_up : a.page ≤ b.page

-- what holds of the rest of the current page and of the next page's front holds of what is given
room_cases : (P : ℕ → Arena → Type 0) (a : Arena) (len n at : ℕ) (b : Arena)
    → (a.used + n ≤ capacity_of a.size len a.page
    → P (address_of a.size a.page a.used) (record { page = a.page; used = a.used + n; size = a.size }))
    → (n ≤ capacity_of a.size len (a.page + 1)
    → P (address_of a.size (a.page + 1) 0) (record { page = a.page + 1; used = n; size = a.size }))
    → room_for a len n ≡ room_at at b → P at b
unfolding room_for
room_cases P a len n at b here next f =
    go (leb (a.used + n) (capacity_of a.size len a.page)) refl
    (leb n (capacity_of a.size len (a.page + 1))) refl f
  where
    same : (x : ℕ) (c : Arena) → P x c → room_at x c ≡ room_at at b → P at b
    same x c p e =
        let r : ◌≡◌ {A = Room} (record { at = x; after = c }) (record { at = at; after = b }) = cc in
        let u : x ≡ at = ap (λ (r : Room). r.at) r in
        let v : c ≡ b = ap (λ (r : Room). r.after) r in
        subst (λ (y : ℕ). P y b) u (subst (λ (d : Arena). P x d) v p)

    go : (t : Bool) → leb (a.used + n) (capacity_of a.size len a.page) ≡ t
        → (u : Bool) → leb n (capacity_of a.size len (a.page + 1)) ≡ u
        → cond t (room_at (address_of a.size a.page a.used)
        (record { page = a.page; used = a.used + n; size = a.size }))
        (cond u (room_at (address_of a.size (a.page + 1) 0) (record { page = a.page + 1; used = n; size = a.size }))
        None) ≡ room_at at b
        → P at b
    go true p u q f = same _ _ (here (leb-true _ _ p)) f
    go false p true q f = same _ _ (next (leb-true _ _ q)) f
    go false p false q f = let c : ◌≡◌ {A = ℕ} 0 1 = cc in absurd (omega arith)

-- a page keeps its size
pub room_size : (a : Arena) (len n at : ℕ) (b : Arena) → room_for a len n ≡ room_at at b → b.size ≡ a.size
room_size a len n at b f = room_cases (λ x c. c.size ≡ a.size) a len n at b (λ h. refl) (λ h. refl) f

pub room_facts : (a : Arena) (len n at : ℕ) (b : Arena) → 0 < n → standing a len ≡ true → room_for a len n ≡ room_at at b
    → Placed a len n at b
room_facts a len n at b z e f =
    let h = standing_facts a len e in
    let k : a.page * a.size + a.size ≤ (a.page + 1) * a.size =
    page_before a.size a.page (a.page + 1) (omega arith) in
    room_cases (λ x c. Placed a len n x c) a len n at b
    (λ (c : a.used + n ≤ min a.size (len - a.page * a.size)). record {
      above = omega arith;
      end = omega arith;
      page_on = omega arith;
      wide = omega arith;
      after = record { exists = h.exists; in_page = omega arith; in_memory = omega (arith, h.exists) };
      page_up = omega arith;
    })
    (λ (c : n ≤ min a.size (len - (a.page + 1) * a.size)). record {
      above = omega (arith, h.in_page);
      end = omega arith;
      page_on = omega arith;
      wide = omega arith;
      after = record { exists = omega arith; in_page = omega arith; in_memory = omega arith };
      page_up = omega arith;
    }) f

-- the span given out lies in the memory, and the state after it is one of that memory
pub room_in : (a : Arena) (len n at : ℕ) (b : Arena) → 0 < n → standing a len ≡ true → room_for a len n ≡ room_at at b
    → at + n ≤ len
room_in a len n at b z e f = let r = room_facts a len n at b z e f in omega (arith, r.end, r.after.in_memory)

pub room-standing : (a : Arena) (len n at : ℕ) (b : Arena) → 0 < n → standing a len ≡ true → room_for a len n ≡ room_at at b
    → standing b len ≡ true
room-standing a len n at b z e f = standing_made b len (room_facts a len n at b z e f).after

-- ---- the state check

pub record Sensible (a : Arena) (len : ℕ) : Type 0 where
  pub sized : page_taken a.size ≡ true
  pub some_bytes : ltb 0 len ≡ true
  pub short : leb len (arena_limit_for a.size) ≡ true
  pub stands : standing a len ≡ true

pub sensible_facts : (a : Arena) (len : ℕ) → sensible a len ≡ true → Sensible a len
unfolding sensible
sensible_facts a len e =
    let o = both (page_taken a.size) (lendable (arena_limit_for a.size) len && standing a len) e in
    let p = both (lendable (arena_limit_for a.size) len) (standing a len) o.1 in
    let q = both (ltb 0 len) (leb len (arena_limit_for a.size)) p.0 in
    record { sized = o.0; some_bytes = q.0; short = q.1; stands = p.1 }

pub sensible_made : (a : Arena) (len : ℕ) → Sensible a len → sensible a len ≡ true
unfolding sensible
sensible_made a len h = both_true _ _ h.sized (both_true _ _ (both_true _ _ h.some_bytes h.short) h.stands)

-- what the state check says of the lent length, whatever the page size
pub sensible_short : (a : Arena) (len : ℕ) → sensible a len ≡ true → len ≤ arena_limit
sensible_short a len e =
    let h = sensible_facts a len e in
    let k : len ≤ arena_limit_for a.size = leb-true _ _ h.short in
    omega (arith, limit_within a.size h.sized)

-- and of the page size
pub sensible_wide : (a : Arena) (len : ℕ) → sensible a len ≡ true → 65536 ≤ a.size
sensible_wide a len e = page_least a.size (sensible_facts a len e).sized

-- the state after an allocation passes the check too
pub room-sensible : (a : Arena) (len n at : ℕ) (b : Arena) → 0 < n → sensible a len ≡ true → room_for a len n ≡ room_at at b
    → sensible b len ≡ true
room-sensible a len n at b z e f =
    let h = sensible_facts a len e in
    let q = sym (room_size a len n at b f) in
    sensible_made b len
    (record {
      sized = subst (λ (s : ℕ). page_taken s ≡ true) q h.sized;
      some_bytes = h.some_bytes;
      short = subst (λ (s : ℕ). leb len (arena_limit_for s) ≡ true) q h.short;
      stands = room-standing a len n at b z h.stands f;
    })

pub sensible_unsized : (a : Arena) (len : ℕ) → page_taken a.size ≡ false → sensible a len ≡ false
unfolding sensible
sensible_unsized a len z = rw z

-- a page that no arena has
pub sensible_page : (a : Arena) (len : ℕ) → sensible a len ≡ true → a.page < 65535
sensible_page a len e = go (ltb a.page 65535) refl (sensible_facts a len e)
  where
    go : (t : Bool) → ltb a.page 65535 ≡ t → Sensible a len → a.page < 65535
    go true h s = ltb-true _ _ h
    go false h s =
        let p = page_least a.size s.sized in
        let q : 65535 * a.size ≤ a.page * a.size = mul-le-mul_right a.size (ltb-false _ _ h) in
        absurd (omega (arith, sensible_short a len e, (standing_facts a len s.stands).exists))

pub sensible_past : (a : Arena) (len : ℕ) → 65535 ≤ a.page → sensible a len ≡ false
sensible_past a len h = go (sensible a len) refl
  where
    go : (t : Bool) → sensible a len ≡ t → t ≡ false
    go false e = refl
    go true e = absurd (omega (arith, sensible_page a len e))

-- what the state check bounds: every sum on the way to room fits
pub record Bounded (a : Arena) (len : ℕ) : Type 0 where
  pub stands : Standing a len
  pub short : len ≤ arena_limit
  pub size_most : a.size ≤ 1048576
  pub page_most : a.page < 65535
  pub next_page : (a.page + 1) * a.size ≤ arena_limit + 1048576

pub sensible_bounds : (a : Arena) (len : ℕ) → sensible a len ≡ true → Bounded a len
sensible_bounds a len e =
    let h = sensible_facts a len e in
    let s = standing_facts a len h.stands in
    let l = sensible_short a len e in
    let m : a.size ≤ 1048576 = page_most a.size h.sized in
    record {
      stands = s;
      short = l;
      size_most = m;
      page_most = sensible_page a len e;
      next_page = omega (arith, s.exists, add-mul a.page 1 a.size);
    }

-- the check as code makes it
pub sensible_code : (a : Arena) (len : ℕ) → page_taken a.size ≡ true
    → sensible a len
    ≡ (leb len (4294967296 - a.size) && (ltb (a.page * a.size) len && leb a.used (capacity_of a.size len a.page)))
unfolding standing
sensible_code a len z = same_test _ _ from to
  where
    limit : arena_limit_for a.size ≡ 4294967296 - a.size
    limit = omega (arith, null_outside a.size z)

    to : (leb len (4294967296 - a.size) && standing a len) ≡ true → sensible a len ≡ true
    to e =
        let p = both (leb len (4294967296 - a.size)) (standing a len) e in
        sensible_made a len
        (record {
          sized = z;
          some_bytes = lt-ltb 0 len (omega (arith, (standing_facts a len p.1).exists));
          short = subst (λ (k : ℕ). leb len k ≡ true) (sym limit) p.0;
          stands = p.1;
        })

    from : sensible a len ≡ true → (leb len (4294967296 - a.size) && standing a len) ≡ true
    from e =
        let h = sensible_facts a len e in
        both_true _ _ (subst (λ (k : ℕ). leb len k ≡ true) limit h.short) h.stands

-- ---- the test for a good span as code makes it

pub good_past : (a : Arena) (at n : ℕ) → a.page < page_of a.size at → good_span a at n ≡ false
unfolding good_span
good_past a at n h = left_false _ _ (lt-leb (page_of a.size at) a.page h)

pub good_over : (a : Arena) (at n : ℕ) → used_on a (page_of a.size at) < place_of a.size at → good_span a at n ≡ false
unfolding good_span
good_over a at n h =
    right_false (leb (page_of a.size at) a.page) _
    (lt-leb (place_of a.size at + n) (used_on a (page_of a.size at)) (omega arith))

pub good-within : (a : Arena) (at n : ℕ) → page_of a.size at ≤ a.page
    → place_of a.size at ≤ used_on a (page_of a.size at)
    → good_span a at n ≡ leb n (used_on a (page_of a.size at) - place_of a.size at)
unfolding good_span
good-within a at n h k =
    rw (le-leb _ _ h)
    (same_test _ _
    (λ t. le-leb n (used_on a (page_of a.size at) - place_of a.size at)
    (let w : place_of a.size at + n ≤ used_on a (page_of a.size at) = leb-true _ _ t in omega arith))
    (λ t. le-leb (place_of a.size at + n) (used_on a (page_of a.size at))
    (let w : n ≤ used_on a (page_of a.size at) - place_of a.size at = leb-true _ _ t in omega arith)))

-- ---- the calls, case by case

-- a span that may be touched lies in the memory
pub reach_in : (a : Arena) (len at n : ℕ) → reachable a len at n ≡ true → at + n ≤ len
unfolding reachable
reach_in a len at n e =
    let p = both (sensible a len) (good_span a at n) e in
    good-in a at n len (sensible_facts a len p.0).stands p.1

-- room is no refusal
pub room-said : (a : Arena) (len n : ℕ) (q : Asked) → permitted q (said_allocated (Ok (room_for a len n))) ≡ true
unfolding room_for
room-said a len n q =
    go (leb (a.used + n) (capacity_of a.size len a.page)) (leb n (capacity_of a.size len (a.page + 1)))
  where
    go : (t u : Bool)
        → permitted q
        (said_allocated
        (Ok (cond t (room_at (address_of a.size a.page a.used)
        (record { page = a.page; used = a.used + n; size = a.size }))
        (cond u (room_at (address_of a.size (a.page + 1) 0) (record { page = a.page + 1; used = n; size = a.size }))
        None))))
        ≡ true
    go true u = refl
    go false true = refl
    go false false = refl
