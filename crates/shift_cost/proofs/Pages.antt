-- Pages of any size that pieces are laid on, one behind the other: how far the used end is, and that where enough was
-- lent there is always room. Assumes nothing.
use Prim.Native.Nat.{ℕ, zero, suc, ◌+◌, ◌-◌, ◌*◌, ◌/◌, ◌%◌, ◌≤◌, ◌<◌}
use mathlib.Core.Path.{◌≡◌, refl, ap}
use mathlib.Core.Bool.{Bool, true, false, cond}
use native.Mathlib.Nat.{le_trans, mul-le-mul_left, mul-le-mul_right, mul-add, mul-sub, mul-zero, mul_comm, suc-mul}
use native.Mathlib.Nat.{le-div_iff_mul-le, div-lt_iff_lt-mul, div-mul-le_self, div-add-mod', mod-lt}
use native.Mathlib.Omega.{arith}
use lib.Dec.{leb}
use borrow.Author.Tests.{leb-true, leb-false}
use Rattle.memory_arena.specs.declared.Arena.{Arena}
use Rattle.memory_arena.specs.Address.{address_of}
use Rattle.memory_arena.specs.declared.Room.{Room}
use Rattle.memory_arena.specs.Pages.{MaybeRoom, room_at, capacity_of, room_for}
use Rattle.lending.specs.Lending.{with_tails}
use Rattle.std.specs.Prelude.{None}

-- ---- an allocation

-- behind the used end of the current page, and at the front of the next
abbrev here_on : Arena → ℕ → Arena
here_on a n = record { page = a.page; used = a.used + n; size = a.size }

abbrev next-on : Arena → ℕ → Arena
next-on a n = record { page = a.page + 1; used = n; size = a.size }

-- by the two tests: whether it fits the one, whether it fits the other
abbrev laying : Bool → Bool → Arena → ℕ → MaybeRoom
laying x y a n =
    cond x (room_at (address_of a.size a.page a.used) (here_on a n))
    (cond y (room_at (address_of a.size (a.page + 1) 0) (next-on a n)) None)

module _ (a : Arena) (len n : ℕ) where
  abbrev fits_here : Bool
  fits_here = leb (a.used + n) (capacity_of a.size len a.page)

  abbrev fits_next : Bool
  fits_next = leb n (capacity_of a.size len (a.page + 1))

  -- at the used end; or on the next page, only where the current one is whole and hasn't the room
  pub laid : (P : Arena → Type 0) (at : ℕ) (b : Arena) → 0 < n → room_for a len n ≡ room_at at b → P (here_on a n)
      → (a.size < a.used + n → P (next-on a n)) → P b
  unfolding room_for
  laid P at b some f here next = go fits_here refl fits_next refl f
    where
      skipped : capacity_of a.size len a.page < a.used + n → n ≤ capacity_of a.size len (a.page + 1)
          → a.size < a.used + n
      skipped f g = omega (arith, suc-mul a.page a.size)

      after : (k : ℕ) (c : Arena) → room_at k c ≡ room_at at b → c ≡ b
      after k c e =
          ap (λ (r : Room). r.after)
          (let r : ◌≡◌ {A = Room} (record { at = k; after = c }) (record { at = at; after = b }) = cc in r)

      go : (x : Bool) → fits_here ≡ x → (y : Bool) → fits_next ≡ y → laying x y a n ≡ room_at at b → P b
      go true p y q f = rw (← after _ _ f) here
      go false p true q f = rw (← after _ _ f) (next (skipped (leb-false _ _ p) (leb-true _ _ q)))
      go false p false q f = let z : ◌≡◌ {A = ℕ} 0 1 = cc in absurd (omega arith)

  -- no room: neither on the current page nor on the next
  pub unlaid : room_for a len n ≡ None
      → (capacity_of a.size len a.page < a.used + n) × (capacity_of a.size len (a.page + 1) < n)
  unfolding room_for
  unlaid f = go fits_here refl fits_next refl f
    where
      go : (x : Bool) → fits_here ≡ x → (y : Bool) → fits_next ≡ y → laying x y a n ≡ None
          → (capacity_of a.size len a.page < a.used + n) × (capacity_of a.size len (a.page + 1) < n)
      go true p y q f = let z : ◌≡◌ {A = ℕ} 0 1 = cc in absurd (omega arith)
      go false p true q f = let z : ◌≡◌ {A = ℕ} 0 1 = cc in absurd (omega arith)
      go false p false q f = (leb-false _ _ p, leb-false _ _ q)

-- ---- pieces by their bytes

-- t bytes in all, no piece over tail + 1: so far is the used end, and a page was left behind only where they didn't fit
-- one
pub record Holds (tail : ℕ) (a : Arena) (t : ℕ) : Type 0 where
  pub ends : a.page * a.size + a.used ≤ t + tail * a.page
  pub first : 0 < a.page → a.size < t

pub holds_more : {tail : ℕ} {a : Arena} {t u : ℕ} → t ≤ u → Holds tail a t → Holds tail a u
holds_more l H = record { ends = omega (arith, H.ends); first = λ z. le_trans (H.first z) l }

module _ (tail : ℕ) (a : Arena) (len n t : ℕ) (some : 0 < n) (small : n ≤ tail + 1) (H : Holds tail a t) where
  pub holds-room : (at : ℕ) (b : Arena) → room_for a len n ≡ room_at at b → Holds tail b (t + n)
  holds-room at b f =
      laid a len n (λ b. Holds tail b (t + n)) at b some f
      (record { ends = omega (arith, H.ends); first = λ z. omega (arith, H.first z) })
      (λ o. record {
        ends = omega (arith, H.ends, suc-mul a.page a.size, mul-add tail a.page 1);
        first = λ z. first o a.page refl;
      })
    where
      first : a.size < a.used + n → (p : ℕ) → a.page ≡ p → a.size < t + n
      first o zero e = omega (arith, H.ends, ap (λ (q : ℕ). tail * q) e, mul-zero tail)
      first o (suc p) e = omega (arith, H.first (omega arith))

  pub never_full : (total : ℕ) → n ≤ a.size → tail < a.size → t + n ≤ total → with_tails a.size tail total ≤ len
      → room_for a len n ≡ None → ⊥
  unfolding with_tails
  never_full total w d m l f = let u = unlaid a len n f in short (leb total a.size) refl l u.0 u.1
    where
      -- the pages left behind are full but for their tails
      pages : a.page ≤ total / (a.size - tail)
      pages =
          (le-div_iff_mul-le {k = a.size - tail} {x = a.page} {y = total} (omega arith)).1
          (omega (arith, H.ends, mul-sub a.page a.size tail, mul_comm tail a.page))

      tails : tail * (a.page + 1) ≤ tail * (total / (a.size - tail) + 1)
      tails = mul-le-mul_left tail (omega (arith, pages))

      short : (b : Bool) → leb total a.size ≡ b → cond b total (total + tail * (total / (a.size - tail) + 1)) ≤ len
          → capacity_of a.size len a.page < a.used + n → capacity_of a.size len (a.page + 1) < n → ⊥
      short true e l p q = one a.page refl
        where
          one : (x : ℕ) → a.page ≡ x → ⊥
          one zero z =
              omega (
                arith,
                leb-true total a.size e,
                H.ends,
                ap (λ (q : ℕ). tail * q) z,
                mul-zero tail,
                ap (λ (q : ℕ). q * a.size) z,
              )
          one (suc x) z = omega (arith, leb-true total a.size e, H.first (omega arith))
      short false e l p q = omega (arith, H.ends, tails, suc-mul a.page a.size, mul-add tail a.page 1)

-- ---- pieces by their number

-- k pieces of at most r bytes: those on each page left behind are at least as many as a page can hold of the largest
pub record Lays (r : ℕ) (a : Arena) (k : ℕ) : Type 0 where
  pub here : ℕ
  pub before : a.page * (a.size / r) + here ≤ k
  pub used : a.used ≤ here * r

module _ (r : ℕ) (a : Arena) (len n k : ℕ) (some : 0 < n) (small : n ≤ r) (fits : r ≤ a.size) (L : Lays r a k) where
  pub lays-room : (at : ℕ) (b : Arena) → room_for a len n ≡ room_at at b → Lays r b (k + 1)
  lays-room at b f =
      laid a len n (λ b. Lays r b (k + 1)) at b some f
      (record {
        here = L.here + 1;
        before = omega (arith, L.before);
        used = omega (arith, L.used, suc-mul L.here r);
      })
      (λ o. record {
        here = 1;
        before = omega (arith, L.before, full o, suc-mul a.page (a.size / r));
        used = omega (arith, suc-mul 0 r);
      })
    where
      full : a.size < a.used + n → a.size / r ≤ L.here
      full o =
          omega (
            arith,
            (div-lt_iff_lt-mul {k = r} {x = a.size} {y = L.here + 1} (omega arith)).1
                (omega (arith, L.used, suc-mul L.here r)),
          )

  pub never_crammed : (most : ℕ) → k + 1 ≤ most
      → (most - 1) / (a.size / r) * a.size + ((most - 1) % (a.size / r) + 1) * r ≤ len → room_for a len n ≡ None → ⊥
  never_crammed most m l f = let u = unlaid a len n f in go (leb q a.page) refl u.0 u.1
    where
      q : ℕ
      q = (most - 1) / (a.size / r)

      holds-one : 0 < a.size / r
      holds-one = (le-div_iff_mul-le {k = r} {x = 1} {y = a.size} (omega arith)).1 (omega arith)

      parts : (most - 1) / (a.size / r) * (a.size / r) + (most - 1) % (a.size / r) ≡ most - 1
      parts = div-add-mod' (most - 1) (a.size / r)

      rest : (most - 1) % (a.size / r) < a.size / r
      rest = mod-lt (most - 1) holds-one

      row : ((most - 1) % (a.size / r) + 1) * r ≤ a.size
      row =
          le_trans (mul-le-mul_right {m = (most - 1) % (a.size / r) + 1} {n = a.size / r} r (omega (arith, rest)))
          (div-mul-le_self a.size r)

      go : (b : Bool) → leb q a.page ≡ b → capacity_of a.size len a.page < a.used + n
          → capacity_of a.size len (a.page + 1) < n → ⊥
      go true z p o = last (leb a.page q) refl
        where
          last : (b : Bool) → leb a.page q ≡ b → ⊥
          last true y =
              let w : a.page ≡ (most - 1) / (a.size / r) =
              omega (arith, leb-true q a.page z, leb-true a.page q y) in
              omega (
                arith,
                p,
                l,
                row,
                L.used,
                suc-mul ((most - 1) % (a.size / r)) r,
                ap (λ (x : ℕ). x * a.size) w,
                mul-le-mul_right {m = L.here} {n = (most - 1) % (a.size / r)} r
                    (omega (arith, L.before, m, parts, ap (λ (x : ℕ). x * (a.size / r)) w)),
              )
          last false y =
              omega (
                arith,
                L.before,
                m,
                parts,
                rest,
                suc-mul ((most - 1) / (a.size / r)) (a.size / r),
                mul-le-mul_right {m = suc ((most - 1) / (a.size / r))} {n = a.page} (a.size / r)
                    (leb-false a.page q y),
              )
      go false z p o =
          omega (
            arith,
            o,
            l,
            suc-mul a.page a.size,
            suc-mul ((most - 1) % (a.size / r)) r,
            mul-le-mul_right {m = suc a.page} {n = (most - 1) / (a.size / r)} a.size (leb-false q a.page z),
          )
