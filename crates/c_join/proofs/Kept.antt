-- What a join keeps of the first store: that its state is whole, and its seed; all of it where no lane went across.
-- Assumes nothing.
use Prim.Native.Nat.{ℕ, ◌+◌, ◌≤◌, ◌<◌, ◌^◌}
use mathlib.Core.Path.{◌≡◌, refl, sym, ap, subst, ◌∙◌}
use mathlib.Core.Bool.{Bool, true, false, cond, ◌&&◌}
use mathlib.Core.List.{List, [], ◌∷◌}
use native.Mathlib.Omega.{arith}
use lib.Dec.{leb}
use lib.ListN.{length}
use Rattle.numbers.proofs.Tests.{both}
use Rattle.spans.specs.Span.{overwrite}
use Rattle.store_state.specs.declared.State.{State}
use Rattle.store_append.specs.declared.Appended.{Appended}
use Rattle.store_append.specs.declared.Appended.TheVariants.{Accepted, Declined}
use Rattle.store_look.specs.Look.{checked}
use Rattle.store_append.specs.Append.{Out as AppendOut}
use Rattle.store.proofs.Promises.{promises as store_promises}
use Rattle.history.specs.History.{World, append_in}
use Rattle.join.specs.Join.{store, Told, lane, broken, told_by, Out, stopped, on_appended, join_lanes, join_of, lanes_in}
use Rattle.state_area.specs.Area.{Fits}
use Rattle.state_area.proofs.Promises.{promises as area_promises}
use Rattle.c_told.proofs.Seed.{seed_kept}
use Rattle.c_join.specs.Promises.{state_in}

-- the first store as a join leaves it
abbrev pub leaves : Out → World
leaves o = store (state_in o.answer) o.memory

-- a refused append leaves the store as it was
refused_same : (w : World) (name bytes : List ℕ) (st : State) (n : ℕ) → (append_in w name bytes).answer ≡ Declined st n
    → store st (append_in w name bytes).memory ≡ w
refused_same w name bytes st n e =
    let q = store_promises.append_refused w.state w.memory name bytes st n e in
    let a : Declined st n ≡ Declined w.state n = sym e ∙ ap (λ (o : AppendOut). o.answer) q in
    let s : st ≡ w.state = cc in
    (λ i. store (s i) (q i).memory)

-- ---- lane by lane

abbrev Good : World → Type 0
Good w = (checked w.state w.memory ≡ true) × (w.state.seed < 2 ^ 32)

lanes_keep : (ls : List Told) (w : World) (k : ℕ) (s : List ℕ) → Good w → Good (leaves (join_lanes ls w k s))
unfolding join_lanes
lanes_keep [] w k s g = g
lanes_keep (broken n ∷ ls) w k s g = g
lanes_keep (lane a ∷ ls) w k s g =
    go (leb (length a.bytes) (length s)) o.answer refl
    (λ next. lanes_keep ls next (k + 1) (overwrite 0 a.bytes s))
  where
    o : AppendOut
    o = append_in w a.name a.bytes

    go : (b : Bool) (r : Appended) → o.answer ≡ r
        → ((next : World) → Good next → Good (leaves (join_lanes ls next (k + 1) (overwrite 0 a.bytes s))))
        → Good (leaves (cond b (on_appended r o.memory k (overwrite 0 a.bytes s)
        (λ next. join_lanes ls next (k + 1) (overwrite 0 a.bytes s))) (stopped 8 w k s)))
    go true (Accepted st) e ih =
        let c = seed_kept w.state w.memory a.name a.bytes st e in
        ih (store st o.memory)
        (store_promises.append-whole w.state w.memory a.name a.bytes st e, omega (arith, g.1, c))
    go true (Declined st n) e ih = subst Good (sym (refused_same w a.name a.bytes st n e)) g
    go false r e ih = g

-- no fewer lanes than before
lanes_grow : (ls : List Told) (w : World) (k : ℕ) (s : List ℕ) → k ≤ lanes_in (join_lanes ls w k s).answer
unfolding join_lanes
lanes_grow [] w k s = omega arith
lanes_grow (broken n ∷ ls) w k s = omega arith
lanes_grow (lane a ∷ ls) w k s =
    go (leb (length a.bytes) (length s)) o.answer
    (λ next. lanes_grow ls next (k + 1) (overwrite 0 a.bytes s))
  where
    o : AppendOut
    o = append_in w a.name a.bytes

    go : (b : Bool) (r : Appended)
        → ((next : World) → k + 1 ≤ lanes_in (join_lanes ls next (k + 1) (overwrite 0 a.bytes s)).answer)
        → k ≤ lanes_in (cond b (on_appended r o.memory k (overwrite 0 a.bytes s)
        (λ next. join_lanes ls next (k + 1) (overwrite 0 a.bytes s))) (stopped 8 w k s)).answer
    go true (Accepted st) ih = let h = ih (store st o.memory) in omega (arith, h)
    go true (Declined st n) ih = omega arith
    go false r ih = omega arith

-- none more: the store is as it was
lanes_none : (ls : List Told) (w : World) (k : ℕ) (s : List ℕ) → lanes_in (join_lanes ls w k s).answer ≡ k
    → leaves (join_lanes ls w k s) ≡ w
unfolding join_lanes
lanes_none [] w k s z = refl
lanes_none (broken n ∷ ls) w k s z = refl
lanes_none (lane a ∷ ls) w k s z = go (leb (length a.bytes) (length s)) o.answer refl z
  where
    o : AppendOut
    o = append_in w a.name a.bytes

    go : (b : Bool) (r : Appended) → o.answer ≡ r
        → lanes_in (cond b (on_appended r o.memory k (overwrite 0 a.bytes s)
        (λ next. join_lanes ls next (k + 1) (overwrite 0 a.bytes s))) (stopped 8 w k s)).answer ≡ k
        → leaves (cond b (on_appended r o.memory k (overwrite 0 a.bytes s)
        (λ next. join_lanes ls next (k + 1) (overwrite 0 a.bytes s))) (stopped 8 w k s)) ≡ w
    go true (Accepted st) e z =
        let h = lanes_grow ls (store st o.memory) (k + 1) (overwrite 0 a.bytes s) in
        absurd (omega (arith, h, z))
    go true (Declined st n) e z = refused_same w a.name a.bytes st n e
    go false r e z = refl

-- ---- the call

pub join_fits : (w v : World) (s : List ℕ) → Fits w.state → Fits (leaves (join_of w v s)).state
unfolding join_of
join_fits w v s f = go (checked w.state w.memory && checked v.state v.memory) refl
  where
    go : (b : Bool) → (checked w.state w.memory && checked v.state v.memory) ≡ b
        → Fits (leaves (cond b (join_lanes (told_by v) w 0 s) (stopped 2 w 0 s))).state
    go true e =
        let c = (both (checked w.state w.memory) (checked v.state v.memory) e).0 in
        let o = join_lanes (told_by v) w 0 s in
        let g = lanes_keep (told_by v) w 0 s (c, f.seed_fits) in
        area_promises.whole-fits (state_in o.answer) o.memory g.0 g.1
    go false e = f

pub join_none : (w v : World) (s : List ℕ) → lanes_in (join_of w v s).answer ≡ 0 → leaves (join_of w v s) ≡ w
unfolding join_of
join_none w v s = go (checked w.state w.memory && checked v.state v.memory)
  where
    go : (b : Bool) → lanes_in (cond b (join_lanes (told_by v) w 0 s) (stopped 2 w 0 s)).answer ≡ 0
        → leaves (cond b (join_lanes (told_by v) w 0 s) (stopped 2 w 0 s)) ≡ w
    go true z = lanes_none (told_by v) w 0 s z
    go false z = refl
