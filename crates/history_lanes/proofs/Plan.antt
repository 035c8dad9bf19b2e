-- The dry run of an append, from the numbers alone, comes to the arena's state that the append leaves, and to none
-- where it does. Assumes nothing.
use Prim.Native.Nat.{ℕ, zero, suc, ◌+◌, ◌-◌, ◌≤◌}
use mathlib.Core.Path.{◌≡◌, refl, sym, ◌∙◌}
use mathlib.Core.Bool.{Bool, true, false, cond}
use mathlib.Core.Option.{Option, some}
use mathlib.Core.List.{List, [], ◌∷◌}
use native.Mathlib.Omega.{arith}
use lib.Dec.{eqb}
use lib.ListN.{length}
use borrow.Author.Tests.{eqb-true, eqb-false, ne_eqb}
use Rattle.limits.specs.Limits.{fresh_number, link_size}
use Rattle.numbers.specs.LittleEndian.{le_bytes}
use Rattle.numbers.proofs.Tests.{cond-false}
use Rattle.spans.specs.Span.{overwrite}
use Rattle.spans.proofs.Laws.{length-overwrite}
use Rattle.memory_arena.specs.declared.Arena.{Arena}
use Rattle.memory_arena.specs.Pages.{MaybeRoom, room_for}
use Rattle.expull_header.specs.declared.Header.{Header}
use Rattle.expull_header.specs.Header.{block_size}
use Rattle.expull_header.proofs.Laws.{size_pos}
use Rattle.expull_append.specs.Append.{Writing, writing, next_wide, linked, header_with, with_block, on_room, take_block}
use Rattle.expull_append.specs.Append.{ready, filled, and_then, appended, on_room_dry, planned, plan_of}
use Rattle.history_lanes.specs.Lane.{arena_of}
use Rattle.std.specs.Prelude.{Some, None}

-- ---- as many turns as there are bytes are enough

dry_same : (r : MaybeRoom) (f g : Arena → Option Arena) → ((a : Arena) → f a ≡ g a) → on_room_dry r f ≡ on_room_dry r g
dry_same (Some r) f g e = e r.after
dry_same None f g e = refl

turns_same : (t t' len : ℕ) (a : Arena) (b n : ℕ) → n ≤ t → n ≤ t' → planned t len a b n ≡ planned t' len a b n
unfolding planned
turns_same zero zero len a b n h k = refl
turns_same zero (suc t') len a b n h k = let z : n ≡ 0 = omega arith in rw z
turns_same (suc t) zero len a b n h k = let z : n ≡ 0 = omega arith in rw z
turns_same (suc t) (suc t') len a b n h k =
    go (eqb n 0) refl (λ a' p q. turns_same t t' len a' (b + 1) (n - block_size (b + 1)) p q)
  where
    go : (s : Bool) → eqb n 0 ≡ s
        → ((a' : Arena) → n - block_size (b + 1) ≤ t → n - block_size (b + 1) ≤ t'
        → planned t len a' (b + 1) (n - block_size (b + 1)) ≡ planned t' len a' (b + 1) (n - block_size (b + 1)))
        → cond s (some a) (on_room_dry (room_for a len (block_size (b + 1) + link_size))
        (λ a'. planned t len a' (b + 1) (n - block_size (b + 1))))
        ≡ cond s (some a) (on_room_dry (room_for a len (block_size (b + 1) + link_size))
        (λ a'. planned t' len a' (b + 1) (n - block_size (b + 1))))
    go true e f = refl
    go false e f =
        dry_same (room_for a len (block_size (b + 1) + link_size)) (λ a'. planned t len a' (b + 1) (n - block_size (b + 1)))
        (λ a'. planned t' len a' (b + 1) (n - block_size (b + 1)))
        (λ a'. f a' (omega (arith, size_pos (b + 1))) (omega (arith, size_pos (b + 1))))

-- a turn with a byte waiting
turn-takes : (t len : ℕ) (a : Arena) (b n : ℕ) → planned (suc t) len a b (suc n)
    ≡ on_room_dry (room_for a len (block_size (b + 1) + link_size))
    (λ a'. planned t len a' (b + 1) (suc n - block_size (b + 1)))
unfolding planned
turn-takes t len a b n = cond-false _ _ _ (ne_eqb (suc n) 0 (λ z. omega arith))

-- ---- byte by byte

length-linked : (v : ℕ) (h : Header) (m : List ℕ) → length (linked v h m) ≡ length m
unfolding linked
length-linked v h m = go (eqb h.number fresh_number)
  where
    go : (t : Bool) → length (cond t m (overwrite h.tail (le_bytes link_size v) m)) ≡ length m
    go true = refl
    go false = length-overwrite h.tail (le_bytes link_size v) m

plan_run : (bs : List ℕ) (w : Writing)
    → plan_of (length w.memory) w.arena w.header (length bs) ≡ arena_of (appended bs w)
unfolding plan_of appended ready filled header_with
plan_run [] w = let z : 0 - w.header.remaining ≡ 0 = omega arith in rw z
plan_run (b ∷ bs) w = go (eqb w.header.remaining 0) refl (plan_run bs)
  where
    n : ℕ
    n = length bs

    goal : Option Writing → Type 0
    goal o =
        planned (suc n - w.header.remaining) (length w.memory) w.arena w.header.number
        (suc n - w.header.remaining)
        ≡ arena_of (and_then o (λ v. appended bs (filled (b ∷ []) v)))

    taken : ((v : Writing) → plan_of (length v.memory) v.arena v.header n ≡ arena_of (appended bs v))
        → (r : MaybeRoom)
        → on_room_dry r (λ a'. planned n (length w.memory) a' (w.header.number + 1)
        (suc n - block_size (w.header.number + 1)))
        ≡ arena_of (and_then (on_room r w) (λ v. appended bs (filled (b ∷ []) v)))
    taken on (Some r) =
        let s : ℕ = block_size (w.header.number + 1) in
        let e : n - (s - 1) ≡ suc n - s = omega (arith, size_pos (w.header.number + 1)) in
        let l : length (overwrite r.at (b ∷ []) (linked r.at w.header w.memory)) ≡ length w.memory =
        length-overwrite r.at (b ∷ []) (linked r.at w.header w.memory) ∙ length-linked r.at w.header w.memory in
        turns_same n (suc n - s) (length w.memory) r.after (w.header.number + 1) (suc n - s)
        (omega (arith, size_pos (w.header.number + 1))) (omega arith)
        ∙ (λ i. planned (sym e i) (sym l i) r.after (w.header.number + 1) (sym e i))
        ∙ on (filled (b ∷ []) (with_block r.at r.after w))
    taken on None = refl

    go : (t : Bool) → eqb w.header.remaining 0 ≡ t
        → ((v : Writing) → plan_of (length v.memory) v.arena v.header n ≡ arena_of (appended bs v))
        → goal (cond t (take_block w) (some w))
    go true p on =
        let z : w.header.remaining ≡ 0 = eqb-true w.header.remaining 0 p in
        let e : suc n - w.header.remaining ≡ suc n = omega arith in
        (λ i. planned (e i) (length w.memory) w.arena w.header.number (e i))
        ∙ turn-takes n (length w.memory) w.arena w.header.number n
        ∙ taken on (room_for w.arena (length w.memory) (next_wide w.header))
    go false p on =
        let z : w.header.remaining ≡ 0 → ⊥ = eqb-false w.header.remaining 0 p in
        let e : suc n - w.header.remaining ≡ n - (w.header.remaining - 1) = omega arith in
        let l : length (overwrite w.header.tail (b ∷ []) w.memory) ≡ length w.memory =
        length-overwrite w.header.tail (b ∷ []) w.memory in
        (λ i. planned (e i) (sym l i) w.arena w.header.number (e i)) ∙ on (filled (b ∷ []) w)

-- ---- the theorems

pub lane_plan : (m : List ℕ) (a : Arena) (h : Header) (bs : List ℕ)
    → plan_of (length m) a h (length bs) ≡ arena_of (appended bs (writing m a h))
lane_plan m a h bs = plan_run bs (writing m a h)
