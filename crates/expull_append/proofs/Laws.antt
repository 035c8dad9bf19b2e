-- Laws of the append: bytes that fit the last block go in at once, the dry run decides, what an append keeps. Assumes
-- nothing.
use Prim.Native.Nat.{ℕ, zero, suc, ◌+◌, ◌-◌, ◌*◌, ◌≤◌, ◌<◌}
use mathlib.Core.Path.{◌≡◌, refl, sym, ap, ◌∙◌, subst}
use mathlib.Core.Bool.{Bool, true, false, cond, false≢true}
use mathlib.Core.Option.{Option, none, some}
use mathlib.Core.List.{List, [], ◌∷◌, ◌++◌}
use native.Mathlib.Nat.{add-zero, sub-zero, zero-sub}
use native.Mathlib.Numerals.{one-add}
use native.Mathlib.Omega.{arith}
use lib.Dec.{eqb, eqb-suc-zero}
use lib.ListN.{length, length-append}
use borrow.Author.Tests.{eq-eqb, ne_eqb, eqb-true, eqb-false}
use Rattle.limits.specs.Limits.{null_address, arena_limit, fresh_number, link_size}
use Rattle.numbers.specs.LittleEndian.{le_bytes}
use Rattle.spans.specs.Span.{overwrite}
use Rattle.spans.proofs.Laws.{length-overwrite, overwrite-append, overwrite_none}
use Rattle.memory_arena.specs.declared.Arena.{Arena}
use Rattle.std.specs.Prelude.{Some, None}
use Rattle.memory_arena.specs.Address.{address_of, page_of, place_of}
use Rattle.memory_arena.specs.Pages.{standing, MaybeRoom, room_at, room_for, good_span}
use Rattle.memory_arena.specs.Calls.{sensible}
use Rattle.memory_arena.proofs.Laws.{split, place_of_lem, standing_facts, good-end, good-in, good_page, good-below}
use Rattle.memory_arena.proofs.Laws.{room_facts, room_in, room_size, room-sensible, sensible_facts, sensible_short}
use Rattle.expull_header.specs.declared.Header.{Header}
use Rattle.expull_header.specs.Header.{block_size, sound_header, block_count, taken_bytes}
use Rattle.expull_append.specs.Append.{Writing, next_wide, head_with, linked, header_with, with_block, on_room}
use Rattle.expull_append.specs.Append.{take_block, ready, moved, filled, and_then, appended, on_room_dry, planned}
use Rattle.expull_append.specs.Append.{plan_of, is_some, good_tail}
use Rattle.expull_header.proofs.Laws.{taken_next, size_pos, Shape, sound_facts}

-- ---- outcomes

pub same_some : (w v : Writing) → some w ≡ some v → w ≡ v
same_some w v e = cc

pub never : {A : Type 0} (w : Writing) → none ≡ some w → A
never w e = let z : ◌≡◌ {A = ℕ} 0 1 = cc in absurd (omega arith)

-- ---- lengths

pub length-linked : (at : ℕ) (h : Header) (m : List ℕ) → length (linked at h m) ≡ length m
unfolding linked
length-linked at h m = go (eqb h.number fresh_number)
  where
    go : (t : Bool) → length (cond t m (overwrite h.tail (le_bytes link_size at) m)) ≡ length m
    go true = refl
    go false = length-overwrite h.tail (le_bytes link_size at) m

pub length-filled : (bs : List ℕ) (w : Writing) → length (filled bs w).memory ≡ length w.memory
unfolding filled
length-filled bs w = length-overwrite w.header.tail bs w.memory

-- ---- a waiting byte

-- bytes remain; none does
pub ready-kept : (w : Writing) → 0 < w.header.remaining → ready w ≡ some w
unfolding ready
ready-kept w h = rw (ne_eqb w.header.remaining 0 (λ z. omega arith))

pub ready-taken : (w : Writing) → w.header.remaining ≡ 0 → ready w ≡ take_block w
unfolding ready
ready-taken w e = rw (eq-eqb w.header.remaining 0 e)

-- a new block has room
pub block_room : (at : ℕ) (a : Arena) (w : Writing) → 0 < (with_block at a w).header.remaining
unfolding header_with
block_room at a w = size_pos (w.header.number + 1)

-- what holds of the list as it is, and with a block taken, holds of it once it is ready
pub ready_cases : (P : Writing → Type 0) (w v : Writing) → (0 < w.header.remaining → P w)
    → ((at : ℕ) (a : Arena) → room_for w.arena (length w.memory) (next_wide w.header) ≡ room_at at a
    → P (with_block at a w))
    → ready w ≡ some v → P v
ready_cases P w v f g e = go (eqb w.header.remaining 0) refl
  where
    room : (r : MaybeRoom) → room_for w.arena (length w.memory) (next_wide w.header) ≡ r → on_room r w ≡ some v
        → P v
    room (Some r) p q = subst P (same_some _ _ q) (g r.at r.after p)
    room None p q = never _ q

    go : (t : Bool) → eqb w.header.remaining 0 ≡ t → P v
    go true z = room _ refl (sym (ready-taken w (eqb-true _ _ z)) ∙ e)
    go false z =
        let n = eqb-false w.header.remaining 0 z in
        let h : 0 < w.header.remaining = omega (arith, n) in
        subst P (same_some _ _ (sym (ready-kept w h) ∙ e)) (f h)

-- ---- bytes at once

filled_none : (w : Writing) → filled [] w ≡ w
unfolding filled
filled_none w = λ i. record {
  memory = overwrite_none w.header.tail w.memory i;
  arena = w.arena;
  header = record {
    number = w.header.number;
    head = w.header.head;
    tail = add-zero w.header.tail i;
    remaining = sub-zero w.header.remaining i;
  };
}

filled-filled : (cs ds : List ℕ) (w : Writing) → filled ds (filled cs w) ≡ filled (cs ++ ds) w
unfolding filled
filled-filled cs ds w =
    let h = w.header in
    let t : h.tail + length cs + length ds ≡ h.tail + length (cs ++ ds) = omega (arith, length-append cs ds) in
    let r : h.remaining - length cs - length ds ≡ h.remaining - length (cs ++ ds) =
    omega (arith, length-append cs ds) in
    λ i. record {
      memory = sym (overwrite-append h.tail cs ds w.memory) i;
      arena = w.arena;
      header = record { number = h.number; head = h.head; tail = t i; remaining = r i };
    }

-- bytes that fit the last block go in at once
pub appended-chunk : (cs ds : List ℕ) (w : Writing) → length cs ≤ w.header.remaining
    → appended (cs ++ ds) w ≡ appended ds (filled cs w)
unfolding appended filled
appended-chunk [] ds w h = ap (appended ds) (sym (filled_none w))
appended-chunk (c ∷ cs) ds w h =
    ap (λ (o : Option Writing). and_then o (λ v. appended (cs ++ ds) (filled (c ∷ []) v))) (ready-kept w (omega arith))
    ∙ appended-chunk cs ds (filled (c ∷ []) w) (omega arith)
    ∙ ap (appended ds) (filled-filled (c ∷ []) cs w)

-- where a byte waits, room for it is made first
pub appended-ready : (bs : List ℕ) (w : Writing) → 0 < length bs → appended bs w ≡ and_then (ready w) (appended bs)
unfolding appended
appended-ready [] w h = absurd (omega arith)
appended-ready (b ∷ bs) w h = go (eqb w.header.remaining 0) refl
  where
    room : (r : MaybeRoom)
        → and_then (on_room r w) (λ v. appended bs (filled (b ∷ []) v)) ≡ and_then (on_room r w) (appended (b ∷ bs))
    room (Some r) =
        sym (ap (λ (o : Option Writing). and_then o (λ v. appended bs (filled (b ∷ []) v)))
        (ready-kept (with_block r.at r.after w) (block_room r.at r.after w)))
    room None = refl

    go : (t : Bool) → eqb w.header.remaining 0 ≡ t → appended (b ∷ bs) w ≡ and_then (ready w) (appended (b ∷ bs))
    go true e =
        rw (ready-taken w (eqb-true _ _ e)) (room (room_for w.arena (length w.memory) (next_wide w.header)))
    go false e =
        let z = eqb-false w.header.remaining 0 e in
        sym (ap (λ (o : Option Writing). and_then o (appended (b ∷ bs))) (ready-kept w (omega (arith, z))))

-- ---- the dry run decides

on_same : (r : MaybeRoom) (f g : Arena → Option Arena) → ((a : Arena) → f a ≡ g a) → on_room_dry r f ≡ on_room_dry r g
on_same (Some r) f g h = h r.after
on_same None f g h = refl

-- any number of turns that is enough gives the same plan
pub plan_turns : (t u len : ℕ) (a : Arena) (b n : ℕ) → n ≤ t → n ≤ u → planned t len a b n ≡ planned u len a b n
unfolding planned
plan_turns zero zero len a b n h k = refl
plan_turns zero (suc u) len a b zero h k = refl
plan_turns zero (suc u) len a b (suc n) h k = absurd (omega arith)
plan_turns (suc t) zero len a b zero h k = refl
plan_turns (suc t) zero len a b (suc n) h k = absurd (omega arith)
plan_turns (suc t) (suc u) len a b zero h k = refl
plan_turns (suc t) (suc u) len a b (suc n) h k =
    let z = size_pos (b + 1) in
    rw (eqb-suc-zero n)
    (on_same (room_for a len (block_size (b + 1) + link_size)) _ _
    (λ c. plan_turns t u len c (b + 1) (suc n - block_size (b + 1)) (omega arith) (omega arith)))

-- a turn of the plan, and its end
pub plan_turn : (len : ℕ) (a : Arena) (b n : ℕ) → 0 < n
    → planned n len a b n
    ≡ on_room_dry (room_for a len (block_size (b + 1) + link_size))
    (λ c. planned (n - block_size (b + 1)) len c (b + 1) (n - block_size (b + 1)))
unfolding planned
plan_turn len a b zero h = absurd (omega arith)
plan_turn len a b (suc n) h =
    let z = size_pos (b + 1) in
    rw (eqb-suc-zero n)
    (on_same (room_for a len (block_size (b + 1) + link_size)) _ _
    (λ c. plan_turns n (suc n - block_size (b + 1)) len c (b + 1) (suc n - block_size (b + 1)) (omega arith)
    (omega arith)))

pub plan_end : (len : ℕ) (a : Arena) (b : ℕ) → planned 0 len a b 0 ≡ some a
unfolding planned
plan_end len a b = refl

-- the arena of an append's outcome
abbrev pub arena_of : Option Writing → Option Arena
arena_of none = none
arena_of (some w) = some w.arena

-- bytes written on in the last block leave the rest of the plan
pub plan_filled : (bs : List ℕ) (w : Writing) (n : ℕ) → length bs ≤ w.header.remaining
    → plan_of (length (filled bs w).memory) w.arena (moved (length bs) w.header) n
    ≡ plan_of (length w.memory) w.arena w.header (length bs + n)
unfolding plan_of
plan_filled bs w n h =
    let e : n - (w.header.remaining - length bs) ≡ length bs + n - w.header.remaining = omega arith in
    rw (length-filled, e)

-- a list that was given a block for waiting bytes goes on as the plan does
pub plan_block : (len at : ℕ) (a : Arena) (h : Header) (n : ℕ)
    → plan_of len a (header_with at h) n
    ≡ planned (n - block_size (h.number + 1)) len a (h.number + 1) (n - block_size (h.number + 1))
unfolding plan_of header_with
plan_block len at a h n = refl

-- the append is done exactly where the plan has room, and leaves the plan's arena
pub plan_decides : (bs : List ℕ) (w : Writing)
    → arena_of (appended bs w) ≡ plan_of (length w.memory) w.arena w.header (length bs)
unfolding appended plan_of
plan_decides [] w = rw zero-sub (sym (plan_end (length w.memory) w.arena w.header.number))
plan_decides (b ∷ bs) w =
    go (eqb w.header.remaining 0) refl
    (λ v h. plan_decides bs (filled (b ∷ []) v) ∙ plan_filled (b ∷ []) v (length bs) h ∙ rw (one-add (length bs)))
  where
    room : (r : MaybeRoom)
        → ((v : Writing) → 0 < v.header.remaining
        → arena_of (appended bs (filled (b ∷ []) v))
        ≡ plan_of (length v.memory) v.arena v.header (suc (length bs)))
        → arena_of (and_then (on_room r w) (λ v. appended bs (filled (b ∷ []) v)))
        ≡ on_room_dry r (λ c. planned (suc (length bs) - block_size (w.header.number + 1)) (length w.memory) c
        (w.header.number + 1)
        (suc (length bs) - block_size (w.header.number + 1)))
    room (Some r) h =
        h (with_block r.at r.after w) (block_room r.at r.after w)
        ∙ rw length-linked (plan_block (length w.memory) r.at r.after w.header (suc (length bs)))
    room None h = refl

    go : (t : Bool) → eqb w.header.remaining 0 ≡ t
        → ((v : Writing) → 0 < v.header.remaining
        → arena_of (appended bs (filled (b ∷ []) v))
        ≡ plan_of (length v.memory) v.arena v.header (suc (length bs)))
        → arena_of (and_then (ready w) (λ v. appended bs (filled (b ∷ []) v)))
        ≡ planned (suc (length bs) - w.header.remaining) (length w.memory) w.arena w.header.number
        (suc (length bs) - w.header.remaining)
    go true e h =
        let z : w.header.remaining ≡ 0 = eqb-true _ _ e in
        let n : suc (length bs) - w.header.remaining ≡ suc (length bs) = omega arith in
        rw (n, ready-taken w z)
        (room (room_for w.arena (length w.memory) (next_wide w.header)) h
        ∙ sym (plan_turn (length w.memory) w.arena w.header.number (suc (length bs)) (omega arith)))
    go false e h =
        let z = eqb-false w.header.remaining 0 e in
        rw (ready-kept w (omega (arith, z))) (h w (omega (arith, z)))

-- the outcome of an append whose blocks fit
pub record Fitting (bs : List ℕ) (w : Writing) : Type 0 where
  pub after : Writing
  pub whole : appended bs w ≡ some after

pub plan_fits : (bs : List ℕ) (w : Writing)
    → is_some (plan_of (length w.memory) w.arena w.header (length bs)) ≡ true → Fitting bs w
plan_fits bs w e = go (appended bs w) refl (ap is_some (plan_decides bs w) ∙ e)
  where
    go : (o : Option Writing) → appended bs w ≡ o → is_some (arena_of o) ≡ true → Fitting bs w
    go none p q = absurd (false≢true q)
    go (some v) p q = record { after = v; whole = p }

pub fits_plan : (bs : List ℕ) (w v : Writing) → appended bs w ≡ some v
    → plan_of (length w.memory) w.arena w.header (length bs) ≡ some v.arena
fits_plan bs w v e = sym (plan_decides bs w) ∙ ap arena_of e

-- ---- what an append keeps

-- the used end of an arena
abbrev pub end_of : Arena → ℕ
end_of a = a.page * a.size + a.used

-- what an append needs of a list at work
pub record Working (w : Writing) : Type 0 where
  pub sense : sensible w.arena (length w.memory) ≡ true
  pub shape : Shape w.header
  pub tail : good_tail w.arena w.header ≡ true

-- the lent memory keeps its length, and each block taken moves the used end on: by one at least, and by all that the
-- block takes
pub record Onward (w v : Writing) : Type 0 where
  pub long : length v.memory ≡ length w.memory
  pub number_up : w.header.number ≤ v.header.number
  pub end_up : 2 * v.header.number + end_of w.arena ≤ 2 * w.header.number + end_of v.arena
  pub taken_up : taken_bytes (block_count v.header) + end_of w.arena ≤ taken_bytes (block_count w.header) + end_of
      v.arena

pub onward_none : (w : Writing) → Onward w w
onward_none w = record { long = refl; number_up = omega arith; end_up = omega arith; taken_up = omega arith }

pub onward_then : (w v u : Writing) → Onward w v → Onward v u → Onward w u
onward_then w v u p q =
    record { long = q.long ∙ p.long; number_up = omega arith; end_up = omega arith; taken_up = omega arith }

-- the tail of a list with blocks, with what remains and the link, lies in the memory
pub tail_good_lem : (a : Arena) (h : Header) → good_tail a h ≡ true → (h.number ≡ fresh_number → ⊥)
    → good_span a h.tail (h.remaining + link_size) ≡ true
unfolding good_tail
tail_good_lem a h e n = rw (ne_eqb h.number fresh_number n) at e

pub tail_made : (a : Arena) (h : Header) → good_span a h.tail (h.remaining + link_size) ≡ true → good_tail a h ≡ true
unfolding good_tail
tail_made a h e = go (eqb h.number fresh_number)
  where
    go : (t : Bool) → cond t true (good_span a h.tail (h.remaining + link_size)) ≡ true
    go true = refl
    go false = e

pub tail_in : (a : Arena) (len : ℕ) (h : Header) → sensible a len ≡ true → good_tail a h ≡ true
    → (h.number ≡ fresh_number → ⊥)
    → h.tail + (h.remaining + link_size) ≤ len
tail_in a len h s t n =
    good-in a h.tail (h.remaining + link_size) len (sensible_facts a len s).stands (tail_good_lem a h t n)

-- a span's later part is good too
good_later : (a : Arena) (at n k len : ℕ) → k < n → standing a len ≡ true → good_span a at n ≡ true
    → good_span a (at + k) (n - k) ≡ true
good_later a at n k len h e f =
    let s = a.size in
    let p : place_of s at + n ≤ s = good_page a at n len e f in
    let q : at + k ≡ address_of s (page_of s at) (place_of s at + k) = omega (arith, split s at) in
    let r : place_of s (at + k) ≡ place_of s at + k =
    ap (place_of s) q ∙ place_of_lem s (page_of s at) (place_of s at + k) (omega arith) in
    good-below a (at + k) (n - k) (omega arith) (omega arith) (omega (arith, good-end a at n len e f))
    (standing_facts a len e).in_page

-- the span that an allocation gives is good in the arena after it
room-good : (a : Arena) (len n at : ℕ) (b : Arena) → 0 < n → standing a len ≡ true → room_for a len n ≡ room_at at b
    → good_span b at n ≡ true
room-good a len n at b z e f =
    let s = b.size in
    let r = room_facts a len n at b z e f in
    let p : place_of s at ≡ b.used - n =
    ap (place_of s) r.page_on
    ∙ place_of_lem s b.page (b.used - n) (omega (arith, r.after.in_page, r.wide)) in
    good-below b at n z (omega (arith, p, r.wide, r.after.in_page)) (omega (arith, r.end)) r.after.in_page

-- a list at work, some steps on
pub record Reached (w v : Writing) : Type 0 where
  pub working : Working v
  pub onward : Onward w v

pub reached_then : (w v u : Writing) → Reached w v → Reached v u → Reached w u
reached_then w v u p q = record { working = q.working; onward = onward_then w v u p.onward q.onward }

-- the address of a new block isn't null
room_known : (a : Arena) (len n at : ℕ) (b : Arena) → 0 < n → sensible a len ≡ true → room_for a len n ≡ room_at at b
    → at ≡ null_address → ⊥
room_known a len n at b z e f q =
    let s = sensible_facts a len e in
    let l : len ≤ arena_limit = sensible_short a len e in
    omega (arith, room_in a len n at b z s.stands f)

head_known : (at : ℕ) (h : Header) → Shape h → (at ≡ null_address → ⊥) → head_with at h ≡ null_address → ⊥
head_known at h k n = go (eqb h.number fresh_number) refl
  where
    go : (t : Bool) → eqb h.number fresh_number ≡ t → cond t at h.head ≡ null_address → ⊥
    go true e = n
    go false e = k.with_head (eqb-false _ _ e)

-- a block taken
pub taken-reached : (w : Writing) (at : ℕ) (b : Arena) → Working w
    → room_for w.arena (length w.memory) (next_wide w.header) ≡ room_at at b → Reached w (with_block at b w)
unfolding header_with
taken-reached w at b k f =
    let h = w.header in
    let len = length w.memory in
    let n = next_wide h in
    let s = sensible_facts w.arena len k.sense in
    let z : 0 < n = omega arith in
    let r = room_facts w.arena len n at b z s.stands f in
    let l : length (linked at h w.memory) ≡ len = length-linked at h w.memory in
    record {
      working = record {
        sense = rw l (room-sensible w.arena len n at b z k.sense f);
        shape = record {
          from = omega (arith, k.shape.from);
          without = λ e. absurd (omega (arith, k.shape.from));
          with_head = λ e. head_known at h k.shape (room_known w.arena len n at b z k.sense f);
          within = omega arith;
        };
        tail = tail_made b (header_with at h) (room-good w.arena len n at b z s.stands f);
      };
      onward = record {
        long = l;
        number_up = omega arith;
        end_up = omega (arith, r.above, r.end);
        taken_up = omega (arith, r.above, r.end, taken_next h.number k.shape.from);
      };
    }

-- room for a waiting byte
pub record Readied (w v : Writing) : Type 0 where
  pub reached : Reached w v
  pub room : 0 < v.header.remaining

pub ready-reached : (w v : Writing) → Working w → ready w ≡ some v → Readied w v
ready-reached w v k e =
    ready_cases (Readied w) w v (λ h. record { reached = record { working = k; onward = onward_none w }; room = h })
    (λ at a f. record { reached = taken-reached w at a k f; room = block_room at a w }) e

-- bytes written on in the last block
pub filled-reached : (bs : List ℕ) (w : Writing) → Working w → 0 < w.header.remaining
    → length bs ≤ w.header.remaining → Reached w (filled bs w)
unfolding filled
filled-reached bs w k z l =
    let h = w.header in
    let len = length w.memory in
    let n : (h.number ≡ fresh_number → ⊥) = λ e. let q = ap (λ (x : Header). x.remaining) (k.shape.without e) in
    omega arith in
    let m : length (overwrite h.tail bs w.memory) ≡ len = length-overwrite h.tail bs w.memory in
    let r : h.remaining + link_size - length bs ≡ h.remaining - length bs + link_size = omega arith in
    record {
      working = record {
        sense = rw m k.sense;
        shape =
            record {
              from = k.shape.from;
              without = λ e. absurd (n e);
              with_head = k.shape.with_head;
              within = omega (arith, k.shape.within);
            };
        tail =
            tail_made w.arena (moved (length bs) h)
            (rw r at (good_later w.arena h.tail (h.remaining + link_size) (length bs) len (omega arith)
            (sensible_facts w.arena len k.sense).stands (tail_good_lem w.arena h k.tail n)));
      };
      onward = record { long = m; number_up = omega arith; end_up = omega arith; taken_up = omega arith };
    }

-- ---- the whole append

-- what holds, and is kept by each byte, holds at the end
pub appended-keeps : (P : Writing → Type 0) → ((w v : Writing) (b : ℕ) → P w → ready w ≡ some v → P (filled (b ∷ []) v))
    → (bs : List ℕ) (w v : Writing) → P w → appended bs w ≡ some v → P v
unfolding appended
appended-keeps P f [] w v k e = subst P (same_some _ _ e) k
appended-keeps P f (b ∷ bs) w v k e = go (ready w) refl e (λ u. appended-keeps P f bs u v)
  where
    go : (o : Option Writing) → ready w ≡ o → and_then o (λ u. appended bs (filled (b ∷ []) u)) ≡ some v
        → ((u : Writing) → P u → appended bs u ≡ some v → P v) → P v
    go none p q rest = never _ q
    go (some u) p q rest = rest (filled (b ∷ []) u) (f w u b k p) q

-- the memory keeps its length
pub appended-length : (bs : List ℕ) (w v : Writing) → appended bs w ≡ some v → length v.memory ≡ length w.memory
appended-length bs w v e =
    appended-keeps (λ u. length u.memory ≡ length w.memory)
    (λ u x b k r.
    length-filled (b ∷ []) x
    ∙ ready_cases (λ y. length y.memory ≡ length u.memory) u x (λ h. refl)
    (λ at a f. length-linked at u.header u.memory) r
    ∙ k) bs w v refl e

-- a sensible arena stays so
pub appended-sensible : (bs : List ℕ) (w v : Writing) → sensible w.arena (length w.memory) ≡ true
    → appended bs w ≡ some v
    → sensible v.arena (length w.memory) ≡ true
unfolding filled
appended-sensible bs w v s e =
    rw (sym (appended-length bs w v e))
    (appended-keeps (λ u. sensible u.arena (length u.memory) ≡ true)
    (λ u x b k r.
    rw length-filled
    (ready_cases (λ y. sensible y.arena (length y.memory) ≡ true) u x (λ h. k)
    (λ at a f. rw length-linked
    (room-sensible u.arena (length u.memory) (next_wide u.header) at a (omega arith) k f)) r)) bs w v s e)

-- and its pages keep their size
pub appended_size : (bs : List ℕ) (w v : Writing) → appended bs w ≡ some v → v.arena.size ≡ w.arena.size
unfolding filled
appended_size bs w v e =
    appended-keeps (λ u. u.arena.size ≡ w.arena.size)
    (λ u x b k r.
    ready_cases (λ y. y.arena.size ≡ u.arena.size) u x (λ h. refl)
    (λ at a f. room_size u.arena (length u.memory) (next_wide u.header) at a f) r
    ∙ k) bs w v refl e

-- from what a store has checked to what it may rely on
pub working_made : (w : Writing) → sensible w.arena (length w.memory) ≡ true → sound_header w.header 0 ≡ true
    → good_tail w.arena w.header ≡ true
    → Working w
working_made w s h t = record { sense = s; shape = (sound_facts w.header 0 h).shape; tail = t }
