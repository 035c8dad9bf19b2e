-- What holds while the code's loops run, and what a turn of each does: the dry run, the append. Assumes nothing.
use Prim.Native.Nat.{ℕ, ◌+◌, ◌-◌, ◌*◌, ◌≤◌, ◌<◌, min}
use mathlib.Core.Path.{◌≡◌, refl, sym, ap, ◌∙◌}
use mathlib.Core.Bool.{true}
use mathlib.Core.Option.{Option, none, some}
use mathlib.Core.List.{List, [], ◌∷◌, ◌++◌}
use native.Mathlib.Omega.{arith}
use lib.ListN.{length, take, drop, length-take, take-append-drop}
use Rattle.std.specs.Prelude.{Some, None, IsSome}
use Rattle.limits.specs.Limits.{arena_limit, fresh_number, number_limit, link_size}
use Rattle.memory_arena.specs.declared.Arena.{Arena}
use Rattle.memory_arena.specs.Pages.{MaybeRoom, room_at, room_for}
use Rattle.memory_arena.specs.Calls.{sensible}
use Rattle.memory_arena.proofs.Laws.{standing_facts, room_facts, room-sensible, sensible_facts, sensible_short}
use Rattle.expull_header.specs.declared.Header.{Header}
use Rattle.expull_header.specs.Header.{block_size}
use Rattle.expull_append.specs.Append.{Writing, next_wide, with_block, on_room, ready, filled, and_then, appended}
use Rattle.expull_append.specs.Append.{on_room_dry, planned, plan_of, is_some}
use Rattle.expull_append.proofs.Laws.{never, ready-taken, appended-chunk, appended-ready, plan_turn, plan_end}
use Rattle.expull_append.proofs.Laws.{arena_of, plan_decides, plan_fits, end_of, tail_in, Reached, reached_then}
use Rattle.expull_append.proofs.Laws.{Readied, ready-reached, filled-reached}

-- ---- the dry run's loop

-- where no room is found, no plan goes on
pub no_room : (r : MaybeRoom) (k : Arena → Option Arena) → (IsSome r → ⊥) → on_room_dry r k ≡ none
no_room (Some r) k n = absurd (n refl)
no_room None k n = refl

-- what holds while the dry run takes blocks: the plan is that of the rest, and the block number is small, since each
-- block moves the used end on
pub record Planning (len left₀ number₀ : ℕ) (a₀ : Arena) (left number : ℕ) (a : Arena) : Type 0 where
  pub rest : planned left₀ len a₀ number₀ left₀ ≡ planned left len a number left
  pub sense : sensible a len ≡ true
  pub few : 2 * number ≤ 2 * number_limit + end_of a

-- the plan from the bytes that wait
pub plan_left : (len : ℕ) (a : Arena) (h : Header) (n l : ℕ) → l ≡ n - h.remaining
    → plan_of len a h n ≡ planned l len a h.number l
unfolding plan_of
plan_left len a h n l e = rw e

-- a block taken leaves the arena sensible, and moves its end on
plan_room : (len : ℕ) (a b : Arena) (number at : ℕ) → sensible a len ≡ true → 2 * number ≤ 2 * number_limit + end_of a
    → room_for a len (block_size (number + 1) + link_size) ≡ room_at at b
    → (sensible b len ≡ true) × (2 * (number + 1) ≤ 2 * number_limit + end_of b)
plan_room len a b number at e h f =
    let s = sensible_facts a len e in
    let n = block_size (number + 1) + link_size in
    let z : 0 < n = omega arith in
    let r = room_facts a len n at b z s.stands f in
    (room-sensible a len n at b z e f, omega (arith, r.above, r.end))

-- the used end is within the lent memory, so a block number stays far below 2^32
plan_few : (a : Arena) (len number : ℕ) → sensible a len ≡ true → 2 * number ≤ 2 * number_limit + end_of a
    → 2 * number ≤ 2 * number_limit + arena_limit
plan_few a len number e h =
    let s = sensible_facts a len e in
    let l : len ≤ arena_limit = sensible_short a len e in
    omega (arith, (standing_facts a len s.stands).in_memory)

module _ {len l₀ n₀ : ℕ} {a₀ : Arena} {l n : ℕ} {a : Arena} (p : Planning len l₀ n₀ a₀ l n a) where
  pub planning-few : 2 * n ≤ 2 * number_limit + arena_limit
  planning-few = plan_few a len n p.sense p.few

  pub planning-end : l ≡ 0 → planned l₀ len a₀ n₀ l₀ ≡ some a
  planning-end e = p.rest ∙ rw e (plan_end len a n)

  -- a turn, by the size and the room that code found
  pub planning-turn : {size : ℕ} {r : MaybeRoom} → 0 < l → size ≡ block_size (n + 1)
      → r ≡ room_for a len (size + link_size)
      → planned l₀ len a₀ n₀ l₀ ≡ on_room_dry r (λ c. planned (l - size) len c (n + 1) (l - size))
  planning-turn z e f = p.rest ∙ plan_turn len a n l z ∙ rw (f, e)

  pub planning-next : {size : ℕ} {r : MaybeRoom} {at : ℕ} {b : Arena} {left : ℕ} → 0 < l → size ≡ block_size (n + 1)
      → r ≡ room_for a len (size + link_size) → r ≡ room_at at b → left ≡ l - size → Planning len l₀ n₀ a₀ left (n + 1) b
  planning-next {at = at} {b = b} z e f g q =
      let k = plan_room len a b n at p.sense p.few (rw (← e) (sym f ∙ g)) in
      record { rest = planning-turn z e f ∙ rw (g, q); sense = k.0; few = k.1 }

-- ---- the append's steps, as code makes them

-- where a byte waits, a plan that has room names it
pub waiting_room : (len : ℕ) (a : Arena) (h : Header) (r : MaybeRoom) → h.remaining ≡ 0
    → r ≡ room_for a len (next_wide h)
    → is_some (plan_of len a h 1) ≡ true → IsSome r
waiting_room len a h (Some r) z e p = refl
waiting_room len a h None z e p =
    let q : plan_of len a h 1 ≡ none =
    plan_left len a h 1 1 (omega arith) ∙ plan_turn len a h.number 1 (omega arith) ∙ rw (← e) in
    sym (ap is_some q) ∙ p

-- a block taken, where nothing remains
pub block_taken : (w : Writing) {r : MaybeRoom} {at : ℕ} {b : Arena} → w.header.remaining ≡ 0
    → r ≡ room_for w.arena (length w.memory) (next_wide w.header) → r ≡ room_at at b
    → ready w ≡ some (with_block at b w)
block_taken w z e f = ready-taken w z ∙ ap (λ (x : MaybeRoom). on_room x w) (sym e ∙ f)

-- bytes that fit the last block, which lies in the memory
pub record Chunk (v : Writing) (n : ℕ) : Type 0 where
  pub remains : n ≤ v.header.remaining
  pub in_memory : v.header.tail + n ≤ length v.memory
  pub short : length v.memory ≤ arena_limit

pub chunk-fits : {w v : Writing} (n : ℕ) → Readied w v → n ≤ v.header.remaining → Chunk v n
chunk-fits {v = v} n k h =
    let j = k.reached.working in
    let z = k.room in
    let f : (v.header.number ≡ fresh_number → ⊥) = λ e. let q =
    ap (λ (x : Header). x.remaining) (j.shape.without e) in omega arith in
    record {
      remains = h;
      in_memory = omega (arith, tail_in v.arena (length v.memory) v.header j.sense j.tail f);
      short = sensible_short v.arena (length v.memory) j.sense;
    }

-- ---- the append's loop

-- what holds while an append writes: the outcome is that of the bytes that still wait
pub record Extending (bs : List ℕ) (w₀ : Writing) (rest : List ℕ) (w : Writing) : Type 0 where
  pub reached : Reached w₀ w
  pub same : appended bs w₀ ≡ appended rest w

module _ {bs rest : List ℕ} {w₀ w : Writing} (k : Extending bs w₀ rest w) where
  -- a block number on the way, from a sound header
  pub extending-few : w₀.header.number ≤ number_limit → 2 * w.header.number ≤ 2 * number_limit + arena_limit
  extending-few l =
      plan_few w.arena (length w.memory) w.header.number k.reached.working.sense
      (omega (arith, k.reached.onward.end_up))

  -- where a byte waits, the plan has room for one more
  pub extending-room : 0 < length rest → is_some (plan_of (length w₀.memory) w₀.arena w₀.header (length bs)) ≡ true
      → is_some (plan_of (length w.memory) w.arena w.header 1) ≡ true
  unfolding appended
  extending-room h p =
      let f = plan_fits bs w₀ p in
      go (ready w) refl (sym (appended-ready rest w h) ∙ sym k.same ∙ f.whole)
    where
      go : (o : Option Writing) → ready w ≡ o → {v : Writing} → and_then o (appended rest) ≡ some v
          → is_some (plan_of (length w.memory) w.arena w.header 1) ≡ true
      go none q e = never _ e
      go (some u) q e =
          sym (ap is_some (plan_decides (0 ∷ []) w))
          ∙ ap (λ (o : Option Writing). is_some (arena_of (and_then o (λ v. some (filled (0 ∷ []) v))))) q

  pub extending-ready : {v : Writing} → some v ≡ ready w → Readied w v
  extending-ready {v} e = ready-reached w v k.reached.working (sym e)

  -- as many bytes as wait and fit
  pub extending-next : {v u : Writing} {n : ℕ} {chunk after : List ℕ} → 0 < length rest → some v ≡ ready w
      → n ≡ min (length rest) v.header.remaining → chunk ≡ take n rest → after ≡ drop n rest
      → u ≡ filled chunk v → Extending bs w₀ after u
  extending-next {v} {u} {n} {chunk} {after} h e q c d f =
      let r = extending-ready e in
      let l : length chunk ≤ v.header.remaining = rw c (simp length-take (omega arith)) in
      let g : Reached v u = rw f (filled-reached chunk v r.reached.working r.room l) in
      record {
        reached = reached_then w₀ w u k.reached (reached_then w v u r.reached g);
        same =
            k.same
            ∙ appended-ready rest w h
            ∙ ap (λ (o : Option Writing). and_then o (appended rest)) (sym e)
            ∙ ap (λ (y : List ℕ). appended y v) (sym (take-append-drop n rest))
            ∙ (λ i. appended (sym c i ++ sym d i) v)
            ∙ appended-chunk chunk after v l
            ∙ ap (appended after) (sym f);
      }

  pub extending-end : length rest ≡ 0 → some w ≡ appended bs w₀
  unfolding appended
  extending-end h = sym (k.same ∙ go rest h)
    where
      go : (r : List ℕ) → length r ≡ 0 → appended r w ≡ some w
      go [] e = refl
      go (b ∷ r) e = absurd (omega arith)
