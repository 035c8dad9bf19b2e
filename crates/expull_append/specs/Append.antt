-- RULES S. Document 01, "Lists": an append to a list, byte by byte. "A block is taken only when a byte is waiting and
-- remaining is 0; the old tail then points at the link, which receives the new address. A new block's unfilled bytes
-- and link keep what they held."
use Rattle.std.specs.Prelude.{ℕ, zero, suc, ◌+◌, ◌-◌, Bool, true, false, cond, List, [], ◌∷◌, eqb, length}
use Rattle.std.specs.Prelude.{Some, None}
use Rattle.std.proofs.Math.Option.{Option, none, some}
use Rattle.limits.specs.Limits.{fresh_number, link_size}
use Rattle.numbers.specs.LittleEndian.{le_bytes}
use Rattle.spans.specs.Span.{overwrite}
use Rattle.memory_arena.specs.declared.Arena.{Arena}
use Rattle.memory_arena.specs.Pages.{MaybeRoom, room_for, good_span}
use Rattle.expull_header.specs.declared.Header.{Header}
use Rattle.expull_header.specs.Header.{block_size}

-- RULES S1. A list at work: the list pages, their arena's state, and the list's header.
pub record Writing : Type 0 where
  pub memory : List ℕ
  pub arena : Arena
  pub header : Header

-- RULES S1. All three put together.
abbrev pub writing : List ℕ → Arena → Header → Writing
writing m a h = record { memory = m; arena = a; header = h }

-- RULES R3, S2. What the next block of a list takes, with its link.
abbrev pub next_wide : Header → ℕ
next_wide h = block_size (h.number + 1) + link_size

-- RULES S3. A list without blocks gets its head.
abbrev pub head_with : ℕ → Header → ℕ
head_with at h = cond (eqb h.number fresh_number) at h.head

-- RULES S3. Another's old tail receives the link.
unfoldable pub linked : ℕ → Header → List ℕ → List ℕ
unfolding overwrite le_bytes
linked at h m = cond (eqb h.number fresh_number) m (overwrite h.tail (le_bytes link_size at) m)

-- RULES S4. The header with a new block at an address.
unfoldable pub header_with : ℕ → Header → Header
unfolding block_size
header_with at h =
    record { number = h.number + 1; head = head_with at h; tail = at; remaining = block_size (h.number + 1) }

-- RULES S4, S6. The list with it.
abbrev pub with_block : ℕ → Arena → Writing → Writing
with_block at a w = writing (linked at w.header w.memory) a (header_with at w.header)

-- RULES S2, S7. A block taken, where the pages have room.
abbrev pub on_room : MaybeRoom → Writing → Option Writing
on_room (Some r) w = some (with_block r.at r.after w)
on_room None w = none

-- RULES S2. The next block, tried.
abbrev pub take_block : Writing → Option Writing
take_block w = on_room (room_for w.arena (length w.memory) (next_wide w.header)) w

-- RULES S2. Ready for a waiting byte.
unfoldable pub ready : Writing → Option Writing
unfolding linked header_with room_for
ready w = cond (eqb w.header.remaining 0) (take_block w) (some w)

-- RULES S5. The header when n bytes were written on in the last block.
abbrev pub moved : ℕ → Header → Header
moved n h = record { number = h.number; head = h.head; tail = h.tail + n; remaining = h.remaining - n }

-- RULES S5, S6. The list with them.
unfoldable pub filled : List ℕ → Writing → Writing
unfolding overwrite
filled bs w = writing (overwrite w.header.tail bs w.memory) w.arena (moved (length bs) w.header)

-- RULES S1, S7. One step after another, as long as none fails.
abbrev pub and_then : Option Writing → (Writing → Option Writing) → Option Writing
and_then none k = none
and_then (some w) k = k w

-- RULES S1, S7. The whole append; none where the blocks it needs don't all fit.
unfoldable pub appended : List ℕ → Writing → Option Writing
unfolding ready filled
appended [] w = some w
appended (b ∷ bs) w = and_then (ready w) (λ v. appended bs (filled (b ∷ []) v))

-- ---- the dry run: from the numbers alone

-- RULES S8. Where a block fits, on from the arena's state after it.
abbrev pub on_room_dry : MaybeRoom → (Arena → Option Arena) → Option Arena
on_room_dry (Some r) k = k r.after
on_room_dry None k = none

-- RULES S8. The arena's state after the blocks for n waiting bytes, where block number b is the last taken; none
-- where they don't all fit. Each turn takes a block for at least one byte, so n turns are enough.
unfoldable pub planned : ℕ → ℕ → Arena → ℕ → ℕ → Option Arena
unfolding room_for block_size
planned zero len a b n = some a
planned (suc turns) len a b n =
    cond (eqb n 0) (some a)
    (on_room_dry (room_for a len (block_size (b + 1) + link_size))
    (λ a'. planned turns len a' (b + 1) (n - block_size (b + 1))))

-- RULES S8. The bytes first fill what remains of the last block; the rest waits.
unfoldable pub plan_of : ℕ → Arena → Header → ℕ → Option Arena
unfolding planned
plan_of len a h n = planned (n - h.remaining) len a h.number (n - h.remaining)

-- RULES S8. Whether they all fit.
abbrev pub is_some : Option Arena → Bool
is_some none = false
is_some (some a) = true

-- ---- damage that an append meets

-- RULES S9, W4. "for append to a list with blocks, tail with remaining + 4 bytes not a good span".
unfoldable pub good_tail : Arena → Header → Bool
unfolding good_span
good_tail a h = cond (eqb h.number fresh_number) true (good_span a h.tail (h.remaining + link_size))
