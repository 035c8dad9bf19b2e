-- Document 01, "Refusal numbers", and 02's 13: the number that an append is due in a history, 0 where it must be
-- accepted. It is worked out from the numbers of the state, the name, and what the name's accepted appends come to: it
-- looks nothing up, and knows no damage.
use Rattle.std.specs.Prelude.{ℕ, zero, suc, ◌+◌, ◌-◌, cond, List, eqb, length}
use Rattle.std.proofs.Math.Option.{Option, none, some}
use Rattle.limits.specs.Limits.{null_address, record_extra}
use Rattle.memory_arena.specs.declared.Arena.{Arena}
use Rattle.memory_arena.specs.Pages.{MaybeRoom, room_for}
use Rattle.expull_header.specs.declared.Header.{Header}
use Rattle.expull_header.specs.Header.{block_size, fresh}
use Rattle.expull_append.specs.Append.{plan_of}
use Rattle.store_state.specs.declared.State.{State}
use Rattle.store_state.specs.Name.{name_kind, by_kind}
use Rattle.store_look.specs.Look.{Lent}
use Rattle.store_append.specs.Append.{is_crowded}
use Rattle.std.specs.Prelude.{Some, None}

-- RULES Y7. The header of a list that holds n bytes, as far as its length settles it: block number and remaining bytes.
-- What an append needs hangs on no address.
abbrev pub shape : ℕ → ℕ → Header
shape number remaining = record { number = number; head = null_address; tail = null_address; remaining = remaining }

-- RULES Y7.
unfoldable pub one_more : Header → Header
unfolding block_size
one_more h =
    cond (eqb h.remaining 0) (shape (h.number + 1) (block_size (h.number + 1) - 1))
    (shape h.number (h.remaining - 1))

-- RULES Y7.
unfoldable pub shape_of : ℕ → Header
unfolding one_more
shape_of zero = fresh
shape_of (suc n) = one_more (shape_of n)

-- RULES Y7. 7: the blocks that the append needs don't all fit the list pages
abbrev pub due_blocks : Option Arena → ℕ
due_blocks none = 7
due_blocks (some a) = 0

-- RULES Y7. 6: a new name's record doesn't fit the key pages
abbrev pub due_record : MaybeRoom → ℕ → ℕ
due_record (Some r) number = number
due_record None number = 6

-- RULES Y7. Of n bytes for a list with a header, and for a new name
unfoldable pub due_list : State → Lent → Header → ℕ → ℕ
unfolding plan_of
due_list st m h n = due_blocks (plan_of (length m.lists) st.list_arena h n)

-- RULES Y7.
unfoldable pub due_new : State → Lent → List ℕ → ℕ → ℕ
unfolding due_list room_for
due_new st m name n =
    cond (is_crowded st) 5
    (due_record (room_for st.key_arena (length m.keys) (length name + record_extra))
    (due_list st m fresh n))

-- RULES Y7. For a name that stands with so many bytes, or doesn't stand
abbrev pub due_by : State → Lent → List ℕ → Option (List ℕ) → ℕ → ℕ
due_by st m name none n = due_new st m name n
due_by st m name (some bs) n = due_list st m (shape_of (length bs)) n

-- RULES Y7. 3: a name over the limit. 13: the empty name
unfoldable pub due : State → Lent → List ℕ → Option (List ℕ) → ℕ → ℕ
unfolding name_kind due_new due_list shape_of
due st m name stood n = by_kind (name_kind st (length name)) 3 13 (due_by st m name stood n)
