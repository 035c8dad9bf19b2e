-- RULES F. Document 01, "Pages and addresses": an arena's pages, which spans of it are good, and where an allocation
-- goes. An arena is its state, which keeps a page's bytes, beside a lent memory of len bytes, whose pages lie one
-- behind the other, so an address is a place in it.
use Rattle.std.specs.Prelude.{ℕ, ◌+◌, ◌-◌, ◌*◌, min, Bool, cond, ◌&&◌, leb, ltb, eqb, Option, Some, None}
use Rattle.memory_arena.specs.Address.{address_of, page_of, place_of}
use Rattle.memory_arena.specs.declared.Arena.{Arena}
use Rattle.memory_arena.specs.declared.Room.{Room}

-- RULES F4. How many bytes a page holds, of at most s: the last may be short, and one that doesn't exist holds none.
abbrev pub capacity_of : ℕ → ℕ → ℕ → ℕ
capacity_of s len page = min s (len - page * s)

-- RULES A3, B4. A lent length such as creation takes, up to a limit.
abbrev pub lendable : ℕ → ℕ → Bool
lendable limit len = ltb 0 len && leb len limit

-- RULES F5, B6. The current page exists, and used is at most its capacity.
unfoldable pub standing : Arena → ℕ → Bool
standing a len = ltb (a.page * a.size) len && leb a.used (capacity_of a.size len a.page)

-- RULES F6. The used bytes of a page that isn't past the current one: every page before it, whole.
abbrev pub used_on : Arena → ℕ → ℕ
used_on a page = cond (eqb page a.page) a.used a.size

-- RULES F7. The span of n bytes from an address: its page isn't past the current one, and it ends within that page's
-- used bytes.
unfoldable pub good_span : Arena → ℕ → ℕ → Bool
good_span a at n =
    leb (page_of a.size at) a.page && leb (place_of a.size at + n) (used_on a (page_of a.size at))

-- RULES F8, F9. Room that is found, or none.
abbrev pub MaybeRoom : Type 0
MaybeRoom = Option Room

-- RULES F8, F9. Room found: its address, and the state after it.
abbrev pub room_at : ℕ → Arena → MaybeRoom
room_at at b = Some (record { at = at; after = b })

-- RULES F8, F9. n bytes: at the used end of the current page if they fit, else at place 0 of the next page if that
-- exists and holds them.
unfoldable pub room_for : Arena → ℕ → ℕ → MaybeRoom
room_for a len n =
    cond (leb (a.used + n) (capacity_of a.size len a.page))
    (room_at (address_of a.size a.page a.used) (record { page = a.page; used = a.used + n; size = a.size }))
    (cond (leb n (capacity_of a.size len (a.page + 1)))
    (room_at (address_of a.size (a.page + 1) 0) (record { page = a.page + 1; used = n; size = a.size }))
    None)
