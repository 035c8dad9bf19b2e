-- RULES AG. Document 02, Nine, in small cases: each row has what the definitions give, and what that paper says.
use Rattle.std.specs.Prelude.{ℕ, ◌≡◌, refl, false, List, [], ◌∷◌}
use Rattle.limits.specs.Limits.{page_limit, arena_limit_for, name_limit_for}
use Rattle.limits.specs.Refusals.{number_in}
use Rattle.memory_arena.specs.Pages.{MaybeRoom, room_at}
use Rattle.memory_arena.specs.Address.{address_of, page_of, place_of}
use Rattle.memory_arena.specs.Calls.{allocate_of}
use Rattle.store_state.specs.declared.State.{State}
use Rattle.store_create.specs.Said.{said_created}
use Rattle.store_look.specs.Said.{said_lookup}
use Rattle.store_create.specs.Create.{unused, create_of}
use Rattle.store_look.specs.Look.{lent, lookup_of}
use Rattle.std.specs.Prelude.{None, Result, Ok, Err}
use Rattle.limits.specs.declared.Refusal.{Refusal}
use Rattle.limits.specs.declared.Refusal.TheVariants.{WrongLength, OutOfArena}

-- the longest name, the pages of the longest arena, its bytes; and page 3, place 5, put together and taken apart
abbrev pub numbers_for : ℕ → List ℕ
numbers_for s =
    name_limit_for s ∷ page_limit s ∷ arena_limit_for s
    ∷ address_of s 3 5 ∷ page_of s (address_of s 3 5) ∷ place_of s (address_of s 3 5) ∷ []

-- RULES AG1, AG3. Of the smallest size, the one above it, and the largest
pub numbers : (numbers_for 65536 ≡ 65518 ∷ 65535 ∷ 4294901760 ∷ 196613 ∷ 3 ∷ 5 ∷ [])
    × (numbers_for 131072 ≡ 65535 ∷ 32767 ∷ 4294836224 ∷ 393221 ∷ 3 ∷ 5 ∷ [])
    × (numbers_for 1048576 ≡ 65535 ∷ 4095 ∷ 4293918720 ∷ 3145733 ∷ 3 ∷ 5 ∷ [])
numbers = (refl, refl, refl)

-- an allocation of n bytes from a lent arena of len bytes, on page 0 with so many bytes used
abbrev asked : ℕ → ℕ → ℕ → ℕ → Result MaybeRoom Refusal
asked size used len n = allocate_of (record { page = 0; used = used; size = size }) len n

-- RULES AG3, AG4. A senseless size is 10, whatever is asked; 9 reads the size; what would straddle goes to the next
-- page, where that holds it
pub allocations : (asked 65537 0 64 0 ≡ Err OutOfArena)
    × (asked 0 0 64 1 ≡ Err OutOfArena)
    × (asked 65536 0 64 0 ≡ Err WrongLength)
    × (asked 65536 0 64 65537 ≡ Err WrongLength)
    × (asked 131072 0 64 65537 ≡ Ok None)
    × (asked 65536 65530 65548 12 ≡ Ok (room_at 65536 (record { page = 1; used = 12; size = 65536 })))
    × (asked 65536 65530 65547 12 ≡ Ok None)
unfolding allocate_of
allocations = (refl, refl, refl, refl, refl, refl, refl)

-- the refusal number of a creation with a page size, 0 where a store is made
abbrev created : ℕ → ℕ
created size = number_in (said_created (create_of 1 0 size (0 ∷ 0 ∷ []) 32 16).answer)

-- RULES AG1.
pub creations : created 0 ∷ created 32768 ∷ created 65535 ∷ created 65536 ∷ created 98304 ∷ created 131072
    ∷ created 262144 ∷ created 524288 ∷ created 1048576 ∷ created 1048577 ∷ created 2097152 ∷ []
    ≡ 1 ∷ 1 ∷ 1 ∷ 0 ∷ 1 ∷ 0 ∷ 0 ∷ 0 ∷ 0 ∷ 1 ∷ 1 ∷ []
unfolding create_of
creations = refl

-- a store with nothing in it whose arenas have these page sizes
abbrev sized : ℕ → ℕ → State
sized keySize listSize = record {
  seed = 0;
  words = 2;
  key_bytes = 1;
  list_bytes = 1;
  buckets = 1;
  back = false;
  keys = 0;
  key_arena = unused keySize;
  list_arena = unused listSize;
}

-- the number of a lookup in it
abbrev looked : ℕ → ℕ → ℕ
looked keySize listSize =
    number_in (said_lookup (lookup_of (sized keySize listSize) (lent (4294967295 ∷ 0 ∷ []) (0 ∷ []) (0 ∷ [])) (65 ∷ [])))

-- RULES AG2. Two sizes, or a senseless one, are 2
pub states : looked 65536 65536 ∷ looked 1048576 1048576 ∷ looked 65536 131072 ∷ looked 131072 65536
    ∷ looked 65537 65537 ∷ []
    ≡ 0 ∷ 0 ∷ 2 ∷ 2 ∷ 2 ∷ []
unfolding lookup_of
states = refl
