-- RULES B. Document 01, "Numbers that bound the store", and document 02, Nine: the whole-state check, which comes first
-- in each store call.
use Rattle.std.specs.Prelude.{ℕ, ◌/◌, ◌%◌, Bool, ◌&&◌, leb, eqb}
use Rattle.limits.specs.Limits.{word_limit}
use Rattle.memory_arena.specs.Calls.{sensible}
use Rattle.shared_arena_hashmap.specs.Buckets.{first_bucket}
use Rattle.shared_arena_hashmap.specs.Power.{power_of_two}
use Rattle.store_state.specs.declared.State.{State}

-- RULES A4. T, the lent buckets.
abbrev pub lent_buckets : ℕ → ℕ
lent_buckets words = words / 2

-- RULES A4, B4. Table words such as creation takes: two a bucket, and not too many.
abbrev pub words_taken : ℕ → Bool
words_taken words = eqb (words % 2) 0 && leb words word_limit

-- RULES B3. "remembered lengths equal the lent ones".
abbrev pub lengths_equal : State → ℕ → ℕ → ℕ → Bool
lengths_equal st words key_bytes list_bytes =
    eqb st.words words && eqb st.key_bytes key_bytes && eqb st.list_bytes list_bytes

-- RULES B5. "L is a power of two and at most the lent buckets T, keys at most L".
abbrev pub table_fits : State → ℕ → Bool
table_fits st words = power_of_two st.buckets && leb st.buckets (lent_buckets words) && leb st.keys st.buckets

-- RULES B9. Both arenas keep the store's page size.
abbrev pub sizes_equal : State → Bool
sizes_equal st = eqb st.key_arena.size st.list_arena.size

-- RULES B2. "... and are such as creation takes ..., current page exists, used at most that page's capacity": of each
-- arena.
unfoldable pub whole_state : State → ℕ → ℕ → ℕ → Bool
unfolding power_of_two sensible
whole_state st words key_bytes list_bytes =
    lengths_equal st words key_bytes list_bytes
    && (words_taken words
    && (table_fits st words
    && (sizes_equal st && (sensible st.key_arena key_bytes && sensible st.list_arena list_bytes))))

-- RULES M3. The first bucket of the standing table.
abbrev pub first_of : State → ℕ
first_of st = first_bucket st.back (lent_buckets st.words) st.buckets
