-- RULES C. Document 01, "Buckets": creation. "Creation rounds the capacity down to a power of two and writes that
-- many empty buckets at the front of the lent table, nothing else." Refusal 1: capacity 0; an arena of length 0 or
-- too long; table words odd, too many, or under twice the rounded capacity. Document 02, Nine: "Page size becomes a
-- setting at creation, 65,536 to 1,048,576 bytes, powers of two only, else refusal 1."
use Rattle.std.specs.Prelude.{ℕ, Bool, false, cond, ◌&&◌, List, leb, ltb, length, Result, Ok, Err}
use Rattle.limits.specs.Limits.{page_taken, arena_limit_for}
use Rattle.memory_arena.specs.declared.Arena.{Arena}
use Rattle.memory_arena.specs.Pages.{lendable}
use Rattle.shared_arena_hashmap.specs.Power.{rounded_down}
use Rattle.shared_arena_hashmap.specs.Buckets.{cleared}
use Rattle.store_state.specs.declared.State.{State}
use Rattle.limits.specs.declared.Refusal.{Refusal}
use Rattle.limits.specs.declared.Refusal.TheVariants.{NotCreatable}
use Rattle.store_state.specs.State.{lent_buckets, words_taken}

-- RULES C3. A fresh state, or why there is none.
abbrev pub Created : Type 0
Created = Result State Refusal

-- RULES C3. The answer, and the lent table as the call leaves it.
pub record Out : Type 0 where
  pub answer : Created
  pub table : List ℕ

-- RULES C3. Both put together.
abbrev pub out : Created → List ℕ → Out
out r t = record { answer = r; table = t }

-- RULES C2. What creation takes.
unfoldable pub creatable : ℕ → ℕ → ℕ → ℕ → ℕ → Bool
unfolding rounded_down
creatable capacity size words key_bytes list_bytes =
    page_taken size
    && (ltb 0 capacity
    && (lendable (arena_limit_for size) key_bytes
    && (lendable (arena_limit_for size) list_bytes
    && (words_taken words && leb (rounded_down capacity) (lent_buckets words)))))

-- RULES C4. An arena with nothing used.
abbrev pub unused : ℕ → Arena
unused size = record { page = 0; used = 0; size = size }

-- RULES C4. A fresh store's state.
abbrev pub fresh_state : ℕ → ℕ → ℕ → ℕ → ℕ → ℕ → State
fresh_state seed size words key_bytes list_bytes l = record {
  seed = seed;
  words = words;
  key_bytes = key_bytes;
  list_bytes = list_bytes;
  buckets = l;
  back = false;
  keys = 0;
  key_arena = unused size;
  list_arena = unused size;
}

-- RULES C2, C3. The call.
unfoldable pub create_of : ℕ → ℕ → ℕ → List ℕ → ℕ → ℕ → Out
unfolding creatable cleared
create_of capacity seed size table key_bytes list_bytes =
    cond (creatable capacity size (length table) key_bytes list_bytes)
    (out (Ok (fresh_state seed size (length table) key_bytes list_bytes (rounded_down capacity)))
    (cleared 0 (rounded_down capacity) table))
    (out (Err NotCreatable) table)
