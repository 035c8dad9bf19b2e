-- RULES AK1 to AK4. The state in a lent area of 64 bytes: sixteen little-endian numbers of four bytes (document 02,
-- Twelve: "with state in a lent area of fixed size whose layout you write down").
use Rattle.std.specs.Prelude.{ℕ, ◌+◌, ◌<◌, ◌^◌, ◌≡◌, Bool, cond, ◌&&◌, List, ◌++◌, leb, eqb, length}
use Rattle.numbers.specs.LittleEndian.{le_number, le_bytes}
use Rattle.spans.specs.Span.{read_span}
use Rattle.memory_arena.specs.declared.Arena.{Arena}
use Rattle.store_state.specs.declared.State.{State}

-- RULES AK1. Bytes of the area.
abbrev pub area_size : ℕ
area_size = 64

-- RULES AK1. Its first number: the letters NUV1.
abbrev pub area_mark : ℕ
area_mark = 827741518

-- RULES AK1. The number of w bytes from place p.
abbrev pub number_at : ℕ → ℕ → List ℕ → ℕ
number_at w p area = le_number (read_span p w area)

-- ---- read

-- RULES AK3. "a short or senseless state area is refusal 2": long enough, the mark, an end that is one, zeros behind
-- the page size. Whether the numbers fit a store is the whole-state check's to say, 2 as well.
unfoldable pub sensible_area : List ℕ → Bool
unfolding le_number read_span
sensible_area area =
    leb area_size (length area)
    && (eqb (number_at 4 0 area) area_mark && leb (number_at 4 24 area) 1 && eqb (number_at 8 52 area) 0
    && eqb (number_at 4 60 area) 0)

-- RULES AK2. An arena's state: page and used bytes at a place, and the page size, which both arenas have.
abbrev pub arena_at : ℕ → List ℕ → Arena
arena_at p area = record { page = number_at 4 p area; used = number_at 4 (p + 4) area; size = number_at 4 48 area }

-- RULES AK2. The state that an area holds.
unfoldable pub state_at : List ℕ → State
unfolding le_number read_span
state_at area = record {
  seed = number_at 4 4 area;
  words = number_at 4 16 area;
  key_bytes = number_at 4 8 area;
  list_bytes = number_at 4 12 area;
  buckets = number_at 4 20 area;
  back = eqb (number_at 4 24 area) 1;
  keys = number_at 4 28 area;
  key_arena = arena_at 32 area;
  list_arena = arena_at 40 area;
}

-- ---- written

-- RULES AK2. Four numbers one behind the other.
unfoldable pub four_bytes : ℕ → ℕ → ℕ → ℕ → List ℕ
unfolding le_bytes
four_bytes a b c d = le_bytes 4 a ++ (le_bytes 4 b ++ (le_bytes 4 c ++ le_bytes 4 d))

-- RULES AK2. A state's 64 bytes.
unfoldable pub area_of : State → List ℕ
unfolding four_bytes
area_of st =
    four_bytes area_mark st.seed st.key_bytes st.list_bytes
    ++ (four_bytes st.words st.buckets (cond st.back 1 0) st.keys
    ++ (four_bytes st.key_arena.page st.key_arena.used st.list_arena.page st.list_arena.used
    ++ four_bytes st.key_arena.size 0 0 0))

-- RULES AK4. Each number of a state fits four bytes, and both arenas have one page size.
pub record Fits (st : State) : Type 0 where
  pub seed_fits : st.seed < 2 ^ 32
  pub words_fit : st.words < 2 ^ 32
  pub key_bytes_fit : st.key_bytes < 2 ^ 32
  pub list_bytes_fit : st.list_bytes < 2 ^ 32
  pub buckets_fit : st.buckets < 2 ^ 32
  pub keys_fit : st.keys < 2 ^ 32
  pub key_page_fits : st.key_arena.page < 2 ^ 32
  pub key_used_fits : st.key_arena.used < 2 ^ 32
  pub list_page_fits : st.list_arena.page < 2 ^ 32
  pub list_used_fits : st.list_arena.used < 2 ^ 32
  pub size_fits : st.key_arena.size < 2 ^ 32
  pub one_size : st.key_arena.size ≡ st.list_arena.size
