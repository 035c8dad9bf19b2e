-- RULES AJ3, AJ5 to AJ9. How much to lend for a shift of at most so many lanes, so many bytes in all, and names of at
-- most so many bytes: then no append of it is refused (`never_refused` of shift_cost).
use Rattle.std.specs.Prelude.{ℕ, ◌+◌, ◌-◌, ◌*◌, ◌/◌, ◌%◌, ◌^◌, min, max, ◌≡◌, refl, Bool, cond, ◌&&◌, leb}
use Rattle.limits.specs.Limits.{page_taken, arena_limit_for, bucket_limit, name_limit_for, record_extra, size_top, link_size}
use Rattle.shared_arena_hashmap.specs.Power.{rounded_down, grown_length}
use Rattle.lending.specs.declared.Lend.{Lend}
use Rattle.lending.specs.declared.Lend.TheVariants.{Areas, TooMuch, NoSuchPage}

-- ---- page tails

-- RULES AJ3. No block lies on two pages, so of a page that is left behind up to one byte less than the largest block,
-- of 32,768 bytes and its link, is never used.
abbrev pub block_tail : ℕ
block_tail = 32771

pub block_tail_lem : block_tail + 1 ≡ 2 ^ size_top + link_size
block_tail_lem = refl

-- RULES AJ5. Pages of s bytes that hold so much in all, with their tails: on one page nothing is left behind; else of
-- each page left behind all but the tail is taken, and one tail more may be needed at the end.
unfoldable pub with_tails : ℕ → ℕ → ℕ → ℕ
with_tails s tail total = cond (leb total s) total (total + tail * (total / (s - tail) + 1))

-- ---- the three areas

-- RULES AJ6. What the blocks of so many lanes with so many bytes in all take at most, with their links. A lane of n
-- bytes takes at most 5n/2 + 10, which is near for short lanes; and at most n + n/8,192 + 32,816, which is for long
-- ones.
abbrev pub taken_at_most : ℕ → ℕ → ℕ
taken_at_most lanes bytes = min ((5 * bytes + 20 * lanes) / 2) (bytes + bytes / 8192 + 32816 * lanes)

-- RULES AJ6. Bytes of the list pages; creation takes at least 1.
abbrev pub list_bytes_for : ℕ → ℕ → ℕ → ℕ
list_bytes_for s lanes bytes = max 1 (with_tails s block_tail (taken_at_most lanes bytes))

-- RULES AJ7. A page holds so many records at least, whatever their names of up to so many bytes are.
abbrev pub records_on : ℕ → ℕ → ℕ
records_on s longest = s / (longest + record_extra)

-- RULES AJ7. Bytes of the key pages: whole ones for all lanes that can lie on pages left behind, and room for the rest.
abbrev pub key_bytes_for : ℕ → ℕ → ℕ → ℕ
key_bytes_for s lanes longest =
    (lanes - 1) / records_on s longest * s + ((lanes - 1) % records_on s longest + 1) * (longest + record_extra)

-- RULES AJ8. A capacity with which the table never has to grow: it is more than twice the lanes that stand when the
-- last one comes.
unfoldable pub capacity_for : ℕ → ℕ
unfolding rounded_down
capacity_for lanes = rounded_down (4 * lanes - 3)

-- RULES AJ8. Buckets for a table that was created with any capacity: just these where it needn't grow, else also the
-- last table from which it may have to grow, and the one to which it then grows.
unfoldable pub buckets_for : ℕ → ℕ → ℕ
unfolding rounded_down
buckets_for capacity lanes =
    cond (leb (2 * lanes - 1) (rounded_down capacity)) (rounded_down capacity)
    (rounded_down (2 * lanes - 2) + grown_length (rounded_down (2 * lanes - 2)))

-- ---- the call

-- RULES AJ9. No store holds more lanes than buckets, more bytes than an arena, or a longer name; nor is more lent than
-- creation takes.
abbrev pub asks_few : ℕ → ℕ → ℕ → ℕ → Bool
asks_few s lanes bytes longest = leb lanes bucket_limit && (leb bytes (arena_limit_for s) && leb longest (name_limit_for s))

-- RULES AJ9.
abbrev pub lends_few : ℕ → ℕ → ℕ → ℕ → Bool
lends_few s capacity key_bytes list_bytes =
    leb capacity bucket_limit && (leb key_bytes (arena_limit_for s) && leb list_bytes (arena_limit_for s))

-- RULES AJ9. A capacity to create with, words of the table, bytes of the key pages and of the list pages.
abbrev pub areas_for : ℕ → ℕ → ℕ → ℕ → Lend
areas_for s lanes bytes longest =
    Areas (capacity_for lanes) (2 * capacity_for lanes) (key_bytes_for s lanes longest) (list_bytes_for s lanes bytes)

-- RULES AJ9. The call.
unfoldable pub lend_for : ℕ → ℕ → ℕ → ℕ → Lend
unfolding capacity_for with_tails
lend_for s lanes bytes longest =
    cond (page_taken s)
    (cond (asks_few s lanes bytes longest)
    (cond (lends_few s (capacity_for lanes) (key_bytes_for s lanes longest) (list_bytes_for s lanes bytes))
    (areas_for s lanes bytes longest) TooMuch) TooMuch) NoSuchPage
