-- RULES AF1 to AF12. Document 02, Eight: "After the whole-state check a tool goes over the lent table and both arenas
-- and says sound or names the first faulty bucket and there the first fault". Below, each fault of bucket i in the
-- paper's order, for any state and any lent memory, then the verdict, then the call.
use Rattle.std.specs.Prelude.{ℕ, zero, suc, ◌+◌, ◌-◌, ◌/◌, Bool, true, false, cond, ◌&&◌, ◌||◌, not, List, leb, ltb, eqb, length, replicate}
use Rattle.limits.specs.Limits.{fresh_number, record_extra, link_size}
use Rattle.fastcmp.specs.Equal.{equal_bytes}
use Rattle.murmurhash2.specs.Murmur.{murmur_hash2}
use Rattle.shared_arena_hashmap.specs.declared.Met.{Met}
use Rattle.shared_arena_hashmap.specs.declared.Met.TheVariants.{Empty, Standing, Damaged, Lap}
use Rattle.shared_arena_hashmap.specs.Buckets.{address_at, empty_at}
use Rattle.records.specs.Record.{key_length, key_at, good_record, header_of, header_sound}
use Rattle.expull_header.specs.declared.Header.{Header}
use Rattle.expull_header.specs.Header.{block_size, block_count}
use Rattle.expull_walk.specs.Blocks.{block_place, good_blocks}
use Rattle.store_state.specs.declared.State.{State}
use Rattle.store_state.specs.State.{whole_state, first_of}
use Rattle.store_look.specs.Look.{Lent, checked, walk_of, in_order}
use Rattle.brownout_faults.specs.declared.Checked.{Checked}
use Rattle.brownout_faults.specs.declared.Checked.TheVariants.{Sound, Faulty, Miscounted, Refused}

-- ---- what bucket i of the standing table holds

-- RULES AF2. Whether it is empty.
abbrev pub vacant : State → Lent → ℕ → Bool
vacant st m i = empty_at m.table (first_of st + i)

-- RULES AF4. Its record's place.
abbrev pub record_in : State → Lent → ℕ → ℕ
record_in st m i = address_at m.table (first_of st + i)

-- RULES AF5. The name in that record.
abbrev pub name_in : State → Lent → ℕ → List ℕ
name_in st m i = key_at m.keys (record_in st m i)

-- RULES AF7. And the header of its list.
abbrev pub header_in : State → Lent → ℕ → Header
header_in st m i = header_of m.keys (record_in st m i)

-- ---- 1: "a record that isn't a good span"

-- RULES AF4.
abbrev pub good_in : State → Lent → ℕ → Bool
good_in st m i = good_record st.key_arena m.keys (record_in st m i)

-- ---- 2: "a name in an earlier bucket"

-- RULES AF5. The name stands in one of the first n buckets. It is asked only where these have no fault, so that their
-- records are good.
unfoldable pub name_among : State → Lent → List ℕ → ℕ → Bool
unfolding equal_bytes key_at
name_among st m name zero = false
name_among st m name (suc n) = name_among st m name n || (not (vacant st m n) && equal_bytes (name_in st m n) name)

-- ---- 3: "a name that probing doesn't find in this bucket (damage met on the way counts so)"

-- RULES AF6. Whether a walk found its name of n bytes. A name of no bytes is absent to a lookup, so none finds it.
abbrev pub found_met : ℕ → Met → Bool
found_met n Empty = false
found_met n (Standing at) = ltb 0 n
found_met n Damaged = false
found_met n Lap = false

-- RULES AF6. The lookup ends at its name, and in bucket i.
unfoldable pub found_in : State → Lent → List ℕ → ℕ → Bool
unfolding walk_of murmur_hash2
found_in st m name i =
    found_met (length name) (walk_of st m name).met && eqb (in_order st name (walk_of st m name).looked) i

-- ---- 4: "a header that the rules call damage"

-- RULES AF7.
abbrev pub header_good : State → Lent → ℕ → Bool
header_good st m i = header_sound m.keys (record_in st m i)

-- ---- 5: "a block that isn't a good span"

-- RULES AF8.
abbrev pub blocks_good : State → Lent → ℕ → Bool
blocks_good st m i = good_blocks st.list_arena m.lists (header_in st m i).head (block_count (header_in st m i))

-- ---- 6: "a tail not where the last block's filled bytes end"

-- RULES AF8. Where block k of a list is.
abbrev pub block_in : Lent → Header → ℕ → ℕ
block_in m h k = block_place m.lists h.head k

-- RULES AF8. And what it takes with its link.
abbrev pub block_wide : ℕ → ℕ
block_wide k = block_size (k + 3) + link_size

-- RULES AF9. A list without blocks has no tail.
unfoldable pub tail_good : Lent → Header → Bool
unfolding block_place block_size
tail_good m h =
    cond (eqb h.number fresh_number) true
    (eqb h.tail (block_in m h (block_count h - 1) + (block_size h.number - h.remaining)))

-- ---- 7: "a record or block that overlaps one met earlier"

-- RULES AF10. N bytes from p and k bytes from q.
abbrev pub overlap : ℕ → ℕ → ℕ → ℕ → Bool
overlap p n q k = ltb p (q + k) && ltb q (p + n)

-- RULES AF10. The bytes of bucket i's record.
abbrev pub record_wide : State → Lent → ℕ → ℕ
record_wide st m i = key_length m.keys (record_in st m i) + record_extra

-- RULES AF10. N bytes of the key pages from p overlap a record of the first i buckets.
unfoldable pub record_met : State → Lent → ℕ → ℕ → ℕ → Bool
unfolding key_length
record_met st m zero p n = false
record_met st m (suc i) p n =
    record_met st m i p n || (not (vacant st m i) && overlap p n (record_in st m i) (record_wide st m i))

-- RULES AF10. N bytes of the list pages from p overlap one of a list's first k blocks, bytes and link.
unfoldable pub block_met : Lent → Header → ℕ → ℕ → ℕ → Bool
unfolding block_place block_size
block_met m h zero p n = false
block_met m h (suc k) p n = block_met m h k p n || overlap p n (block_in m h k) (block_wide k)

-- RULES AF10. Or a block of a lane of the first i buckets.
unfoldable pub lane_met : State → Lent → ℕ → ℕ → ℕ → Bool
unfolding block_met
lane_met st m zero p n = false
lane_met st m (suc i) p n =
    lane_met st m i p n
    || (not (vacant st m i) && block_met m (header_in st m i) (block_count (header_in st m i)) p n)

-- RULES AF10. One of the first k blocks of bucket i's lane overlaps a block met earlier: of an earlier bucket's lane,
-- or an earlier one of its own.
unfoldable pub blocks_meet : State → Lent → ℕ → ℕ → Bool
unfolding lane_met
blocks_meet st m i zero = false
blocks_meet st m i (suc k) =
    blocks_meet st m i k
    || (lane_met st m i (block_in m (header_in st m i) k) (block_wide k)
    || block_met m (header_in st m i) k (block_in m (header_in st m i) k) (block_wide k))

-- RULES AF10. Record and blocks of bucket i.
unfoldable pub overlaps_in : State → Lent → ℕ → Bool
unfolding record_met blocks_meet
overlaps_in st m i =
    record_met st m i (record_in st m i) (record_wide st m i) || blocks_meet st m i (block_count (header_in st m i))

-- ---- the first fault of bucket i; 0 where it has none

-- RULES AF3.
unfoldable pub fault_in : State → Lent → ℕ → ℕ
unfolding good_record name_among found_in header_sound good_blocks tail_good overlaps_in
fault_in st m i =
    cond (vacant st m i) 0
    (cond (not (good_in st m i)) 1
    (cond (name_among st m (name_in st m i) i) 2
    (cond (not (found_in st m (name_in st m i) i)) 3
    (cond (not (header_good st m i)) 4
    (cond (not (blocks_good st m i)) 5
    (cond (not (tail_good m (header_in st m i))) 6
    (cond (overlaps_in st m i) 7 0)))))))

-- ---- the verdict: the first faulty bucket; "A key count that differs comes last."

-- RULES AF11. How many of the first i buckets hold a record.
unfoldable pub entries : State → Lent → ℕ → ℕ
entries st m zero = 0
entries st m (suc i) = cond (vacant st m i) (entries st m i) (suc (entries st m i))

-- RULES AF2, AF11. N buckets from i on.
unfoldable pub verdict_from : State → Lent → ℕ → ℕ → Checked
unfolding fault_in entries
verdict_from st m zero i = cond (eqb st.keys (entries st m i)) Sound Miscounted
verdict_from st m (suc n) i =
    cond (eqb (fault_in st m i) 0) (verdict_from st m n (i + 1)) (Faulty i (fault_in st m i))

-- RULES AF2. All of them.
unfoldable pub verdict_of : State → Lent → Checked
unfolding verdict_from
verdict_of st m = verdict_from st m st.buckets 0

-- ---- the call: "a mark area of one bit for each arena byte, both arenas together, rounded up to bytes; too short is
-- refusal 8. The whole mark area is zero afterwards, except after a refusal."

-- RULES AF12. The bytes of that area.
abbrev pub marks_needed : Lent → ℕ
marks_needed m = (length m.keys + length m.lists + 7) / 8

-- RULES AF1. The answer, and the lent mark area as the call leaves it.
pub record Out : Type 0 where
  pub answer : Checked
  pub marks : List ℕ

-- RULES AF1. Both put together.
abbrev pub out : Checked → List ℕ → Out
out r marks = record { answer = r; marks = marks }

-- RULES AF1, AF12. The call. What the mark area held doesn't matter.
unfoldable pub check_of : State → Lent → List ℕ → Out
unfolding whole_state verdict_of
check_of st m marks =
    cond (checked st m)
    (cond (leb (marks_needed m) (length marks)) (out (verdict_of st m) (replicate (length marks) 0))
    (out (Refused 8 (marks_needed m)) marks))
    (out (Refused 2 0) marks)
