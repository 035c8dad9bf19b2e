-- RULES AF15. How the code comes to the verdict: one lookup a bucket decides faults 2 and 3, and marks in a bit area
-- decide fault 7. proofs/ shows that this is the verdict of brownout_faults.
use Rattle.std.specs.Prelude.{ℕ, zero, suc, ◌+◌, ◌*◌, ◌≤◌, ◌≡◌, true, false, cond, List, ltb, eqb, length}
use Rattle.limits.specs.Limits.{arena_limit, record_extra, link_size}
use Rattle.marks.specs.Bits.{Out as MarksOut, out as marks_out, mark_span}
use Rattle.memory_arena.specs.declared.Arena.{Arena}
use Rattle.records.specs.Record.{key_length, key_at, good_record, header_of, header_sound}
use Rattle.expull_header.specs.declared.Header.{Header}
use Rattle.expull_header.specs.Header.{block_size, block_count, sound_header}
use Rattle.expull_walk.specs.Blocks.{block_place, good_blocks}
use Rattle.murmurhash2.specs.Murmur.{murmur_hash2}
use Rattle.store_state.specs.declared.State.{State}
use Rattle.store_look.specs.Look.{Lent, walk_of, in_order}
use Rattle.brownout_faults.specs.declared.Checked.TheVariants.{Sound, Faulty, Miscounted}
use Rattle.brownout_faults.specs.Check.{vacant, record_in, header_in, found_met, tail_good, Out, out}

-- ---- faults 1 to 6

-- RULES AF15. The bucket in which probing finds a name; L where it doesn't.
unfoldable pub bucket_of : State → Lent → List ℕ → ℕ
unfolding walk_of murmur_hash2
bucket_of st m name = cond (found_met (length name) (walk_of st m name).met) (in_order st name (walk_of st m name).looked)
    st.buckets

-- RULES AF15. Faults 5 and 6 of a list.
unfoldable pub list_judged : State → Lent → Header → ℕ
unfolding good_blocks tail_good
list_judged st m h = cond (good_blocks st.list_arena m.lists h.head (block_count h)) (cond (tail_good m h) 0 6) 5

-- RULES AF15. Faults 1 to 6 of bucket i, whose record is at a place.
unfoldable pub judged : State → Lent → ℕ → ℕ → ℕ
unfolding good_record key_at bucket_of header_sound list_judged
judged st m i at =
    cond (good_record st.key_arena m.keys at)
    (cond (ltb (bucket_of st m (key_at m.keys at)) i) 2
    (cond (eqb (bucket_of st m (key_at m.keys at)) i) (cond (header_sound m.keys at)
    (list_judged st m (header_of m.keys at)) 4) 3))
    1

-- ---- fault 7

-- RULES AF15. On with the marks, unless a place was marked already.
abbrev pub on_marks : MarksOut → (List ℕ → MarksOut) → MarksOut
on_marks o k = cond o.met o (k o.marks)

-- RULES AF15. N blocks from block k on marked; place p of the list pages is mark base + p.
unfoldable pub mark_blocks : List ℕ → ℕ → List ℕ → ℕ → ℕ → ℕ → MarksOut
unfolding mark_span block_place block_size
mark_blocks marks base lists head zero k = marks_out false marks
mark_blocks marks base lists head (suc n) k =
    on_marks (mark_span marks (base + block_place lists head k) (block_size (k + 3) + link_size))
    (λ next. mark_blocks next base lists head n (k + 1))

-- RULES AF15. A fault's number, and the marks.
pub record Step : Type 0 where
  pub fault : ℕ
  pub marks : List ℕ

-- RULES AF15. Both put together.
abbrev pub step : ℕ → List ℕ → Step
step n marks = record { fault = n; marks = marks }

-- RULES AF15. A place that was marked already is fault 7.
abbrev pub step_of : MarksOut → Step
step_of o = step (cond o.met 7 0) o.marks

-- RULES AF15. A record at a place and its list's blocks marked.
unfoldable pub lane_marked : Lent → ℕ → Header → List ℕ → Step
unfolding mark_span mark_blocks key_length
lane_marked m at h marks =
    step_of
    (on_marks (mark_span marks at (key_length m.keys at + record_extra))
    (λ next. mark_blocks next (length m.keys) m.lists h.head (block_count h) 0))

-- ---- a bucket, and all of them

-- RULES AF15. Bucket i looked over.
unfoldable pub looked_over : State → Lent → ℕ → List ℕ → Step
unfolding judged lane_marked
looked_over st m i marks =
    cond (vacant st m i) (step 0 marks)
    (cond (eqb (judged st m i (record_in st m i)) 0) (lane_marked m (record_in st m i) (header_in st m i) marks)
    (step (judged st m i (record_in st m i)) marks))

-- RULES AF15. One more where it holds a record.
abbrev pub counted_on : State → Lent → ℕ → ℕ → ℕ
counted_on st m i count = cond (vacant st m i) count (count + 1)

-- RULES AF15. N buckets from i on, before which there were `count` records.
unfoldable pub gone_over : State → Lent → ℕ → ℕ → ℕ → List ℕ → Out
unfolding looked_over
gone_over st m zero i count marks = out (cond (eqb st.keys count) Sound Miscounted) marks
gone_over st m (suc n) i count marks =
    cond (eqb (looked_over st m i marks).fault 0)
    (gone_over st m n (i + 1) (counted_on st m i count) (looked_over st m i marks).marks)
    (out (Faulty i (looked_over st m i marks).fault) (looked_over st m i marks).marks)

-- RULES AF15. What marking a lane may rely on: the record and its list are good, and the marks have room.
pub record Markable (m : Lent) (a : Arena) (at : ℕ) (h : Header) (marks : ℕ) : Type 0 where
  pub record-in : at + (key_length m.keys at + record_extra) ≤ length m.keys
  pub key_short : length m.keys ≤ arena_limit
  pub list_short : length m.lists ≤ arena_limit
  pub header : sound_header h 0 ≡ true
  pub blocks : good_blocks a m.lists h.head (block_count h) ≡ true
  pub room : length m.keys + length m.lists ≤ 8 * marks
