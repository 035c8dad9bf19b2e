-- Demand 3 and its neighbours in document 01: what each call answers after a history, in the terms of the store's own
-- definitions.
use Rattle.std.specs.Prelude.{ℕ, zero, suc, ◌+◌, ◌*◌, ◌≤◌, ◌<◌, ◌≡◌, true, false, List, [], ◌∷◌, ◌++◌, map, length}
use Rattle.std.proofs.Math.Option.{Option, none, some}
use Rattle.limits.specs.Limits.{number_limit, link_size}
use Rattle.spans.specs.Span.{read_span, overwrite}
use Rattle.records.specs.Record.{key_at, header_of}
use Rattle.expull_header.specs.Header.{block_size, block_count, full_bytes, lane_length}
use Rattle.expull_walk.specs.Blocks.{lane_bytes}
use Rattle.history_names.specs.Listing.{times}
use Rattle.store_look.specs.declared.Lookup.TheVariants.{At, Missing}
use Rattle.store_look.specs.declared.Answer.{Answer}
use Rattle.store_look.specs.declared.Answer.TheVariants.{Absent, Found, Refused}
use Rattle.store_look.specs.declared.Outcome.TheVariants.{Length, Reading, Block, NoSuchBlock}
use Rattle.store_look.specs.declared.Listed.{Listed}
use Rattle.store_look.specs.declared.Listed.TheVariants.{Bucket, NoMore, Stopped}
use Rattle.store_look.specs.declared.Counted.TheVariants.{Keys}
use Rattle.store_look.specs.Look.{lookup_of, length_of, reading, read_of, find_block_of, show_of, next_of, count_of}
use Rattle.store_look.specs.Look.{blocks_sound}
use Rattle.store_append.specs.Append.{declined}
use Rattle.history.specs.History.{World, append_in, is_accepted, among}
use Rattle.history.specs.Due.{shape_of}
use Rattle.history.specs.Numbers.{appended_number}

-- ---- a name that accepted appends brought

-- RULES Y3. What is shown of the block that was found
abbrev pub shown_of : World → Answer → List ℕ
shown_of w Absent = []
shown_of w (Found (Length n)) = []
shown_of w (Found (Reading n)) = []
shown_of w (Found (Block at n)) = show_of w.state w.memory at n
shown_of w (Found NoSuchBlock) = []
shown_of w (Refused n told) = []

-- RULES Y3. A name's blocks from 0 on, k of them, each found and shown, joined in order
unfoldable pub shown_blocks : World → List ℕ → ℕ → List ℕ
unfolding show_of find_block_of
shown_blocks w name zero = []
shown_blocks w name (suc k) = shown_blocks w name k ++ shown_of w (find_block_of w.state w.memory name k)

-- RULES Y3. How many blocks hold n bytes
unfoldable pub blocks_for : ℕ → ℕ
unfolding shape_of
blocks_for n = block_count (shape_of n)

-- RULES Y3, Y9. The calls on a name whose accepted appends, joined in order, are bs
pub record ReadsBack (w : World) (name bs : List ℕ) : Type 0 where
  -- the lookup finds its record
  pub place : ℕ
  pub found : lookup_of w.state w.memory name ≡ At place
  pub named : key_at w.memory.keys place ≡ name
  -- a reading gives the bytes and no more, or tells the length
  pub read : (output : List ℕ) → length bs ≤ length output
      → read_of w.state w.memory name output ≡ reading (Found (Reading (length bs))) (overwrite 0 bs output)
  pub unread : (output : List ℕ) → length output < length bs
      → read_of w.state w.memory name output ≡ reading (Refused 8 (length bs)) output
  pub measured : length_of w.state w.memory name ≡ Found (Length (length bs))
  -- each block is found, and shown gives its piece of the bytes; joined they make up the bytes; past the last there is
  -- none
  pub block : (i : ℕ) → i < blocks_for (length bs)
      → (at : ℕ) × (n : ℕ) × (find_block_of w.state w.memory name i ≡ Found (Block at n))
  pub piece : (i : ℕ) → i < blocks_for (length bs)
      → shown_of w (find_block_of w.state w.memory name i) ≡ read_span (full_bytes i) (block_size (i + 3)) bs
  pub blocks : shown_blocks w name (blocks_for (length bs)) ≡ bs
  pub no_block : (i : ℕ) → blocks_for (length bs) ≤ i → find_block_of w.state w.memory name i ≡ Found NoSuchBlock
  -- what the record's header says: no damage, and these bytes in its blocks
  pub blocks-good : blocks_sound w.state w.memory place ≡ true
  pub blocks_hold : lane_bytes w.memory.lists (header_of w.memory.keys place) ≡ bs
  -- "A lane's length is the sum of the full blocks before the last, plus last size minus remaining." The block number
  -- is far from its limit.
  pub length_rule : lane_length (header_of w.memory.keys place) ≡ length bs
  pub blocks_few : (header_of w.memory.keys place).number < number_limit
  -- "With k blocks and n bytes, n ≥ 1, a lane takes at most 2n + 6 + 4k list bytes, page tails not counted."
  pub room_bound : full_bytes (blocks_for (length bs)) + link_size * blocks_for (length bs)
      ≤ 2 * length bs + 6 + 4 * blocks_for (length bs)

-- RULES Y4. The calls on a name that none brought: it is absent, which is no reading of 0 bytes
pub record ReadsAbsent (w : World) (name : List ℕ) : Type 0 where
  pub missed : lookup_of w.state w.memory name ≡ Missing
  pub unread : (output : List ℕ) → read_of w.state w.memory name output ≡ reading Absent output
  pub unmeasured : length_of w.state w.memory name ≡ Absent
  pub no_block : (i : ℕ) → find_block_of w.state w.memory name i ≡ Absent

-- RULES Y3, Y4. Either, by what the history comes to
abbrev pub ReadsAs : World → List ℕ → Option (List ℕ) → Type 0
ReadsAs w name none = ReadsAbsent w name
ReadsAs w name (some bs) = ReadsBack w name bs

-- ---- an append to which a number is due: accepted where it is 0, else refused with that number and nothing changed

-- RULES Y7.
pub record AnswersDue (w : World) (name bytes : List ℕ) (number : ℕ) : Type 0 where
  pub said : appended_number (append_in w name bytes).answer ≡ number
  pub accepted : number ≡ 0 → is_accepted (append_in w name bytes).answer ≡ true
  pub refused : (number ≡ 0 → ⊥) → append_in w name bytes ≡ declined w.state w.memory number

-- ---- the names

-- RULES Y5. The places that listing tells: the next occupied bucket from i, then from the one behind it, at most n
-- times
abbrev pub listed_on : Listed → (ℕ → List ℕ) → List ℕ
listed_on (Bucket i at) rest = at ∷ rest (i + 1)
listed_on NoMore rest = []
listed_on (Stopped n) rest = []

-- RULES Y5.
unfoldable pub listed_from : World → ℕ → ℕ → List ℕ
unfolding next_of
listed_from w zero i = []
listed_from w (suc n) i = listed_on (next_of w.state w.memory i) (λ j. listed_from w n j)

-- RULES Y5. From bucket 0 on, as often as there are buckets
abbrev pub listed_places : World → List ℕ
listed_places w = listed_from w w.state.buckets 0

-- RULES Y5. The keys of the records there
abbrev pub listed_names : World → List (List ℕ)
listed_names w = map (key_at w.memory.keys) (listed_places w)

-- RULES Y5. The store's names are ns: so many are counted, and listing tells each of them once and no other, each where
-- its lookup finds it, and is never stopped
pub record HasNames (w : World) (ns : List (List ℕ)) : Type 0 where
  pub counted : w.state.keys ≡ length ns
  pub told : count_of w.state w.memory ≡ Keys (length ns)
  pub distinct : (j : List ℕ) → among j ns ≡ true → times j ns ≡ 1
  pub listed : length (listed_names w) ≡ length ns
  pub each_once : (j : List ℕ) → among j ns ≡ true → times j (listed_names w) ≡ 1
  pub no_other : (j : List ℕ) → among j ns ≡ false → times j (listed_names w) ≡ 0
  pub listed_there : (i b at : ℕ) → next_of w.state w.memory i ≡ Bucket b at
      → lookup_of w.state w.memory (key_at w.memory.keys at) ≡ At at
  pub unstopped : (i n : ℕ) → next_of w.state w.memory i ≡ Stopped n → ⊥
