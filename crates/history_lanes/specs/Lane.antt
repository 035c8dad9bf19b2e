-- Document 01, "Lists": a lane as a history leaves it, and what an append does to it. A lane is told by the list pages
-- m, their arena's state a, its header h, and the addresses ks of its blocks, the newest first. No call stores ks: it
-- is what the links in memory say, written out.
use Rattle.std.specs.Prelude.{ℕ, zero, suc, ◌+◌, ◌-◌, ◌^◌, ◌≤◌, ◌<◌, ◌≡◌, true, List, [], ◌∷◌, ◌++◌, length}
use Rattle.std.proofs.Math.Option.{Option, none, some}
use Rattle.limits.specs.Limits.{arena_limit, null_address, fresh_number, link_size}
use Rattle.numbers.specs.LittleEndian.{le_number}
use Rattle.spans.specs.Span.{read_span, Apart}
use Rattle.memory_arena.specs.declared.Arena.{Arena}
use Rattle.memory_arena.specs.Address.{address_of, place_of}
use Rattle.memory_arena.specs.Pages.{standing, good_span}
use Rattle.expull_header.specs.declared.Header.{Header}
use Rattle.std.specs.Prelude.{Some, Ok}
use Rattle.expull_header.specs.Header.{block_size, sound_header}
use Rattle.expull_append.specs.Append.{Writing}
use Rattle.expull_walk.specs.Blocks.{block_place, block_length, block_told, block_of}

-- ---- the blocks

-- the block on top of the older blocks ks has the number length ks + 3: the bytes it holds, and what it takes with its
-- link
abbrev pub size_on : List ℕ → ℕ
size_on ks = block_size (length ks + 3)

abbrev pub wide_on : List ℕ → ℕ
wide_on ks = size_on ks + link_size

-- what all the blocks take, bytes and links
abbrev pub blocks_wide : List ℕ → ℕ
blocks_wide [] = 0
blocks_wide (x ∷ ks) = blocks_wide ks + wide_on ks

-- the bytes of blocks that are full, and a lane's: r bytes of the newest are not written yet
abbrev pub full_content : List ℕ → List ℕ → List ℕ
full_content m [] = []
full_content m (x ∷ ks) = full_content m ks ++ read_span x (size_on ks) m

abbrev pub content : List ℕ → List ℕ → ℕ → List ℕ
content m [] r = []
content m (x ∷ ks) r = full_content m ks ++ read_span x (size_on ks - r) m

-- each block's link is the address of the next newer one
abbrev pub LinkTo : List ℕ → List ℕ → ℕ → Type 0
LinkTo m [] y = Unit {0}
LinkTo m (x ∷ ks) y = le_number (read_span (x + size_on ks) link_size m) ≡ y

abbrev pub Links : List ℕ → List ℕ → Type 0
Links m [] = Unit {0}
Links m (x ∷ ks) = LinkTo m ks x × Links m ks

-- every block ends at u or below
abbrev pub Below : ℕ → List ℕ → Type 0
Below u [] = Unit {0}
Below u (x ∷ ks) = (x + wide_on ks ≤ u) × Below u ks

-- each block lies above the older ones
abbrev pub Stack : List ℕ → Type 0
Stack [] = Unit {0}
Stack (x ∷ ks) = Below x ks × Stack ks

-- each block lies on one page, of s bytes
abbrev pub Paged : ℕ → List ℕ → Type 0
Paged s [] = Unit {0}
Paged s (x ∷ ks) = (place_of s x + wide_on ks ≤ s) × Paged s ks

-- the first block, where x is the newest
abbrev pub oldest : ℕ → List ℕ → ℕ
oldest x [] = x
oldest x (y ∷ ks) = oldest y ks

-- the header names the first block and the next byte to write, and counts the bytes that remain in the newest block
abbrev pub Tip : Header → List ℕ → Type 0
Tip h [] = (h.head ≡ null_address) × (h.tail ≡ null_address) × (h.remaining ≡ 0)
Tip h (x ∷ ks) =
    (h.head ≡ oldest x ks) × (h.remaining ≤ size_on ks) × (h.tail + h.remaining ≡ x + size_on ks) × Stack (x ∷ ks)

-- "A block is taken only when a byte is waiting": the newest block holds a byte
abbrev pub Begun : Header → List ℕ → Type 0
Begun h [] = Unit {0}
Begun h (x ∷ ks) = h.remaining < size_on ks

-- ---- spans and blocks that share no place

-- n bytes from p and every block
abbrev pub Clear : ℕ → ℕ → List ℕ → Type 0
Clear p n [] = Unit {0}
Clear p n (x ∷ ks) = Apart p n x (wide_on ks) × Clear p n ks

-- the newest block and n bytes from q
abbrev pub TipApart : ℕ → ℕ → List ℕ → Type 0
TipApart q n [] = Unit {0}
TipApart q n (x ∷ ks) = Apart x (wide_on ks) q n

-- the newest block of ks and every block of another lane's js
abbrev pub TipClear : List ℕ → List ℕ → Type 0
TipClear [] js = Unit {0}
TipClear (x ∷ ks) js = Clear x (wide_on ks) js

-- ---- a lane

-- the end of the used part, as a place in the memory
abbrev pub used_end : Arena → ℕ
used_end a = address_of a.size a.page a.used

-- RULES Y12.
pub record Lane (m : List ℕ) (a : Arena) (h : Header) (ks : List ℕ) : Type 0 where
  pub number : h.number ≡ length ks + fresh_number
  pub links : Links m ks
  pub below : Below (used_end a) ks
  pub paged : Paged a.size ks
  pub tip : Tip h ks
  pub begun : Begun h ks
  pub stands : standing a (length m) ≡ true
  pub short : length m ≤ arena_limit

-- ---- an append of bs

-- RULES Y12.
pub record After (m : List ℕ) (a : Arena) (h : Header) (ks bs m' : List ℕ) (a' : Arena) (h' : Header) (ks' : List ℕ)
    : Type 0 where
  -- the lane stands, and holds its bytes and then bs
  pub lane : Lane m' a' h' ks'
  pub bytes : content m' ks' h'.remaining ≡ content m ks h.remaining ++ bs
  -- what it keeps of the used part: all but the newest block, and of that all but the unwritten bytes and the link
  pub span : (q n : ℕ) → q + n ≤ used_end a → TipApart q n ks → read_span q n m' ≡ read_span q n m
  pub rest : (q n : ℕ) → q + n ≤ used_end a → Apart h.tail (h.remaining + link_size) q n
      → read_span q n m' ≡ read_span q n m
  -- and of the whole memory: what lies in no block of the lane, so the free room and the skipped page tails too
  pub outside : (q n : ℕ) → Clear q n ks' → read_span q n m' ≡ read_span q n m
  -- "A new block's unfilled bytes and link keep what they held"; so do the old one's, where none is taken
  pub unfilled : read_span h'.tail (h'.remaining + link_size) m' ≡ read_span h'.tail (h'.remaining + link_size) m
  -- new blocks lie above the used part, so they share no place with what lies in it: a span, another lane's blocks
  pub tip : (q n : ℕ) → q + n ≤ used_end a → TipApart q n ks → TipApart q n ks'
  pub fwd : (js : List ℕ) → Below (used_end a) js → TipClear ks js → TipClear ks' js
  pub back : (q n : ℕ) → q + n ≤ used_end a → Clear q n ks → Clear q n ks'
  -- the lane's blocks before it are among those after it; the used part grows; the pages keep their size, and the
  -- memory its length
  pub older : (q n : ℕ) → Clear q n ks' → Clear q n ks
  pub grows : used_end a ≤ used_end a'
  pub size : a'.size ≡ a.size
  pub len : length m' ≡ length m
  -- and no block moves: those before it are the oldest of those after it
  pub newer : List ℕ
  pub grown : ks' ≡ newer ++ ks

-- the arena's state that it leaves, where it fits
abbrev pub arena_of : Option Writing → Option Arena
arena_of none = none
arena_of (some w) = some w.arena

-- ---- readings

-- what a header promises that belongs to a lane: it isn't damage, and fits its 16 bytes. 131,068 is what blocks of
-- different places come to in the largest arena that addresses allow.
pub record HeaderFits (h : Header) : Type 0 where
  pub sound : sound_header h 0 ≡ true
  pub few : h.number ≤ 131068
  pub number : h.number < 2 ^ 32
  pub head : h.head < 2 ^ 32
  pub tail : h.tail < 2 ^ 32
  pub remaining : h.remaining < 2 ^ 16

-- finding block i tells its place and how many bytes stand in it, and these are a good span
pub record FoundBlock (m : List ℕ) (a : Arena) (h : Header) (i : ℕ) : Type 0 where
  pub told : block_of a m h i ≡ Ok (Some (block_told m h i))
  pub good : good_span a (block_place m h.head i) (block_length h i) ≡ true

-- the spans that finding the first k blocks tells, read one after the other
abbrev pub pieces : List ℕ → Header → ℕ → List ℕ
pieces m h zero = []
pieces m h (suc k) = pieces m h k ++ read_span (block_place m h.head k) (block_length h k) m
