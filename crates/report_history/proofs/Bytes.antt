-- What is read of bytes is bytes. Assumes nothing.
use Prim.Native.Nat.{ℕ, zero, suc, ◌+◌, ◌-◌}
use mathlib.Core.Bool.{Bool, true, false, cond}
use mathlib.Core.List.{List, [], ◌∷◌, ◌++◌}
use lib.Dec.{eqb}
use lib.ListN.{take, drop}
use Rattle.limits.specs.Limits.{fresh_number}
use Rattle.numbers.specs.LittleEndian.{Bytes}
use Rattle.spans.specs.Span.{read_span}
use Rattle.records.specs.Record.{key_length, key_at}
use Rattle.expull_header.specs.declared.Header.{Header}
use Rattle.expull_header.specs.Header.{block_size, block_count}
use Rattle.expull_walk.specs.Blocks.{full_blocks, lane_bytes, block_place}

bytes_take : (n : ℕ) (m : List ℕ) → Bytes m → Bytes (take n m)
bytes_take zero m h = tt
bytes_take (suc n) [] h = tt
bytes_take (suc n) (b ∷ m) h = (h.0, bytes_take n m h.1)

bytes_drop : (n : ℕ) (m : List ℕ) → Bytes m → Bytes (drop n m)
bytes_drop zero m h = h
bytes_drop (suc n) [] h = tt
bytes_drop (suc n) (b ∷ m) h = bytes_drop n m h.1

bytes-append : (a b : List ℕ) → Bytes a → Bytes b → Bytes (a ++ b)
bytes-append [] b p q = q
bytes-append (x ∷ a) b p q = (p.0, bytes-append a b p.1 q)

bytes_span : (p n : ℕ) (m : List ℕ) → Bytes m → Bytes (read_span p n m)
unfolding read_span
bytes_span p n m h = bytes_take n (drop p m) (bytes_drop p m h)

pub bytes_key : (keys : List ℕ) (at : ℕ) → Bytes keys → Bytes (key_at keys at)
unfolding key_at
bytes_key keys at h = bytes_span (at + 2) (key_length keys at) keys h

bytes-full : (m : List ℕ) (head k : ℕ) → Bytes m → Bytes (full_blocks m head k)
unfolding full_blocks
bytes-full m head zero h = tt
bytes-full m head (suc k) h =
    bytes-append (full_blocks m head k) (read_span (block_place m head k) (block_size (k + 3)) m) (bytes-full m head k h)
    (bytes_span (block_place m head k) (block_size (k + 3)) m h)

pub bytes-lane : (m : List ℕ) (h : Header) → Bytes m → Bytes (lane_bytes m h)
unfolding lane_bytes
bytes-lane m h b = go (eqb h.number fresh_number)
  where
    last : List ℕ
    last = read_span (block_place m h.head (block_count h - 1)) (block_size h.number - h.remaining) m

    go : (t : Bool) → Bytes (cond t [] (full_blocks m h.head (block_count h - 1) ++ last))
    go true = tt
    go false =
        bytes-append (full_blocks m h.head (block_count h - 1)) last (bytes-full m h.head (block_count h - 1) b)
        (bytes_span (block_place m h.head (block_count h - 1)) (block_size h.number - h.remaining) m b)
