-- Laws of headers: block sizes, what sound headers say, a lane's length in closed form, the header's bytes. Assumes
-- nothing.
use Prim.Native.Nat.{ℕ, zero, suc, ◌+◌, ◌-◌, ◌*◌, ◌%◌, ◌^◌, ◌≤◌, ◌<◌, min}
use mathlib.Core.Path.{◌≡◌, refl, sym, ap, ◌∙◌, subst}
use mathlib.Core.Bool.{Bool, true, false, cond, ◌&&◌, not}
use mathlib.Core.List.{List, ◌++◌}
use native.Mathlib.Nat.{one-mul, add-zero, add-suc, min-eq_left, min-eq_right, min-le_right, le-min, pow-suc}
use native.Mathlib.Omega.{arith}
use lib.Dec.{leb, eqb, lit<, lit≤}
use lib.Pow.{pow_pos, pow_mono, shl_exact}
use lib.ListN.{length}
use borrow.Author.Tests.{le-leb, leb-true, leb-false, eqb-true, eqb-false, eq-eqb, ne_eqb, not-true}
use Rattle.limits.specs.Limits.{null_address, fresh_number, number_limit, size_top, link_size}
use Rattle.numbers.specs.LittleEndian.{le_number, le_bytes}
use Rattle.numbers.proofs.Laws.{length_le, le_round}
use Rattle.numbers.proofs.Tests.{both, both_true}
use Rattle.spans.specs.Span.{read_span, overwrite}
use Rattle.spans.proofs.Laws.{read_written, overwrite-append, span_within}
use Rattle.expull_header.specs.declared.Header.{Header}
use Rattle.expull_header.specs.Header.{block_size, fresh, header_bytes, header_at, end_bytes_at, sound_header}
use Rattle.expull_header.specs.Header.{block_count, full_bytes, taken_bytes, lane_length}

-- ---- block sizes

pub size_low : (b : ℕ) → b ≤ size_top → block_size b ≡ 2 ^ b
unfolding block_size
size_low b h = rw (min-eq_left {n = b} {m = 15} h)

pub size_high : (b : ℕ) → size_top ≤ b → block_size b ≡ 32768
unfolding block_size
size_high b h = rw (min-eq_right {n = 15} {m = b} h)

pub size_pos : (b : ℕ) → 0 < block_size b
unfolding block_size
size_pos b = pow_pos (min b 15)

pub size_most : (b : ℕ) → block_size b ≤ 32768
unfolding block_size
size_most b = pow_mono (min-le_right b 15)

-- the shift that code makes
pub size_shift : (b e : ℕ) → e ≡ min b size_top → (1 * 2 ^ e) % 2 ^ 32 ≡ block_size b
unfolding block_size
size_shift b e q = shl_exact {a = 1} 1 e 32 (lit< tt) (omega (arith, q, min-le_right b 15)) ∙ rw (one-mul, q)

-- a block of a list holds at least 8 bytes
pub size_least : (b : ℕ) → fresh_number < b → 8 ≤ block_size b
unfolding block_size
size_least b h = pow_mono {i = 3} {j = min b 15} (le-min h (lit≤ tt))

-- ---- what full blocks hold, in closed form: sizes double up to block 15, which is the thirteenth, and stay

full_none : full_bytes 0 ≡ 0
unfolding full_bytes
full_none = refl

pub full-more : (k : ℕ) → full_bytes (suc k) ≡ full_bytes k + block_size (k + 3)
unfolding full_bytes
full-more k = refl

pub full_closed_low : (k : ℕ) → k ≤ 13 → full_bytes k + 8 ≡ 2 ^ (k + 3)
unfolding full_bytes
full_closed_low zero h = refl
full_closed_low (suc k) h =
    let i : full_bytes k + 8 ≡ 2 ^ (k + 3) = full_closed_low k (omega arith) in
    let s : block_size (k + 3) ≡ 2 ^ (k + 3) = size_low (k + 3) (omega arith) in
    let d : suc k + 3 ≡ suc (k + 3) = omega arith in
    let p : 2 ^ suc (k + 3) ≡ 2 ^ (k + 3) * 2 = pow-suc 2 (k + 3) in
    rw d (omega arith)

pub full_closed_high : (k : ℕ) → 13 ≤ k → full_bytes k ≡ 32760 + (k - 12) * 32768
full_closed_high k h =
    let e : 13 + (k - 13) ≡ k = omega arith in subst (λ (n : ℕ). full_bytes n ≡ 32760 + (n - 12) * 32768) e (go (k - 13))
  where
    go : (j : ℕ) → full_bytes (13 + j) ≡ 32760 + (13 + j - 12) * 32768
    go zero = omega (arith, full_closed_low 13 (lit≤ tt))
    go (suc j) =
        let i : full_bytes (13 + j) ≡ 32760 + (13 + j - 12) * 32768 = go j in
        let s : block_size (13 + j + 3) ≡ 32768 = size_high (13 + j + 3) (omega arith) in
        let f : full_bytes (suc (13 + j)) ≡ full_bytes (13 + j) + block_size (13 + j + 3) = full-more (13 + j) in
        rw add-suc (omega arith)

-- ---- what blocks take of the list pages: their bytes and links, page tails not counted

pub taken_next : (b : ℕ) → fresh_number ≤ b
    → taken_bytes (b + 1 - fresh_number) ≡ taken_bytes (b - fresh_number) + (block_size (b + 1) + link_size)
taken_next b h =
    let e : b + 1 - fresh_number ≡ suc (b - fresh_number) = omega arith in
    let n : b - fresh_number + 3 ≡ b + 1 = omega arith in
    let f : full_bytes (suc (b - fresh_number)) ≡ full_bytes (b - fresh_number) + block_size (b + 1) =
    full-more (b - fresh_number) ∙ rw n in
    rw e (omega arith)

-- ---- sound headers

-- what a header that isn't damage says, but for the limit of its block number, which an append on damaged memory may
-- pass
pub record Shape (h : Header) : Type 0 where
  pub from : fresh_number ≤ h.number
  pub without : h.number ≡ fresh_number → h ≡ fresh
  pub with_head : (h.number ≡ fresh_number → ⊥) → h.head ≡ null_address → ⊥
  pub within : h.remaining ≤ block_size h.number

pub record SoundHeader (h : Header) (ends : ℕ) : Type 0 where
  pub shape : Shape h
  pub to : h.number ≤ number_limit
  pub closed : ends ≡ 0

-- the tests of a header's fields, by the one that asks for blocks
abbrev field_tests : Bool → Header → Bool
field_tests t h =
    cond t (eqb h.head null_address && eqb h.tail null_address && eqb h.remaining 0)
    (not (eqb h.head null_address) && leb h.remaining (block_size h.number))

pub sound_facts : (h : Header) (ends : ℕ) → sound_header h ends ≡ true → SoundHeader h ends
unfolding sound_header
sound_facts h ends e =
    let p = both _ (eqb ends 0) e in
    let q = both _ _ p.0 in
    let r = both (leb fresh_number h.number) (leb h.number number_limit) q.0 in
    let k = parts (eqb h.number fresh_number) refl q.1 in
    record {
      shape = record { from = leb-true _ _ r.0; without = k.0; with_head = k.1.0; within = k.1.1 };
      to = leb-true _ _ r.1;
      closed = eqb-true _ _ p.1;
    }
  where
    parts : (t : Bool) → eqb h.number fresh_number ≡ t → field_tests t h ≡ true
        → (h.number ≡ fresh_number → h ≡ fresh)
        × (((h.number ≡ fresh_number → ⊥) → h.head ≡ null_address → ⊥) × (h.remaining ≤ block_size h.number))
    parts true n e =
        let p = both (eqb h.head null_address && eqb h.tail null_address) (eqb h.remaining 0) e in
        let q = both (eqb h.head null_address) (eqb h.tail null_address) p.0 in
        let x : h.number ≡ fresh_number = eqb-true _ _ n in
        let y : h.head ≡ null_address = eqb-true _ _ q.0 in
        let z : h.tail ≡ null_address = eqb-true _ _ q.1 in
        let r : h.remaining ≡ 0 = eqb-true _ _ p.1 in
        (λ w i. record { number = x i; head = y i; tail = z i; remaining = r i }, (λ f g. f x, omega arith))
    parts false n e =
        let p = both (not (eqb h.head null_address)) (leb h.remaining (block_size h.number)) e in (
          λ z. absurd (eqb-false h.number fresh_number n z),
          (λ f. eqb-false h.head null_address (not-true _ p.0), leb-true _ _ p.1),
        )

pub sound_made : (h : Header) (ends : ℕ) → SoundHeader h ends → sound_header h ends ≡ true
unfolding sound_header
sound_made h ends s =
    both_true _ _ (both_true _ _ (both_true _ _ (le-leb _ _ s.shape.from) (le-leb _ _ s.to))
    (parts (eqb h.number fresh_number) refl))
    (eq-eqb _ _ s.closed)
  where
    parts : (t : Bool) → eqb h.number fresh_number ≡ t → field_tests t h ≡ true
    parts true n =
        let e = s.shape.without (eqb-true _ _ n) in
        rw (
          eq-eqb _ _ (ap (λ (k : Header). k.head) e),
          eq-eqb _ _ (ap (λ (k : Header). k.tail) e),
          eq-eqb _ _ (ap (λ (k : Header). k.remaining) e),
        )
    parts false n =
        rw (ne_eqb _ _ (s.shape.with_head (eqb-false _ _ n)), le-leb _ _ s.shape.within)

-- ---- a lane's length

-- a list without blocks holds nothing; another its blocks but for what remains
pub length_none : (h : Header) → h.number ≡ fresh_number → lane_length h ≡ 0
unfolding lane_length
length_none h e = rw (eq-eqb _ _ e)

pub length-parts : (h : Header) → (h.number ≡ fresh_number → ⊥)
    → lane_length h ≡ full_bytes (block_count h - 1) + (block_size h.number - h.remaining)
unfolding lane_length
length-parts h e = rw (ne_eqb _ _ e)

pub length-blocks : (h : Header) → sound_header h 0 ≡ true → (h.number ≡ fresh_number → ⊥)
    → lane_length h + h.remaining ≡ full_bytes (block_count h)
length-blocks h s n =
    let f = sound_facts h 0 s in
    let k : suc (block_count h - 1) ≡ block_count h = omega (arith, f.shape.from) in
    let b : block_count h - 1 + 3 ≡ h.number = omega (arith, f.shape.from) in
    let m : full_bytes (suc (block_count h - 1)) ≡ full_bytes (block_count h - 1) + block_size (block_count h - 1 + 3) =
    full-more (block_count h - 1) in
    let m' : full_bytes (block_count h) ≡ full_bytes (block_count h - 1) + block_size h.number = rw (k, b) at m in
    omega (arith, length-parts h n, f.shape.within)

-- up to block 15, and above it
pub length_low : (h : Header) → sound_header h 0 ≡ true → (h.number ≡ fresh_number → ⊥) → h.number ≤ size_top
    → lane_length h ≡ 2 * block_size h.number - 8 - h.remaining
length_low h s n l =
    let f = sound_facts h 0 s in
    let e : block_count h + 3 ≡ suc h.number = omega (arith, f.shape.from) in
    let c : full_bytes (block_count h) + 8 ≡ 2 ^ (block_count h + 3) = full_closed_low (block_count h) (omega arith) in
    let c' : full_bytes (block_count h) + 8 ≡ 2 ^ h.number * 2 = c ∙ rw (e, pow-suc) in
    omega (arith, length-blocks h s n, size_low h.number l)

pub length_high : (h : Header) → sound_header h 0 ≡ true → size_top < h.number
    → lane_length h ≡ 32760 + (h.number - 14) * 32768 - h.remaining
length_high h s l =
    omega (
      arith,
      length-blocks h s (λ z. omega arith),
      full_closed_high (block_count h) (omega arith),
      (sound_facts h 0 s).shape.from,
    )

-- no header that isn't damage tells more than this
pub length_most : (h : Header) → sound_header h 0 ≡ true → lane_length h ≤ 4587094008
length_most h s = go (eqb h.number fresh_number) refl (leb h.number size_top) refl (sound_facts h 0 s)
  where
    go : (t : Bool) → eqb h.number fresh_number ≡ t → (u : Bool) → leb h.number size_top ≡ u → SoundHeader h 0
        → lane_length h ≤ 4587094008
    go true e u v f = omega (arith, length_none h (eqb-true _ _ e))
    go false e true v f = omega (arith, length_low h s (eqb-false _ _ e) (leb-true _ _ v), size_most h.number)
    go false e false v f = omega (arith, length_high h s (leb-false _ _ v), f.to)

-- ---- the header's bytes

pub header-length : (h : Header) → length (header_bytes h) ≡ 16
unfolding header_bytes le_bytes
header-length h = refl

-- a number that stands in bytes that were just written
field : (p k w x : ℕ) (bs m : List ℕ) → p + length bs ≤ length m → k + w ≤ length bs → read_span k w bs ≡ le_bytes w x
    → x < 256 ^ w
    → le_number (read_span (p + k) w (overwrite p bs m)) ≡ x
field p k w x bs m h l e f =
    let r : read_span (p + k) w (overwrite p bs m) ≡ le_bytes w x =
    sym (span_within p (length bs) k w (overwrite p bs m) l) ∙ ap (read_span k w) (read_written p bs m h) ∙ e in
    rw r (le_round w x f)

-- a header's fields fit the bytes that they have
pub record Narrow (h : Header) : Type 0 where
  pub number : h.number < 2 ^ 32
  pub head : h.head < 2 ^ 32
  pub tail : h.tail < 2 ^ 32
  pub remaining : h.remaining < 2 ^ 16

-- written, then read: the header, and end bytes of 0
pub header_back : (p : ℕ) (h : Header) (m : List ℕ) → p + 16 ≤ length m → Narrow h
    → header_at p (overwrite p (header_bytes h) m) ≡ h
unfolding header_at header_bytes le_bytes read_span
header_back p h m l n =
    let a = field p 0 4 h.number (header_bytes h) m l (lit≤ tt) refl n.number in
    λ i. record {
      number = (rw (add-zero p) at a) i;
      head = field p 4 4 h.head (header_bytes h) m l (lit≤ tt) refl n.head i;
      tail = field p 8 4 h.tail (header_bytes h) m l (lit≤ tt) refl n.tail i;
      remaining = field p 12 2 h.remaining (header_bytes h) m l (lit≤ tt) refl n.remaining i;
    }

pub ends_back : (p : ℕ) (h : Header) (m : List ℕ) → p + 16 ≤ length m → end_bytes_at p (overwrite p (header_bytes h) m) ≡ 0
unfolding end_bytes_at header_bytes le_bytes read_span
ends_back p h m l = field p 14 2 0 (header_bytes h) m l (lit≤ tt) refl (lit< tt)

-- the writes of its fields, one after the other
next : (p w x : ℕ) (bs m : List ℕ)
    → overwrite p (le_bytes w x ++ bs) m ≡ overwrite (p + w) bs (overwrite p (le_bytes w x) m)
next p w x bs m = overwrite-append p (le_bytes w x) bs m ∙ rw length_le

pub header_written : (p : ℕ) (h : Header) (m : List ℕ)
    → overwrite p (header_bytes h) m
    ≡ overwrite (p + 14) (le_bytes 2 0)
    (overwrite (p + 12) (le_bytes 2 h.remaining)
    (overwrite (p + 8) (le_bytes 4 h.tail)
    (overwrite (p + 4) (le_bytes 4 h.head) (overwrite p (le_bytes 4 h.number) m))))
unfolding header_bytes
header_written p h m =
    let a : p + 4 + 4 ≡ p + 8 = omega arith in
    let b : p + 8 + 4 ≡ p + 12 = omega arith in
    let c : p + 12 + 2 ≡ p + 14 = omega arith in
    rw (
      next p 4 h.number,
      next (p + 4) 4 h.head,
      a,
      next (p + 8) 4 h.tail,
      b,
      next (p + 12) 2 h.remaining,
      c,
    )

-- ---- the room that a lane takes
