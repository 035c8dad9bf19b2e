-- Laws of products and of little-endian numbers, over the width. Assumes nothing.
use Prim.Native.Nat.{ℕ, zero, suc, ◌+◌, ◌-◌, ◌*◌, ◌/◌, ◌%◌, ◌^◌, ◌<◌}
use mathlib.Core.Path.{◌≡◌, refl, sym, ap, ◌∙◌, subst⁻¹}
use mathlib.Core.List.{List, [], ◌∷◌, ◌++◌}
use native.Mathlib.Nat.{le_of_lt, lt_of_le_of_lt, mul-le-mul_left, mul-lt-mul_of_pos_right}
use native.Mathlib.Nat.{mul_comm, mul_assoc, pow-suc, mod-one, div-one, div-div-eq-div-mul}
use native.Mathlib.Omega.{arith}
use lib.Dec.{lit<}
use lib.Pow.{pow_pos, pow-add}
use lib.Arith.{mod-mul}
use lib.ListN.{length, get_or, take}
use lib.Seq.{take-suc, take-length, length-take-le}
use Rattle.std.specs.Int.{Width, w8, w16, w32, w64, w128, byte_len, byte_at, byte_worth, sum_through, bytes_low_first, from_le_bytes, to_le_bytes}
use Rattle.numbers.specs.LittleEndian.{le_number, le_bytes, Bytes}

-- the product of two numbers of k bits has at most k + k
pub product_below : (k : ℕ) {a b : ℕ} → a < 2 ^ k → b < 2 ^ k → a * b < 2 ^ (k + k)
product_below k {a} {b} ha hb =
    subst⁻¹ (λ (n : ℕ). a * b < n) (pow-add 2 k k)
    (lt_of_le_of_lt (mul-le-mul_left a (le_of_lt hb)) (mul-lt-mul_of_pos_right ha (pow_pos k)))

-- ---- little-endian numbers

pub length_le : (w x : ℕ) → length (le_bytes w x) ≡ w
unfolding le_bytes
length_le zero x = refl
length_le (suc w) x = ap suc (length_le w (x / 256))

-- a number's bytes are bytes
pub le_bytes_lem : (w x : ℕ) → Bytes (le_bytes w x)
unfolding le_bytes
le_bytes_lem zero x = tt
le_bytes_lem (suc w) x = (omega arith, le_bytes_lem w (x / 256))

pub width_pos : (w : ℕ) → 0 < 256 ^ w
width_pos zero = lit< tt
width_pos (suc w) = let h : 0 < 256 ^ w = width_pos w in rw (pow-suc 256 w) (omega arith)

-- written, then read: the number modulo 256^w
pub le_number_lem : (w x : ℕ) → le_number (le_bytes w x) ≡ x % 256 ^ w
unfolding le_bytes le_number
le_number_lem zero x = sym (mod-one x)
le_number_lem (suc w) x =
    ap (λ (k : ℕ). x % 256 + 256 * k) (le_number_lem w (x / 256))
    ∙ (let e : x % 256 ^ suc w
    ≡ (x / 256 % 256 ^ w) * 256 + x % 256 = rw (pow-suc 256 w) (mod-mul x (width_pos w) (lit< tt)) in
    omega (arith, mul_comm 256 (x / 256 % 256 ^ w)))

-- the same for a number that fits
pub le_round : (w x : ℕ) → x < 256 ^ w → le_number (le_bytes w x) ≡ x
unfolding le_bytes le_number
le_round zero x h = omega arith
le_round (suc w) x h = rw (le_round w (x / 256) (omega arith)) (omega arith)

-- read, then written: the bytes
pub le_back : (bs : List ℕ) → Bytes bs → le_bytes (length bs) (le_number bs) ≡ bs
unfolding le_bytes le_number
le_back [] h = refl
le_back (b ∷ bs) h =
    let m : (b + 256 * le_number bs) % 256 ≡ b = omega (arith, h.0) in
    let d : (b + 256 * le_number bs) / 256 ≡ le_number bs = omega (arith, h.0) in
    rw (m, d, le_back bs h.1)

-- so two runs of bytes of one length with one number are one
pub le_same : (cs bs : List ℕ) → Bytes cs → Bytes bs → length cs ≡ length bs → le_number cs ≡ le_number bs → cs ≡ bs
le_same cs bs ha hb l e = sym (le_back cs ha) ∙ (λ i. le_bytes (l i) (e i)) ∙ le_back bs hb

-- the bytes of a number are those of what fits in them
pub le_low : (w x : ℕ) → le_bytes w (x % 256 ^ w) ≡ le_bytes w x
le_low w x = simp (le_number_lem, length_le) at (le_back (le_bytes w x) (le_bytes_lem w x))

-- a number of w bytes is below 256^w
pub le_below : (bs : List ℕ) → Bytes bs → le_number bs < 256 ^ length bs
unfolding le_number
le_below [] h = lit< tt
le_below (b ∷ bs) h =
    let k : le_number bs < 256 ^ length bs = le_below bs h.1 in
    rw (pow-suc 256 (length bs)) (omega (arith, h.0))

-- a list of a slice's elements is one of bytes
pub bytes_of : (l : List ℕ) → ((i : ℕ) → get_or l i 0 < 256) → Bytes l
bytes_of [] f = tt
bytes_of (x ∷ l) f = (f 0, bytes_of l (λ i. f (suc i)))

-- the number of two runs of bytes, one behind the other
pub number_append : (bs cs : List ℕ) → le_number (bs ++ cs) ≡ le_number bs + 256 ^ length bs * le_number cs
unfolding le_number
number_append [] cs = omega arith
number_append (b ∷ bs) cs =
    rw (number_append bs cs, pow-suc 256 (length bs))
    (omega (arith, mul_assoc 256 (256 ^ length bs) (le_number cs), mul_comm 256 (256 ^ length bs)))

-- ---- the same as the library's conversions say them

worth : (i b : ℕ) → byte_worth i b ≡ 256 ^ i * b
worth zero b = omega arith
worth (suc i) b = mul_comm b (256 ^ suc i)

one_byte : (b : ℕ) → le_number (b ∷ []) ≡ b
unfolding le_number
one_byte b = omega arith

-- the bytes up to place k, each at what it is worth there
through : (bs : List ℕ) (k : ℕ) → k < length bs
    → sum_through (λ i. byte_worth i (get_or bs i 0)) k ≡ le_number (take (suc k) bs)
through bs zero h = rw (take-suc bs 0 0 h) (sym (one_byte (get_or bs 0 0)))
through bs (suc k) h =
    let l : length (take (suc k) bs) ≡ suc k = length-take-le (suc k) bs (omega arith) in
    let b = get_or bs (suc k) 0 in
    rw (take-suc bs (suc k) 0 h, number_append (take (suc k) bs) (b ∷ []), l, one_byte b, worth (suc k) b) (ap (λ (n : ℕ). n + 256 ^ suc k * b) (through bs k (omega arith)))

some_byte : (w : Width) → 0 < byte_len w
some_byte w8 = omega arith
some_byte w16 = omega arith
some_byte w32 = omega arith
some_byte w64 = omega arith
some_byte w128 = omega arith

-- `from_le_bytes` gives the number of the bytes
pub from_le : (w : Width) (bs : List ℕ) → length bs ≡ byte_len w → from_le_bytes w bs ≡ le_number bs
from_le w bs e =
    let z : 0 < byte_len w = some_byte w in
    let s : suc (byte_len w - 1) ≡ length bs = omega arith in
    through bs (byte_len w - 1) (omega arith) ∙ ap le_number (ap (λ (n : ℕ). take n bs) s ∙ take-length bs)

digit : (i n : ℕ) → byte_at i n ≡ n / 256 ^ i % 256
digit zero n = rw div-one
digit (suc i) n = refl

digits : (k i n : ℕ) → bytes_low_first i k n ≡ le_bytes k (n / 256 ^ i)
unfolding le_bytes
digits zero i n = refl
digits (suc k) i n =
    rw (digit i n, digits k (suc i) n, pow-suc 256 i, ← div-div-eq-div-mul n (256 ^ i) 256)

-- and `to_le_bytes` the number's bytes
pub to_le : (w : Width) (n : ℕ) → to_le_bytes w n ≡ le_bytes (byte_len w) n
to_le w n = digits (byte_len w) 0 n ∙ ap (le_bytes (byte_len w)) (div-one n)
