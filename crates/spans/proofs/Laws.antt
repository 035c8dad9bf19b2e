-- Laws of spans: lengths, reads of what was written and of what a write leaves alone, writes that meet, and how code's
-- stores and lent parts are such writes. Assumes nothing.
use Prim.Native.Nat.{ℕ, zero, suc, ◌+◌, ◌-◌, ◌*◌, ◌^◌, ◌≤◌, ◌<◌}
use mathlib.Core.Path.{◌≡◌, refl, sym, ap, ◌∙◌}
use mathlib.Core.Logic.{⊎_elim}
use mathlib.Core.List.{List, [], ◌∷◌, ◌++◌, append_assoc}
use native.Mathlib.Nat.{suc-add, zero-add}
use native.Mathlib.Numerals.{towards_suc}
use native.Mathlib.Omega.{arith}
use lib.ListN.{length, take, drop, get_or, set, length-take, length-drop}
use lib.Seq.{take-nil, drop-nil, take-add, drop-drop, drop-cons, take-suc, take-take, get_or-take, get_or-drop}
use lib.Seq.{length-take-le, sets, sets-eq}
use borrow.Rule.Slice.PartMut.{put_mid, Post-is}
use Rattle.numbers.specs.LittleEndian.{le_number, le_bytes, Bytes}
use Rattle.std.specs.Int.{Width, byte_len, from_le_bytes}
use Rattle.numbers.proofs.Laws.{length_le, le_round, number_append, from_le}
use Rattle.spans.specs.Span.{read_span, overwrite, Apart}

-- ---- lengths

pub length-overwrite : (p : ℕ) (bs m : List ℕ) → length (overwrite p bs m) ≡ length m
unfolding overwrite
length-overwrite zero [] m = refl
length-overwrite zero (b ∷ bs) [] = refl
length-overwrite zero (b ∷ bs) (x ∷ m) = ap suc (length-overwrite zero bs m)
length-overwrite (suc p) bs [] = refl
length-overwrite (suc p) bs (x ∷ m) = ap suc (length-overwrite p bs m)

pub length_span : (p n : ℕ) (m : List ℕ) → p + n ≤ length m → length (read_span p n m) ≡ n
unfolding read_span
length_span p n m h = simp (length-take, length-drop) (omega arith)

-- ---- what a write leaves

-- what was just written is read back
pub read_written : (p : ℕ) (bs m : List ℕ) → p + length bs ≤ length m → read_span p (length bs) (overwrite p bs m) ≡ bs
unfolding read_span overwrite
read_written zero [] m h = refl
read_written zero (b ∷ bs) [] h = absurd (omega arith)
read_written zero (b ∷ bs) (x ∷ m) h = ap (λ (r : List ℕ). b ∷ r) (read_written zero bs m (omega arith))
read_written (suc p) bs [] h = absurd (omega arith)
read_written (suc p) bs (x ∷ m) h = read_written p bs m (omega arith)

-- a read before the write, after it, and apart from it
pub read_before : (q n p : ℕ) (bs m : List ℕ) → q + n ≤ p → read_span q n (overwrite p bs m) ≡ read_span q n m
unfolding read_span overwrite
read_before zero zero p bs m h = refl
read_before zero (suc n) zero bs m h = absurd (omega arith)
read_before zero (suc n) (suc p) bs [] h = refl
read_before zero (suc n) (suc p) bs (x ∷ m) h = ap (λ (r : List ℕ). x ∷ r) (read_before zero n p bs m (omega arith))
read_before (suc q) n zero bs m h = absurd (omega arith)
read_before (suc q) n (suc p) bs [] h = refl
read_before (suc q) n (suc p) bs (x ∷ m) h = read_before q n p bs m (omega arith)

drop-after : (q p : ℕ) (bs m : List ℕ) → p + length bs ≤ q → drop q (overwrite p bs m) ≡ drop q m
unfolding overwrite
drop-after q zero [] m h = refl
drop-after zero zero (b ∷ bs) m h = absurd (omega arith)
drop-after (suc q) zero (b ∷ bs) [] h = refl
drop-after (suc q) zero (b ∷ bs) (x ∷ m) h = drop-after q zero bs m (omega arith)
drop-after zero (suc p) bs m h = absurd (omega arith)
drop-after (suc q) (suc p) bs [] h = refl
drop-after (suc q) (suc p) bs (x ∷ m) h = drop-after q p bs m (omega arith)

pub read-after : (q n p : ℕ) (bs m : List ℕ) → p + length bs ≤ q → read_span q n (overwrite p bs m) ≡ read_span q n m
unfolding read_span
read-after q n p bs m h = ap (take n) (drop-after q p bs m h)

pub read-apart : (q n p : ℕ) (bs m : List ℕ) → Apart p (length bs) q n
    → read_span q n (overwrite p bs m) ≡ read_span q n m
read-apart q n p bs m d = ⊎_elim (read-after q n p bs m) (read_before q n p bs m) d

-- ---- a read in pieces

pub span_add : (p a b : ℕ) (m : List ℕ) → read_span p (a + b) m ≡ read_span p a m ++ read_span (p + a) b m
unfolding read_span
span_add p a b m = take-add a b (drop p m) ∙ rw drop-drop

pub span_none : (p : ℕ) (m : List ℕ) → read_span p 0 m ≡ []
unfolding read_span
span_none p m = refl

pub span_cons : (p n : ℕ) (m : List ℕ) → p < length m → read_span p (suc n) m ≡ get_or m p 0 ∷ read_span (suc p) n m
unfolding read_span
span_cons p n m h = rw (drop-cons m p 0 h)

-- a read inside a read
pub span_within : (p n q k : ℕ) (m : List ℕ) → q + k ≤ n → read_span q k (read_span p n m) ≡ read_span (p + q) k m
unfolding read_span
span_within p n q k m h = go p n q m h
  where
    go : (p n q : ℕ) (m : List ℕ) → q + k ≤ n → take k (drop q (take n (drop p m))) ≡ take k (drop (p + q) m)
    go zero n q m h = rw zero-add (inner n q m h)
      where
        inner : (n q : ℕ) (m : List ℕ) → q + k ≤ n → take k (drop q (take n m)) ≡ take k (drop q m)
        inner n zero m h = take-take k n m (omega arith)
        inner zero (suc q) m h = absurd (omega arith)
        inner (suc n) (suc q) [] h = refl
        inner (suc n) (suc q) (x ∷ m) h = inner n q m (omega arith)
    go (suc p) n q [] h = rw (suc-add, take-nil n, drop-nil q)
    go (suc p) n q (x ∷ m) h = rw suc-add (go p n q m h)

-- the element at a place of a read
pub span_at : (p n i : ℕ) (m : List ℕ) → i < n → get_or (read_span p n m) i 0 ≡ get_or m (p + i) 0
unfolding read_span
span_at p n i m h = rw (get_or-take, get_or-drop)

-- ---- writes that meet

-- a write on from the end of what is read
pub read_extended : (p k : ℕ) (bs m : List ℕ) → p + k + length bs ≤ length m
    → read_span p (k + length bs) (overwrite (p + k) bs m) ≡ read_span p k m ++ bs
read_extended p k bs m h =
    span_add p k (length bs) (overwrite (p + k) bs m)
    ∙ rw (read_written, read_before p k (p + k) bs m (omega arith))

-- one write of two runs is a write of each
pub overwrite-append : (p : ℕ) (bs cs m : List ℕ)
    → overwrite p (bs ++ cs) m ≡ overwrite (p + length bs) cs (overwrite p bs m)
unfolding overwrite
overwrite-append zero [] cs m = refl
overwrite-append zero (b ∷ bs) cs [] = rw zero-add
overwrite-append zero (b ∷ bs) cs (x ∷ m) =
    rw zero-add (ap (λ (r : List ℕ). b ∷ r) (rw zero-add at (overwrite-append zero bs cs m)))
overwrite-append (suc p) bs cs [] = rw suc-add
overwrite-append (suc p) bs cs (x ∷ m) = rw suc-add (ap (λ (r : List ℕ). x ∷ r) (overwrite-append p bs cs m))

-- writes that share no place may change places
pub overwrite_swap : (p q : ℕ) (bs cs m : List ℕ) → p + length bs ≤ q
    → overwrite p bs (overwrite q cs m) ≡ overwrite q cs (overwrite p bs m)
unfolding overwrite
overwrite_swap zero q [] cs m h = refl
overwrite_swap zero zero (b ∷ bs) cs m h = absurd (omega arith)
overwrite_swap zero (suc q) (b ∷ bs) cs [] h = refl
overwrite_swap zero (suc q) (b ∷ bs) cs (x ∷ m) h =
    ap (λ (r : List ℕ). b ∷ r) (overwrite_swap zero q bs cs m (omega arith))
overwrite_swap (suc p) zero bs cs m h = absurd (omega arith)
overwrite_swap (suc p) (suc q) bs cs [] h = refl
overwrite_swap (suc p) (suc q) bs cs (x ∷ m) h = ap (λ (r : List ℕ). x ∷ r) (overwrite_swap p q bs cs m (omega arith))

-- a write of nothing, and a write of what stands there
pub overwrite_none : (p : ℕ) (m : List ℕ) → overwrite p [] m ≡ m
unfolding overwrite
overwrite_none zero m = refl
overwrite_none (suc p) [] = refl
overwrite_none (suc p) (x ∷ m) = ap (λ (l : List ℕ). x ∷ l) (overwrite_none p m)

pub overwrite-same : (p n : ℕ) (m : List ℕ) → overwrite p (read_span p n m) m ≡ m
unfolding read_span overwrite
overwrite-same zero zero m = refl
overwrite-same zero (suc n) [] = refl
overwrite-same zero (suc n) (x ∷ m) = ap (λ (l : List ℕ). x ∷ l) (overwrite-same zero n m)
overwrite-same (suc p) n [] = refl
overwrite-same (suc p) n (x ∷ m) = ap (λ (l : List ℕ). x ∷ l) (overwrite-same p n m)

-- a write over the whole memory
pub overwrite-all : (bs m : List ℕ) → length bs ≡ length m → overwrite 0 bs m ≡ bs
unfolding overwrite
overwrite-all [] [] e = refl
overwrite-all [] (x ∷ m) e = absurd (omega arith)
overwrite-all (b ∷ bs) [] e = absurd (omega arith)
overwrite-all (b ∷ bs) (x ∷ m) e = ap (λ (l : List ℕ). b ∷ l) (overwrite-all bs m (omega arith))

-- ---- from code: parts, stores, loops

-- a write that fits, as a contract over parts says it
pub overwrite-parts : (p : ℕ) (bs m : List ℕ) → p + length bs ≤ length m
    → overwrite p bs m ≡ take p m ++ (bs ++ drop (p + length bs) m)
unfolding overwrite
overwrite-parts zero [] m h = refl
overwrite-parts zero (b ∷ bs) [] h = absurd (omega arith)
overwrite-parts zero (b ∷ bs) (x ∷ m) h =
    rw zero-add (ap (λ (r : List ℕ). b ∷ r) (rw zero-add at (overwrite-parts zero bs m (omega arith))))
overwrite-parts (suc p) bs [] h = absurd (omega arith)
overwrite-parts (suc p) bs (x ∷ m) h = rw suc-add (ap (λ (r : List ℕ). x ∷ r) (overwrite-parts p bs m (omega arith)))

-- a part that was lent, from a to e, and has come back as ys
pub part_back : (m : List ℕ) (a e : ℕ) (ys : List ℕ) → a ≤ e → e ≤ length m → length ys ≡ e - a
    → put_mid a (e - a) m ys ≡ overwrite a ys m
part_back m a e ys h k l =
    let q : a + length ys ≡ e = omega arith in
    rw (Post-is a e m h, overwrite-parts a ys m (omega arith), q)

-- one store, and a store on from the end of a write
pub store-one : (p b : ℕ) (m : List ℕ) → set m p b ≡ overwrite p (b ∷ []) m
unfolding overwrite
store-one zero b [] = refl
store-one zero b (x ∷ m) = refl
store-one (suc p) b [] = refl
store-one (suc p) b (x ∷ m) = ap (λ (l : List ℕ). x ∷ l) (store-one p b m)

pub store-next : (p : ℕ) (bs m : List ℕ) (b q : ℕ) → q ≡ p + length bs
    → set (overwrite p bs m) q b ≡ overwrite p (bs ++ (b ∷ [])) m
store-next p bs m b q e = rw (overwrite-append, ← e) (store-one q b (overwrite p bs m))

-- a turn of a loop that copies s to place p
pub copy_turn : (p : ℕ) (s m : List ℕ) (i q : ℕ) → i < length s → q ≡ p + i
    → set (overwrite p (take i s) m) q (get_or s i 0) ≡ overwrite p (take (suc i) s) m
copy_turn p s m i q h e =
    rw (take-suc s i 0) (store-next p (take i s) m (get_or s i 0) q (omega (arith, length-take-le i s (omega arith))))

-- stores one right after the other
pub stores : (m : List ℕ) (p : ℕ) (bs : List ℕ) → p + length bs ≤ length m → sets m p bs ≡ overwrite p bs m
stores m p bs h =
    sets-eq bs m p h ∙ append_assoc (take p m) bs (drop (p + length bs) m) ∙ sym (overwrite-parts p bs m h)

-- ---- numbers in a memory

-- the elements of a short span, one by one
pub span_2 : (p : ℕ) (m : List ℕ) → p + 2 ≤ length m → read_span p 2 m ≡ get_or m p 0 ∷ get_or m (p + 1) 0 ∷ []
span_2 p m h =
    simp towards_suc
    (span_cons p 1 m (omega arith)
    ∙ ap (λ (l : List ℕ). get_or m p 0 ∷ l) (span_cons (suc p) 0 m (omega arith)
    ∙ ap (λ (l : List ℕ). get_or m (suc p) 0 ∷ l) (span_none (suc (suc p)) m)))

pub span_4 : (p : ℕ) (m : List ℕ) → p + 4 ≤ length m
    → read_span p 4 m ≡ get_or m p 0 ∷ get_or m (p + 1) 0 ∷ get_or m (p + 2) 0 ∷ get_or m (p + 3) 0 ∷ []
span_4 p m h =
    simp towards_suc
    (span_cons p 3 m (omega arith)
    ∙ ap (λ (l : List ℕ). get_or m p 0 ∷ l) (span_cons (suc p) 2 m (omega arith)
    ∙ ap (λ (l : List ℕ). get_or m (suc p) 0 ∷ l) (span_cons (suc (suc p)) 1 m (omega arith)
    ∙ ap (λ (l : List ℕ). get_or m (suc (suc p)) 0 ∷ l) (span_cons (suc (suc (suc p))) 0 m (omega arith)
    ∙ ap (λ (l : List ℕ). get_or m (suc (suc (suc p))) 0 ∷ l) (span_none (suc (suc (suc (suc p)))) m)))))

-- a number that was just written is read back
pub number_back : (w p x : ℕ) (m : List ℕ) → p + w ≤ length m → x < 256 ^ w
    → le_number (read_span p w (overwrite p (le_bytes w x) m)) ≡ x
number_back w p x m h k =
    let e : read_span p w (overwrite p (le_bytes w x) m) ≡ le_bytes w x =
    rw length_le at (read_written p (le_bytes w x) m (omega (arith, length_le w x))) in
    rw e (le_round w x k)

-- eight bytes as two fours
pub number_8 : (p : ℕ) (m : List ℕ) → p + 8 ≤ length m
    → le_number (read_span p 8 m) ≡ le_number (read_span p 4 m) + 4294967296 * le_number (read_span (p + 4) 4 m)
number_8 p m h =
    rw (span_add p 4 4 m, number_append (read_span p 4 m) (read_span (p + 4) 4 m), length_span p 4 m (omega arith))

-- a number that the library makes of a span
pub number_at : (w : Width) (p : ℕ) (m : List ℕ) {bs : List ℕ} {n : ℕ} → p + byte_len w ≤ length m
    → bs ≡ read_span p (byte_len w) m → n ≡ from_le_bytes w bs → n ≡ le_number (read_span p (byte_len w) m)
number_at w p m h e q = q ∙ ap (from_le_bytes w) e ∙ from_le w (read_span p (byte_len w) m) (length_span p (byte_len w) m h)

-- the elements of a span of bytes are bytes
pub span_bytes : (m : List ℕ) (p n : ℕ) → ((i : ℕ) → get_or m i 0 < 256) → Bytes (read_span p n m)
unfolding read_span
span_bytes m p n f = taken-bytes n (drop p m) (dropped p m f)
  where
    dropped : (p : ℕ) (m : List ℕ) → ((i : ℕ) → get_or m i 0 < 256) → (i : ℕ) → get_or (drop p m) i 0 < 256
    dropped p m f i = rw get_or-drop (f (p + i))

    taken-bytes : (n : ℕ) (l : List ℕ) → ((i : ℕ) → get_or l i 0 < 256) → Bytes (take n l)
    taken-bytes zero l f = tt
    taken-bytes (suc n) [] f = tt
    taken-bytes (suc n) (x ∷ l) f = (f 0, taken-bytes n l (λ i. f (suc i)))
