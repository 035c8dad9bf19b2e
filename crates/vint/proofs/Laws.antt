-- Laws of vints, over the number of bytes where that makes sense. Assumes nothing.
use Prim.Native.Nat.{ℕ, zero, suc, ◌+◌, ◌-◌, ◌*◌, ◌/◌, ◌%◌, ◌^◌, ◌≤◌, ◌<◌, zero-le, min}
use mathlib.Core.Path.{◌≡◌, refl, sym, ap, ◌∙◌, subst}
use mathlib.Core.Logic.{◌⊎◌, inl, inr, ⊎_elim}
use mathlib.Core.Bool.{Bool, true, false, cond, ◌&&◌}
use mathlib.Core.List.{List, [], ◌∷◌, ◌++◌}
use native.Mathlib.Nat.{mul-add, mul_assoc, pow-suc, mul-le-mul_left, pow-le-pow_right, sub-zero}
use native.Mathlib.Numerals.{add-one}
use native.Mathlib.Omega.{arith}
use native.Mathlib.Bridge.{le_prop}
use mathlib.Core.HLevel.{is_prop→PathP}
use lib.Dec.{ltb}
use lib.ListN.{length, take, drop, get_or, set, replicate, length-append, length-set, drop_of_length-le}
use lib.Seq.{drop-cons, drop-set-lt, take-suc-set, set_split, length-take-le, append_snoc}
use borrow.Author.Tests.{ltb-true, ltb-false, lt-ltb, le-ltb, le-leb, lt-leb}
use Rattle.numbers.specs.LittleEndian.{Bytes}
use Rattle.numbers.proofs.Tests.{both}
use Rattle.limits.specs.Refusals.{unvinting, permitted}
use Rattle.limits.specs.Limits.{vint_limit}
use Rattle.std.specs.Prelude.{Err}
use Rattle.limits.specs.declared.Refusal.{Refusal}
use Rattle.limits.specs.declared.Refusal.TheVariants.{NoEnd, AnotherForm}
use Rattle.vint.specs.declared.Read.{Read}
use Rattle.vint.specs.declared.written.Vint.{Vint}
use Rattle.vint.specs.Vint.{Unvint, number, vint_bytes, write_vint, TopOnLast, Taken, ended, unended, grouped, take_vint}
use Rattle.vint.specs.Vint.{length_most, last_group, is_another_form, answer_of, read_vint, said_unvint}

-- a number is below another or not
pub below_or : (n k : ℕ) → (n < k) ⊎ (k ≤ n)
below_or n k = go (ltb n k) refl
  where
    go : (t : Bool) → ltb n k ≡ t → (n < k) ⊎ (k ≤ n)
    go true e = inl (ltb-true n k e)
    go false e = inr (ltb-false n k e)

-- ---- a step of each definition, by its test

pub write_last : (w n : ℕ) → n < 128 → vint_bytes (suc w) n ≡ (n + 128) ∷ []
unfolding vint_bytes
write_last w n h = rw (lt-ltb n 128 h)

pub write_on : (w n : ℕ) → 128 ≤ n → vint_bytes (suc w) n ≡ n % 128 ∷ vint_bytes w (n / 128)
unfolding vint_bytes
write_on w n h = rw (le-ltb n 128 h)

pub take_last : (w b : ℕ) (bs : List ℕ) → 128 ≤ b → take_vint (suc w) (b ∷ bs) ≡ ended (b - 128) 1
unfolding take_vint
take_last w b bs h = rw (le-leb 128 b h)

pub take_on : (w b : ℕ) (bs : List ℕ) → b < 128 → take_vint (suc w) (b ∷ bs) ≡ grouped b (take_vint w bs)
unfolding take_vint
take_on w b bs h = rw (lt-leb 128 b h)

pub take_none : (bs : List ℕ) → take_vint zero bs ≡ unended
unfolding take_vint
take_none bs = refl

pub take_nothing : (w : ℕ) → take_vint w [] ≡ unended
unfolding take_vint
take_nothing zero = refl
take_nothing (suc w) = refl

-- a number in reach of some bytes, less its lowest group, is in reach of one fewer; one with a second group wants a
-- second byte
pub reach : (w n : ℕ) → n < 128 ^ suc w → n / 128 < 128 ^ w
reach w n h = let k : n < 128 ^ w * 128 = rw pow-suc at h in omega arith

second : (w n : ℕ) → n < 128 ^ w → 128 ≤ n → 2 ≤ w
second zero n h k = omega arith
second (suc zero) n h k = omega arith
second (suc (suc w)) n h k = omega arith

-- ---- the writer's bytes

-- 1 to 5 bytes
pub vint_length : (n : ℕ) → (1 ≤ length (write_vint n)) × (length (write_vint n) ≤ vint_limit)
vint_length n = (
  ⊎_elim
      (λ (h : n < 128). rw (write_last 4 n h) (omega arith))
      (λ (h : 128 ≤ n). rw (write_on 4 n h) (omega arith))
      (below_or n 128),
  length_most vint_limit n,
)

each_byte : (w n : ℕ) → Bytes (vint_bytes w n)
unfolding vint_bytes
each_byte zero n = tt
each_byte (suc w) n = go (ltb n 128) refl (each_byte w (n / 128))
  where
    go : (t : Bool) → ltb n 128 ≡ t → Bytes (vint_bytes w (n / 128))
        → Bytes (cond t ((n + 128) ∷ []) (n % 128 ∷ vint_bytes w (n / 128)))
    go true e h = (omega (arith, ltb-true n 128 e), tt)
    go false e h = (omega arith, h)

top_before : (b : ℕ) (bs : List ℕ) → b < 128 → TopOnLast bs → TopOnLast (b ∷ bs)
top_before b [] h k = absurd k
top_before b (c ∷ bs) h k = (h, k)

top_on_last : (w n : ℕ) → n < 128 ^ suc w → TopOnLast (vint_bytes (suc w) n)
top_on_last zero n h = rw (write_last zero n (omega arith)) (omega arith)
top_on_last (suc w) n h =
    ⊎_elim
    (λ (k : n < 128). rw (write_last (suc w) n k) (omega arith))
    (λ (k : 128 ≤ n). rw (write_on (suc w) n k)
    (top_before (n % 128) (vint_bytes (suc w) (n / 128)) (omega arith)
    (top_on_last w (n / 128) (reach (suc w) n h))))
    (below_or n 128)

-- bytes, of which the last alone has the top bit
pub vint_bytes_lem : (n : ℕ) → n < 2 ^ 32 → Bytes (write_vint n) × TopOnLast (write_vint n)
vint_bytes_lem n h = (each_byte vint_limit n, top_on_last 4 n (omega arith))

-- ---- written, then read

take_back_last : (w n : ℕ) (rest : List ℕ) → n < 128
    → take_vint (suc w) (vint_bytes (suc w) n ++ rest) ≡ ended n (length (vint_bytes (suc w) n))
take_back_last w n rest k =
    rw (write_last w n k) (take_last w (n + 128) rest (omega arith) ∙ ap (λ (v : ℕ). ended v 1) (omega arith))

-- what is written is taken, whatever follows
pub take_back : (w n : ℕ) (rest : List ℕ) → n < 128 ^ suc w
    → take_vint (suc w) (vint_bytes (suc w) n ++ rest) ≡ ended n (length (vint_bytes (suc w) n))
take_back zero n rest h = take_back_last zero n rest (omega arith)
take_back (suc w) n rest h =
    ⊎_elim
    (take_back_last (suc w) n rest)
    (λ (k : 128 ≤ n). rw (write_on (suc w) n k)
    (take_on (suc w) (n % 128) (vint_bytes (suc w) (n / 128) ++ rest) (omega arith)
    ∙ ap (grouped (n % 128)) (take_back w (n / 128) rest (reach (suc w) n h))
    ∙ ap (λ (v : ℕ). ended v (suc (length (vint_bytes (suc w) (n / 128))))) (omega arith)))
    (below_or n 128)

-- ---- what is taken

-- a vint at the front of bytes: its sum and the bytes taken, group by group
pub data Took : ℕ → List ℕ → ℕ → ℕ → Type 0 where
  took_last : {w b : ℕ} {bs : List ℕ} → 128 ≤ b → Took (suc w) (b ∷ bs) (b - 128) 1
  took-on : {w b v k : ℕ} {bs : List ℕ} → b < 128 → Took w bs v k → Took (suc w) (b ∷ bs) (b + 128 * v) (suc k)

abbrev IfEnded : ℕ → List ℕ → Taken → Type 0
IfEnded w bs (ended v k) = Took w bs v k
IfEnded w bs unended = Unit {0}

took-all : (w : ℕ) (bs : List ℕ) → IfEnded w bs (take_vint w bs)
unfolding take_vint
took-all zero bs = tt
took-all (suc w) [] = tt
took-all (suc w) (b ∷ bs) =
    ⊎_elim
    (λ (h : b < 128). rw (take_on w b bs h) (more h (take_vint w bs) (took-all w bs)))
    (λ (h : 128 ≤ b). rw (take_last w b bs h) (took_last h))
    (below_or b 128)
  where
    more : b < 128 → (t : Taken) → IfEnded w bs t → IfEnded (suc w) (b ∷ bs) (grouped b t)
    more h (ended v k) p = took-on h p
    more h unended p = tt

-- what the definition takes is such a vint
pub took : (w : ℕ) (bs : List ℕ) (v k : ℕ) → take_vint w bs ≡ ended v k → Took w bs v k
took w bs v k e = subst (IfEnded w bs) e (took-all w bs)

-- and the other way round
pub took_back : {w : ℕ} {bs : List ℕ} {v k : ℕ} → Took w bs v k → take_vint w bs ≡ ended v k
took_back (took_last {w} {b} {bs} h) = take_last w b bs h
took_back (took-on {w} {b} {v} {k} {bs} h t) = take_on w b bs h ∙ ap (grouped b) (took_back t)

-- what stands behind it doesn't matter
pub took-front : {w : ℕ} {bs : List ℕ} {v k : ℕ} → Took w bs v k → Took w (take k bs) v k
took-front (took_last h) = took_last h
took-front (took-on h t) = took-on h (took-front t)

-- at least one byte, and no more than may be taken or are there
pub taken-within : {w : ℕ} {bs : List ℕ} {v k : ℕ} → Took w bs v k → (1 ≤ k) × ((k ≤ w) × (k ≤ length bs))
taken-within (took_last h) = (omega arith, (omega arith, omega arith))
taken-within (took-on h t) = let r = taken-within t in (omega arith, (omega arith, omega arith))

-- a vint takes at least as many bytes as its sum, or a number below that, is written in
pub fewest_taken : {w : ℕ} {bs : List ℕ} {v k : ℕ} (n : ℕ) → Bytes bs → Took w bs v k → n ≤ v
    → length (vint_bytes w n) ≤ k
fewest_taken n h (took_last {w} b) l = rw (write_last w n (omega (arith, h.0))) (omega arith)
fewest_taken n h (took-on {w} b t) l =
    ⊎_elim
    (λ (k : n < 128). rw (write_last w n k) (omega arith))
    (λ (k : 128 ≤ n). rw (write_on w n k) (omega (arith, fewest_taken (n / 128) h.1 t (omega arith))))
    (below_or n 128)

-- so no vint whose groups make a number, or make it modulo 2^32, has fewer bytes than the written one
pub fewest : (bs : List ℕ) (v k : ℕ) → Bytes bs → take_vint vint_limit bs ≡ ended v k
    → length (write_vint (v % 2 ^ 32)) ≤ k
fewest bs v k h e = fewest_taken (v % 2 ^ 32) h (took vint_limit bs v k e) (omega arith)

-- ---- the writer's loop

-- some bytes are written, with zeros after them, and the vint of a rest, which fits there, completes them
pub record Writing (w n : ℕ) (bytes : List ℕ) (rest at : ℕ) : Type 0 where
  pub room : at < w
  pub long : length bytes ≡ w
  pub reached : rest < 128 ^ (w - at)
  pub whole : vint_bytes w n ≡ take at bytes ++ vint_bytes (w - at) rest
  pub free : drop at bytes ≡ replicate (w - at) 0

module _ {w n : ℕ} {bytes : List ℕ} {rest at : ℕ} (h : Writing w n bytes rest at) where
  left : w - at ≡ suc (w - suc at)
  left = omega arith

  free_after : drop (suc at) bytes ≡ replicate (w - suc at) 0
  free_after =
      let e : get_or bytes at 0 ∷ drop (suc at) bytes ≡ 0 ∷ replicate (w - suc at) 0 =
      sym (drop-cons bytes at 0 (omega arith)) ∙ h.free ∙ ap (λ (k : ℕ). replicate k 0) left in
      cc

  rest-on : 128 ≤ rest → vint_bytes (w - at) rest ≡ rest % 128 ∷ vint_bytes (w - suc at) (rest / 128)
  rest-on k = rw left (write_on (w - suc at) rest k)

  pub writing-on : 128 ≤ rest → Writing w n (set bytes at (rest % 128)) (rest / 128) (suc at)
  writing-on k =
      let r : rest < 128 ^ suc (w - suc at) = rw left at h.reached in
      record {
        room = omega (arith, second (suc (w - suc at)) rest r k);
        long = length-set bytes at (rest % 128) ∙ h.long;
        reached = reach (w - suc at) rest r;
        whole =
            h.whole
            ∙ ap (λ (l : List ℕ). take at bytes ++ l) (rest-on k)
            ∙ rw (take-suc-set bytes at (rest % 128) (omega arith))
            (sym (append_snoc (take at bytes) (rest % 128) (vint_bytes (w - suc at) (rest / 128))));
        free = drop-set-lt (suc at) bytes at (rest % 128) (omega arith) ∙ free_after;
      }

  -- the last group ends it
  bytes_are : rest < 128 → vint_bytes w n ≡ take at bytes ++ ((rest + 128) ∷ [])
  bytes_are k = h.whole ∙ ap (λ (l : List ℕ). take at bytes ++ l) (rw left (write_last (w - suc at) rest k))

  pub written_length : rest < 128 → suc at ≡ length (vint_bytes w n)
  written_length k = rw (bytes_are k, length-append, length-take-le at bytes (omega arith)) (omega arith)

  pub written : rest < 128 → set bytes at (rest + 128) ≡ vint_bytes w n ++ replicate (w - length (vint_bytes w n)) 0
  written k =
      set_split bytes at (rest + 128) (omega arith)
      ∙ rw (← written_length k, bytes_are k, free_after)
      (sym (append_snoc (take at bytes) (rest + 128) (replicate (w - suc at) 0)))

-- two vints by value with the same bytes and the same count are one
pub same_vint : (v w : Vint) → v.bytes ≡ w.bytes → v.count ≡ w.count → v ≡ w
same_vint v w b c = λ i. record {
  bytes = b i;
  count = c i;
  within = is_prop→PathP (λ j. c j ≤ vint_limit) (λ j. le_prop) v.within w.within i;
}

-- ---- the reader's loop

-- groups so far, their sum and the next one's unit, in front of what is taken from there
abbrev pub behind : ℕ → ℕ → ℕ → Taken → Taken
behind s u i (ended v k) = ended (s + u * v) (i + k)
behind s u i unended = unended

behind-grouped : (s u i b : ℕ) (t : Taken) → behind s u i (grouped b t) ≡ behind (s + u * b) (u * 128) (suc i) t
behind-grouped s u i b (ended v k) =
    let x : s + u * (b + 128 * v) ≡ s + u * b + u * 128 * v = omega (arith, mul-add u b (128 * v), mul_assoc u 128 v) in
    let y : i + suc k ≡ suc i + k = omega arith in
    rw (x, y)
behind-grouped s u i b unended = refl

-- the test of its two bounds, of w bytes and of what is there
pub goes_on : (at w l : ℕ) → (ltb at w && ltb at l) ≡ true → (at < w) × (at < l)
goes_on at w l e = let p = both (ltb at w) (ltb at l) e in (ltb-true at w p.0, ltb-true at l p.1)

pub stops : (at w l : ℕ) → (ltb at w && ltb at l) ≡ false → (w ≤ at) ⊎ (l ≤ at)
stops at w l e = go (ltb at w) refl e
  where
    go : (t : Bool) → ltb at w ≡ t → (t && ltb at l) ≡ false → (w ≤ at) ⊎ (l ≤ at)
    go true x e = inr (ltb-false at l e)
    go false x e = inl (ltb-false at w x)

-- some bytes are taken, none with the top bit: what is taken in all is their sum, with the unit times what is taken
-- from there
pub record Reading (w : ℕ) (bs : List ℕ) (sum unit at : ℕ) : Type 0 where
  pub within : at ≤ w
  pub there : at ≤ length bs
  pub unit_is : unit ≡ 128 ^ at
  pub small : sum < unit
  pub whole : take_vint w bs ≡ behind sum unit at (take_vint (w - at) (drop at bs))

pub reading_starts : (w : ℕ) (bs : List ℕ) → Reading w bs 0 1 0
reading_starts w bs =
    record {
      within = zero-le;
      there = zero-le;
      unit_is = refl;
      small = omega arith;
      whole = rw sub-zero (nothing (take_vint w bs));
    }
  where
    nothing : (t : Taken) → t ≡ behind 0 1 0 t
    nothing (ended v k) =
        let x : v ≡ 0 + 1 * v = omega arith in let y : k ≡ 0 + k = omega arith in λ i. ended (x i) (y i)
    nothing unended = refl

-- what `answered` asks: the groups before the last make less than one of its units
abbrev pub LastByte : ℕ → ℕ → ℕ → ℕ → Type 0
LastByte sum unit group taken =
    (1 ≤ taken) × ((taken ≤ 5) × ((unit ≡ 128 ^ (taken - 1)) × ((sum < unit) × (group < 128))))

module _ {w : ℕ} {bs : List ℕ} {sum unit at : ℕ} (h : Reading w bs sum unit at) where
  -- the next group's unit, while one more byte may be taken
  pub unit_most : at < w → unit ≤ 128 ^ (w - 1)
  unit_most i = rw h.unit_is (pow-le-pow_right (omega arith) (omega arith))

  next : at < w → at < length bs
      → take_vint (w - at) (drop at bs) ≡ take_vint (suc (w - suc at)) (get_or bs at 0 ∷ drop (suc at) bs)
  next i j = let l : w - at ≡ suc (w - suc at) = omega arith in rw (l, drop-cons bs at 0 j)

  pub reading-on : at < w → at < length bs → get_or bs at 0 < 128
      → Reading w bs (sum + unit * get_or bs at 0) (unit * 128) (suc at)
  reading-on i j k =
      let b = get_or bs at 0 in
      let p : unit * b ≤ unit * 127 = mul-le-mul_left unit (omega arith) in
      record {
        within = i;
        there = j;
        unit_is = ap (λ (u : ℕ). u * 128) h.unit_is ∙ sym (pow-suc 128 at);
        small = omega arith;
        whole =
            h.whole
            ∙ ap (behind sum unit at) (next i j ∙ take_on (w - suc at) b (drop (suc at) bs) k)
            ∙ behind-grouped sum unit at b (take_vint (w - suc at) (drop (suc at) bs));
      }

  pub last_byte : at < w → w ≤ 5 → 128 ≤ get_or bs at 0 → get_or bs at 0 < 256
      → LastByte sum unit (get_or bs at 0 - 128) (at + 1)
  last_byte i f k b =
      let e : at + 1 - 1 ≡ at = omega arith in
      (omega arith, (omega arith, (rw e h.unit_is, (h.small, omega arith))))

  pub reading_last : at < w → at < length bs → 128 ≤ get_or bs at 0
      → take_vint w bs ≡ ended (sum + unit * (get_or bs at 0 - 128)) (suc at)
  reading_last i j k =
      h.whole
      ∙ ap (behind sum unit at) (next i j ∙ take_last (w - suc at) (get_or bs at 0) (drop (suc at) bs) k)
      ∙ ap (ended (sum + unit * (get_or bs at 0 - 128))) (add-one at)

  pub reading_stops : min (length bs) w ≤ at → take_vint w bs ≡ unended
  reading_stops k = h.whole ∙ ap (behind sum unit at) (⊎_elim none_there none_left (below_or at w))
    where
      none_left : w ≤ at → take_vint (w - at) (drop at bs) ≡ unended
      none_left i = let z : w - at ≡ 0 = omega arith in rw z (take_none (drop at bs))

      none_there : at < w → take_vint (w - at) (drop at bs) ≡ unended
      none_there i = let j : length bs ≤ at = omega arith in rw (drop_of_length-le bs j) (take_nothing (w - at))

-- answers of two numbers that are equal tell the same
pub same_number : (v j n k : ℕ) → number v j ≡ number n k → (v ≡ n) × (j ≡ k)
same_number v j n k e =
    let r : ◌≡◌ {A = Read} (record { number = v; taken = j }) (record { number = n; taken = k }) = cc in
    (ap (λ (x : Read). x.number) r, ap (λ (x : Read). x.taken) r)

-- a refusal is of a vint without an end or in another form
pub refusal_listed : (bs : List ℕ) (r : Refusal) → read_vint bs ≡ Err r → (r ≡ NoEnd) ⊎ (r ≡ AnotherForm)
unfolding answer_of
refusal_listed bs r e = go (take_vint vint_limit bs) e
  where
    either : (c : Bool) (v k : ℕ) → ◌≡◌ {A = Unvint} (cond c (Err AnotherForm) (number v k)) (Err r)
        → (r ≡ NoEnd) ⊎ (r ≡ AnotherForm)
    either true v k e = inr cc
    either false v k e = cc

    go : (t : Taken) → answer_of t ≡ Err r → (r ≡ NoEnd) ⊎ (r ≡ AnotherForm)
    go (ended v k) e = either (is_another_form k (last_group v k)) v k e
    go unended e = inl cc

-- what the loop found is the reader's answer, and a refusal is a listed one
pub answers : (bs : List ℕ) (t : Taken) (r : Unvint) → take_vint vint_limit bs ≡ t → r ≡ answer_of t
    → (r ≡ read_vint bs) × (permitted unvinting (said_unvint r) ≡ true)
unfolding answer_of
answers bs t r e f = (f ∙ sym (ap answer_of e), rw f (known t))
  where
    either : (c : Bool) (v k : ℕ) → permitted unvinting (said_unvint (cond c (Err AnotherForm) (number v k))) ≡ true
    either true v k = refl
    either false v k = refl

    known : (t : Taken) → permitted unvinting (said_unvint (answer_of t)) ≡ true
    known (ended v k) = either (is_another_form k (last_group v k)) v k
    known unended = refl
