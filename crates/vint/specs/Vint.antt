-- RULES K. Document 01, "Hash and vint": a vint is seven bits a byte, low group first, the top bit (128) set on the
-- last byte only. Document 02, Five: which of them are accepted. What is taken from bytes and what that answers are two
-- definitions: a rule on which vints are accepted changes the second alone.
use Rattle.std.specs.Prelude.{ℕ, zero, suc, ◌+◌, ◌-◌, ◌*◌, ◌/◌, ◌%◌, ◌^◌, ◌≤◌, ◌<◌, ◌≡◌, refl, Bool, true, false, cond, ◌&&◌, ◌||◌, List, [], ◌∷◌, ◌++◌, leb, ltb, eqb, length, replicate, Result, Ok, Err}
use Rattle.std.proofs.Common.{arith}
use Rattle.limits.specs.Limits.{vint_limit, fifth_limit}
use Rattle.limits.specs.Refusals.{Said, answered, refused, a_number, number_of, one-outcome}
use Rattle.limits.specs.declared.Refusal.{Refusal}
use Rattle.limits.specs.declared.Refusal.TheVariants.{NoEnd, AnotherForm}
use Rattle.vint.specs.declared.written.Vint.{Vint}
use Rattle.vint.specs.declared.Read.{Read}

-- ---- the writer

-- RULES K2. The groups of n, low group first, the top bit on the last byte only; at most w bytes.
unfoldable pub vint_bytes : ℕ → ℕ → List ℕ
vint_bytes zero n = []
vint_bytes (suc w) n = cond (ltb n 128) ((n + 128) ∷ []) (n % 128 ∷ vint_bytes w (n / 128))

-- RULES K2. The fewest bytes, 1 to 5.
abbrev pub write_vint : ℕ → List ℕ
write_vint n = vint_bytes vint_limit n

-- RULES K2. No more than may be.
pub length_most : (w n : ℕ) → length (vint_bytes w n) ≤ w
unfolding vint_bytes
length_most zero n = omega arith
length_most (suc w) n = go (ltb n 128) (length_most w (n / 128))
  where
    go : (t : Bool) → length (vint_bytes w (n / 128)) ≤ w
        → length (cond t ((n + 128) ∷ []) (n % 128 ∷ vint_bytes w (n / 128))) ≤ suc w
    go true h = omega arith
    go false h = omega arith

-- RULES K2. The same by value: the bytes, zeros after them, and how many they are.
abbrev pub vint_of : ℕ → Vint
vint_of n = record {
  bytes = write_vint n ++ replicate (vint_limit - length (write_vint n)) 0;
  count = length (write_vint n);
  within = length_most vint_limit n;
}

-- RULES K1. The top bit is set on the last byte only.
abbrev pub TopOnLast : List ℕ → Type 0
TopOnLast [] = ⊥
TopOnLast (b ∷ []) = 128 ≤ b
TopOnLast (b ∷ c ∷ bs) = (b < 128) × TopOnLast (c ∷ bs)

-- ---- the reader

-- RULES K3. What bytes begin with: a vint, its groups' sum and the bytes taken; or no byte with the top bit.
pub data Taken : Type 0 where
  ended : ℕ → ℕ → Taken
  unended : Taken

-- RULES K3. A group in front.
abbrev pub grouped : ℕ → Taken → Taken
grouped b (ended v k) = ended (b + 128 * v) (suc k)
grouped b unended = unended

-- RULES K3. Up to w bytes, to the first with the top bit set.
unfoldable pub take_vint : ℕ → List ℕ → Taken
take_vint zero bs = unended
take_vint (suc w) [] = unended
take_vint (suc w) (b ∷ bs) = cond (leb 128 b) (ended (b - 128) 1) (grouped b (take_vint w bs))

-- RULES K4. The last group of a vint of k bytes with the sum v.
abbrev pub last_group : ℕ → ℕ → ℕ
last_group v k = v / 128 ^ (k - 1)

-- RULES K4. "A fifth byte whose group is above 15", and "a vint of two or more bytes whose last group is 0": of k bytes
-- with the last group g.
abbrev pub is_another_form : ℕ → ℕ → Bool
is_another_form k g = (eqb k vint_limit && ltb fifth_limit g) || (leb 2 k && eqb g 0)

-- RULES K3. What the reader answers.
abbrev pub Unvint : Type 0
Unvint = Result Read Refusal

-- RULES K3. What it answers of a number v that it read from k bytes.
abbrev pub number : ℕ → ℕ → Unvint
number v k = Ok (record { number = v; taken = k })

-- RULES K4. The sum and the bytes taken; 12 where it isn't its number's one form; without an end, 11.
unfoldable pub answer_of : Taken → Unvint
answer_of (ended v k) = cond (is_another_form k (last_group v k)) (Err AnotherForm) (number v k)
answer_of unended = Err NoEnd

-- RULES K4. Of at most five bytes.
abbrev pub read_vint : List ℕ → Unvint
read_vint bs = answer_of (take_vint vint_limit bs)

-- RULES K6. Bytes that are a number's accepted form: the reader takes them all and answers the number.
abbrev pub AcceptedFor : ℕ → List ℕ → Type 0
AcceptedFor n bs = read_vint bs ≡ number n (length bs)

-- RULES X7. What the reader's answer says.
abbrev pub said_unvint : Unvint → Said
said_unvint (Ok r) = answered a_number (r.number ∷ r.taken ∷ [])
said_unvint (Err r) = refused (number_of r) []

-- RULES X7. A row a case: what the call says then.
pub said_cases : (said_unvint (read_vint (0x2C ∷ 0x82 ∷ [])) ≡ answered a_number (300 ∷ 2 ∷ []))
    × (said_unvint (read_vint (0x7F ∷ 0x7F ∷ 0x7F ∷ 0x7F ∷ 0x8F ∷ [])) ≡ answered a_number (4294967295 ∷ 5 ∷ []))
    × (said_unvint (read_vint (0x80 ∷ [])) ≡ answered a_number (0 ∷ 1 ∷ []))
    × (said_unvint (read_vint (0x2C ∷ [])) ≡ refused 11 [])
    × (said_unvint (read_vint (0x00 ∷ 0x00 ∷ 0x00 ∷ 0x00 ∷ 0x10 ∷ [])) ≡ refused 11 [])
    × (said_unvint (read_vint (0x7F ∷ 0x7F ∷ 0x7F ∷ 0x7F ∷ 0x90 ∷ [])) ≡ refused 12 [])
    × (said_unvint (read_vint (0x2C ∷ 0x80 ∷ [])) ≡ refused 12 [])
unfolding take_vint answer_of
said_cases = (refl, refl, refl, refl, refl, refl, refl)

-- RULES X8. The promises permit one outcome each.
pub vint_settled : (n : ℕ) {x y : Vint} → x ≡ vint_of n → y ≡ vint_of n → x ≡ y
vint_settled n p q = one-outcome p q

-- RULES X8.
pub unvint_settled : (bs : List ℕ) {x y : Unvint} → x ≡ read_vint bs → y ≡ read_vint bs → x ≡ y
unvint_settled bs p q = one-outcome p q
