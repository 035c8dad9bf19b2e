-- RULES A. Document 01, "Numbers that bound the store", "Pages and addresses", "Buckets", "Lists", and document 02's
-- Three and Nine: each number once, by name. A number that depends on a page's bytes takes them as an argument.
use Rattle.std.specs.Prelude.{ℕ, ◌+◌, ◌-◌, ◌*◌, ◌/◌, ◌^◌, ◌≤◌, ◌<◌, min, ◌≡◌, refl, Bool, true, false, ◌||◌, eqb}
use Rattle.std.proofs.Common.{sym, subst, arith, lit≤, lit<, eqb-true}
use Rattle.std.proofs.lemmas.Bool.{false≢true, eqb-false}

-- RULES A2. Whether a page may have s bytes: 65,536 to 1,048,576, powers of two only.
abbrev pub page_taken : ℕ → Bool
page_taken s = eqb s 65536 || (eqb s 131072 || (eqb s 262144 || (eqb s 524288 || eqb s 1048576)))

-- RULES A2. A page's bytes in the crate, which are the most.
abbrev pub page_size : ℕ
page_size = 1048576

-- RULES A3. Pages of the longest arena, a page having s bytes.
abbrev pub page_limit : ℕ → ℕ
page_limit s = 2 ^ 32 / s - 1

-- RULES A3. And its bytes.
abbrev pub arena_limit_for : ℕ → ℕ
arena_limit_for s = page_limit s * s

-- RULES A3. Bytes of the longest arena of all, which has the smallest pages.
abbrev pub arena_limit : ℕ
arena_limit = arena_limit_for 65536

-- RULES A7. The address that points nowhere.
abbrev pub null_address : ℕ
null_address = 2 ^ 32 - 1

-- RULES A4. Buckets of the longest table.
abbrev pub bucket_limit : ℕ
bucket_limit = 4194304

-- RULES A4. And its words.
abbrev pub word_limit : ℕ
word_limit = 2 * bucket_limit

-- RULES A5. Bytes of the longest name, whatever the page: two bytes tell its length.
abbrev pub name_limit : ℕ
name_limit = 65535

-- RULES A6. Bytes of a record besides its name.
abbrev pub record_extra : ℕ
record_extra = 18

-- RULES A5. Bytes of the longest name whose record a page of s bytes holds.
abbrev pub name_limit_for : ℕ → ℕ
name_limit_for s = min name_limit (s - record_extra)

-- RULES A6. And of the value in it.
abbrev pub value_size : ℕ
value_size = 16

-- RULES A8. The block number of a list without blocks.
abbrev pub fresh_number : ℕ
fresh_number = 2

-- RULES A8. And the largest that isn't damage.
abbrev pub number_limit : ℕ
number_limit = 140000

-- RULES A8. Block sizes double up to this exponent.
abbrev pub size_top : ℕ
size_top = 15

-- RULES A8. Each block is followed by a link of so many bytes.
abbrev pub link_size : ℕ
link_size = 4

-- RULES K2. Bytes of the longest vint.
abbrev pub vint_limit : ℕ
vint_limit = 5

-- RULES K4. The highest group that a fifth byte may have.
abbrev pub fifth_limit : ℕ
fifth_limit = 15

-- RULES AC1. Bytes of a cut vint that may be held between pieces.
abbrev pub held_limit : ℕ
held_limit = 4

-- RULES AC1. Bytes that a number reader may be fed in all.
abbrev pub fed_limit : ℕ
fed_limit = 4294967295

-- RULES AA3. Digits of a report's longest decimal.
abbrev pub digit_limit : ℕ
digit_limit = 18

-- ---- the page sizes

-- What holds of the five sizes holds of each that is taken: how the laws below are proved, once for all sizes.
pub each_size : (P : ℕ → Type 0) → P 65536 → P 131072 → P 262144 → P 524288 → P 1048576
    → (s : ℕ) → page_taken s ≡ true → P s
each_size P a b c d e s t =
    go (eqb s 65536) refl (eqb s 131072) refl (eqb s 262144) refl (eqb s 524288) refl (eqb s 1048576) refl t
  where
    is : (n : ℕ) → P n → eqb s n ≡ true → P s
    is n p h = subst P (sym (eqb-true s n h)) p

    go : (u : Bool) → eqb s 65536 ≡ u → (v : Bool) → eqb s 131072 ≡ v → (w : Bool) → eqb s 262144 ≡ w
        → (x : Bool) → eqb s 524288 ≡ x → (y : Bool) → eqb s 1048576 ≡ y → (u || (v || (w || (x || y)))) ≡ true → P s
    go true h v i w j x k y l t = is 65536 a h
    go false h true i w j x k y l t = is 131072 b i
    go false h false i true j x k y l t = is 262144 c j
    go false h false i false j true k y l t = is 524288 d k
    go false h false i false j false k true l t = is 1048576 e l
    go false h false i false j false k false l t = absurd (false≢true t)

-- RULES A2. A size that is taken is a power of two, 2^16 to 2^20;
pub taken-power : (s : ℕ) → page_taken s ≡ true → (k : ℕ) × ((s ≡ 2 ^ k) × ((16 ≤ k) × (k ≤ 20)))
taken-power =
    each_size (λ s. (k : ℕ) × ((s ≡ 2 ^ k) × ((16 ≤ k) × (k ≤ 20))))
    (16, (refl, (lit≤ tt, lit≤ tt))) (17, (refl, (lit≤ tt, lit≤ tt))) (18, (refl, (lit≤ tt, lit≤ tt)))
    (19, (refl, (lit≤ tt, lit≤ tt))) (20, (refl, (lit≤ tt, lit≤ tt)))

-- RULES A2. and each of these is taken.
pub power-taken : (k : ℕ) → 16 ≤ k → k ≤ 20 → page_taken (2 ^ k) ≡ true
power-taken k l h = go (eqb k 16) refl (eqb k 17) refl (eqb k 18) refl (eqb k 19) refl
  where
    is : (n : ℕ) → page_taken (2 ^ n) ≡ true → k ≡ n → page_taken (2 ^ k) ≡ true
    is n p e = subst (λ (j : ℕ). page_taken (2 ^ j) ≡ true) (sym e) p

    go : (u : Bool) → eqb k 16 ≡ u → (v : Bool) → eqb k 17 ≡ v → (w : Bool) → eqb k 18 ≡ w → (x : Bool) → eqb k 19 ≡ x
        → page_taken (2 ^ k) ≡ true
    go true e v f w g x i = is 16 refl (eqb-true _ _ e)
    go false e true f w g x i = is 17 refl (eqb-true _ _ f)
    go false e false f true g x i = is 18 refl (eqb-true _ _ g)
    go false e false f false g true i = is 19 refl (eqb-true _ _ i)
    go false e false f false g false i =
        let a : k ≡ 16 → ⊥ = eqb-false _ _ e in
        let b : k ≡ 17 → ⊥ = eqb-false _ _ f in
        let c : k ≡ 18 → ⊥ = eqb-false _ _ g in
        let d : k ≡ 19 → ⊥ = eqb-false _ _ i in
        is 20 refl (omega arith)

-- RULES A2. The least size,
pub page_least : (s : ℕ) → page_taken s ≡ true → 65536 ≤ s
page_least = each_size (λ s. 65536 ≤ s) (lit≤ tt) (lit≤ tt) (lit≤ tt) (lit≤ tt) (lit≤ tt)

-- RULES A2. and the largest.
pub page_most : (s : ℕ) → page_taken s ≡ true → s ≤ page_size
page_most = each_size (λ s. s ≤ page_size) (lit≤ tt) (lit≤ tt) (lit≤ tt) (lit≤ tt) (lit≤ tt)

-- ---- how the numbers fit together

-- RULES A9. No address of an arena is null, nor on null's page: with that page there would be 2^32 bytes.
pub null_outside : (s : ℕ) → page_taken s ≡ true → arena_limit_for s + s ≡ 2 ^ 32
null_outside = each_size (λ s. arena_limit_for s + s ≡ 2 ^ 32) refl refl refl refl refl

-- RULES A9. An arena of any size is within the longest of all.
pub limit_within : (s : ℕ) → page_taken s ≡ true → arena_limit_for s ≤ arena_limit
limit_within = each_size (λ s. arena_limit_for s ≤ arena_limit) (lit≤ tt) (lit≤ tt) (lit≤ tt) (lit≤ tt) (lit≤ tt)

-- RULES A9. The longest record fits a page.
pub record-fits : (s : ℕ) → page_taken s ≡ true → name_limit_for s + record_extra ≤ s
record-fits s t = omega (arith, page_least s t)

-- RULES A9. And so does the largest block with its link.
pub block_fits : (s : ℕ) → page_taken s ≡ true → 2 ^ size_top + link_size ≤ s
block_fits s t = omega (arith, page_least s t)

-- RULES A9. A name's length is two bytes.
pub name-length : name_limit < 256 ^ 2
name-length = lit< tt

-- RULES A9. Whatever the page.
pub name-within : (s : ℕ) → name_limit_for s ≤ name_limit
name-within s = omega arith
