-- What follows from the rules of buckets: powers of two, lengths, records that were met, and each loop's turn and
-- end. Assumes nothing.
use Prim.Native.Nat.{ℕ, zero, suc, ◌+◌, ◌-◌, ◌*◌, ◌%◌, ◌^◌, ◌≤◌, ◌<◌, min}
use mathlib.Core.Path.{◌≡◌, refl, sym, ap, ◌∙◌, subst}
use mathlib.Core.Bool.{Bool, true, false, cond}
use mathlib.Core.List.{List, [], ◌∷◌}
use native.Mathlib.Nat.{pow-succ', mul_assoc, mul_comm, max-eq_left, max-eq_right}
use native.Mathlib.Omega.{arith}
use lib.Dec.{leb, eqb}
use lib.Bits.{bit_and, and_mask}
use lib.Pow.{pow_pos, pow_mono}
use lib.ListN.{length, set, take, drop}
use borrow.Author.Tests.{le-leb, lt-leb, leb-true, leb-false, eq-eqb, eqb-true}
use Rattle.limits.specs.Limits.{bucket_limit, null_address}
use Rattle.numbers.proofs.Tests.{cond-true, cond-false}
use Rattle.spans.specs.Span.{read_span}
use Rattle.spans.proofs.Laws.{length-overwrite, overwrite-append, overwrite_none, store-one, store-next}
use Rattle.fastcmp.specs.Equal.{equal_bytes}
use Rattle.fastcmp.proofs.Laws.{equal_true}
use Rattle.memory_arena.specs.declared.Arena.{Arena}
use Rattle.shared_arena_hashmap.specs.declared.Seen.{Seen}
use Rattle.shared_arena_hashmap.specs.declared.Seen.TheVariants.{Nothing, Same, Broken, Other}
use Rattle.shared_arena_hashmap.specs.declared.Met.TheVariants.{Standing, Lap}
use Rattle.shared_arena_hashmap.specs.declared.Walk.{Walk}
use Rattle.std.specs.Prelude.{Some, None}
use Rattle.shared_arena_hashmap.specs.Power.{doubled, rounded_down, power_of_two, grown_length}
use Rattle.shared_arena_hashmap.specs.Buckets.{address_at, hash_at, empty_at, with_bucket, empty_buckets, cleared}
use Rattle.records.specs.Record.{key_length, good_record, key_at}
use Rattle.shared_arena_hashmap.specs.Probe.{seen_record, seen_at, start_of, next_bucket, walked, on_seen, probe}
use Rattle.shared_arena_hashmap.specs.Probe.{lookup, occupied_by, occupied_from}
use Rattle.shared_arena_hashmap.specs.Grow.{free_from, free_of, entered, reentered, all_reentered, grown}

-- ---- powers of two

-- once twice p passes c, p stays
doubled_stop : (n c p : ℕ) → c < 2 * p → doubled n c p ≡ p
unfolding doubled
doubled_stop zero c p h = refl
doubled_stop (suc n) c p h = cond-false _ _ _ (lt-leb (2 * p) c h)

doubled-on : (n c p : ℕ) → 2 * p ≤ c → doubled (suc n) c p ≡ doubled n c (2 * p)
unfolding doubled
doubled-on n c p h = cond-true _ _ _ (le-leb (2 * p) c h)

-- a power of two stays one
doubled-power : (n c j : ℕ) → (k : ℕ) × ((doubled n c (2 ^ j) ≡ 2 ^ k) × (k ≤ j + n))
unfolding doubled
doubled-power zero c j = (j, (refl, omega arith))
doubled-power (suc n) c j = go (leb (2 * 2 ^ j) c) (doubled-power n c (suc j))
  where
    go : (t : Bool) → (k : ℕ) × ((doubled n c (2 ^ suc j) ≡ 2 ^ k) × (k ≤ suc j + n))
        → (k : ℕ) × ((cond t (doubled n c (2 * 2 ^ j)) (2 ^ j) ≡ 2 ^ k) × (k ≤ j + suc n))
    go true (k, (e, h)) = (k, (rw (← pow-succ' 2 j) e, omega arith))
    go false r = (j, (refl, omega arith))

-- what doubling gives is at most c, and twice it is more
doubled-within : (n c p : ℕ) → p ≤ c → doubled n c p ≤ c
unfolding doubled
doubled-within zero c p h = h
doubled-within (suc n) c p h = go (leb (2 * p) c) refl (doubled-within n c (2 * p))
  where
    go : (t : Bool) → leb (2 * p) c ≡ t → (2 * p ≤ c → doubled n c (2 * p) ≤ c) → cond t (doubled n c (2 * p)) p ≤ c
    go true e f = f (leb-true _ _ e)
    go false e f = h

doubled_near : (n c p : ℕ) → c < 2 ^ suc n * p → c < 2 * doubled n c p
unfolding doubled
doubled_near zero c p h = h
doubled_near (suc n) c p h = go (leb (2 * p) c) refl (doubled_near n c (2 * p))
  where
    go : (t : Bool) → leb (2 * p) c ≡ t → (c < 2 ^ suc n * (2 * p) → c < 2 * doubled n c (2 * p))
        → c < 2 * cond t (doubled n c (2 * p)) p
    go true e f = f (rw (← mul_assoc, mul_comm (2 ^ suc n) 2, ← pow-succ') h)
    go false e f = leb-false _ _ e

-- doubling reaches a power of two that is not too far
doubled-exact : (n j k : ℕ) → j ≤ k → k ≤ j + n → doubled n (2 ^ k) (2 ^ j) ≡ 2 ^ k
doubled-exact zero j k h g =
    let e : k ≡ j = omega arith in rw e (doubled_stop 0 (2 ^ j) (2 ^ j) (omega (arith, pow_pos j)))
doubled-exact (suc n) j k h g = go (leb (suc j) k) refl (doubled-exact n (suc j) k)
  where
    go : (t : Bool) → leb (suc j) k ≡ t → (suc j ≤ k → k ≤ suc j + n → doubled n (2 ^ k) (2 ^ suc j) ≡ 2 ^ k)
        → doubled (suc n) (2 ^ k) (2 ^ j) ≡ 2 ^ k
    go true e f =
        let s : suc j ≤ k = leb-true _ _ e in
        doubled-on n (2 ^ k) (2 ^ j) (subst (λ (x : ℕ). x ≤ 2 ^ k) (pow-succ' 2 j) (pow_mono s))
        ∙ rw (← pow-succ' 2 j) (f s (omega arith))
    go false e f =
        let s : k < suc j = leb-false _ _ e in
        let q : k ≡ j = omega arith in
        rw q (doubled_stop (suc n) (2 ^ j) (2 ^ j) (omega (arith, pow_pos j)))

-- a length that is a power of two
pub record Power (l : ℕ) : Type 0 where
  pub some : 0 < l
  pub exponent : ℕ
  pub is : l ≡ 2 ^ exponent
  pub small : exponent ≤ 64

rounded_power : (c : ℕ) → Power (rounded_down c)
unfolding rounded_down
rounded_power c =
    let (k, (e, h)) = doubled-power 64 c 0 in
    record { some = rw e (pow_pos k); exponent = k; is = e; small = h }

pub power_facts : (l : ℕ) → power_of_two l ≡ true → Power l
unfolding power_of_two
power_facts l e = subst Power (eqb-true (rounded_down l) l e) (rounded_power l)

pub power_made : (l : ℕ) → Power l → power_of_two l ≡ true
unfolding power_of_two rounded_down
power_made l h =
    eq-eqb (rounded_down l) l (rw h.is (doubled-exact 64 0 h.exponent (omega arith) (omega (arith, h.small))))

-- rounding gives a power of two: the largest that is at most the capacity, from 1 up
pub rounded_is_power : (c : ℕ) → power_of_two (rounded_down c) ≡ true
rounded_is_power c = power_made (rounded_down c) (rounded_power c)

pub rounded_within : (c : ℕ) → 1 ≤ c → rounded_down c ≤ c
unfolding rounded_down
rounded_within c h = doubled-within 64 c 1 h

pub rounded_near : (c : ℕ) → c < 2 ^ 64 → c < 2 * rounded_down c
unfolding rounded_down
rounded_near c h = doubled_near 64 c 1 (omega arith)

-- growth keeps a table's length a power of two
pub grown_is_power : (l : ℕ) → power_of_two l ≡ true → l ≤ bucket_limit → power_of_two (grown_length l) ≡ true
grown_is_power l e h =
    power_made (grown_length l) (go (power_facts l e) (leb 64 (power_facts l e).exponent) refl (leb 4 l) refl)
  where
    go : (w : Power l) (t : Bool) → leb 64 w.exponent ≡ t → (u : Bool) → leb 4 l ≡ u → Power (grown_length l)
    go w true p u q =
        let z : 2 ^ 64 ≤ 2 ^ w.exponent = pow_mono (leb-true _ _ p) in
        absurd (omega (arith, w.is))
    go w false p true q =
        let s : 8 ≤ 2 * l = omega (arith, leb-true 4 l q) in
        record {
          some = omega arith;
          exponent = suc w.exponent;
          is = max-eq_left s ∙ ap (λ (x : ℕ). 2 * x) w.is ∙ sym (pow-succ' 2 w.exponent);
          small = leb-false _ _ p;
        }
    go w false p false q =
        let s : 2 * l ≤ 8 = omega (arith, leb-false 4 l q) in
        record { some = omega arith; exponent = 3; is = max-eq_right s; small = omega arith }

-- ---- from code: the highest bit, and a remainder by a mask

-- the power of two that is at most c and more than half of it
pub rounded_at : (c k : ℕ) → 2 ^ k ≤ c → c < 2 ^ suc k → c < 2 ^ 64 → 2 ^ k ≡ rounded_down c
rounded_at c k lo hi h =
    let p = rounded_power c in
    let e = p.exponent in
    let within : 2 ^ e ≤ c = subst (λ (x : ℕ). x ≤ c) p.is (rounded_within c (omega (arith, pow_pos k))) in
    let near : c < 2 ^ suc e = rw (pow-succ' 2 e) (subst (λ (x : ℕ). c < 2 * x) p.is (rounded_near c h)) in
    go e p.is within near (leb k e) refl (leb e k) refl
  where
    go : (e : ℕ) → rounded_down c ≡ 2 ^ e → 2 ^ e ≤ c → c < 2 ^ suc e → (t : Bool) → leb k e ≡ t → (u : Bool)
        → leb e k ≡ u → 2 ^ k ≡ rounded_down c
    go e is within near false p u q = let z : 2 ^ suc e ≤ 2 ^ k = pow_mono (leb-false k e p) in absurd (omega arith)
    go e is within near true p false q = let z : 2 ^ suc k ≤ 2 ^ e = pow_mono (leb-false e k q) in absurd (omega arith)
    go e is within near true p true q =
        let z : k ≡ e = omega (arith, leb-true k e p, leb-true e k q) in
        ap (λ (x : ℕ). 2 ^ x) z ∙ sym is

pub rounded_0 : 1 ≡ rounded_down 0
unfolding rounded_down
rounded_0 = sym (doubled_stop 64 0 1 (omega arith))

pub masked : (l x : ℕ) → power_of_two l ≡ true → bit_and x (l - 1) ≡ x % l
masked l x e =
    let p = power_facts l e in
    subst (λ (n : ℕ). bit_and x (n - 1) ≡ x % n) (sym p.is) (and_mask x p.exponent)

-- ---- buckets written

-- two stores, as code has them
pub stored-bucket : (b address hash : ℕ) (t : List ℕ)
    → set (set t (2 * b) address) (2 * b + 1) hash ≡ with_bucket b address hash t
unfolding with_bucket
stored-bucket b address hash t =
    rw (store-one (2 * b) address t) (store-next (2 * b) (address ∷ []) t hash (2 * b + 1) refl)

pub cleared-turn : (b e : ℕ) (t : List ℕ) → b < e
    → cleared b (e - b) t ≡ cleared (b + 1) (e - (b + 1)) (with_bucket b null_address 0 t)
unfolding cleared with_bucket empty_buckets
cleared-turn b e t h =
    let q : e - b ≡ suc (e - (b + 1)) = omega arith in
    let w : 2 * (b + 1) ≡ 2 * b + 2 = omega arith in
    rw (q, w) (overwrite-append (2 * b) (null_address ∷ 0 ∷ []) (empty_buckets (e - (b + 1))) t)

pub cleared-end : (b e : ℕ) (t : List ℕ) → e ≤ b → cleared b (e - b) t ≡ t
unfolding cleared empty_buckets
cleared-end b e t h =
    let q : e - b ≡ 0 = omega arith in
    rw q (overwrite_none (2 * b) t)

-- ---- the search for an empty bucket, and growth

pub free_turn : (t : List ℕ) (first l n i k : ℕ) → k < n
    → free_from t first l (n - k) i
    ≡ cond (empty_at t (first + i)) i (free_from t first l (n - (k + 1)) (next_bucket l i))
unfolding free_from
free_turn t first l n i k h = let q : n - k ≡ suc (n - (k + 1)) = omega arith in rw q

pub free_end : (t : List ℕ) (first l n i k : ℕ) → n ≤ k → free_from t first l (n - k) i ≡ l
unfolding free_from
free_end t first l n i k h = let q : n - k ≡ 0 = omega arith in rw q

pub reenter_turn : (b e first l : ℕ) (t : List ℕ) → b < e
    → all_reentered (e - b) b first l t ≡ all_reentered (e - (b + 1)) (b + 1) first l (reentered b first l t)
unfolding all_reentered
reenter_turn b e first l t h = let q : e - b ≡ suc (e - (b + 1)) = omega arith in rw q

pub reenter_end : (b e first l : ℕ) (t : List ℕ) → e ≤ b → all_reentered (e - b) b first l t ≡ t
unfolding all_reentered
reenter_end b e first l t h = let q : e - b ≡ 0 = omega arith in rw q

-- a table cleared and then re-entered, as code has it
pub grown_code : (n old first l : ℕ) (t s r : List ℕ) → s ≡ cleared first l t → r ≡ all_reentered n old first l s
    → r ≡ grown n old first l t
unfolding grown
grown_code n old first l t s r e f = rw (f, e)

-- ---- lengths

pub length-bucket : (b address hash : ℕ) (t : List ℕ) → length (with_bucket b address hash t) ≡ length t
unfolding with_bucket
length-bucket b address hash t = length-overwrite (2 * b) (address ∷ hash ∷ []) t

pub length-cleared : (b n : ℕ) (t : List ℕ) → length (cleared b n t) ≡ length t
unfolding cleared
length-cleared b n t = length-overwrite (2 * b) (empty_buckets n) t

-- a choice between two of one length
length_cond : (t : Bool) (x y m : List ℕ) → length x ≡ length m → length y ≡ length m → length (cond t x y) ≡ length m
length_cond true x y m p q = p
length_cond false x y m p q = q

pub length-entered : (first l address hash : ℕ) (t : List ℕ) → length (entered first l address hash t) ≡ length t
unfolding entered
length-entered first l address hash t =
    length_cond (eqb (free_of t first l hash) l) t (with_bucket (first + free_of t first l hash) address hash t) t refl
    (length-bucket (first + free_of t first l hash) address hash t)

pub length-reentered : (b first l : ℕ) (t : List ℕ) → length (reentered b first l t) ≡ length t
unfolding reentered
length-reentered b first l t =
    length_cond (empty_at t b) t (entered first l (address_at t b) (hash_at t b) t) t refl
    (length-entered first l (address_at t b) (hash_at t b) t)

pub length-all-reentered : (n b first l : ℕ) (t : List ℕ) → length (all_reentered n b first l t) ≡ length t
unfolding all_reentered
length-all-reentered zero b first l t = refl
length-all-reentered (suc n) b first l t =
    length-all-reentered n (b + 1) first l (reentered b first l t) ∙ length-reentered b first l t

pub length-grown : (n old first l : ℕ) (t : List ℕ) → length (grown n old first l t) ≡ length t
unfolding grown
length-grown n old first l t = length-all-reentered n old first l (cleared first l t) ∙ length-cleared first l t

-- the record against a name, as code has it: the key is a part from a start to an end
pub seen-broken : (keys : List ℕ) (a : Arena) (at : ℕ) (name : List ℕ) → good_record a keys at ≡ false
    → seen_record keys a at name ≡ Broken
unfolding seen_record
seen-broken keys a at name e = cond-false _ _ _ e

pub seen-good : (keys : List ℕ) (a : Arena) (at : ℕ) (name : List ℕ) (n : ℕ) (u : Bool) → good_record a keys at ≡ true
    → n ≡ key_length keys at
    → equal_bytes (take (at + 2 + n - (at + 2)) (drop (at + 2) keys)) name ≡ u
    → seen_record keys a at name ≡ cond u (Same at) Other
unfolding seen_record key_at read_span
seen-good keys a at name n u e f g =
    let k : at + 2 + n - (at + 2) ≡ key_length keys at = omega arith in
    let q : equal_bytes (take (key_length keys at) (drop (at + 2) keys)) name ≡ u = rw k at g in
    rw (e, q)

-- a good record with the name for its key, which is what a lookup takes for the name's own
abbrev pub HasKey : Arena → List ℕ → ℕ → List ℕ → Type 0
HasKey a keys at name = (good_record a keys at ≡ true) × (key_at keys at ≡ name)

seen-record : (keys : List ℕ) (a : Arena) (at x : ℕ) (name : List ℕ) → seen_record keys a at name ≡ Same x
    → HasKey a keys x name
unfolding seen_record
seen-record keys a at x name e = go (good_record a keys at) refl (equal_bytes (key_at keys at) name) refl e
  where
    go : (t : Bool) → good_record a keys at ≡ t → (u : Bool) → equal_bytes (key_at keys at) name ≡ u
        → cond t (cond u (Same at) Other) Broken ≡ Same x
        → HasKey a keys x name
    go true p true q f = let z : at ≡ x = cc in (rw z at p, rw z at (equal_true (key_at keys at) name q))
    go true p false q f = cc
    go false p u q f = cc

seen-bucket : (t keys : List ℕ) (a : Arena) (b hash x : ℕ) (name : List ℕ) → seen_at t keys a b hash name ≡ Same x
    → HasKey a keys x name
unfolding seen_at
seen-bucket t keys a b hash x name e = go (empty_at t b) (eqb (hash_at t b) hash) e
  where
    go : (v u : Bool) → cond v Nothing (cond u (seen_record keys a (address_at t b) name) Other) ≡ Same x
        → HasKey a keys x name
    go true u f = cc
    go false true f = seen-record keys a (address_at t b) x name f
    go false false f = cc

-- ---- a lookup

-- a turn, by what the bucket was seen to be
pub probe-turn : (t keys : List ℕ) (a : Arena) (first l hash : ℕ) (name : List ℕ) (n i k : ℕ) (r s : Seen) → k < n
    → r ≡ seen_at t keys a (first + i) hash name → r ≡ s
    → probe t keys a first l hash name (n - k) i k
    ≡ on_seen s (k + 1) (probe t keys a first l hash name (n - (k + 1)) (next_bucket l i) (k + 1))
unfolding probe
probe-turn t keys a first l hash name n i k r s h e f =
    let q : n - k ≡ suc (n - (k + 1)) = omega arith in
    rw (q, ← e, f)

pub probe-end : (t keys : List ℕ) (a : Arena) (first l hash : ℕ) (name : List ℕ) (n i k : ℕ) → k ≡ n
    → probe t keys a first l hash name (n - k) i k ≡ walked Lap n
unfolding probe
probe-end t keys a first l hash name n i k h = let q : n - n ≡ 0 = omega arith in rw (h, q)

probe-looked : (t keys : List ℕ) (a : Arena) (first l hash : ℕ) (name : List ℕ) (n i k : ℕ)
    → (k + min 1 n ≤ (probe t keys a first l hash name n i k).looked)
    × ((probe t keys a first l hash name n i k).looked ≤ k + n)
unfolding probe
probe-looked t keys a first l hash name zero i k = (omega arith, omega arith)
probe-looked t keys a first l hash name (suc n) i k =
    go (seen_at t keys a (first + i) hash name) (probe t keys a first l hash name n (next_bucket l i) (k + 1))
    (probe-looked t keys a first l hash name n (next_bucket l i) (k + 1))
  where
    go : (s : Seen) (w : Walk) → (k + 1 + min 1 n ≤ w.looked) × (w.looked ≤ k + 1 + n)
        → (k + min 1 (suc n) ≤ (on_seen s (k + 1) w).looked) × ((on_seen s (k + 1) w).looked ≤ k + suc n)
    go Nothing w h = (omega arith, omega arith)
    go (Same x) w h = (omega arith, omega arith)
    go Broken w h = (omega arith, omega arith)
    go Other w h = (omega arith, omega arith)

-- a lookup looks at a bucket at least, and at no more than there are
pub lookup-looked : (t keys : List ℕ) (a : Arena) (first l hash : ℕ) (name : List ℕ) → 0 < l
    → (1 ≤ (lookup t keys a first l hash name).looked) × ((lookup t keys a first l hash name).looked ≤ l)
unfolding lookup
lookup-looked t keys a first l hash name h =
    let p = probe-looked t keys a first l hash name l (start_of l hash) 0 in (omega arith, omega arith)

probe-met : (t keys : List ℕ) (a : Arena) (first l hash : ℕ) (name : List ℕ) (n i k x : ℕ)
    → (probe t keys a first l hash name n i k).met ≡ Standing x → HasKey a keys x name
unfolding probe
probe-met t keys a first l hash name zero i k x e = cc
probe-met t keys a first l hash name (suc n) i k x e =
    go (seen_at t keys a (first + i) hash name) refl (probe t keys a first l hash name n (next_bucket l i) (k + 1))
    (probe-met t keys a first l hash name n (next_bucket l i) (k + 1) x) e
  where
    go : (s : Seen) → seen_at t keys a (first + i) hash name ≡ s → (w : Walk)
        → (w.met ≡ Standing x → HasKey a keys x name) → (on_seen s (k + 1) w).met ≡ Standing x
        → HasKey a keys x name
    go Nothing q w f e = cc
    go (Same y) q w f e = let z : y ≡ x = cc in seen-bucket t keys a (first + i) hash x name (q ∙ ap Same z)
    go Broken q w f e = cc
    go Other q w f e = f e

-- a record met standing is good, and its key is the name
pub record_bounds : (t keys : List ℕ) (a : Arena) (first l hash : ℕ) (name : List ℕ) (at : ℕ)
    → (lookup t keys a first l hash name).met ≡ Standing at → HasKey a keys at name
unfolding lookup
record_bounds t keys a first l hash name at e = probe-met t keys a first l hash name l (start_of l hash) 0 at e

-- ---- listing

-- a turn and the end, from bucket i on
pub occupied-turn : (t : List ℕ) (first i e : ℕ) → i < e
    → occupied_from t first (e - i) i
    ≡ cond (empty_at t (first + i)) (occupied_from t first (e - (i + 1)) (i + 1))
    (Some (occupied_by i (address_at t (first + i))))
unfolding occupied_from
occupied-turn t first i e h = let q : e - i ≡ suc (e - (i + 1)) = omega arith in rw q

pub occupied-end : (t : List ℕ) (first i e : ℕ) → e ≤ i → occupied_from t first (e - i) i ≡ None
unfolding occupied_from
occupied-end t first i e h = let q : e - i ≡ 0 = omega arith in rw q
