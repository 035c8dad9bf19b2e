-- Of every answer of the calls that change nothing but an output: its number is one that the papers list for that call,
-- and a refused reading leaves the output as it was. Assumes nothing.
use Prim.Native.Nat.{ℕ, ◌+◌, ◌-◌}
use mathlib.Core.Path.{◌≡◌, refl}
use mathlib.Core.Bool.{Bool, true, false, cond, ◌||◌}
use mathlib.Core.List.{List}
use native.Mathlib.Omega.{arith}
use lib.Dec.{leb, eqb}
use lib.ListN.{length}
use Rattle.limits.specs.Refusals.{Asked, looking_up, measuring, reading_lane, finding_block, listing_buckets}
use Rattle.limits.specs.Refusals.{is_among, refusal_numbers, permitted}
use Rattle.shared_arena_hashmap.specs.declared.Met.{Met}
use Rattle.shared_arena_hashmap.specs.declared.Met.TheVariants.{Empty, Standing, Damaged, Lap}
use Rattle.shared_arena_hashmap.specs.declared.Occupied.{Occupied}
use Rattle.records.specs.Record.{good_record, header_of, header_sound}
use Rattle.shared_arena_hashmap.specs.Probe.{occupied_from}
use Rattle.std.specs.Prelude.{Option, Some, None, Ok, Err}
use Rattle.limits.specs.declared.Refusal.TheVariants.{Damage as BadBlock}
use Rattle.expull_header.specs.declared.Header.{Header}
use Rattle.expull_header.specs.Header.{block_count, lane_length}
use Rattle.memory_arena.specs.declared.Arena.{Arena}
use Rattle.expull_walk.specs.Blocks.{good_blocks, block_told, block_of}
use Rattle.store_state.specs.declared.State.{State}
use Rattle.store_look.specs.declared.Lookup.{Lookup}
use Rattle.store_look.specs.declared.Lookup.TheVariants.{At, Missing, Failed}
use Rattle.store_look.specs.declared.Answer.{Answer}
use Rattle.store_look.specs.declared.Answer.TheVariants.{Absent, Found, Refused}
use Rattle.store_look.specs.declared.Outcome.TheVariants.{Reading}
use Rattle.store_look.specs.declared.Listed.TheVariants.{Bucket, Stopped}
use Rattle.store_state.specs.declared.Name.{Name}
use Rattle.store_state.specs.declared.Name.TheVariants.{TooLong, Nameless, Proper}
use Rattle.store_state.specs.State.{first_of}
use Rattle.store_state.specs.Name.{name_kind, by_kind}
use Rattle.store_look.specs.Said.{said_lookup, said_answer, said_listed}
use Rattle.store_look.specs.Look.{Lent, checked, walk_of, lookup_of, on_lookup, on_lookup_read, length_at, length_of}
use Rattle.store_look.specs.Look.{Read, reading, blocks_sound, read_at, read_of, on_block, block_at, find_block_of}
use Rattle.store_look.specs.Look.{on_next, next_of, on_met as Look·onMet}

-- ---- the calls by name that change nothing

pub fair-lookup : (st : State) (m : Lent) (name : List ℕ) → permitted looking_up (said_lookup (lookup_of st m name)) ≡ true
unfolding lookup_of
fair-lookup st m name = go (checked st m) (name_kind st (length name)) (walk_of st m name).met
  where
    go : (b : Bool) (k : Name) (x : Met)
        → permitted looking_up (said_lookup (cond b (by_kind k (Failed 3) Missing (Look·onMet x)) (Failed 2))) ≡ true
    go true Proper Empty = refl
    go true Proper (Standing at) = refl
    go true Proper Damaged = refl
    go true Proper Lap = refl
    go true Nameless x = refl
    go true TooLong x = refl
    go false k x = refl

-- a lookup's number carries over to a call whose numbers have a lookup's among them
Wider : Asked → Type 0
Wider q = (n : ℕ) → is_among n (refusal_numbers looking_up) ≡ true → is_among n (refusal_numbers q) ≡ true

carried : (q : Asked) → Wider q → (l : Lookup) (k : ℕ → Answer) → permitted looking_up (said_lookup l) ≡ true
    → ((at : ℕ) → permitted q (said_answer (k at)) ≡ true) → permitted q (said_answer (on_lookup l k)) ≡ true
unfolding Wider
carried q wider (At at) k h f = f at
carried q wider Missing k h f = refl
carried q wider (Failed n) k h f = wider n h

-- whatever a sound list answers, damage is 4
sound_or_4 : (q : Asked) (x : Answer) (b : Bool) → is_among 4 (refusal_numbers q) ≡ true → permitted q (said_answer x)
    ≡ true
    → permitted q (said_answer (cond b x (Refused 4 0))) ≡ true
sound_or_4 q x true f h = h
sound_or_4 q x false f h = f

pub fair-length : (st : State) (m : Lent) (name : List ℕ) → permitted measuring (said_answer (length_of st m name)) ≡ true
unfolding length_of length_at Wider
fair-length st m name =
    carried measuring (λ n h. h) (lookup_of st m name) (length_at m.keys) (fair-lookup st m name)
    (λ at. sound_or_4 measuring _ (header_sound m.keys at) refl refl)

fair-found : (m : List ℕ) (a : Arena) (h : Header) (i : ℕ)
    → permitted finding_block (said_answer (on_block (block_of a m h i))) ≡ true
unfolding block_of
fair-found m a h i = go (leb (block_count h) i) (good_blocks a m h.head (i + 1))
  where
    go : (t u : Bool)
        → permitted finding_block
        (said_answer (on_block (cond t (Ok None) (cond u (Ok (Some (block_told m h i))) (Err BadBlock)))))
        ≡ true
    go true u = refl
    go false true = refl
    go false false = refl

pub fair_block : (st : State) (m : Lent) (name : List ℕ) (i : ℕ)
    → permitted finding_block (said_answer (find_block_of st m name i)) ≡ true
unfolding find_block_of block_at Wider
fair_block st m name i =
    carried finding_block (λ n h. h) (lookup_of st m name) (block_at st m i) (fair-lookup st m name)
    (λ at. sound_or_4 finding_block _ (header_sound m.keys at) refl
    (fair-found m.lists st.list_arena (header_of m.keys at) i))

-- ---- reading

-- only a reading changes the output
pub record FairRead (output : List ℕ) (r : Read) : Type 0 where
  pub kept : (n told : ℕ) → r.answer ≡ Refused n told → r.output ≡ output
  pub kept_absent : r.answer ≡ Absent → r.output ≡ output
  pub numbered : permitted reading_lane (said_answer r.answer) ≡ true

fair-kept : (output : List ℕ) (a : Answer) → permitted reading_lane (said_answer a) ≡ true
    → FairRead output (reading a output)
fair-kept output a h = record { kept = λ n told e. refl; kept_absent = λ e. refl; numbered = h }

fair-reading : (output written : List ℕ) (k : ℕ) → FairRead output (reading (Found (Reading k)) written)
fair-reading output written k =
    record { kept = λ n told e. absurd (never n told e); kept_absent = λ e. absurd (gone e); numbered = refl }
  where
    never : (n told : ℕ) → Found (Reading k) ≡ Refused n told → ⊥
    never n told e = let z : ◌≡◌ {A = ℕ} 0 1 = cc in omega arith

    gone : Found (Reading k) ≡ Absent → ⊥
    gone e = let z : ◌≡◌ {A = ℕ} 0 1 = cc in omega arith

fair-read_cond : {output : List ℕ} (b : Bool) (x y : Read) → FairRead output x → FairRead output y
    → FairRead output (cond b x y)
fair-read_cond true x y p q = p
fair-read_cond false x y p q = q

fair-read-at : (st : State) (m : Lent) (at : ℕ) (output : List ℕ) → FairRead output (read_at st m at output)
unfolding read_at
fair-read-at st m at output =
    fair-read_cond (blocks_sound st m at) _ _
    (fair-read_cond (leb (lane_length (header_of m.keys at)) (length output)) _ _ (fair-reading output _ _)
    (fair-kept output (Refused 8 (lane_length (header_of m.keys at))) refl))
    (fair-kept output (Refused 4 0) refl)

pub fair-read : (st : State) (m : Lent) (name output : List ℕ) → FairRead output (read_of st m name output)
unfolding read_of Wider
fair-read st m name output = go (lookup_of st m name) (fair-lookup st m name)
  where
    wider : (a b c d : Bool) → (a || (b || (c || false))) ≡ true → (a || (b || (c || (d || false)))) ≡ true
    wider true b c d h = refl
    wider false true c d h = refl
    wider false false true d h = refl
    wider false false false true h = refl
    wider false false false false h = h

    more : Wider reading_lane
    more n h = wider (eqb n 2) (eqb n 3) (eqb n 4) (eqb n 8) h

    go : (l : Lookup) → permitted looking_up (said_lookup l) ≡ true
        → FairRead output (on_lookup_read l (λ at. read_at st m at output) output)
    go (At at) h = fair-read-at st m at output
    go Missing h = fair-kept output Absent refl
    go (Failed n) h = fair-kept output (Refused n 0) (more n h)

-- ---- listing

pub fair-next : (st : State) (m : Lent) (i : ℕ) → permitted listing_buckets (said_listed (next_of st m i)) ≡ true
unfolding next_of on_next
fair-next st m i = go (checked st m) (occupied_from m.table (first_of st) (st.buckets - i) i)
  where
    inner : (b : Bool) (j at : ℕ) → permitted listing_buckets (said_listed (cond b (Bucket j at) (Stopped 4))) ≡ true
    inner true j at = refl
    inner false j at = refl

    go : (b : Bool) (n : Option Occupied)
        → permitted listing_buckets (said_listed (cond b (on_next n st.key_arena m.keys) (Stopped 2))) ≡ true
    go true (Some o) = inner (good_record st.key_arena m.keys o.place) o.bucket o.place
    go true None = refl
    go false n = refl
