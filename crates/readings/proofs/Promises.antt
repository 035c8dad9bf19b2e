-- The promises of the two calls, one value. Assumes nothing.
use Prim.Native.Nat.{ℕ, ◌≤◌}
use mathlib.Core.Path.{◌≡◌, refl, subst}
use mathlib.Core.Logic.{◌≢◌}
use mathlib.Core.Bool.{Bool, true, false, cond, false≢true}
use mathlib.Core.List.{List}
use native.Mathlib.Omega.{arith}
use lib.Dec.{leb}
use lib.ListN.{length}
use lib.IntN.{ℤ}
use borrow.Author.Tests.{le-leb}
use Rattle.limits.specs.Refusals.{looking_up, unvinting, refusal_numbers, is_among, permitted, number_in, one-outcome}
use Rattle.limits.specs.Refusals.{number_of as refusal_number}
use Rattle.limits.specs.declared.Refusal.{Refusal}
use Rattle.std.specs.Prelude.{Option, Some, None}
use Rattle.expull_walk.specs.Blocks.{lane_bytes}
use Rattle.store_state.specs.declared.State.{State}
use Rattle.store_append.specs.declared.Appended.TheVariants.{Declined}
use Rattle.store_look.specs.declared.Lookup.{Lookup}
use Rattle.store_look.specs.declared.Lookup.TheVariants.{At, Missing, Failed}
use Rattle.store_look.specs.Said.{said_lookup}
use Rattle.records.specs.Record.{header_of}
use Rattle.store_look.specs.Look.{Lent, lookup_of, blocks_sound}
use Rattle.store_append.specs.Append.{declined}
use Rattle.store_look.proofs.Fair.{fair-lookup}
use Rattle.store.proofs.Promises.{promises as store-promises}
use Rattle.reading_run.specs.Readings.{reading_bytes, Split, vints_of}
use Rattle.reading_run.proofs.Split.{refusals_listed, Listed}
use Rattle.readings.specs.declared.Recalled.TheVariants.{Refused}
use Rattle.readings.specs.Readings.{Out, out, on_ended, on_split, readings_at, on_lookup, readings_of, append_reading_of}
use Rattle.readings.specs.Said.{said_recalled}
use Rattle.readings.specs.Promises.{Promises}
use Rattle.readings.proofs.Found.{fair_readings}

reading_refused : (st : State) (m : Lent) (name : List ℕ) (last new : ℤ) (st' : State) (n : ℕ)
    → (append_reading_of st m name last new).answer ≡ Declined st' n
    → append_reading_of st m name last new ≡ declined st m n
unfolding append_reading_of
reading_refused st m name last new st' n e = store-promises.append_refused st m name (reading_bytes last new) st' n e

-- ---- the count told with 8 is enough

-- the number of an answer
abbrev number_of : Out → ℕ
number_of o = number_in (said_recalled o.answer)

-- the reader's numbers don't have 8
not_8 : (bs : List ℕ) (r : Refusal) → (vints_of bs).refusal ≡ Some r → refusal_number r ≢ 8
not_8 bs r e z =
    false≢true (subst (λ (n : ℕ). is_among n (refusal_numbers unvinting) ≡ true) z (subst Listed e (refusals_listed bs)))

-- by what the bytes split into
split_enough : (s : Split) → ((r : Refusal) → s.refusal ≡ Some r → refusal_number r ≢ 8) → (short output : List ℤ) (count : ℕ)
    → (on_split s short).answer ≡ Refused 8 count → count ≤ length output → number_of (on_split s output) ≢ 8
unfolding on_split
split_enough s f short output count =
    go (leb (length s.numbers) (length short)) s.refusal refl
  where
    n : ℕ
    n = length s.numbers

    fits : (c : Option Refusal) → s.refusal ≡ c → number_of (on_ended c s output) ≢ 8
    fits None q e = omega (arith, e)
    fits (Some r) q e = f r q e

    go : (b : Bool) (c : Option Refusal) → s.refusal ≡ c
        → (cond b (on_ended c s short) (out (Refused 8 n) short)).answer ≡ Refused 8 count
        → count ≤ length output
        → number_of (cond (leb n (length output)) (on_ended c s output) (out (Refused 8 n) output)) ≢ 8
    go true None q e l = cc
    go true (Some r) q e l = let z : refusal_number r ≡ 8 = cc in absurd (f r q z)
    go false c q e l =
        let z : n ≡ count = cc in
        rw (le-leb n (length output) (omega arith)) (fits c q)

at_enough : (st : State) (m : Lent) (at : ℕ) (short output : List ℤ) (count : ℕ)
    → (readings_at st m at short).answer ≡ Refused 8 count → count ≤ length output
    → number_of (readings_at st m at output) ≢ 8
unfolding readings_at
at_enough st m at short output count = go (blocks_sound st m at)
  where
    bs : List ℕ
    bs = lane_bytes m.lists (header_of m.keys at)

    go : (b : Bool) → (cond b (on_split (vints_of bs) short) (out (Refused 4 0) short)).answer ≡ Refused 8 count
        → count ≤ length output → number_of (cond b (on_split (vints_of bs) output) (out (Refused 4 0) output)) ≢ 8
    go true e l = split_enough (vints_of bs) (not_8 bs) short output count e l
    go false e l = let z : ◌≡◌ {A = ℕ} 4 8 = cc in absurd (omega arith)

readings_enough : (st : State) (m : Lent) (name : List ℕ) (short output : List ℤ) (count : ℕ)
    → (readings_of st m name short).answer ≡ Refused 8 count → count ≤ length output
    → number_of (readings_of st m name output) ≢ 8
unfolding readings_of
readings_enough st m name short output count = go (lookup_of st m name) (fair-lookup st m name)
  where
    go : (l : Lookup) → permitted looking_up (said_lookup l) ≡ true
        → (on_lookup l (λ at. readings_at st m at short) short).answer ≡ Refused 8 count → count ≤ length output
        → number_of (on_lookup l (λ at. readings_at st m at output) output) ≢ 8
    go (At at) p e l = at_enough st m at short output count e l
    go Missing p e l = let z : ◌≡◌ {A = ℕ} 0 1 = cc in absurd (omega arith)
    go (Failed k) p e l =
        let z : k ≡ 8 = cc in
        absurd (false≢true (subst (λ (n : ℕ). is_among n (refusal_numbers looking_up) ≡ true) z p))

pub promises : Promises
promises = record {
  readings_refused = λ st m name output n told e.
      λ i. out (e i) ((fair_readings st m name output).kept n told e i);
  readings_absent = λ st m name output e. λ i. out (e i) ((fair_readings st m name output).kept_absent e i);
  readings_enough = readings_enough;
  reading_refused = reading_refused;
  readings_settled = λ st m name output x y p q. one-outcome p q;
  reading_settled = λ st m name last new x y p q. one-outcome p q;
}
