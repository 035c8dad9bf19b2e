-- The values of `Promises`, `Settled` and `FlatDemand3`. Assumes nothing.
use Prim.Native.Nat.{ℕ, ◌≤◌}
use mathlib.Core.Path.{◌≡◌, refl, sym, ap, ◌∙◌}
use mathlib.Core.Bool.{Bool, true, false, cond, false≢true}
use mathlib.Core.List.{List, []}
use native.Mathlib.Omega.{arith}
use lib.Dec.{leb}
use lib.ListN.{length}
use borrow.Author.Tests.{le-leb}
use Rattle.limits.specs.Refusals.{one-outcome}
use Rattle.spans.specs.Span.{overwrite}
use Rattle.entries.specs.Log.{Entry}
use Rattle.std.specs.Prelude.{Some, None, Ok, Err}
use Rattle.limits.specs.declared.Refusal.{Refusal}
use Rattle.flat_store.specs.declared.NotRead.TheVariants.{TooShort, Refused}
use Rattle.flat_store.specs.Calls.{Answer, out, append_of, Held, stands, absent, refuses, held_of, reading, read_by, read_of}
use Rattle.flat_store.specs.History.{Flat, flat, play, log_of, Holds}
use Rattle.flat_store.specs.Promises.{Promises, Settled, FlatDemand3}
use Rattle.flat_store.proofs.Calls.{append_any}
use Rattle.flat_store.proofs.Kept.{holds-start, holds-played, number_due, held-log, play-more, log-more}
use Rattle.flat_store.proofs.Kept.{refused_same}

-- ---- on any buffer

append_refused : (buffer : List ℕ) (used : ℕ) (name bytes : List ℕ) (r : Refusal)
    → (append_of buffer used name bytes).answer ≡ Err r → append_of buffer used name bytes ≡ out (Err r) buffer
append_refused buffer used name bytes r =
    append_any buffer used name bytes (λ o. o.answer ≡ Err r → o ≡ out (Err r) buffer)
    (ap (λ a. out a buffer)) (ap (λ a. out a buffer)) (ap (λ a. out a buffer)) (ap (λ a. out a buffer))
    (λ T e. cc)

-- an answer that isn't a reading leaves the output
abbrev is_reading : Answer → Bool
is_reading (Ok None) = false
is_reading (Ok (Some n)) = true
is_reading (Err e) = false

read_kept : (buffer : List ℕ) (used : ℕ) (name output : List ℕ) (r : Answer) → is_reading r ≡ false
    → (read_of buffer used name output).answer ≡ r → read_of buffer used name output ≡ reading r output
unfolding read_of read_by
read_kept buffer used name output r k = go (held_of buffer used name)
  where
    split : (bs : List ℕ) (b : Bool)
        → (cond b (reading (Ok (Some (length bs))) (overwrite 0 bs output)) (reading (Err (TooShort (length bs))) output)).answer
        ≡ r
        → cond b (reading (Ok (Some (length bs))) (overwrite 0 bs output)) (reading (Err (TooShort (length bs))) output)
        ≡ reading r output
    split bs true e = absurd (false≢true (sym (ap is_reading e ∙ k)))
    split bs false e = ap (λ (a : Answer). reading a output) e

    go : (h : Held) → (read_by h output).answer ≡ r → read_by h output ≡ reading r output
    go (stands bs) e = split bs (leb (length bs) (length output)) e
    go absent e = ap (λ (a : Answer). reading a output) e
    go (refuses n) e = ap (λ (a : Answer). reading a output) e

read_enough : (buffer : List ℕ) (used : ℕ) (name short output : List ℕ) (n : ℕ)
    → (read_of buffer used name short).answer ≡ Err (TooShort n) → n ≤ length output
    → (read_of buffer used name output).answer ≡ Ok (Some n)
unfolding read_of read_by
read_enough buffer used name short output n e h = go (held_of buffer used name) e
  where
    split : (bs : List ℕ) (b : Bool)
        → (cond b (reading (Ok (Some (length bs))) (overwrite 0 bs short)) (reading (Err (TooShort (length bs))) short)).answer
        ≡ Err (TooShort n)
        → (read_by (stands bs) output).answer ≡ Ok (Some n)
    split bs true e = cc
    split bs false e =
        let size : length bs ≡ n = cc in
        rw (le-leb (length bs) (length output) (omega arith)) (ap (λ (k : ℕ). Ok (Some k)) size)

    go : (h : Held) → (read_by h short).answer ≡ Err (TooShort n) → (read_by h output).answer ≡ Ok (Some n)
    go (stands bs) e = split bs (leb (length bs) (length short)) e
    go absent e = cc
    go (refuses m) e = cc

pub promises : Promises
promises = record {
  append_refused = append_refused;
  read_refused = λ buffer used name output r. read_kept buffer used name output (Err (Refused r)) refl;
  read_absent = λ buffer used name output. read_kept buffer used name output (Ok None) refl;
  read_short = λ buffer used name output n. read_kept buffer used name output (Err (TooShort n)) refl;
  read_enough = read_enough;
}

-- ---- one outcome each

pub settled : Settled
settled = record {
  append_settled = λ buffer used name bytes x y p q. one-outcome p q;
  lookup_settled = λ buffer used name x y p q. one-outcome p q;
  length_settled = λ buffer used name x y p q. one-outcome p q;
  read-settled = λ buffer used name output x y p q. one-outcome p q;
}

-- ---- DEMAND 3

pub flat_demand_3 : (lent : List ℕ) (tries : List Entry) → FlatDemand3 lent tries
flat_demand_3 lent tries =
    let f : Flat = play tries (flat lent 0) in
    let log : List Entry = log_of tries (flat lent 0) in
    let H : Holds lent f log = holds-played lent tries (flat lent 0) [] (holds-start lent) in
    record {
      holds-played = H;
      flat_reads_back = held-log lent f log H;
      numbers_exact = number_due lent f log H;
      refused_unchanged = refused_same f;
      play-more = λ more. play-more tries more (flat lent 0);
      log-more = λ more. log-more tries more (flat lent 0);
    }
