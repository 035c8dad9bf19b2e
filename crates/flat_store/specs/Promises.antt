-- What the flat store promises beyond each call's own equation. Three records, each with its value in
-- proofs/Promises.antt.
use Rattle.std.specs.Prelude.{ℕ, ◌≤◌, ◌≡◌, ◌≢◌, List, ◌++◌, length, Some, None, Ok, Err}
use Rattle.std.proofs.Math.Option.{none}
use Rattle.entries.specs.Log.{Entry, joined_in}
use Rattle.limits.specs.declared.Refusal.{Refusal}
use Rattle.flat_store.specs.declared.NotRead.TheVariants.{TooShort, Refused}
use Rattle.flat_store.specs.Calls.{Lookup, Measured, Out, out, append_of, held_of, Read, reading, lookup_of, length_of, read_of}
use Rattle.flat_store.specs.History.{flat, after, play, log_of, Holds, due, number_of, held_due}

-- ---- on any buffer, whatever it holds and whatever the used count

-- RULES AH5, AH6.
pub record Promises : Type 0 where
  -- a refusal changes nothing
  pub append_refused : (buffer : List ℕ) (used : ℕ) (name bytes : List ℕ) (r : Refusal)
      → (append_of buffer used name bytes).answer ≡ Err r
      → append_of buffer used name bytes ≡ out (Err r) buffer
  pub read_refused : (buffer : List ℕ) (used : ℕ) (name output : List ℕ) (r : Refusal)
      → (read_of buffer used name output).answer ≡ Err (Refused r)
      → read_of buffer used name output ≡ reading (Err (Refused r)) output
  pub read_absent : (buffer : List ℕ) (used : ℕ) (name output : List ℕ)
      → (read_of buffer used name output).answer ≡ Ok None
      → read_of buffer used name output ≡ reading (Ok None) output
  pub read_short : (buffer : List ℕ) (used : ℕ) (name output : List ℕ) (n : ℕ)
      → (read_of buffer used name output).answer ≡ Err (TooShort n)
      → read_of buffer used name output ≡ reading (Err (TooShort n)) output
  -- and the length told with 8 is enough
  pub read_enough : (buffer : List ℕ) (used : ℕ) (name short output : List ℕ) (n : ℕ)
      → (read_of buffer used name short).answer ≡ Err (TooShort n) → n ≤ length output
      → (read_of buffer used name output).answer ≡ Ok (Some n)

-- ---- two outcomes that meet a call's contract are equal

-- RULES X8.
pub record Settled : Type 0 where
  pub append_settled : (buffer : List ℕ) (used : ℕ) (name bytes : List ℕ) (x y : Out)
      → x ≡ append_of buffer used name bytes → y ≡ append_of buffer used name bytes → x ≡ y
  pub lookup_settled : (buffer : List ℕ) (used : ℕ) (name : List ℕ) (x y : Lookup)
      → x ≡ lookup_of buffer used name → y ≡ lookup_of buffer used name → x ≡ y
  pub length_settled : (buffer : List ℕ) (used : ℕ) (name : List ℕ) (x y : Measured)
      → x ≡ length_of buffer used name → y ≡ length_of buffer used name → x ≡ y
  pub read-settled : (buffer : List ℕ) (used : ℕ) (name output : List ℕ) (x y : Read)
      → x ≡ read_of buffer used name output → y ≡ read_of buffer used name output → x ≡ y

-- ---- DEMAND 3 of the flat store

-- RULES AH8. Lent is any buffer, of which nothing is used at first, and tries are any appends on it in any order,
-- refused ones too
pub record FlatDemand3 (lent : List ℕ) (tries : List Entry) : Type 0 where
  -- the buffer holds the accepted appends, in order of arrival, and no other byte of it has changed
  pub holds-played : Holds lent (play tries (flat lent 0)) (log_of tries (flat lent 0))
  -- each lane reads as its accepted appends joined; a name never accepted is absent; one over the limit is 3. So 2 and
  -- 4 never come
  pub flat_reads_back : (name : List ℕ)
      → held_of (play tries (flat lent 0)).buffer (play tries (flat lent 0)).used name
      ≡ held_due name (joined_in name (log_of tries (flat lent 0)) none)
  -- refusals are exact: an append is accepted where no number is due, else refused with that number
  pub numbers_exact : (e : Entry)
      → number_of (play tries (flat lent 0)) e ≡ due (length lent) (log_of tries (flat lent 0)) e
  pub refused_unchanged : (e : Entry) → number_of (play tries (flat lent 0)) e ≢ 0
      → after e (play tries (flat lent 0)) ≡ play tries (flat lent 0)
  -- and a history goes on where it stopped
  pub play-more : (more : List Entry) → play (tries ++ more) (flat lent 0) ≡ play more (play tries (flat lent 0))
  pub log-more : (more : List Entry)
      → log_of (tries ++ more) (flat lent 0) ≡ log_of tries (flat lent 0) ++ log_of more (play tries (flat lent 0))
