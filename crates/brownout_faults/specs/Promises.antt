-- RULES AF13. What the check promises of any state, any lent memory and any mark area beyond its own equation. One
-- record, a field a sentence; proofs/Promises.antt has its one value.
use Rattle.std.specs.Prelude.{ℕ, ◌≤◌, ◌<◌, ◌≡◌, ◌≢◌, List, leb, length, replicate}
use Rattle.limits.specs.Refusals.{number_in}
use Rattle.store_state.specs.declared.State.{State}
use Rattle.store_look.specs.Said.{said_lookup, said_answer, said_listed}
use Rattle.store_append.specs.Said.{said_appended}
use Rattle.store_look.specs.Look.{Lent, lookup_of, length_of, read_of, find_block_of, next_of}
use Rattle.store_append.specs.Append.{append_of}
use Rattle.brownout_faults.specs.declared.Checked.TheVariants.{Sound, Faulty, Miscounted, Refused}
use Rattle.brownout_faults.specs.Check.{fault_in, entries, verdict_of, marks_needed, Out, out, check_of}

-- RULES AF13. No call by name, no listing and no append answers 4
pub record NoDamage (st : State) (m : Lent) : Type 0 where
  pub lookup : (name : List ℕ) → number_in (said_lookup (lookup_of st m name)) ≢ 4
  pub measured : (name : List ℕ) → number_in (said_answer (length_of st m name)) ≢ 4
  pub read : (name output : List ℕ) → number_in (said_answer (read_of st m name output).answer) ≢ 4
  pub block : (name : List ℕ) (i : ℕ) → number_in (said_answer (find_block_of st m name i)) ≢ 4
  pub listing : (i : ℕ) → number_in (said_listed (next_of st m i)) ≢ 4
  pub append : (name bytes : List ℕ) → number_in (said_appended (append_of st m name bytes).answer) ≢ 4

-- RULES AF2, AF3. Bucket i is the first faulty one, and this its first fault
pub record FirstFault (st : State) (m : Lent) (i fault : ℕ) : Type 0 where
  pub inside : i < st.buckets
  pub fault_is : fault_in st m i ≡ fault
  pub from_1 : 1 ≤ fault
  pub to_7 : fault ≤ 7
  pub before : (j : ℕ) → j < i → fault_in st m j ≡ 0

-- RULES AF2, AF11. No bucket has a fault, and as many hold a record as keys are counted
pub record Faultless (st : State) (m : Lent) : Type 0 where
  pub clean : (i : ℕ) → i < st.buckets → fault_in st m i ≡ 0
  pub counted : st.keys ≡ entries st m st.buckets

-- RULES AF13.
pub record Promises : Type 0 where
  -- "What it calls sound never answers 4 to any lookup or reading, whoever wrote that memory"; nor to an append
  pub sound_never_4 : (st : State) (m : Lent) (marks : List ℕ) → (check_of st m marks).answer ≡ Sound → NoDamage st m
  -- what is called sound is without fault, and what is without fault is called sound
  pub sound-faultless : (st : State) (m : Lent) (marks : List ℕ) → (check_of st m marks).answer ≡ Sound → Faultless st m
  pub faultless_sound : (st : State) (m : Lent) → Faultless st m → verdict_of st m ≡ Sound
  -- "names the first faulty bucket and there the first fault"
  pub faulty_first : (st : State) (m : Lent) (marks : List ℕ) (i fault : ℕ)
      → (check_of st m marks).answer ≡ Faulty i fault → FirstFault st m i fault
  -- "A key count that differs comes last": no bucket has a fault then
  pub miscounted_last : (st : State) (m : Lent) (marks : List ℕ) → (check_of st m marks).answer ≡ Miscounted
      → ((i : ℕ) → i < st.buckets → fault_in st m i ≡ 0) × (st.keys ≢ entries st m st.buckets)
  -- the answer hangs on the length of the mark area alone: two that are long enough, or both too short, give the same
  pub marks_unread : (st : State) (m : Lent) (marks others : List ℕ)
      → leb (marks_needed m) (length marks) ≡ leb (marks_needed m) (length others)
      → (check_of st m marks).answer ≡ (check_of st m others).answer
  -- "The whole mark area is zero afterwards, except after a refusal", which leaves it as it was; so many bytes as 8
  -- tells are enough
  pub check_refused : (st : State) (m : Lent) (marks : List ℕ) (n told : ℕ)
      → (check_of st m marks).answer ≡ Refused n told → check_of st m marks ≡ out (Refused n told) marks
  pub check_zero : (st : State) (m : Lent) (marks : List ℕ)
      → ((n told : ℕ) → (check_of st m marks).answer ≢ Refused n told)
      → (check_of st m marks).marks ≡ replicate (length marks) 0
  pub check_enough : (st : State) (m : Lent) (short marks : List ℕ) (needed : ℕ)
      → (check_of st m short).answer ≡ Refused 8 needed → needed ≤ length marks
      → (check_of st m marks).answer ≡ verdict_of st m
  -- two outcomes that meet the contract are equal
  pub check_settled : (st : State) (m : Lent) (marks : List ℕ) (x y : Out)
      → x ≡ check_of st m marks → y ≡ check_of st m marks → x ≡ y
