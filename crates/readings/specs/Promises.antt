-- What the two calls promise on any memory, damaged or not, beyond their own equations. One record, a field a sentence;
-- proofs/Promises.antt has its one value.
use Rattle.std.specs.Prelude.{ℕ, ◌≤◌, ◌≡◌, ◌≢◌, List, length, ℤ}
use Rattle.limits.specs.Refusals.{number_in}
use Rattle.store_state.specs.declared.State.{State}
use Rattle.store_append.specs.declared.Appended.TheVariants.{Declined}
use Rattle.store_look.specs.Look.{Lent}
use Rattle.store_append.specs.Append.{Out as Appending, declined}
use Rattle.readings.specs.declared.Recalled.TheVariants.{Absent, Refused}
use Rattle.readings.specs.Readings.{Out, out, readings_of, append_reading_of}
use Rattle.readings.specs.Said.{said_recalled}

-- RULES AB6, AB7, X4, X8.
pub record Promises : Type 0 where
  -- a refusal writes no place, and neither does absent
  pub readings_refused : (st : State) (m : Lent) (name : List ℕ) (output : List ℤ) (n told : ℕ)
      → (readings_of st m name output).answer ≡ Refused n told
      → readings_of st m name output ≡ out (Refused n told) output
  pub readings_absent : (st : State) (m : Lent) (name : List ℕ) (output : List ℤ)
      → (readings_of st m name output).answer ≡ Absent → readings_of st m name output ≡ out Absent output
  -- the count told with 8 is enough: with as many places there is no 8
  pub readings_enough : (st : State) (m : Lent) (name : List ℕ) (short output : List ℤ) (count : ℕ)
      → (readings_of st m name short).answer ≡ Refused 8 count → count ≤ length output
      → number_in (said_recalled (readings_of st m name output).answer) ≢ 8
  -- a reading that is refused leaves the state and every lent byte and word
  pub reading_refused : (st : State) (m : Lent) (name : List ℕ) (last new : ℤ) (st' : State) (n : ℕ)
      → (append_reading_of st m name last new).answer ≡ Declined st' n
      → append_reading_of st m name last new ≡ declined st m n
  -- two outcomes that meet a call's contract are equal
  pub readings_settled : (st : State) (m : Lent) (name : List ℕ) (output : List ℤ) (x y : Out)
      → x ≡ readings_of st m name output → y ≡ readings_of st m name output → x ≡ y
  pub reading_settled : (st : State) (m : Lent) (name : List ℕ) (last new : ℤ) (x y : Appending)
      → x ≡ append_reading_of st m name last new → y ≡ append_reading_of st m name last new → x ≡ y
