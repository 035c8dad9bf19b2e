-- RULES AA5. What the writer promises beyond its own equation. One record; proofs/Promises.antt has its value.
use Rattle.std.specs.Prelude.{ℕ, ◌≤◌, ◌≡◌, List, length, Ok, Err}
use Rattle.store_state.specs.declared.State.{State}
use Rattle.store_look.specs.Look.{Lent}
use Rattle.report.specs.declared.Unwritten.{Unwritten}
use Rattle.report.specs.declared.Unwritten.TheVariants.{TooShort}
use Rattle.report.specs.Report.{Out, out, report_of}

-- RULES AA5.
pub record Promises : Type 0 where
  -- a refusal leaves the output as it was
  pub report_refused : (st : State) (m : Lent) (output : List ℕ) (why : Unwritten)
      → (report_of st m output).answer ≡ Err why → report_of st m output ≡ out (Err why) output
  -- the length told with 8 is enough, and what is told as written fits
  pub report_enough : (st : State) (m : Lent) (short output : List ℕ) (needed : ℕ)
      → (report_of st m short).answer ≡ Err (TooShort needed) → needed ≤ length output
      → (report_of st m output).answer ≡ Ok needed
  -- two outcomes that meet the contract are equal
  pub report_settled : (st : State) (m : Lent) (output : List ℕ) (x y : Out)
      → x ≡ report_of st m output → y ≡ report_of st m output → x ≡ y
