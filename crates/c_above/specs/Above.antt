-- RULES AK10. The calls of the crates above the store in C's calling form: the brownout check, the shift report, lanes
-- of readings.
use Rattle.std.specs.Prelude.{ℕ, ℤ, cond, List, Result, Ok, Err}
use Rattle.store_look.specs.Look.{Lent}
use Rattle.brownout_faults.specs.declared.Checked.{Checked}
use Rattle.brownout_faults.specs.declared.Checked.TheVariants.{Sound, Faulty, Miscounted, Refused as NotChecked}
use Rattle.brownout_faults.specs.Check.{Out as Checking, check_of}
use Rattle.limits.specs.declared.Refusal.TheVariants.{OutputTooShort}
use Rattle.limits.specs.Refusals.{number_of}
use Rattle.report.specs.declared.Unwritten.{Unwritten}
use Rattle.report.specs.declared.Unwritten.TheVariants.{TooShort, Refused as NotReported}
use Rattle.report.specs.Report.{Out as Reporting, report_of}
use Rattle.readings.specs.declared.Recalled.{Recalled}
use Rattle.readings.specs.declared.Recalled.TheVariants.{Readings, Absent, Refused}
use Rattle.readings.specs.Readings.{Out as Recalling, readings_of, append_reading_of}
use Rattle.state_area.specs.Area.{sensible_area, state_at}
use Rattle.c_told.specs.Told.{absent_code, fault_code, count_code, says, appended}

-- RULES AK10. The bucket, and its fault beside it.
abbrev pub checked_told : Checked → List ℕ → ℕ × List ℕ
checked_told Sound told = says 0 0 0 told
checked_told (Faulty i fault) told = says fault_code i fault told
checked_told Miscounted told = says count_code 0 0 told
checked_told (NotChecked n t) told = says n t 0 told

-- RULES AK10. The code and what is told, the mark area.
abbrev pub check_told : Checking → List ℕ → (ℕ × List ℕ) × List ℕ
check_told o told = (checked_told o.answer told, o.marks)

-- RULES AK10.
abbrev pub check_in : List ℕ → Lent → List ℕ → List ℕ → (ℕ × List ℕ) × List ℕ
check_in area m marks told =
    cond (sensible_area area) (check_told (check_of (state_at area) m marks) told) (says 2 0 0 told, marks)

-- RULES AK10.
abbrev pub reported_told : Result ℕ Unwritten → List ℕ → ℕ × List ℕ
reported_told (Ok n) told = says 0 n 0 told
reported_told (Err (NotReported k)) told = says (number_of k) 0 0 told
reported_told (Err (TooShort n)) told = says (number_of OutputTooShort) n 0 told

-- RULES AK10. The code and what is told, the output.
abbrev pub report_told : Reporting → List ℕ → (ℕ × List ℕ) × List ℕ
report_told o told = (reported_told o.answer told, o.output)

-- RULES AK10.
abbrev pub report_in : List ℕ → Lent → List ℕ → List ℕ → (ℕ × List ℕ) × List ℕ
report_in area m output told =
    cond (sensible_area area) (report_told (report_of (state_at area) m output) told) (says 2 0 0 told, output)

-- RULES AK10. A reading appended: as an append.
abbrev pub drift_in : List ℕ → Lent → List ℕ → ℤ → ℤ → (ℕ × List ℕ) × Lent
drift_in area m name last new =
    cond (sensible_area area) (appended (append_reading_of (state_at area) m name last new) area) ((2, area), m)

-- RULES AK10.
abbrev pub recalled_told : Recalled → List ℕ → ℕ × List ℕ
recalled_told (Readings n) told = says 0 n 0 told
recalled_told Absent told = says absent_code 0 0 told
recalled_told (Refused n t) told = says n t 0 told

-- RULES AK10. The code and what is told, the output.
abbrev pub readings_told : Recalling → List ℕ → (ℕ × List ℕ) × List ℤ
readings_told o told = (recalled_told o.answer told, o.output)

-- RULES AK10.
abbrev pub readings_in : List ℕ → Lent → List ℕ → List ℤ → List ℕ → (ℕ × List ℕ) × List ℤ
readings_in area m name output told =
    cond (sensible_area area) (readings_told (readings_of (state_at area) m name output) told) (says 2 0 0 told, output)
