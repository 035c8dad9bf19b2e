-- RULES AA14. "A report of a store with a history reads back as the same lanes in order." One record, a field a
-- sentence; `reports_back` of proofs/Demand.antt proves it of each store that an accepted creation made and of any
-- calls on it.
use Rattle.std.specs.Prelude.{ℕ, ◌≤◌, ◌<◌, ◌≡◌, List, [], ◌∷◌, map, length, Ok, Err}
use Rattle.std.proofs.Math.Option.{some}
use Rattle.numbers.specs.LittleEndian.{Bytes}
use Rattle.spans.specs.Span.{read_span, overwrite}
use Rattle.history.specs.History.{World, Call, play, joined}
use Rattle.history.specs.Promises.{listed_names}
use Rattle.report_text.specs.Text.{Lane, total_of, report_text}
use Rattle.report_text.specs.Reader.{lanes, text_read}
use Rattle.report_read.specs.Counted.{lanes_counted, checked_of}
use Rattle.report.specs.declared.Unwritten.TheVariants.{TooShort}
use Rattle.report.specs.Report.{out, report_of}

-- RULES AA14. Each lane's bytes are its accepted appends, joined in order.
abbrev pub EachJoined : List Call → World → List Lane → Type 0
EachJoined calls w [] = Unit {0}
EachJoined calls w (a ∷ ls) = (joined a.name calls w ≡ some a.bytes) × EachJoined calls w ls

-- RULES AA14. W is the store at its start, ls its lanes after the calls.
pub record ReportsBack (w : World) (calls : List Call) (ls : List Lane) : Type 0 where
  -- the lanes are those that listing tells, in its order, each with its accepted appends joined
  pub listed : map (λ (a : Lane). a.name) ls ≡ listed_names (play calls w)
  pub each : EachJoined calls w ls
  -- the report is their text, or tells its length: no other number ever comes
  pub written : (output : List ℕ) → length (report_text ls) ≤ length output
      → report_of (play calls w).state (play calls w).memory output
      ≡ out (Ok (length (report_text ls))) (overwrite 0 (report_text ls) output)
  pub unwritten : (output : List ℕ) → length output < length (report_text ls)
      → report_of (play calls w).state (play calls w).memory output ≡ out (Err (TooShort (length (report_text ls)))) output
  -- what is written, where the lent memory is of bytes, reads back as the same lanes in order, and so it checks
  pub read_back : Bytes (play calls w).memory.keys → Bytes (play calls w).memory.lists
      → (output : List ℕ) → length (report_text ls) ≤ length output
      → text_read (read_span 0 (length (report_text ls))
      (report_of (play calls w).state (play calls w).memory output).output) ≡ lanes ls
  pub checks : Bytes (play calls w).memory.keys → Bytes (play calls w).memory.lists
      → checked_of (text_read (report_text ls)) ≡ lanes_counted (length ls) (total_of ls)
