-- RULES AA11, X8. What the reader promises beyond its calls' own equations. One record; proofs/Promises.antt has its
-- value.
use Rattle.std.specs.Prelude.{ℕ, ◌+◌, ◌≤◌, ◌≡◌, List, ◌∷◌, ◌++◌, length}
use Rattle.std.specs.Prelude.{Option, Some, None, Result, Ok}
use Rattle.spans.specs.Span.{read_span}
use Rattle.report_text.specs.Text.{Lane}
use Rattle.report_text.specs.Reader.{lanes, bytes_of, text_read}
use Rattle.report_read.specs.declared.check.Lanes.{Lanes}
use Rattle.report_read.specs.declared.check.BadLine.{BadLine}
use Rattle.report_read.specs.declared.pick.Lane.{Lane as Places}
use Rattle.report_read.specs.Counted.{checked_of}
use Rattle.report_read.specs.Lane.{places, lane_of}
use Rattle.report_read.specs.Unhex.{Out, unhex_of}

-- RULES AA11. The parts of a text that an index picks: the hex of a lane's name and of its bytes.
pub record Parts (t : List ℕ) (i : ℕ) (a : Lane) : Type 0 where
  pub name_from : ℕ
  pub name-long : ℕ
  pub bytes_from : ℕ
  pub bytes_long : ℕ
  pub picked : lane_of t i ≡ Ok (Some (places name_from name-long bytes_from bytes_long))
  pub name-within : name_from + name-long ≤ length t
  pub bytes_within : bytes_from + bytes_long ≤ length t
  pub name_hex : bytes_of (read_span name_from name-long t) ≡ Some a.name
  pub bytes_hex : bytes_of (read_span bytes_from bytes_long t) ≡ Some a.bytes

-- RULES AA11.
pub record Promises : Type 0 where
  -- the lane given is the text's lane of that index
  pub lane_is : (t : List ℕ) (before : List Lane) (a : Lane) (behind : List Lane)
      → text_read t ≡ lanes (before ++ (a ∷ behind)) → Parts t (length before) a
  -- and there is none behind the last
  pub lane_none : (t : List ℕ) (ls : List Lane) (i : ℕ)
      → text_read t ≡ lanes ls → length ls ≤ i → lane_of t i ≡ Ok None

-- RULES X8. Of each call, two outcomes that meet its contract are equal.
pub record Settled : Type 0 where
  pub check_settled : (t : List ℕ) (x y : Result Lanes BadLine) → x ≡ checked_of (text_read t) → y ≡ checked_of (text_read t) → x ≡ y
  pub lane_settled : (t : List ℕ) (i : ℕ) (x y : Result (Option Places) BadLine) → x ≡ lane_of t i → y ≡ lane_of t i → x ≡ y
  pub unhex_settled : (cs output : List ℕ) (x y : Out) → x ≡ unhex_of cs output → y ≡ unhex_of cs output → x ≡ y
