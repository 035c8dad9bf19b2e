-- RULES AA13. What the text promises. One record, a field a sentence; proofs/Promises.antt has its one value.
use Rattle.std.specs.Prelude.{ℕ, ◌≡◌, List}
use Rattle.report_text.specs.Text.{Lane, report_text}
use Rattle.report_text.specs.Reader.{lanes, text_read}
use Rattle.report_text.specs.Reportable.{Reportable}

-- RULES AA13.
pub record Promises : Type 0 where
  -- the text of any lanes that a report can hold reads back as the same lanes in order
  pub round_trip : (ls : List Lane) → Reportable ls → text_read (report_text ls) ≡ lanes ls
  -- and no other text is read as lanes: what is accepted is the text of the lanes told, and a report can hold them
  pub only_text : (t : List ℕ) (ls : List Lane) → text_read t ≡ lanes ls → (t ≡ report_text ls) × Reportable ls
