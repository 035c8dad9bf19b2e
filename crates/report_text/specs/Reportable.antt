-- RULES AA13. The lanes that a report can hold: bytes, names short enough and distinct, and numbers in reach of the
-- reader's decimals.
use Rattle.std.specs.Prelude.{◌^◌, ◌≤◌, ◌<◌, ◌≡◌, false, List, [], ◌∷◌, ◌++◌, length}
use Rattle.limits.specs.Limits.{name_limit, digit_limit}
use Rattle.numbers.specs.LittleEndian.{Bytes}
use Rattle.report_text.specs.Text.{Lane, total_of}
use Rattle.report_text.specs.Reader.{named}

-- RULES AA13. A lane that a report can hold.
pub record Fits (a : Lane) : Type 0 where
  pub short : length a.name ≤ name_limit
  pub name_bytes : Bytes a.name
  pub all-bytes : Bytes a.bytes

-- RULES AA13. All of them are.
abbrev pub EachFits : List Lane → Type 0
EachFits [] = Unit {0}
EachFits (a ∷ ls) = Fits a × EachFits ls

-- RULES AA13. No name was seen before it.
abbrev pub Unseen : List Lane → List Lane → Type 0
Unseen seen [] = Unit {0}
Unseen seen (a ∷ ls) = (named a.name seen ≡ false) × Unseen (seen ++ (a ∷ [])) ls

-- RULES AA13. And all together are lanes that a report can hold.
pub record Reportable (ls : List Lane) : Type 0 where
  pub each : EachFits ls
  pub distinct : Unseen [] ls
  pub few : length ls < 10 ^ digit_limit
  pub small : total_of ls < 10 ^ digit_limit
