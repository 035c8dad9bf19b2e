-- RULES AI7. One lane, as the code goes: what `bring` leaves.
use Rattle.std.specs.Prelude.{ℕ, ◌≤◌, ◌≡◌, List}
use Rattle.spans.specs.Span.{overwrite}
use Rattle.records.specs.Record.{key_length}
use Rattle.store_append.specs.declared.Appended.{Appended}
use Rattle.store_append.specs.declared.Appended.TheVariants.{Accepted, Declined}
use Rattle.store_append.specs.Append.{Out as AppendOut, append_of}
use Rattle.report_text.specs.Text.{Lane}
use Rattle.report_lanes.specs.Measure.{Standing}
use Rattle.history.specs.History.{World, append_in}
use Rattle.join.specs.declared.Joined.{Joined}
use Rattle.join.specs.declared.Joined.TheVariants.{Whole, Halted}

-- the append's outcome, and the scratch
pub record Brought : Type 0 where
  pub outcome : AppendOut
  pub scratch : List ℕ

abbrev pub brought : AppendOut → List ℕ → Brought
brought o s = record { outcome = o; scratch = s }

-- RULES AI7. The lane was read to the scratch's front and appended
unfoldable pub bring_of : World → Lane → List ℕ → Brought
unfolding overwrite append_of
bring_of w a s = brought (append_in w a.name a.bytes) (overwrite 0 a.bytes s)

-- RULES AI7. The lane of the record at a place was met, its name and its bytes have so many, and the scratch holds them
pub record Ready (v : World) (at name n room : ℕ) : Type 0 where
  pub standing : Standing v.state v.memory at n
  pub named : key_length v.memory.keys at ≡ name
  pub fits : n ≤ room

-- the answer where a lane's append was refused
abbrev pub halted_of : Appended → ℕ → Joined
halted_of (Accepted st) k = Whole st k
halted_of (Declined st n) k = Halted st n k
