-- The header that was read is the record's, and so is the test. Assumes nothing.
use mathlib.Core.Path.{◌≡◌, refl}
use mathlib.Core.Bool.{Bool, true, false, cond}
use Rattle.std.specs.Bool.{then_some}
use Rattle.std.specs.Prelude.{Some, None}
use Rattle.expull_header.specs.declared.Header.{Header}
use Rattle.records.specs.Record.{header_sound, head_of}
use Rattle.records.proofs.get_head.Goals as goal

by_test : (b : Bool) (h : Header) → then_some b h ≡ cond b (Some h) None
by_test true h = refl
by_test false h = refl

pub returns : goal.returns
unfolding head_of header_sound
returns c =
    rw (
      c.then_some.ensures,
      by_test,
      c.is_sound_header.ensures,
      c.get_header-h.ensures.0,
      c.get_end_bytes-ends.ensures,
      c.value_place-place.ensures,
    )
