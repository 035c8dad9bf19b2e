-- `readings::append_reading` meets its contract. Assumes nothing.
use Prim.Native.Nat.{ℕ}
use mathlib.Core.Path.{◌≡◌, sym, ap, ◌∙◌}
use mathlib.Core.List.{List}
use mir.Facts.{to_z-of_z}
use Rattle.vint.specs.Vint.{write_vint}
use Rattle.signed.specs.Signed.{difference, stored}
use Rattle.signed.proofs.Laws.{difference-fits}
use Rattle.signed.proofs.Steps.{result_is}
use Rattle.store_look.specs.Look.{lent}
use Rattle.store_append.specs.Said.{said_appended}
use Rattle.store_append.specs.Append.{append_of}
use Rattle.readings.proofs.Fronts.{vint_front, reading_is, same_numbers}
use Rattle.readings.proofs.append_reading.Goals as goal
use Rattle.readings.proofs.append_reading.Goals.{After-encode}

-- the number that the difference is stored as
is_stored : (c : After-encode) → c.encode.result ≡ stored (difference c.args.last c.args.new)
is_stored c =
    c.encode.ensures ∙ ap stored (result_is _ _ (c.difference-d.ensures ∙ (λ i. difference (to_z-of_z c.ranges.last
    i) (to_z-of_z c.ranges.new i))) (difference-fits c.args.last c.args.new))

pub returns : goal.returns
returns c =
    let m = lent c.args.table.now c.args.keys.now c.args.lists.now in
    record {
      settled = c.append.ensures.settled ∙ ap (λ (l : List ℕ). append_of c.args.st m c.args.name.now l)
          (c.as_slice.ensures ∙ vint_front _ _ c.serialize_vint_u32-v.ensures ∙ ap write_vint (is_stored (goal.at.returns
          c).After-encode)) ∙ sym (reading_is c.args.st m c.args.name.now c.args.last c.args.new);
      numbered = sym (same_numbers (said_appended c.append.result.answer)) ∙ c.append.ensures.numbered;
      walked = c.append.ensures.walked;
    }
