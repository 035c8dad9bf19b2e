-- `report_text::fields::bytes_in` meets its contract. Assumes nothing.
use mathlib.Core.Path.{sym, ap, ◌∙◌}
use lib.ListN.{length}
use Rattle.std.specs.Prelude.{option_map}
use Rattle.report_text.proofs.Words.{hexed_in, bytes-in_not}
use Rattle.report_text.proofs.fields.bytes_in.Goals as goal

pub returns-in_err-text : goal.returns-in_err-text
returns-in_err-text c =
    c.from_residual.ensures ∙ ap (option_map length) (sym (bytes-in_not _ _ c.in_err-text.ensures.cases))

pub returns-then-not-is_hex_text : goal.returns-then-not-is_hex_text
returns-then-not-is_hex_text c =
    let h = c.in_ok-text.ensures.cases in
    hexed_in _ _ _ h.0 h.1 _ (sym c.if-not-is_hex_text.ensures)

pub returns : goal.returns
returns c =
    let h = c.in_ok-text.ensures.cases in
    hexed_in _ _ _ h.0 h.1 _ (sym c.if-not-is_hex_text.ensures)
