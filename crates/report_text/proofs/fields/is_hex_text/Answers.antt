-- `report_text::fields::is_hex_text` meets its contract. Assumes nothing.
use mathlib.Core.Path.{◌∙◌, ◌≡◌}
use mathlib.Core.Bool.{true}
use lib.ListN.{get_or}
use Rattle.std.proofs.Common.{rules, IsTrue, ◌↔◌, EachIndex}
use Rattle.report_text.specs.Reader.{is_hex}
use Rattle.report_text.proofs.Laws.{hex_even, hex_odd, hex_each}
use Rattle.report_text.proofs.fields.is_hex_text.Goals as goal

pub returns-then-text-eq0 : goal.returns-then-text-eq0
returns-then-text-eq0 c =
    let h : IsTrue c.all.result ↔ EachIndex c.args.text.now (λ k. is_hex (get_or c.args.text.now k 0) ≡ true) =
    search rules in hex_each _ _ h ∙ hex_even _ c.if-text-eq0.true

pub returns-else-text-eq0 : goal.returns-else-text-eq0
returns-else-text-eq0 c = hex_odd _ c.if-text-eq0.false
