-- `report_read::unhex::unhex` meets its contract. Assumes nothing.
use mathlib.Core.Path.{refl, sym}
use native.Mathlib.Omega.{arith}
use Rattle.report_read.proofs.Unhexing.{unhex_none, unhex_short, unhex_done}
use Rattle.report_read.proofs.unhex.unhex.Goals as goal

pub returns-then-not-is_hex_text-clause-settled : goal.returns-then-not-is_hex_text-clause-settled
returns-then-not-is_hex_text-clause-settled c =
    unhex_none c.args.text.now c.args.output.now (sym c.if-not-is_hex_text.ensures)

pub returns-then-output-n-clause-settled : goal.returns-then-output-n-clause-settled
returns-then-output-n-clause-settled c =
    unhex_short c.args.text.now c.args.output.now _ (sym c.if-not-is_hex_text.ensures) refl (omega arith)

pub put_bytes-requires : goal.put_bytes-requires
put_bytes-requires c = (sym c.if-not-is_hex_text.ensures, omega arith)

pub returns-clause-settled : goal.returns-clause-settled
returns-clause-settled c =
    unhex_done c.args.text.now c.args.output.now _ (sym c.if-not-is_hex_text.ensures) refl (omega arith) _
    c.put_bytes.ensures
