-- `number_pieces::turn` meets its contract. Assumes nothing.
use mathlib.Core.Path.{◌≡◌, sym}
use Rattle.std.specs.Prelude.{Ok, Err}
use lib.ListN.{length}
use borrow.Author.Rules.{rules}
use Rattle.limits.specs.Limits.{held_limit}
use Rattle.number_pieces.proofs.Turns.{turn_holds, turn_asks}
use Rattle.number_pieces.proofs.turn.Goals as goal

pub returns-then-b-count : goal.returns-then-b-count
returns-then-b-count c =
    let long : length c.args.s.held ≡ held_limit = search rules in
    turn_holds c.args.s c.args.b long c.requires.0 c.args.output.now c.if-b-count.true

pub returns-in-Ok : goal.returns-in-Ok
returns-in-Ok c =
    let long : length c.args.s.held ≡ held_limit = search rules in
    turn_asks c.args.s c.args.b long c.requires.0 c.args.output.now (Ok _) c.if-b-count.false (sym c.in-Ok.ensures)

pub returns-in-Err : goal.returns-in-Err
returns-in-Err c =
    let long : length c.args.s.held ≡ held_limit = search rules in
    turn_asks c.args.s c.args.b long c.requires.0 c.args.output.now (Err _) c.if-b-count.false (sym c.in-Err.ensures)
