-- `number_pieces::feed` meets its contract: 2, 8, then what the bytes come to (`Came`). Assumes nothing.
use mathlib.Core.Path.{◌≡◌, sym, ap, ◌∙◌}
use native.Mathlib.Omega.{arith}
use lib.ListN.{length}
use borrow.Author.Rules.{rules}
use borrow.Author.Tests.{lt-leb, le-leb}
use Rattle.limits.specs.Limits.{held_limit}
use Rattle.number_pieces.specs.declared.Fed.{Fed}
use Rattle.number_pieces.specs.Feed.{out}
use Rattle.number_pieces.specs.Turn.{turned, begun}
use Rattle.number_pieces.proofs.Calls.{Takes, takes_is, feed_2, feed_8, feed_run, feed_numbered}
use Rattle.number_pieces.proofs.Turns.{Came, came-piece, finish_is}
use Rattle.number_pieces.proofs.feed.Goals as goal
use Rattle.number_pieces.proofs.feed.Goals.{After-take_bytes-s, Else-not-does_take}

facts : (c : Else-not-does_take) → Takes c.args.st (length c.args.piece.now)
facts c = takes_is _ _ (sym c.does_take.ensures ∙ c.if-not-does_take.false)

-- the bytes came to what they come to
bytes-came : (c : After-take_bytes-s) → Came (begun c.args.st) c.args.output.now c.args.piece.now c.args.st.fed
    (turned c.take_bytes-s.result c.take_bytes-s.new.output)
bytes-came c =
    let long : length c.args.st.held ≡ held_limit = search rules in
    let T = takes_is c.args.st (length c.args.piece.now) (sym c.does_take.ensures ∙ c.if-not-does_take.false) in
    came-piece c.args.st c.args.piece.now c.args.output.now _ long T.few c.take_bytes-s.ensures

pub returns-then-not-does_take-clause-settled : goal.returns-then-not-does_take-clause-settled
returns-then-not-does_take-clause-settled c =
    ap (λ (r : Fed). out r c.args.output.now) c.stopped.ensures
    ∙ sym (feed_2 c.args.st c.args.piece.now c.args.last c.args.output.now (sym c.does_take.ensures ∙
    c.if-not-does_take.true))

pub returns-then-output-n-clause-settled : goal.returns-then-output-n-clause-settled
returns-then-output-n-clause-settled c =
    ap (λ (r : Fed). out r c.args.output.now) c.stopped-then-output-n.ensures
    ∙ sym (feed_8 c.args.st c.args.piece.now c.args.last c.args.output.now (sym c.does_take.ensures ∙
    c.if-not-does_take.false) (lt-leb _ _ c.if-output-n.true))

pub take_bytes-s-requires : goal.take_bytes-s-requires
take_bytes-s-requires c =
    let T = facts (goal.at.take_bytes-s-requires c).Else-not-does_take in
    (T.few, (c.if-output-n.false, omega (arith, T.fits)))

pub finish-requires : goal.finish-requires
finish-requires c =
    let C = bytes-came (goal.at.finish-requires c).After-take_bytes-s in
    let T = facts (goal.at.finish-requires c).Else-not-does_take in (C.few, omega (arith, C.within, T.fits))

pub returns : goal.returns
returns c =
    let settled = ap (λ (r : Fed). out r c.take_bytes-s.new.output) c.finish.ensures
    ∙ finish_is c.args.st c.args.piece.now c.args.last c.args.output.now _
    (bytes-came (goal.at.returns c).After-take_bytes-s)
    ∙ sym (feed_run c.args.st c.args.piece.now c.args.last c.args.output.now (sym c.does_take.ensures ∙
    c.if-not-does_take.false) (le-leb _ _ c.if-output-n.false)) in
    record { settled = settled; numbered = feed_numbered _ _ _ _ _ _ settled }
