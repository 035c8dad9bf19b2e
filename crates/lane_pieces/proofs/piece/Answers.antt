-- The lookup's answer, or the piece at the place found. Assumes nothing.
use mathlib.Core.Bool.{true}
use mathlib.Core.Path.{◌≡◌, sym, ap, subst, ◌∙◌}
use Rattle.limits.specs.Refusals.{reading_piece, permitted}
use Rattle.store_look.specs.declared.Lookup.TheVariants.{At}
use Rattle.store_look.specs.Look.{lent}
use Rattle.store_look.proofs.Found.{Held, lookup-held}
use Rattle.store_state.proofs.Whole.{whole_facts}
use Rattle.lane_pieces.specs.declared.Pieced.{Pieced}
use Rattle.lane_pieces.specs.Piece.{Out, out}
use Rattle.lane_pieces.specs.Said.{said_pieced}
use Rattle.lane_pieces.proofs.Pieces.{piece-looked, piece_not}
use Rattle.lane_pieces.proofs.Fair.{fair-piece}
use borrow.Enum.Refused.{opened}
use Rattle.lane_pieces.proofs.piece.Goals as goal
use Rattle.lane_pieces.proofs.piece.Goals.{In-At}

pub returns-in_default : goal.returns-in_default
returns-in_default c =
    let m = lent c.args.table.now c.args.keys.now c.args.lists.now in
    let e = ap (λ (r : Pieced). out r c.args.output.now) c.not_found.ensures ∙ piece_not c.args.st m c.args.name.now
    c.args.given c.args.output.now _ c.lookup-looked.ensures.settled (opened c.in_default.in_default-own.keys2) in
    record {
      settled = e;
      numbered = subst (λ (r : Out). permitted reading_piece (said_pieced r.answer) ≡ true) (sym
          e) (fair-piece c.args.st m c.args.name.now c.args.given c.args.output.now).numbered;
      walked =
          c.lookup-looked.ensures.walked;
    }

-- the record that the lookup found
held : (c : In-At) → Held c.args.st (lent c.args.table.now c.args.keys.now c.args.lists.now) c.in-At.at
held c = lookup-held c.args.st (lent c.args.table.now c.args.keys.now c.args.lists.now) c.args.name.now _
    (sym c.lookup-looked.ensures.settled ∙ c.in-At.is)

pub invariant_of-pages : goal.invariant_of-pages
invariant_of-pages c = record { fitting = (whole_facts _ _ _ _ (held (goal.at.invariant_of-pages c).In-At).whole).list_arena }

pub piece_at-requires : goal.piece_at-requires
piece_at-requires c = let h = held (goal.at.piece_at-requires c).In-At in (h.length-in, h.value_in)

pub returns : goal.returns
returns c =
    let m = lent c.args.table.now c.args.keys.now c.args.lists.now in
    let e = c.piece_at.ensures ∙ sym (piece-looked c.args.st m c.args.name.now c.args.given c.args.output.now (At _)
    (sym c.lookup-looked.ensures.settled ∙ c.in-At.is)) in record {
      settled = e;
      numbered = subst (λ (r : Out).
          permitted reading_piece (said_pieced r.answer) ≡ true) (sym e) (fair-piece c.args.st m c.args.name.now
          c.args.given c.args.output.now).numbered;
      walked = c.lookup-looked.ensures.walked;
    }
