-- The lookup's answer, or the piece at the record found. Assumes nothing.
use mathlib.Core.Bool.{true}
use mathlib.Core.Path.{◌≡◌, sym, subst, ◌∙◌}
use Rattle.limits.specs.Refusals.{reading_piece, permitted}
use Rattle.store_look.specs.declared.Lookup.TheVariants.{At}
use Rattle.store_look.specs.Look.{lent}
use Rattle.store_look.proofs.Found.{Held, lookup-held}
use Rattle.store_state.proofs.Whole.{whole_facts}
use Rattle.lane_pieces.specs.Said.{said_pieced}
use Rattle.lane_places.specs.PieceOn.{Out, out}
use Rattle.lane_places.proofs.PieceOn.{on-looked, on_not}
use Rattle.lane_places.proofs.Fair.{fair-on}
use borrow.Enum.Refused.{opened}
use Rattle.lane_places.proofs.piece_on.Goals as goal
use Rattle.lane_places.proofs.piece_on.Goals.{In-At}

pub returns-in_default : goal.returns-in_default
returns-in_default c =
    let m = lent c.args.table.now c.args.keys.now c.args.lists.now in
    let r = c.stays.ensures.0 ∙ c.not_found.ensures in
    let e = (λ i. out (r i) (c.stays.ensures.1 i) c.args.output.now) ∙ on_not c.args.st m c.args.name.now c.args.p
    c.args.output.now _ c.lookup-looked.ensures.settled (opened c.in_default.in_default-own.keys2) in record {
      settled = e;
      numbered = subst (λ (r : Out). permitted reading_piece (said_pieced r.answer) ≡ true) (sym e)
          (fair-on c.args.st m c.args.name.now c.args.p c.args.output.now).numbered;
      walked =
          c.lookup-looked.ensures.walked;
    }

-- the record that the lookup found
held : (c : In-At) → Held c.args.st (lent c.args.table.now c.args.keys.now c.args.lists.now) c.in-At.at
held c = lookup-held c.args.st (lent c.args.table.now c.args.keys.now c.args.lists.now) c.args.name.now _
    (sym c.lookup-looked.ensures.settled ∙ c.in-At.is)

pub invariant_of-pages : goal.invariant_of-pages
invariant_of-pages c = record { fitting = (whole_facts _ _ _ _ (held (goal.at.invariant_of-pages c).In-At).whole).list_arena }

pub piece_on_at-requires : goal.piece_on_at-requires
piece_on_at-requires c = let h = held (goal.at.piece_on_at-requires c).In-At in (h.length-in, h.value_in)

pub returns : goal.returns
returns c =
    let m = lent c.args.table.now c.args.keys.now c.args.lists.now in
    let e = c.piece_on_at.ensures ∙ sym (on-looked c.args.st m c.args.name.now c.args.p c.args.output.now (At _)
    (sym c.lookup-looked.ensures.settled ∙ c.in-At.is)) in record {
      settled = e;
      numbered = subst (λ (r : Out).
          permitted reading_piece (said_pieced r.answer) ≡ true) (sym e) (fair-on c.args.st m c.args.name.now c.args.p
          c.args.output.now).numbered;
      walked = c.lookup-looked.ensures.walked;
    }
