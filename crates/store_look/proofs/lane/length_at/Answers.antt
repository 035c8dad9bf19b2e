-- The header that was found, or damage. Assumes nothing.
use Prim.Native.Nat.{ℕ}
use mathlib.Core.Path.{sym, ap, ◌∙◌}
use Rattle.records.proofs.Laws.{head-found, head_lost}
use Rattle.store_look.proofs.Found.{length_4, length_found}
use Rattle.store_look.specs.declared.Outcome.TheVariants.{Length}
use Rattle.store_look.specs.declared.Answer.TheVariants.{Found}
use Rattle.store_look.proofs.lane.length_at.Goals as goal

pub returns-in_default : goal.returns-in_default
returns-in_default c =
    sym (length_4 c.args.keys.now c.args.at (head_lost _ _ (sym c.in_default.ensures)))

pub lane_length-requires : goal.lane_length-requires
lane_length-requires c = (head-found _ _ _ (sym c.in-Some.ensures)).ends

pub returns : goal.returns
returns c =
    ap (λ (n : ℕ). Found (Length n)) c.lane_length.ensures ∙ sym (length_found c.args.keys.now c.args.at _
    (head-found _ _ _ (sym c.in-Some.ensures)))
