-- The blocks up to the last are tested, then the bytes copied. Assumes nothing.
use mathlib.Core.Path.{◌≡◌, sym, ap, ◌∙◌}
use Prim.Native.Nat.{ℕ, ◌+◌, ◌-◌}
use native.Mathlib.Omega.{arith}
use Rattle.lane_pieces.specs.Piece.{blocks_met}
use Rattle.lane_pieces.proofs.Pieces.{going-met, going-few, going-copyable, gone-stopped, gone_done}
use Rattle.lane_pieces.proofs.go_on.Goals as goal
use Rattle.lane_pieces.proofs.go_on.Goals.{After-block_holding-end}

-- how many blocks are met
met_is : (c : After-block_holding-end) → c.block_holding-end.result + 1 ≡ blocks_met c.args.given c.args.n
met_is c = going-met c.requires c.block_holding-end.ensures

pub overflow_add-end : goal.overflow_add-end
overflow_add-end c =
    omega (arith, (going-few c.requires (met_is (goal.at.overflow_add-end c).After-block_holding-end)).0)

pub are_good_on-requires : goal.are_good_on-requires
are_good_on-requires c =
    (going-few c.requires (met_is (goal.at.are_good_on-requires c).After-block_holding-end)).0

pub returns-then-not-are_good_on : goal.returns-then-not-are_good_on
returns-then-not-are_good_on c =
    gone-stopped c.args.lists.now.arena c.args.lists.now.bytes.now c.args.first c.args.place c.args.given c.args.n c.args.output.now
    (met_is (goal.at.returns-then-not-are_good_on c).After-block_holding-end) (sym c.are_good_on.ensures ∙
    c.if-not-are_good_on.true)

pub full_bytes-before-requires : goal.full_bytes-before-requires
full_bytes-before-requires c =
    omega (arith, going-few c.requires (met_is (goal.at.full_bytes-before-requires c).After-block_holding-end))

pub copy_on-requires : goal.copy_on-requires
copy_on-requires c =
    going-copyable c.requires _ _ c.args.lists.now.fitting (met_is (goal.at.copy_on-requires c).After-block_holding-end) (ap (λ (n : ℕ).
    c.args.given - n) c.full_bytes-before.ensures) (sym c.are_good_on.ensures ∙ c.if-not-are_good_on.false)

pub returns : goal.returns
returns c =
    gone_done c.args.lists.now.arena c.args.lists.now.bytes.now c.args.first c.args.place c.args.given c.args.n c.args.output.now
    (met_is (goal.at.returns c).After-block_holding-end) (sym c.are_good_on.ensures ∙ c.if-not-are_good_on.false)
    (ap (λ (n : ℕ). c.args.given - n) c.full_bytes-before.ensures) c.copy_on.ensures.0 c.copy_on.ensures.1
