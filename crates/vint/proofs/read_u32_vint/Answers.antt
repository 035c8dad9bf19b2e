-- `vint::read_u32_vint` meets its contract. The loop's invariant, `Reading`: what is taken in all is the sum so far
-- with the unit times what is taken from here, and the unit is 128 to the bytes so far. Assumes nothing.
use Prim.Native.Nat.{ℕ, ◌+◌, ◌-◌, ◌*◌}
use mathlib.Core.Path.{refl, ap, ◌∙◌}
use native.Mathlib.Numerals.{add-one}
use native.Mathlib.Omega.{arith}
use lib.ListN.{get_or, length-take}
use Rattle.std.proofs.Common.{get_or-take}
use Rattle.vint.specs.Vint.{ended, unended, answer_of}
use Rattle.vint.proofs.Laws.{reading-on, reading_last, reading_stops, answers}
use Rattle.vint.proofs.read_u32_vint.Goals as goal

pub returns-then-b-ge128 : goal.returns-then-b-ge128
returns-then-b-ge128 c =
    let l = c.loop-at in
    let n = length-take c.min-most.result c.args.bytes.now in
    let b = get_or-take c.min-most.result c.args.bytes.now c.loop-at.at 0 (omega arith) in
    let it = answers c.args.bytes.now _ _ (reading_last l.invariant (omega arith) (omega arith) (omega arith))
    (rw b at c.answered.ensures ∙ ap (λ (k : ℕ). answer_of (ended (l.sum + l.unit * (get_or c.args.bytes.now l.at 0 - 128))
    k)) (add-one l.at)) in
    record { settled = it.0; numbered = it.1 }

pub loop-at-preserved : goal.loop-at-preserved
loop-at-preserved c =
    let n = length-take c.min-most.result c.args.bytes.now in
    let b = get_or-take c.min-most.result c.args.bytes.now c.loop-at.at 0 (omega arith) in
    rw (c.plus-sum.ensures, b, add-one) (reading-on c.loop-at.invariant (omega arith) (omega arith) (omega arith))

pub returns : goal.returns
unfolding answer_of
returns c =
    let n = length-take c.min-most.result c.args.bytes.now in
    let it = answers c.args.bytes.now unended _ (reading_stops c.loop-at.invariant (omega arith)) refl in
    record { settled = it.0; numbered = it.1 }
