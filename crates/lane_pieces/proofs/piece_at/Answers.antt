-- Header, count, a place, the blocks: in this order. Assumes nothing.
use Prim.Native.Nat.{ℕ, ◌-◌, ◌≤◌, ◌<◌, min}
use mathlib.Core.Bool.{Bool, true, false, cond}
use mathlib.Core.Path.{◌≡◌, sym, ap, ◌∙◌}
use native.Mathlib.Omega.{arith}
use lib.ListN.{length}
use Rattle.records.proofs.Laws.{Headed, head-found, head_lost}
use Rattle.expull_header.specs.Header.{lane_length}
use Rattle.lane_pieces.specs.declared.Pieced.TheVariants.{Given, Refused}
use Rattle.lane_pieces.specs.Piece.{piece_length, out, piece_at}
use Rattle.lane_pieces.proofs.Pieces.{piece_4, piece_2, piece_8, piece_none, piece-put}
use Rattle.lane_pieces.proofs.piece_at.Goals as goal
use Rattle.lane_pieces.proofs.piece_at.Goals.{After-min-n, After-slice_known-2-1, Else-is_above, Else-room-eq0, In-Some}

-- the header that was found
headed : (c : In-Some) → Headed c.args.keys.now c.args.at c.in-Some.h
headed c = head-found _ _ _ (sym c.in-Some.ensures)

-- the count isn't above it; there is a place; how many bytes that gives
counted : (c : Else-is_above) → c.args.given ≤ lane_length (c.in-Some.h)
counted c = omega (arith, c.lane_length-length.ensures, c.if-is_above.false)

placed : (c : Else-room-eq0) → 0 < length c.args.output.now
placed c = omega (arith, c.if-room-eq0.false)

many : (c : After-min-n) → c.min-n.result ≡ piece_length (c.in-Some.h) c.args.given (length c.args.output.now)
many c =
    let a = c.args in c.min-n.ensures ∙ ap (λ (n : ℕ). min (length a.output.now) (n - a.given))
    c.lane_length-length.ensures

-- what it comes to, by whether the blocks that were met are good
given_out : (c : After-slice_known-2-1) → (t : Bool) → c.put_piece.result ≡ t → piece_at c.args.lists.now.arena
    c.args.keys.now c.args.lists.now.bytes.now c.args.given c.args.at c.args.output.now ≡ out (cond t (Given c.min-n.result)
    (Refused 4 0)) c.put_piece.new.output
given_out c t e =
    let a = c.args in piece-put a.lists.now.arena a.keys.now a.lists.now.bytes.now a.given a.at a.output.now (head-found _ _ _ (sym c.in-Some.ensures))
    (omega (
      arith,
      c.lane_length-length.ensures,
      c.if-is_above.false,
    )) (omega (arith, c.if-room-eq0.false)) c.min-n.result (let a = c.args in c.min-n.ensures ∙ ap (λ (n : ℕ). min (length a.output.now) (n -
    a.given)) c.lane_length-length.ensures) c.put_piece.ensures ∙ ap (λ (b : Bool). out (cond b (Given
    c.min-n.result) (Refused 4 0)) c.put_piece.new.output) e

pub returns-in_default : goal.returns-in_default
returns-in_default c =
    sym (piece_4 c.args.lists.now.arena c.args.keys.now c.args.lists.now.bytes.now c.args.given c.args.at c.args.output.now (head_lost _
    _ (sym c.in_default.ensures)))

pub lane_length-length-requires : goal.lane_length-length-requires
lane_length-length-requires c = (headed (goal.at.lane_length-length-requires c).In-Some).ends

pub returns-then-is_above : goal.returns-then-is_above
returns-then-is_above c =
    let a = c.args in sym (piece_2 a.lists.now.arena a.keys.now a.lists.now.bytes.now a.given a.at a.output.now (headed
    (goal.at.returns-then-is_above c).In-Some) (omega (
      arith,
      c.lane_length-length.ensures,
      c.if-is_above.true,
    )))

pub returns-then-room-eq0 : goal.returns-then-room-eq0
returns-then-room-eq0 c =
    let a = c.args in ap (λ (n : ℕ). out (Refused 8 n) a.output.now) c.lane_length-length.ensures ∙ sym (piece_8
    a.lists.now.arena a.keys.now a.lists.now.bytes.now a.given a.at a.output.now (headed (goal.at.returns-then-room-eq0 c).In-Some)
    (counted (goal.at.returns-then-room-eq0 c).Else-is_above) c.if-room-eq0.true)

pub returns-then-n-eq0 : goal.returns-then-n-eq0
returns-then-n-eq0 c =
    let a = c.args in sym (piece_none a.lists.now.arena a.keys.now a.lists.now.bytes.now a.given a.at a.output.now (headed
    (goal.at.returns-then-n-eq0 c).In-Some) (counted (goal.at.returns-then-n-eq0 c).Else-is_above) (placed
    (goal.at.returns-then-n-eq0 c).Else-room-eq0) c.min-n.result (many (goal.at.returns-then-n-eq0
    c).After-min-n) c.if-n-eq0.true)

pub put_piece-requires : goal.put_piece-requires
put_piece-requires c =
    let e = many (goal.at.put_piece-requires c).After-min-n in
    let k = counted (goal.at.put_piece-requires c).Else-is_above in record {
      sound =
          (headed (goal.at.put_piece-requires c).In-Some).ends;
      some_bytes = omega (arith, c.if-n-eq0.false);
      in_lane =
          omega arith;
      space = omega arith;
    }

pub returns-then-not-put_piece : goal.returns-then-not-put_piece
returns-then-not-put_piece c =
    sym (given_out (goal.at.returns-then-not-put_piece c).After-slice_known-2-1 false (c.if-not-put_piece.true))

pub returns : goal.returns
returns c = sym (given_out (goal.at.returns c).After-slice_known-2-1 true (c.if-not-put_piece.false))
